-- After the header no longword has the role of a size word, and before its end none is refused that a header has there.
use Rattle.std.proofs.Common.{rules, ◌≡◌, ℕ, List, [], ◌∷◌, ◌++◌, length, refl, ap, subst, ◌∙◌, append_assoc, None}
use Rattle.std.proofs.lemmas.List.{map-append}
use Rattle.hunk_blocks.specs.Faults.{words}
use Rattle.hunk_files.specs.{Fault.Expects, LoadFile.TableEntry, LoadText.text}
use Rattle.hunk_files.specs.FileSteps.{Progress, Next, More, Finished, open_hunk, role_of, step_file, Leads}
use Rattle.hunk_files.specs.{WordsRead.{HasRead, Labelled}, ReaderPosition.IsAfterHeader}
use Rattle.hunk_grammar.specs.Roles.{Role, Role as roles, refuse}
use Rattle.hunk_files.proofs.{walk.Reading.{reads, rest_read, read_passes}, walk.Scan.{expected_place, expects_of, one_role}}
use Rattle.hunk_scatter.specs.HeaderBytes.{IsHeaderTable, header_words}
use Rattle.hunk_files.proofs.walk.Scan.{read_front}
use Rattle.hunk_scatter.proofs.{Forget.step_after, HeaderTexts.header_read}

after_leads : (n : Next) → IsAfterHeader n → (ls : Labelled) (p : Progress) → Leads n ls (More p) → IsAfterHeader (More p)
after_leads n b [] p leads = subst IsAfterHeader leads b
after_leads (More q) b (l ∷ ls) p leads = after_leads (step_file q l.1) (step_after q l.1 b) ls p leads.1
after_leads (Finished v) b (l ∷ ls) p leads = absurd leads

-- What follows a header is read in the body.
pub stays_after : (ws more : List ℕ) (n : Next) (p : Progress) → HasRead ws n → IsAfterHeader n → HasRead (ws ++ more) (More p) → IsAfterHeader (More p)
stays_after ws more n p h b k = let r = rest_read ws n h (ws ++ more) (More p) k more refl in after_leads n b r.0 p r.1

in_block : (p : Progress) → IsAfterHeader (More p) → role_of p ≡ roles.SizeWord → ⊥
in_block p b e = search rules

pub no_size_word : (ws more : List ℕ) (n : Next) → HasRead ws n → IsAfterHeader n → Expects (ws ++ more) roles.SizeWord → ⊥
no_size_word ws more n h b e =
    let place = expected_place (ws ++ more) roles.SizeWord e in
    in_block place.0
    (stays_after ws more n place.0 h b (record { done = e.done; leads = place.1.leads; accepted = place.1.accepted; all = e.begins }))
    place.1.role_is

pub table_after : (t : List TableEntry) → IsHeaderTable t → IsAfterHeader (open_hunk (length t) [] t)
table_after t h = search rules

-- ---- longwords that pass

expected_text : (before : List ℕ) (role : Role) (e : Expects before role) → text e.value ≡ before ++ e.word ∷ words e.more
expected_text before role e = search (rules, map-append)

-- A longword that a load text has here is not refused.
pub expected_passes : (ws : List ℕ) (p : Progress) (w : ℕ) (more : List ℕ) (role : Role) → HasRead ws (More p) → Expects (ws ++ w ∷ more) role → refuse (role_of p) w ≡ None
expected_passes ws p w more role h e =
    read_passes ws p h e.value e.is w (more ++ e.word ∷ words e.more) (expected_text (ws ++ w ∷ more) role e ∙ append_assoc ws (w ∷ more) (e.word ∷ words e.more))

-- Nor is one that a header has here.
pub header_passes : (t : List TableEntry) → IsHeaderTable t → (ws : List ℕ) (p : Progress) (w : ℕ) (more : List ℕ) → HasRead ws (More p) → header_words t ≡ ws ++ w ∷ more → refuse (role_of p) w ≡ None
header_passes t is ws p w more h e =
    let b = read_front (header_words t) (open_hunk (length t) [] t) (header_read t is) in
    read_passes ws p h b.value b.is w (more ++ b.more) (b.begins ∙ ap (λ (xs : List ℕ). xs ++ b.more) e ∙ append_assoc ws (w ∷ more) b.more)

-- The role here is the one that is expected.
pub role_here : (ws : List ℕ) (p : Progress) (role : Role) → HasRead ws (More p) → Expects ws role → role_of p ≡ role
role_here ws p role h e = one_role ws (role_of p) role (subst (λ (xs : List ℕ). Expects xs (role_of p)) h.all (expects_of p h.done (reads h))) e
