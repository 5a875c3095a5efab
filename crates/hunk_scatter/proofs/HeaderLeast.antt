-- How many longwords a header still has, at least.
use Rattle.std.proofs.Common.{rules, ◌≡◌, ℕ, zero, suc, ◌+◌, ◌-◌, ◌≤◌, false, List, [], ◌∷◌, ◌++◌, length, refl, sym, ap, subst, ◌∙◌, append_assoc, append-nil, arith, None}
use Rattle.std.proofs.lemmas.List.{length-map}
use Rattle.hunk_blocks.proofs.Lists.{more_owed}
use Rattle.hunk_grammar.specs.{Positions.{is_after_header, least_longs}, Roles.{Role, refuse}}
use Rattle.hunk_files.specs.{LoadFile.TableEntry, ReaderPosition.{position_of, table_of}, WordsRead.{HasRead, Labelled, AreAccepted}}
use Rattle.hunk_files.specs.FileSteps.{table_entry, Progress, AtFirst, AtResident, AtTableSize, AtFirstHunk, AtLastHunk, AtSizeWord, AtAttributes, AtBlock, InBody, Next, More, Finished, role_of, open_hunk, rows, step_file, Leads}
use Rattle.hunk_files.proofs.{walk.Accepted.last_accepted, walk.FileProgress.{NextFits, step_keeps}, walk.Reading.{reads, rest_read, step_read}}
use Rattle.hunk_scatter.specs.{HeaderBytes.{IsHeaderTable, header_words}, HeaderLoaderFields.OpensFirst}
use Rattle.hunk_scatter.proofs.HeaderTexts.{header_read, header_done}

abbrev pub header_least : Next → ℕ
header_least (More (AtBlock o)) = 0
header_least (More (InBody o word x)) = 0
header_least (Finished v) = 0
header_least n = least_longs (position_of n)

-- The position tells it.
pub least_is : (n : Next) → is_after_header (position_of n) ≡ false → header_least n ≡ least_longs (position_of n)
least_is n e = search rules

-- ---- no sooner

-- one step takes one longword at most off what is owed
pub header_falls : (p : Progress) (w : ℕ) → refuse (role_of p) w ≡ None → header_least (More p) ≤ suc (header_least (step_file p w))
header_falls p w ok = search rules

run_least : (n last : Next) (ls : Labelled) → NextFits n → AreAccepted ls → Leads n ls last → header_least last ≡ 0 → header_least n ≤ length ls
run_least n last [] f ok leads e = omega (arith, e, ap header_least leads)
run_least (Finished v) last (l ∷ ls) f ok leads e = absurd leads
run_least (More p) last (l ∷ ls) f ok leads e =
    let pass = ap (λ (r : Role). refuse r l.1) leads.0 ∙ ok.0.1 in
    let rest = run_least (step_file p l.1) last ls (step_keeps p l.1 f ok.0.0 pass).0 ok.1 leads.1 e in
    omega (arith, header_falls p l.1 pass)

open_least : (t : List TableEntry) → header_least (open_hunk (length t) [] t) ≡ 0
open_least t = search rules

-- No header that begins with what was read ends in fewer longwords.
pub header_owes : (n : Next) (ws : List ℕ) → HasRead ws n → (t : List TableEntry) → IsHeaderTable t → (more : List ℕ) → header_words t ≡ ws ++ more → header_least n ≤ length more
header_owes n ws h t is more e =
    let r = rest_read ws n h (header_words t) (open_hunk (length t) [] t) (header_read t is) more e in
    omega (arith, run_least n (open_hunk (length t) [] t) r.0 (reads h).0 r.2 r.1 (open_least t), length-map r.0 (λ (x : Role × ℕ). x.1), ap length r.3)

-- the first hunk of a table is not within its header
pub opens : (n : Next) (t : List TableEntry) → is_after_header (position_of n) ≡ false → IsHeaderTable t → n ≡ open_hunk (length t) [] t → ⊥
opens n t e is same = search rules

-- ---- and just so soon

-- A header begins with the longwords, and ends in this many further ones.
pub record EndsIn (ws : List ℕ) (n : ℕ) : Type 0 where
  pub table : List TableEntry
  pub is_table : IsHeaderTable table
  pub more : List ℕ
  pub begins : header_words table ≡ ws ++ more
  pub count : length more ≡ n

one_more : (ws : List ℕ) (w n : ℕ) → EndsIn (ws ++ w ∷ []) n → EndsIn ws (suc n)
one_more ws w n e = search (rules, append_assoc)

ends_rows : (owed hunks : ℕ) (table : List TableEntry) (ws : List ℕ) → HasRead ws (rows hunks table owed) → length table + owed ≡ hunks → EndsIn ws owed
ends_rows zero hunks table ws h e =
    let count : hunks ≡ length table = omega (arith, e) in
    let d = header_done ws table (subst (λ (n : ℕ). HasRead ws (open_hunk n [] table)) count h) in
    record { table = table; is_table = d.0; more = []; begins = sym d.1 ∙ sym (append-nil ws); count = refl }
ends_rows (suc owed) hunks table ws h e =
    one_more ws 0 owed
    (ends_rows owed hunks (table ++ table_entry 0 0 ∷ []) (ws ++ 0 ∷ []) (step_read ws (AtSizeWord hunks table owed) 0 h (omega arith) refl) (more_owed table (table_entry 0 0) owed ∙ e))

ends_last : (hunks : ℕ) (ws : List ℕ) → HasRead ws (More (AtLastHunk hunks)) → EndsIn ws (suc hunks)
ends_last hunks ws h =
    let fits = (reads h).0 in
    one_more ws (hunks - 1) hunks
    (ends_rows hunks hunks [] (ws ++ (hunks - 1) ∷ []) (step_read ws (AtLastHunk hunks) (hunks - 1) h (omega (arith, fits.1)) (last_accepted hunks fits.0)) (omega arith))

ends_first : (hunks : ℕ) (ws : List ℕ) → HasRead ws (More (AtFirstHunk hunks)) → EndsIn ws (suc (suc hunks))
ends_first hunks ws h = one_more ws 0 (suc hunks) (ends_last hunks (ws ++ 0 ∷ []) (step_read ws (AtFirstHunk hunks) 0 h (omega arith) refl))

ends_size : (ws : List ℕ) → HasRead ws (More AtTableSize) → EndsIn ws 4
ends_size ws h = one_more ws 1 3 (ends_first 1 (ws ++ 1 ∷ []) (step_read ws AtTableSize 1 h (omega arith) refl))

ends_resident : (ws : List ℕ) → HasRead ws (More AtResident) → EndsIn ws 5
ends_resident ws h = one_more ws 0 4 (ends_size (ws ++ 0 ∷ []) (step_read ws AtResident 0 h (omega arith) refl))

as_least : (ws : List ℕ) (m n : ℕ) → m ≡ n → EndsIn ws m → EndsIn ws n
as_least ws m n e h = subst (EndsIn ws) e h

whole : (n : Next) (ws : List ℕ) → HasRead ws n → n ≡ open_hunk (length (table_of n)) [] (table_of n) → EndsIn ws 0
whole n ws h e = ends_rows 0 (length (table_of n)) (table_of n) ws (subst (λ (m : Next). HasRead ws m) e h) (omega arith)

-- What was read of a header is the beginning of one that ends in the least number of longwords.
pub header_ends : (n : Next) (ws : List ℕ) → HasRead ws n → OpensFirst n → EndsIn ws (header_least n)
header_ends (More AtFirst) ws h o = one_more ws 0x3F3 5 (ends_resident (ws ++ 0x3F3 ∷ []) (step_read ws AtFirst 0x3F3 h (omega arith) refl))
header_ends (More AtResident) ws h o = ends_resident ws h
header_ends (More AtTableSize) ws h o = ends_size ws h
header_ends (More (AtFirstHunk hunks)) ws h o = as_least ws _ _ (omega arith) (ends_first hunks ws h)
header_ends (More (AtLastHunk hunks)) ws h o = as_least ws _ _ (omega arith) (ends_last hunks ws h)
header_ends (More (AtSizeWord hunks done owed)) ws h o = as_least ws _ _ (omega arith) (ends_rows (suc owed) hunks done ws h (reads h).0.counts)
header_ends (More (AtAttributes hunks done word owed)) ws h o =
    as_least ws _ _ (omega arith)
    (one_more ws 0 owed
    (ends_rows owed hunks (done ++ table_entry word 0 ∷ []) (ws ++ 0 ∷ []) (step_read ws (AtAttributes hunks done word owed) 0 h (omega arith) refl)
    (more_owed done (table_entry word 0) owed ∙ (reads h).0.0.counts)))
header_ends (More (AtBlock p)) ws h o = whole (More (AtBlock p)) ws h (o refl)
header_ends (More (InBody p word x)) ws h o = whole (More (InBody p word x)) ws h (o refl)
header_ends (Finished v) ws h o = whole (Finished v) ws h (o refl)
