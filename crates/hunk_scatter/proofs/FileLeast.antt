-- A load file begins with what was read, and ends in the least number of longwords.
use Rattle.std.proofs.Common.{rules, ◌≡◌, ℕ, suc, ◌+◌, ◌*◌, Bool, List, [], ◌∷◌, ◌++◌, length, refl, sym, ap, subst, ◌∙◌, append_assoc, append-nil, if◌then◌else◌, None}
use Rattle.std.specs.List.{AllByRecursion}
use Rattle.hunk_words.specs.Bits.{kind}
use Rattle.hunk_blocks.specs.Values.{BlockValue}
use Rattle.hunk_grammar.specs.Positions as scan
use Rattle.hunk_grammar.specs.{Positions.{end_least, least_in, least_longs}, Roles.{Role, refuse}, declared.position.OpenHunk.OpenHunk}
use Rattle.hunk_files.specs.{Fault.completing, FileSteps.{Progress, Next, More, Finished, role_of, step_file, Leads}}
use Rattle.hunk_files.specs.{ReaderPosition.{IsAfterHeader, block_phase, position_of}, WordsRead.{HasRead, Labelled}}
use Rattle.hunk_files.specs.{LoadFile.{LoadFileValue, IsLoadFile}, LoadText.text}
use Rattle.hunk_files.proofs.{walk.Completion.{IsOwed, completes}, walk.FileProgress.ProgressFits, walk.Positions.step_position, walk.Reading.{read_ended, reads, step_read}}
use Rattle.hunk_scatter.proofs.Forget.{step_after}

-- ---- a longword that is owed takes one off

module _ (o : OpenHunk) where
  word_least : (b : Bool) (w : ℕ) → o.has_content ≡ b → w ≡ (if b then 0x3F2 else 0x3EB) → end_least o.has_content + 3 * o.ahead ≡ suc (least_longs (scan.begin o (kind w)))
  unfolding kind
  word_least b w e is = search rules

  block_least : (blocks : List BlockValue) (w : ℕ) → w ≡ (if o.has_content then 0x3F2 else 0x3EB) → least_in o (block_phase blocks) ≡ suc (least_longs (scan.step_in o (block_phase blocks) w))
  block_least blocks w is = search (rules, word_least)

one_least : (p : Progress) (w : ℕ) → IsAfterHeader (More p) → ProgressFits p → w ≡ completing (role_of p) → least_longs (position_of (More p)) ≡ suc (least_longs (position_of (step_file p w)))
one_least p w b f is = search (rules, block_least, step_position)

-- ---- the end

-- A load file begins with the longwords, and ends in this many further ones.
pub record EndsIn (ws : List ℕ) (n : ℕ) : Type 0 where
  pub value : LoadFileValue
  pub is_load_file : IsLoadFile value
  pub more : List ℕ
  pub begins : text value ≡ ws ++ more
  pub count : length more ≡ n

one_more : (ws : List ℕ) (w n : ℕ) → EndsIn (ws ++ w ∷ []) n → EndsIn ws (suc n)
one_more ws w n e = search (rules, append_assoc)

run_ends : (n : Next) (ws : List ℕ) (ls : Labelled) (v : LoadFileValue) → HasRead ws n → IsAfterHeader n → AllByRecursion IsOwed ls → Leads n ls (Finished v) → EndsIn ws (least_longs (position_of n))
run_ends (Finished u) ws [] v h b ok leads =
    let e = read_ended ws u h in
    record { value = u; is_load_file = e.0; more = []; begins = e.1 ∙ sym (append-nil ws); count = refl }
run_ends (Finished u) ws (l ∷ ls) v h b ok leads = absurd leads
run_ends (More p) ws [] v h b ok leads = absurd cc
run_ends (More p) ws (l ∷ ls) v h b ok leads =
    let pass : refuse (role_of p) l.1 ≡ None = ap (λ (r : Role). refuse r l.1) leads.0 ∙ ok.0.0.1 in
    let rest = run_ends (step_file p l.1) (ws ++ l.1 ∷ []) ls v (step_read ws p l.1 h ok.0.0.0 pass) (step_after p l.1 b) ok.1 leads.1 in
    subst (EndsIn ws) (sym (one_least p l.1 b (reads h).0 (ok.0.1 ∙ ap completing (sym leads.0)))) (one_more ws l.1 _ rest)

-- What was read is the beginning of a load file that ends in the least number of longwords.
pub file_ends : (ws : List ℕ) (n : Next) → HasRead ws n → IsAfterHeader n → EndsIn ws (least_longs (position_of n))
file_ends ws n h b = let c = completes n (reads h).0 in run_ends n ws c.labels c.value h b c.accepted c.leads
