-- The least number of longwords that any load text still has from here, as the position tells it.
use Rattle.std.proofs.Common.{◌≡◌, ℕ, zero, suc, ◌+◌, ◌*◌, ◌≤◌, Bool, true, false, cond, List, [], ◌∷◌, ◌++◌, length, refl, sym, ap, ◌∙◌, arith, Option, None, Some}
use Rattle.std.proofs.lemmas.List.{length-map}
use Rattle.hunk_words.specs.declared.block_word.Kind.{Kind}
use Rattle.hunk_words.specs.Bits.{kind, is_advisory, has_both_bits, size_longs, name_longs, entry_type}
use Rattle.hunk_words.specs.declared.block_word.Kind.TheVariants as kinds
use Rattle.hunk_words.specs.declared.reason.Reason.TheVariants as reasons
use Rattle.hunk_grammar.specs.declared.ext_shape.ExtShape.{ExtShape}
use Rattle.hunk_grammar.specs.declared.ext_shape.ExtShape.TheVariants.{Definition, References, Common}
use Rattle.hunk_grammar.specs.{ExtKinds.ext_shape, declared.phase.Phase.Phase}
use Rattle.hunk_grammar.specs.declared.phase.Phase.TheVariants as phases
use Rattle.hunk_grammar.specs.PhaseSteps as inside
use Rattle.hunk_blocks.proofs.Lists.{passed_true, passed_both}
use Rattle.hunk_grammar.specs.{declared.position.OpenHunk.OpenHunk, declared.position.Position.Position}
use Rattle.hunk_grammar.specs.Positions.{end_least, least_in, least_longs, role_at}
use Rattle.hunk_grammar.specs.Roles.{Role, refuse, refuse_kind, refuse_word}
use Rattle.hunk_grammar.specs.declared.position.Position.TheVariants as positions
use Rattle.hunk_grammar.specs.Positions as scan
use Rattle.hunk_files.specs.{LoadFile.{LoadFileValue, IsLoadFile}, LoadText.text}
use Rattle.hunk_files.specs.FileSteps.{Next, More, Finished, step_file, Leads}
use Rattle.hunk_files.specs.{ReaderPosition.{position_of, open_longs}, WordsRead.{Labelled, AreAccepted, HasRead}}
use Rattle.hunk_files.proofs.walk.FileProgress.{NextFits, step_keeps, zero_or_limit}
use Rattle.hunk_files.proofs.{walk.Positions.{refuse_same, step_position}, walk.Reading.{reads, rest_read, file_read}}

next_least : (hunks ahead : ℕ) → 3 * ahead ≤ least_longs (scan.open_next hunks ahead)
next_least hunks zero = omega arith
next_least hunks (suc ahead) = omega arith

rows_least : (hunks owed : ℕ) → owed ≤ least_longs (scan.owe_entries hunks owed)
rows_least hunks zero = omega arith
rows_least hunks (suc owed) = omega arith

-- ---- within a block: one longword takes one at most off what is owed

module _ (o : OpenHunk) where
  content_least : (longs owed : ℕ) → owed + 1 + 3 * o.ahead ≤ least_longs (scan.owe_content o longs owed)
  content_least longs zero = omega arith
  content_least longs (suc owed) = omega arith

  payload_least : (owed : ℕ) → owed + end_least o.has_content + 3 * o.ahead ≤ least_longs (scan.owe_payload o owed)
  payload_least zero = omega arith
  payload_least (suc owed) = omega arith

  front_least : (owed : ℕ) → owed + 2 + end_least o.has_content + 3 * o.ahead ≤ least_longs (scan.onward o (scan.at o phases.BlockWord) (inside.owe_front owed))
  front_least zero = omega arith
  front_least (suc owed) = omega arith

  rest_least : (owed : ℕ) → owed + 1 + end_least o.has_content + 3 * o.ahead ≤ least_longs (scan.onward o (scan.at o phases.BlockWord) (inside.owe_rest owed))
  rest_least zero = omega arith
  rest_least (suc owed) = omega arith

  shape_least : (s : Option ExtShape) (owed : ℕ) → end_least o.has_content + 3 * o.ahead ≤ least_longs (scan.onward o (scan.at o phases.BlockWord) (inside.owe_shaped s owed))
  shape_least (Some Definition) owed = omega (arith, rest_least (suc owed))
  shape_least (Some References) owed = omega (arith, front_least owed)
  shape_least (Some Common) owed = omega (arith, front_least (suc owed))
  shape_least None owed = omega (arith, rest_least owed)

  end_most : (b : Bool) → end_least b ≤ 3
  end_most true = omega arith
  end_most false = omega arith

  end_is_one : (b : Bool) → b ≡ true → end_least b ≡ 1
  end_is_one true e = refl
  end_is_one false e = absurd cc

  block_falls : (advisory : Bool) (k : Kind) → refuse_kind o.has_content advisory k ≡ None → end_least o.has_content + 3 * o.ahead ≤ suc (least_longs (scan.begin o k))
  block_falls advisory kinds.End ok = omega (arith, end_is_one o.has_content (passed_true o.has_content reasons.NoContent ok), next_least o.hunks o.ahead)
  block_falls advisory _ ok = first_of (cc, omega (arith, end_most o.has_content))

  word_falls : (w : ℕ) → refuse_word o.has_content w ≡ None → end_least o.has_content + 3 * o.ahead ≤ suc (least_longs (scan.begin o (kind w)))
  word_falls w ok = block_falls (is_advisory w) (kind w) (passed_both (has_both_bits w) reasons.BothBits (refuse_kind o.has_content (is_advisory w) (kind w)) ok).1

  phase_falls : (longs : ℕ) (p : Phase) (w : ℕ) → refuse (role_at longs (positions.Body o p)) w ≡ None → least_in o p ≤ suc (least_longs (scan.step_in o p w))
  phase_falls longs phases.FirstBlock w ok = word_falls w ok
  phase_falls longs phases.BlockWord w ok = word_falls w ok
  phase_falls longs phases.NameCount w ok = omega (arith, payload_least w)
  phase_falls longs phases.LongCount w ok = omega (arith, payload_least w)
  phase_falls longs phases.ContentSize w ok = omega (arith, content_least (size_longs w) (size_longs w))
  phase_falls longs (phases.Content all owed) w ok = omega (arith, content_least all owed)
  phase_falls longs (phases.Payload owed) w ok = omega (arith, payload_least owed)
  phase_falls longs phases.GroupCount zero ok = omega arith
  phase_falls longs (phases.Offset target zero) w ok = omega arith
  phase_falls longs phases.EntryWord zero ok = omega arith
  phase_falls longs (phases.Symbol zero) w ok = omega arith
  phase_falls longs phases.ExtWord zero ok = omega arith
  phase_falls longs phases.ExtWord (suc w) ok = omega (arith, shape_least (ext_shape (entry_type (suc w))) (name_longs (suc w)))
  phase_falls longs (phases.ExtFront owed) w ok = omega (arith, front_least owed)
  phase_falls longs phases.ExtCount w ok = omega (arith, rest_least w)
  phase_falls longs (phases.ExtRest owed) w ok = omega (arith, rest_least owed)
  phase_falls longs _ w ok = omega arith

-- ---- from any position

sized_least : (hunks w owed : ℕ) (b : Bool) → owed ≤ least_longs (cond b (positions.Attributes hunks w owed) (scan.owe_entries hunks owed))
sized_least hunks w owed true = omega arith
sized_least hunks w owed false = rows_least hunks owed

step_falls : (longs : ℕ) (p : Position) (w : ℕ) → refuse (role_at longs p) w ≡ None → least_longs p ≤ suc (least_longs (scan.step p w))
step_falls longs positions.TableSize w ok = omega (arith, (zero_or_limit w ok).0)
step_falls longs (positions.LastHunk hunks) w ok = omega (arith, rows_least hunks hunks)
step_falls longs (positions.SizeWord hunks owed) w ok = omega (arith, sized_least hunks w owed (has_both_bits w))
step_falls longs (positions.Attributes hunks word owed) w ok = omega (arith, rows_least hunks owed)
step_falls longs (positions.Body o phase) w ok = phase_falls o longs phase w ok
step_falls longs _ w ok = omega arith

run_least : (n : Next) (ls : Labelled) (v : LoadFileValue) → NextFits n → AreAccepted ls → Leads n ls (Finished v) → least_longs (position_of n) ≤ length ls
run_least (More p) [] v h ok leads = absurd cc
run_least (Finished u) [] v h ok leads = omega arith
run_least (Finished u) (l ∷ ls) v h ok leads = absurd leads
run_least (More p) (l ∷ ls) v h ok leads =
    let pass = ap (λ (r : Role). refuse r l.1) leads.0 ∙ ok.0.1 in
    let rest = run_least (step_file p l.1) ls v (step_keeps p l.1 h ok.0.0 pass).0 ok.1 leads.1 in
    omega (arith, rest, ap least_longs (step_position p l.1 h), step_falls (open_longs p) (position_of (More p)) l.1 (sym (refuse_same p l.1 h) ∙ pass))

-- No load text that begins with what was read ends in fewer longwords.
pub owes_least : (ws : List ℕ) (n : Next) (h : HasRead ws n) (v : LoadFileValue) → IsLoadFile v → (more : List ℕ) → text v ≡ ws ++ more → least_longs (position_of n) ≤ length more
owes_least ws n h v is more e =
    let r = rest_read ws n h (text v) (Finished v) (file_read v is) more e in
    omega (arith, run_least n r.0 v (reads h).0 r.2 r.1, length-map r.0 (λ (x : Role × ℕ). x.1), ap length r.3)
