use Rattle.std.proofs.Common.{◌≡◌, List, ℕ, ◌++◌, [], length, sym, ap, ◌∙◌}
use Rattle.hunk_wide.specs.Plain.{plain_from}
use Rattle.hunk_wide.proofs.Written.{none_left}
use Rattle.hunk_wide.proofs.writing.fill_front.Goals as goal

left : (c : goal.Then-not-is_last) → [] ≡ plain_from c.args.spot c.args.bytes.now
left c = sym (none_left c.args.spot c.args.bytes.now (sym c.is_empty.ensures ∙ c.if-is_empty.true) (sym c.is_last.ensures ∙ c.if-not-is_last.true))

pub returns-then-not-is_last-clause-count : goal.returns-then-not-is_last-clause-count
returns-then-not-is_last-clause-count c = ap length (left c)

pub returns-then-not-is_last-clause-written : goal.returns-then-not-is_last-clause-written
returns-then-not-is_last-clause-written c = ap (λ (x : List ℕ). x ++ c.args.out.now) (left c)
