use Rattle.std.proofs.Common.{◌≡◌, ◌-◌, ◌≤◌, length, take, drop}
use Rattle.hunk_wide.specs.{InFile.LeadsTo, Plain.GivesFor}
use Rattle.hunk_wide.proofs.units.expand.Given as goal

abbrev pub invariant-units : goal.invariant-units
invariant-units l = record {
  taken : l.all.taken ≤ length l.piece;
  given : l.all.given ≤ length l.buf;
  rest : drop l.all.given l.buf ≡ drop l.all.given l.fn.buf;
  gives : GivesFor l.fn.spot (take l.all.taken l.piece) (take l.all.given l.buf) l.all.next;
  leads : LeadsTo l.fn.spot (take l.all.taken l.piece) l.all.next;
  none : l.all.taken ≡ 0 → l.all.given ≡ 0;
}

abbrev pub decreases-units : goal.decreases-units
decreases-units l = length l.piece - l.all.taken
