use Rattle.std.proofs.Common.{arith, sym, subst}
use Rattle.hunk_c.specs.FrontPlaces.{IsFrontOf}
use Rattle.hunk_c.specs.Fronts.{InObjectText}
use Rattle.hunk_c.proofs.{ObjectFronts.whole_front, ReadLongwords.object_fault_reads}
use Rattle.hunk_c.proofs.front.object_front.Goals as goal

pub returns-in-Ok : goal.returns-in-Ok
returns-in-Ok c =
    let bytes = c.args.bytes.now in
    let read = c.in-Ok.ensures in
    record {
      found = subst (IsFrontOf InObjectText bytes) (sym c.object_front_at.ensures) (whole_front bytes (λ i. omega (arith, c.type_inv.bytes i)) _ read.file read.text);
      none = tt;
    }

pub object_front_before-requires : goal.object_front_before-requires
object_front_before-requires c = object_fault_reads c.args.bytes.now _ _ c.in-Err.ensures.fault
