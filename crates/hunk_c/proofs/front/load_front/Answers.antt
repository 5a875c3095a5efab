use Rattle.std.proofs.Common.{ℕ, ◌/◌, ◌∙◌, ap, arith, subst, sym}
use Rattle.hunk_files.specs.Fault.{HasLoadText}
use Rattle.hunk_c.specs.FrontPlaces.{IsFrontOf, before_last_end}
use Rattle.hunk_c.specs.Fronts.{InLoadText}
use Rattle.hunk_c.proofs.LastEnds.{whole_front, whole_longs}
use Rattle.hunk_c.proofs.ReadLongwords.{fault_reads}
use Rattle.hunk_c.proofs.front.load_front.Goals as goal

pub whole_front-requires : goal.whole_front-requires
whole_front-requires c =
    let read = c.in-Ok.ensures in
    whole_longs c.args.bytes.now (λ i. omega (arith, c.type_inv.bytes i)) c.in-Ok.size (record { value = c.in-Ok.file; is_load_file = read.valid; text_is = read.text; whole = read.inside })

pub returns-in-Ok : goal.returns-in-Ok
returns-in-Ok c =
    let bytes = c.args.bytes.now in
    let read = c.in-Ok.ensures in
    let h : HasLoadText bytes c.in-Ok.size = record { value = c.in-Ok.file; is_load_file = read.valid; text_is = read.text; whole = read.inside } in
    let same = c.whole_front.ensures ∙ ap (λ (n : ℕ). before_last_end n (c.in-Ok.size / 4)) c.hunks.ensures.value in
    record { found = subst (IsFrontOf InLoadText bytes) (sym same) (whole_front bytes (λ i. omega (arith, c.type_inv.bytes i)) c.in-Ok.size h); none = tt }

pub load_front_before-requires : goal.load_front_before-requires
load_front_before-requires c = fault_reads c.args.bytes.now _ _ c.in-Err.ensures.fault
