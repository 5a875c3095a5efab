use Rattle.std.proofs.Common.{◌≡◌, ◌∷◌, ◌++◌, [], List, arith, rules, subst, sym}
use Rattle.std.proofs.lemmas.Result.{err_from_is_err_and}
use Rattle.hunk_words.specs.Longs.{longs}
use Rattle.hunk_files.specs.{ObjectFile.{ObjectHunk, ObjectFileValue, IsUnit, unit_text}, ObjectViews.{hunks_at, units_at}}
use Rattle.hunk_files.proofs.views.PartsInTurn.{Taken}
use Rattle.hunk_files.proofs.keeping.UnitKeeping.{are_unit, nearer, part_of_unit, some_after, unit_kept, unit_lacks, units_after, units_kept}
use Rattle.hunk_files.proofs.{cuts.UnitReading.unit, views.UnitViewLaws.{next_unit, unit_hunks}}
use Rattle.hunk_files.proofs.object.keeping.keep_units.Goals as goal

pub read_header-name-requires : goal.read_header-name-requires
read_header-name-requires c = next_unit c.args.bytes.now c.keeping.at c.keeping.invariant.0 (omega arith)

pub keep_hunks-requires : goal.keep_hunks-requires
keep_hunks-requires c =
    let here = next_unit c.args.bytes.now c.keeping.at c.keeping.invariant.0 (omega arith) in
    unit_hunks c.args.bytes.now c.keeping.at here (longs c.read_header-name.result.0) c.read_header-name.result.1 (c.read_header-name.ensures here)

pub returns-in_err-hunks-clause-place : goal.returns-in_err-hunks-clause-place
returns-in_err-hunks-clause-place c =
    let p = err_from_is_err_and c.from_residual.result c.from_residual.ensures.1 in
    rw (p.1, p.2)
    (part_of_unit c.args.bytes.now c.keeping.at c.keeping.invariant.0 (omega arith) (longs c.read_header-name.result.0) c.read_header-name.result.1 c.read_header-name.ensures (units_at c.args.bytes.now 0) c.keeping.units.items c.keeping.invariant.1
    c.in_err-hunks.field-0.0.place c.in_err-hunks.ensures.place)

pub invariant_of-push : goal.invariant_of-push
invariant_of-push c =
    subst (λ (hs : List ObjectHunk). IsUnit (unit (longs c.read_header-name.result.0) hs)) (sym c.in_ok-hunks.ensures.kept)
    (are_unit c.args.bytes.now c.keeping.at c.keeping.invariant.0 (omega arith) (longs c.read_header-name.result.0) c.read_header-name.result.1 c.read_header-name.ensures)

pub out_of_memory-requires : goal.out_of_memory-requires
out_of_memory-requires c =
    some_after c.args.bytes.now c.keeping.at c.keeping.invariant.0 (omega arith) (longs c.read_header-name.result.0) c.read_header-name.result.1 c.read_header-name.ensures (units_at c.args.bytes.now 0) c.keeping.units.items c.keeping.invariant.1
    c.in_ok-hunks.end c.in_ok-hunks.ensures.end

pub returns-then-is_err-clause-place : goal.returns-then-is_err-clause-place
returns-then-is_err-clause-place c =
    unit_lacks c.args.bytes.now c.keeping.at c.keeping.invariant.0 (omega arith) (longs c.read_header-name.result.0) c.read_header-name.result.1 c.read_header-name.ensures (units_at c.args.bytes.now 0) c.keeping.units.items c.keeping.invariant.1
    c.in_ok-hunks.end c.in_ok-hunks.ensures.end c.out_of_memory.result.place c.out_of_memory.ensures.place

pub keeping-smaller : goal.keeping-smaller
keeping-smaller c =
    nearer c.args.bytes.now c.keeping.at c.keeping.invariant.0 (omega arith) (longs c.read_header-name.result.0) c.read_header-name.result.1 c.read_header-name.ensures (units_at c.args.bytes.now 0) c.keeping.units.items c.keeping.invariant.1
    c.in_ok-hunks.end c.in_ok-hunks.ensures.end

pub keeping-preserved : goal.keeping-preserved
keeping-preserved c =
    let pushed : c.push.new.self.items ≡ c.keeping.units.items ++ unit (longs c.read_header-name.result.0) (hunks_at c.args.bytes.now c.read_header-name.result.1).value ∷ [] = search rules in (
      units_after c.args.bytes.now c.keeping.at c.keeping.invariant.0 (omega arith) (longs c.read_header-name.result.0) c.read_header-name.result.1 c.read_header-name.ensures (units_at c.args.bytes.now 0) c.keeping.units.items c.keeping.invariant.1
          c.in_ok-hunks.end c.in_ok-hunks.ensures.end,
      subst (λ (us : ObjectFileValue). Taken unit_text (units_at c.args.bytes.now 0) (units_at c.args.bytes.now c.in_ok-hunks.end) us) (sym pushed)
          (unit_kept c.args.bytes.now c.keeping.at c.keeping.invariant.0 (omega arith) (longs c.read_header-name.result.0) c.read_header-name.result.1 c.read_header-name.ensures (units_at c.args.bytes.now 0) c.keeping.units.items c.keeping.invariant.1
          c.in_ok-hunks.end c.in_ok-hunks.ensures.end),
    )

pub returns-clause-kept : goal.returns-clause-kept
returns-clause-kept c = units_kept c.args.bytes.now c.keeping.at c.keeping.invariant.0 (omega arith) (units_at c.args.bytes.now 0) c.keeping.units.items c.keeping.invariant.1
