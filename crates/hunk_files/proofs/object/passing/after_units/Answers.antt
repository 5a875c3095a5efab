use Rattle.hunk_words.specs.Longs.{longs}
use Rattle.hunk_grammar.specs.declared.object_position.ObjectPosition.TheVariants as positions
use Rattle.hunk_files.specs.ObjectPassing.{counts_at, no_stride}
use Rattle.hunk_files.proofs.object_walk.PassedUnits.{join}
use Rattle.hunk_files.proofs.object.passing.after_units.Goals as goal

pub passing-init : goal.passing-init
passing-init c = no_stride

pub passing-preserved : goal.passing-preserved
passing-preserved c =
    let from = c.args.from in
    let p = c.passing.place in
    let q = c.pass_block.new.place in
    join (longs c.args.bytes.now) from.at (positions.Word from.place) (counts_at from) p.at (positions.Word p.place) (counts_at p) q.at (positions.Word q.place) (counts_at q) c.passing.invariant c.in-Some.ensures.passes.leads
