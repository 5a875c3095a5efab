use Rattle.hunk_run.proofs.Listed.{relocated, shown, validated}
use Rattle.hunk_run.proofs.listing.list_bytes.Goals as goal

pub returns-in-Show-clause-lists : goal.returns-in-Show-clause-lists
returns-in-Show-clause-lists g c =
    (shown g.W.Sink.outlet c.args.listing 67108864 c.args.out.now c.show.new.w c.done.result _ _ c.show.result c.in-Show.is c.done.ensures c.show.ensures).0

pub returns-in-Show-clause-of_file : goal.returns-in-Show-clause-of_file
returns-in-Show-clause-of_file g c =
    (shown g.W.Sink.outlet c.args.listing 67108864 c.args.out.now c.show.new.w c.done.result _ _ c.show.result c.in-Show.is c.done.ensures c.show.ensures).1

pub returns-in-Validate-clause-lists : goal.returns-in-Validate-clause-lists
returns-in-Validate-clause-lists g c =
    (validated g.W.Sink.outlet c.args.listing 67108864 c.args.out.now c.validate.new.w c.found.result _ _ c.validate.result c.in-Validate.is c.found.ensures c.validate.ensures.puts).0

pub returns-in-Validate-clause-of_file : goal.returns-in-Validate-clause-of_file
returns-in-Validate-clause-of_file g c =
    (validated g.W.Sink.outlet c.args.listing 67108864 c.args.out.now c.validate.new.w c.found.result _ _ c.validate.result c.in-Validate.is c.found.ensures c.validate.ensures.puts).1

pub returns-in-Relocate-clause-lists : goal.returns-in-Relocate-clause-lists
returns-in-Relocate-clause-lists g c =
    (relocated g.W.Sink.outlet c.args.listing 67108864 c.args.out.now c.relocate.new.w c.done-in-Relocate.result _ _ c.in-Relocate.base c.in-Relocate.budget c.relocate.result c.in-Relocate.is
    c.done-in-Relocate.ensures c.relocate.ensures.relocates c.relocate.ensures.tells_read c.relocate.ensures.succeeds).0

pub returns-in-Relocate-clause-of_file : goal.returns-in-Relocate-clause-of_file
returns-in-Relocate-clause-of_file g c =
    (relocated g.W.Sink.outlet c.args.listing 67108864 c.args.out.now c.relocate.new.w c.done-in-Relocate.result _ _ c.in-Relocate.base c.in-Relocate.budget c.relocate.result c.in-Relocate.is
    c.done-in-Relocate.ensures c.relocate.ensures.relocates c.relocate.ensures.tells_read c.relocate.ensures.succeeds).1
