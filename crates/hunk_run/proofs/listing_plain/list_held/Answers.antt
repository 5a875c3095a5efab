use Rattle.std.proofs.Common.{ℕ, List, false, subst}
use Rattle.hunk_run.specs.Inputs.{slice}
use Rattle.hunk_run.specs.Refusals.{ListsSupply}
use Rattle.hunk_run.proofs.Listed.{held_relocated, held_shown, held_validated}
use Rattle.hunk_run.proofs.listing_plain.list_held.Goals as goal

pub returns-in-Show : goal.returns-in-Show
returns-in-Show g c = held_shown g.W.Sink.outlet c.args.listing 67108864 c.args.out.now c.show_bytes.new.w c.done.result c.args.bytes.now c.show_bytes.result c.in-Show.is c.done.ensures c.show_bytes.ensures

pub returns-in-Validate : goal.returns-in-Validate
returns-in-Validate g c =
    held_validated g.W.Sink.outlet c.args.listing 67108864 c.args.out.now c.validate_bytes.new.w c.found.result c.args.bytes.now c.validate_bytes.result c.in-Validate.is c.found.ensures c.validate_bytes.ensures

pub returns-in-Relocate : goal.returns-in-Relocate
returns-in-Relocate g c =
    held_relocated g.W.Sink.outlet c.args.listing 67108864 c.args.out.now c.list_bytes.new.out c.list_bytes.result c.args.bytes.now c.list_bytes.new.source c.in-Relocate.base c.in-Relocate.budget c.in-Relocate.is
    (subst (λ (xs : List ℕ). ListsSupply g.W.Sink.outlet false c.args.listing (slice xs) (slice c.list_bytes.new.source) 67108864 c.args.out.now c.list_bytes.new.out c.list_bytes.result) c.new.ensures
    c.list_bytes.ensures.lists)
