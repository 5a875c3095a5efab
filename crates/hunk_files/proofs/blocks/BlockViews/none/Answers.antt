use Rattle.std.proofs.Common.{List, [], ap, arith, inl}
use Rattle.std.proofs.lemmas.List.{drop_all}
use Rattle.hunk_blocks.specs.{Values.BlockValue}
use Rattle.hunk_files.proofs.views.BlocksInPlace.{none_seen}
use Rattle.hunk_files.proofs.blocks.BlockViews.none.Goals as goal

pub invariant_of-result : goal.invariant_of-result
invariant_of-result c = inl (drop_all c.args.start [] (omega arith))

pub returns : goal.returns
returns c = ap (λ (bs : List BlockValue). record { place = c.args.start; value = bs }) (none_seen [] c.args.start (omega arith))
