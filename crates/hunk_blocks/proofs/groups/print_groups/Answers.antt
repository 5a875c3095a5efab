use Rattle.std.proofs.Common.{rules, ◌∙◌, arith}
use Rattle.hunk_blocks.specs.{Values.IsGroup, Parts.group_text, Views.group_of}
use Rattle.hunk_blocks.proofs.ListWriting.{all_at, list_shown}
use Rattle.hunk_blocks.proofs.groups.print_groups.Goals as goal

pub print_group-requires : goal.print_group-requires
print_group-requires g c = (search rules, all_at IsGroup group_of c.args.groups.now c.groups.group-index c.group-item.result c.requires c.groups-test.true c.group-item.is)

pub returns : goal.returns
returns g c = (
  c.print_long.ensures.prints.0 ∙ c.groups.invariant.0,
  list_shown group_of group_text c.args.groups.now c.groups.group-index _ _ _ (omega (arith, c.groups-test.false)) c.groups.invariant.1 c.print_long.ensures.prints.1,
)
