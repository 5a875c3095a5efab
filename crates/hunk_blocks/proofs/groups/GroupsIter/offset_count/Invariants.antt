use Rattle.std.proofs.Common.{◌≡◌, ◌+◌, ◌<◌, ◌^◌}
use Rattle.hunk_words.specs.Carriers.{saturated}
use Rattle.hunk_blocks.specs.Values.{offset_count}
use Rattle.hunk_blocks.proofs.groups.GroupsIter.offset_count.Given as goal

abbrev pub invariant-groups : goal.invariant-groups
invariant-groups l = (l.count < 2 ^ 64) × (saturated (l.count + offset_count l.group-iterator.value) ≡ saturated (offset_count l.fn.self.value))
