use Rattle.std.proofs.Common.{◌≡◌, ◌++◌, take}
use Rattle.std.specs.List.{flat_map}
use Rattle.hunk_blocks.specs.Values.{BlockValue}
use Rattle.hunk_files.specs.Image.{offsets, block_relocations}
use Rattle.hunk_files.proofs.load.overlap.push_hunk_offsets.Given as goal

abbrev pub invariant-pushing : goal.invariant-pushing
invariant-pushing l = l.rising.items ≡ l.fn.rising.items ++ offsets (flat_map (λ (b : BlockValue). block_relocations b.body) (take l.block-index l.blocks))
