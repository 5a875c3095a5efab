use Rattle.std.proofs.Common.{◌≡◌, ◌+◌, ◌*◌, ◌++◌, length, map, take}
use Rattle.hunk_words.specs.Bits.{size_longs}
use Rattle.hunk_files.specs.LoadFile.{TableEntry}
use Rattle.hunk_lint.proofs.room.put_sizes.Given as goal

abbrev pub invariant-putting : goal.invariant-putting
invariant-putting l = record {
  at_is : l.at + length l.size-iterator ≡ length l.fn.sizes;
  put : take l.at l.sizes ++ map (λ (e : TableEntry). 4 * size_longs e.word) l.size-iterator ≡ map (λ (e : TableEntry). 4 * size_longs e.word) l.fn.table;
}
