use Rattle.std.proofs.Common.{◌≡◌, List, length}
use Rattle.hunk_blocks.specs.{Parts.block_text, Values.BlockValue}
use Rattle.hunk_files.specs.Filling.{memory_of}
use Rattle.hunk_files.proofs.{image.FillingLaws.LeftToFill, views.PartsInTurn.Taken}
use Rattle.hunk_files.proofs.load.filling.fill_hunk.Given as goal

abbrev pub invariant-filling : goal.invariant-filling
invariant-filling g l = record {
  stays : g.B.Bases.bases l.bases ≡ g.B.Bases.bases l.fn.bases;
  left :
      LeftToFill (length (g.B.Bases.bases l.fn.bases)) (g.B.Bases.bases l.fn.bases) (length l.fn.memory) l.blocks.value l.memory
      (memory_of (g.B.Bases.bases l.fn.bases) (length l.fn.memory) l.fn.blocks.value);
  taken : (done : List BlockValue) × Taken block_text l.fn.blocks l.blocks done;
}
