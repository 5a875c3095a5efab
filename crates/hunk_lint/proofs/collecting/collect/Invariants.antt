use Rattle.std.proofs.Common.{◌≡◌, ◌+◌, ◌*◌, length}
use Rattle.hunk_files.specs.Hunks.{block_texts}
use Rattle.hunk_lint.specs.NextHunk.{after_blocks, first_blocks}
use Rattle.hunk_lint.proofs.Collected.{Left}
use Rattle.hunk_lint.proofs.OpenHunk.{IsOpen}
use Rattle.hunk_lint.proofs.collecting.collect.Given as goal

abbrev pub invariant-collecting : goal.invariant-collecting
invariant-collecting l = record {
  left : Left (first_blocks l.fn.items.value) (first_blocks l.items.value) l.collected.content.now l.collected.is_bss l.collected.count l.room;
  open_still : IsOpen (first_blocks l.items.value);
  after : after_blocks l.items.value ≡ after_blocks l.fn.items.value;
  place : l.items.place + 4 * length (block_texts (first_blocks l.items.value)) ≡ l.fn.items.place + 4 * length (block_texts (first_blocks l.fn.items.value));
}

abbrev pub decreases-collecting : goal.decreases-collecting
decreases-collecting l = length (first_blocks l.items.value)
