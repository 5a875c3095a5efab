use Rattle.std.proofs.Common.{◌≡◌, ℕ}
use Rattle.hunk_words.specs.Carriers.{saturated}
use Rattle.hunk_files.specs.{FileView.file_of, StandingBlocks.items_blocks}
use Rattle.hunk_files.proofs.findings.FindingSteps.{TakenUpTo}
use Rattle.hunk_c.specs.References.{blocks_references, references_in}
use Rattle.hunk_c.proofs.references.ReferenceRowFileRow.list_file.Given as goal

abbrev pub invariant-listing : goal.invariant-listing
invariant-listing g l =
    (n : ℕ) × (l.number ≡ saturated n)
    × TakenUpTo g.T.Takes.takes l.fn.taker l.taker (blocks_references n (items_blocks l.item-iterator.place l.item-iterator.value)) (references_in (file_of l.fn.file))
