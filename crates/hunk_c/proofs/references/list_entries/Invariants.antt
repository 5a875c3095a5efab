use Rattle.std.proofs.Common.{◌≡◌, ◌+◌, ℕ, length}
use Rattle.std.specs.List.{AllByRecursion}
use Rattle.hunk_words.specs.Carriers.{saturated}
use Rattle.hunk_blocks.specs.Values.{IsExtEntry}
use Rattle.hunk_files.proofs.findings.FindingSteps.{TakenUpTo}
use Rattle.hunk_c.specs.References.{entries_references}
use Rattle.hunk_c.proofs.references.list_entries.Given as goal

abbrev pub invariant-listing : goal.invariant-listing
invariant-listing g l = AllByRecursion IsExtEntry l.entries.value × ((n : ℕ) → l.fn.first ≡ saturated n →
    (k : ℕ) × (l.number ≡ saturated k)
    × (k + length l.entries.value ≡ n + length l.fn.entries.value)
    × TakenUpTo g.T.Takes.takes l.fn.taker l.taker (entries_references k l.entries.place l.entries.value) (entries_references n l.fn.entries.place l.fn.entries.value))

abbrev pub decreases-listing : goal.decreases-listing
decreases-listing g l = length l.entries.value
