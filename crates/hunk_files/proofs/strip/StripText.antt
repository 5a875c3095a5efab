-- What is stripped is no longer than it was.
use Rattle.std.proofs.Common.{ℕ, ◌≤◌, List, [], ◌∷◌, length, ap, length-append, arith}
use Rattle.hunk_words.specs.Longs.{bytes_of}
use Rattle.hunk_words.proofs.LongLaws.{length-bytes_of}
use Rattle.hunk_blocks.specs.Faults.{words}
use Rattle.hunk_files.specs.{LoadFile.{LoadFileValue, TableEntry}, LoadText.{header_labelled, table, text}}
use Rattle.hunk_files.specs.{Hunks.block_texts, Strip.{strip_blocks, strip_file}, Tables.hunk_texts}
use Rattle.hunk_files.proofs.{strip.StripLaws.table_kept, cuts.TableReading.text_is, strip.StripSteps.shorter_blocks}

hunks_shorter : (v : LoadFileValue) → length (hunk_texts (strip_file v)) ≤ length (hunk_texts v)
hunks_shorter [] = omega arith
hunks_shorter (h ∷ v) =
    omega (
      arith,
      shorter_blocks h.blocks,
      hunks_shorter v,
      length-append (block_texts (strip_blocks h.blocks)) (hunk_texts (strip_file v)),
      length-append (block_texts h.blocks) (hunk_texts v),
    )

pub text_shorter : (v : LoadFileValue) → length (text (strip_file v)) ≤ length (text v)
text_shorter v =
    let header : List TableEntry → List ℕ = λ t. words (header_labelled t) in
    omega (
      arith,
      hunks_shorter v,
      ap length (text_is (strip_file v)),
      ap length (text_is v),
      length-append (header (table (strip_file v))) (hunk_texts (strip_file v)),
      length-append (header (table v)) (hunk_texts v),
      ap (λ (t : List TableEntry). length (header t)) (table_kept v),
    )

pub bytes_shorter : (v : LoadFileValue) → length (bytes_of (text (strip_file v))) ≤ length (bytes_of (text v))
bytes_shorter v = omega (arith, text_shorter v, length-bytes_of (text (strip_file v)), length-bytes_of (text v))
