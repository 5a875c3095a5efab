-- The hunks of a load file, and the text that stays of it.
use Rattle.std.proofs.Common.{◌≡◌, ℕ, ◌-◌, ◌*◌, List, [], ◌∷◌, ◌++◌, length, map, take, refl, sym, ap, subst, ◌∙◌, arith}
use Rattle.std.proofs.lemmas.{List.take_at, List.Folds.flat_map-map}
use Rattle.std.specs.{Prelude.slice_range, List.flat_map}
use Rattle.hunk_words.specs.Longs.{bytes_of}
use Rattle.hunk_words.proofs.LongLaws.{bytes_of-append, length-bytes_of}
use Rattle.hunk_blocks.specs.Faults.{words}
use Rattle.hunk_files.specs.{Fault.BeginsWithLoadFile, Hunks.block_texts}
use Rattle.hunk_files.specs.LoadFile.{HunkValue, LoadFileValue, TableEntry, IsHunk, declared_longs}
use Rattle.hunk_files.specs.{LoadText.{header_labelled, text}, ObjectFile.{ObjectHunk, IsObjectHunk}, InPlace.StandAt}
use Rattle.hunk_files.specs.{Strip.{strip_blocks, strip_file}, Tables.{header_text, hunk_texts}}
use Rattle.hunk_files.proofs.{walk.Accepted.All-map, cuts.OneReading.are_blocks}
use Rattle.hunk_files.proofs.{strip.StripLaws.table_kept, cuts.TableReading.{header_inside, header_split, hunks_follow, text_is}}

abbrev pub blocks_of : LoadFileValue → List ObjectHunk
blocks_of v = map (λ h. h.blocks) v

stripped_hunks : (v : LoadFileValue) → flat_map block_texts (map strip_blocks (blocks_of v)) ≡ hunk_texts (strip_file v)
stripped_hunks [] = refl
stripped_hunks (h ∷ v) = ap (λ (ws : List ℕ). block_texts (strip_blocks h.blocks) ++ ws) (stripped_hunks v)

pub are_hunk : (most : ℕ) (h : HunkValue) → IsHunk most h → IsObjectHunk h.blocks
are_hunk most h is = record { blocks = are_blocks most (declared_longs h) h.blocks is.blocks; order = is.order }

module _ (bytes : List ℕ) (file : BeginsWithLoadFile bytes) where
  pub hunks_stand : StandAt IsObjectHunk block_texts bytes (4 * length (header_text file.value)) (blocks_of file.value) file.rest
  hunks_stand =
      record {
        each = All-map (IsHunk (length file.value)) IsObjectHunk (λ h. h.blocks) (are_hunk (length file.value)) file.value file.is_load_file.each;
        inside = omega (arith, header_inside bytes file);
        text_is = hunks_follow bytes file ∙ ap (λ (ws : List ℕ). bytes_of ws ++ file.rest) (sym (flat_map-map block_texts (λ (h : HunkValue). h.blocks) file.value));
      }

  header_front : slice_range bytes 0 (4 * length (header_text file.value)) ≡ bytes_of (header_text file.value)
  header_front =
      let size = 4 * length (header_text file.value) in
      ap (λ (n : ℕ). take n bytes) (let all : size - 0 ≡ size = omega arith in all)
      ∙ ap (λ (l : List ℕ). take size l) (header_split bytes file)
      ∙ take_at (bytes_of (header_text file.value)) (bytes_of (hunk_texts file.value) ++ file.rest) size (length-bytes_of (header_text file.value))

  module _ (v : LoadFileValue) (same : v ≡ file.value) where
    -- the header, and then what stays of the hunks
    pub stripped_text : slice_range bytes 0 (4 * length (header_text v)) ++ bytes_of (flat_map block_texts (map strip_blocks (blocks_of v))) ≡ bytes_of (text (strip_file v))
    stripped_text =
        let header : List TableEntry → List ℕ = λ t. words (header_labelled t) in
        ap (λ (xs : List ℕ). xs ++ bytes_of (flat_map block_texts (map strip_blocks (blocks_of v)))) (subst (λ (w : LoadFileValue). slice_range bytes 0 (4 * length (header_text w)) ≡ bytes_of (header_text w)) (sym same) header_front)
        ∙ ap (λ (ws : List ℕ). bytes_of (header_text v) ++ bytes_of ws) (stripped_hunks v)
        ∙ sym (bytes_of-append (header_text v) (hunk_texts (strip_file v)))
        ∙ ap (λ (t : List TableEntry). bytes_of (header t ++ hunk_texts (strip_file v))) (sym (table_kept v))
        ∙ ap bytes_of (sym (text_is (strip_file v)))
