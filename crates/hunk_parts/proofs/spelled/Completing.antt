-- Parts that pass can be completed to those of a file: an empty BSS block where the open hunk has no content, END, and as many more
-- hunks as are wanted.
use Rattle.std.proofs.Common.{◌≡◌, ℕ, zero, suc, ◌<◌, Bool, true, false, List, [], ◌∷◌, ◌++◌, length, refl, ap, ◌∙◌, arith, Option, Some, None}
use Rattle.std.specs.Prelude.{⊤}
use Rattle.std.specs.List.{AllByRecursion, filter, flat_map}
use Rattle.hunk_words.specs.Bits.{bss_word, end_word, kind}
use Rattle.hunk_words.specs.declared.block_word.Kind.{Kind}
use Rattle.hunk_grammar.specs.declared.object_position.WordPlace.{WordPlace}
use Rattle.hunk_grammar.specs.declared.object_position.WordPlace.TheVariants.{BeforeUnits, BetweenHunks, InHunk}
use Rattle.hunk_blocks.specs.Values.{BlockValue, Bss, End, IsBlock}
use Rattle.hunk_blocks.proofs.Lists.{All-append}
use Rattle.hunk_files.specs.LoadFile.{AreInOrder, HunkValue, IsHunk}
use Rattle.hunk_files.proofs.walk.FileText.{standings}
use Rattle.hunk_parts.specs.PartFaults.{is_before_units}
use Rattle.hunk_parts.specs.Parts.{FilePart, block_file_parts, hunk_file_parts, of_unit}
use Rattle.hunk_parts.specs.RowsText.{is_hunk}
use Rattle.hunk_parts.proofs.spelled.BlocksInFront.{IsListAt}
use Rattle.hunk_parts.proofs.spelled.FileTexts.{skip_blocks}
use Rattle.hunk_parts.proofs.spelled.FilesPass.{blocks_pass, hunk_row_passes, hunks_pass}
use Rattle.hunk_parts.proofs.spelled.Passing.{Pass}
use Rattle.hunk_parts.proofs.spelled.RowsSpell.{count_hunks}
use Rattle.hunk_parts.proofs.spelled.Tails.{FitsBlock, HasLongs}

-- ---- what closes a hunk

abbrev end_block : BlockValue
end_block = record { word = end_word; body = End }

abbrev bss_block : BlockValue
bss_block = record { word = bss_word; body = Bss 0 }

abbrev closing_blocks : Bool → List BlockValue
closing_blocks true = end_block ∷ []
closing_blocks false = bss_block ∷ end_block ∷ []

is_end : IsBlock end_block
unfolding kind
is_end = record { word = omega arith; bits = refl; body = refl }

is_bss : IsBlock bss_block
unfolding kind
is_bss = record { word = omega arith; bits = refl; body = (refl, omega arith) }

end_fits : (hunks longs : ℕ) → FitsBlock hunks longs end_block
end_fits zero longs = is_end
end_fits (suc n) longs = record { block = is_end; mode = tt; fits = tt }

bss_fits : (hunks longs : ℕ) → FitsBlock hunks longs bss_block
bss_fits zero longs = is_bss
bss_fits (suc n) longs = record { block = is_bss; mode = tt; fits = omega arith }

blocks_fit : (hunks longs : ℕ) (has : Bool) → AllByRecursion (FitsBlock hunks longs) (closing_blocks has)
blocks_fit hunks longs true = (end_fits hunks longs, tt)
blocks_fit hunks longs false = (bss_fits hunks longs, (end_fits hunks longs, tt))

in_order : (has : Bool) → AreInOrder has (standings (closing_blocks has))
in_order true = refl
in_order false = refl

block_longs : (has : Bool) → AllByRecursion HasLongs (flat_map block_file_parts (closing_blocks has))
block_longs true = (record { word = omega arith; value = omega arith; content = tt; offsets = tt }, tt)
block_longs false = (record { word = omega arith; value = omega arith; content = tt; offsets = tt }, (record { word = omega arith; value = omega arith; content = tt; offsets = tt }, tt))

-- ---- more hunks of a load file

abbrev empty_hunk : HunkValue
empty_hunk = record { entry = record { word = 0; extra = 0 }; blocks = closing_blocks false }

abbrev empty_hunks : ℕ → List HunkValue
empty_hunks zero = []
empty_hunks (suc m) = empty_hunk ∷ empty_hunks m

are_hunks : (n m : ℕ) → AllByRecursion (IsHunk (suc n)) (empty_hunks m)
are_hunks n zero = tt
are_hunks n (suc m) = (record { entry = (omega arith, omega arith, λ e. refl); blocks = blocks_fit (suc n) 0 false; order = refl }, are_hunks n m)

how_many : (m : ℕ) → length (empty_hunks m) ≡ m
how_many zero = refl
how_many (suc m) = ap suc (how_many m)

hunk_longs : (m : ℕ) → AllByRecursion HasLongs (flat_map hunk_file_parts (empty_hunks m))
hunk_longs zero = tt
hunk_longs (suc m) = (record { word = omega arith; value = omega arith; content = tt; offsets = tt }, All-append HasLongs (flat_map block_file_parts (closing_blocks false)) (flat_map hunk_file_parts (empty_hunks m)) (block_longs false) (hunk_longs m))

-- ---- from any place

-- of a load file so many hunks are wanted
abbrev pub Counts : ℕ → ℕ → ℕ → Type 0
Counts zero have want = ⊤
Counts (suc n) have want = have ≡ want

-- a load file begins with a hunk
abbrev pub IsFresh : ℕ → WordPlace → ℕ → Type 0
IsFresh zero place want = ⊤
IsFresh (suc n) place want = is_before_units place ≡ true → 0 < want

pub record Completes (hunks longs : ℕ) (place : WordPlace) (list : Option Kind) (want : ℕ) : Type 0 where
  pub more : List FilePart
  pub pass : Pass hunks longs place list more
  pub are_longs : AllByRecursion HasLongs more
  pub count : Counts hunks (length (filter is_hunk more)) want

load_completes : (n longs : ℕ) (place : WordPlace) (list : Option Kind) (want : ℕ) → IsListAt place list → IsFresh (suc n) place want → Completes (suc n) longs place list want
load_completes n longs (InHunk has) list want h fresh = record {
  more = flat_map block_file_parts (closing_blocks has) ++ flat_map hunk_file_parts (empty_hunks want);
  pass = blocks_pass (suc n) longs (flat_map hunk_file_parts (empty_hunks want)) (hunks_pass n longs (empty_hunks want) (are_hunks n want)) (InHunk has) list (closing_blocks has) (blocks_fit (suc n) longs has) (in_order has) refl;
  are_longs = All-append HasLongs (flat_map block_file_parts (closing_blocks has)) (flat_map hunk_file_parts (empty_hunks want)) (block_longs has) (hunk_longs want);
  count = ap length (skip_blocks (closing_blocks has) (flat_map hunk_file_parts (empty_hunks want))) ∙ count_hunks (empty_hunks want) ∙ how_many want;
}
load_completes n longs BetweenHunks None want h fresh = record {
  more = flat_map hunk_file_parts (empty_hunks want);
  pass = hunks_pass n longs (empty_hunks want) (are_hunks n want);
  are_longs = hunk_longs want;
  count = count_hunks (empty_hunks want) ∙ how_many want;
}
load_completes n longs BetweenHunks (Some k) want h fresh = absurd (let o = h.0 in cc)
load_completes n longs BeforeUnits (Some k) want h fresh = absurd (let o = h.0 in cc)
load_completes n longs BeforeUnits None zero h fresh = absurd (omega (arith, fresh refl))
load_completes n longs BeforeUnits None (suc m) h fresh = record {
  more = flat_map hunk_file_parts (empty_hunks (suc m));
  pass = (hunk_row_passes n longs BeforeUnits (record { word = 0; extra = 0 }) refl (omega arith, omega arith, λ e. refl), (hunks_pass n longs (empty_hunks (suc m)) (are_hunks n (suc m))).1);
  are_longs = hunk_longs (suc m);
  count = count_hunks (empty_hunks (suc m)) ∙ how_many (suc m);
}

object_completes : (longs : ℕ) (place : WordPlace) (list : Option Kind) (want : ℕ) → IsListAt place list → Completes 0 longs place list want
object_completes longs (InHunk has) list want h = record {
  more = flat_map block_file_parts (closing_blocks has) ++ [];
  pass = blocks_pass 0 longs [] (refl, refl) (InHunk has) list (closing_blocks has) (blocks_fit 0 longs has) (in_order has) refl;
  are_longs = All-append HasLongs (flat_map block_file_parts (closing_blocks has)) [] (block_longs has) tt;
  count = tt;
}
object_completes longs BetweenHunks list want h = record { more = []; pass = (refl, refl); are_longs = tt; count = tt }
object_completes longs BeforeUnits (Some k) want h = absurd (let o = h.0 in cc)
object_completes longs BeforeUnits None want h = record {
  more = of_unit [] ∷ [];
  pass = (refl, (refl, refl));
  are_longs = (record { word = omega arith; value = omega arith; content = tt; offsets = tt }, tt);
  count = tt;
}

pub completes : (hunks longs : ℕ) (place : WordPlace) (list : Option Kind) (want : ℕ) → IsListAt place list → IsFresh hunks place want → Completes hunks longs place list want
completes zero longs place list want h fresh = object_completes longs place list want h
completes (suc n) longs place list want h fresh = load_completes n longs place list want h fresh
