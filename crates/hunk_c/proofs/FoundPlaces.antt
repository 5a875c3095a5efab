-- Bases that are found for hunks in the memory, by a table that is read where it lies.
use Rattle.std.proofs.Common.{◌≡◌, ℕ, ◌+◌, ◌-◌, ◌*◌, ◌^◌, ◌<◌, ◌≤◌, List, length, take, get_or, slice_get, true, false, Option, Some, None, refl, sym, ap, ◌∙◌, arith, below_more}
use Rattle.std.proofs.lemmas.{Bool.Decides.nat_tests, List.{get_or-take, length-take-le}, Option.{get_or_from_slice_get, slice_get_within}}
use Rattle.std.specs.Option.{is_some}
use Rattle.hunk_words.specs.Bits.{size_longs}
use Rattle.hunk_files.specs.{LoadFile.TableEntry}
use Rattle.hunk_scatter.specs.HeaderBytes.{BeginsWithHeader}
use Rattle.hunk_scatter.specs.Placing.{AreBases, IsFirstUnplaced, base_at}
use Rattle.hunk_c.specs.{LoadsAt.{base_in, placed_in}, Packs.{HasRow, IsRow}}
use Rattle.hunk_c.proofs.{Packing.declared_more, TableRows.{no_entry, stands_first}}

base_if : (start room size base x : ℕ) → base_in start room size (Some base) ≡ Some x → base ≡ x
base_if start room size base x e = grind (arith, nat_tests)

base_where : (start room size x : ℕ) (o : Option ℕ) → base_in start room size o ≡ Some x → o ≡ Some x
base_where start room size x None e = absurd cc
base_where start room size x (Some base) e = ap (λ (n : ℕ). Some n) (base_if start room size base x e)

-- The hunks before this one have bases, and its row stands there.
pub record FoundSoFar {bytes : List ℕ} {t : List TableEntry} (h : BeginsWithHeader bytes t) (start room : ℕ) (bases : List ℕ) (hunk at before : ℕ) : Type 0 where
  pub is_row : IsRow h 0 hunk at before
  pub enough : hunk ≤ length bases
  pub each : (i : ℕ) → i < hunk → base_at (placed_in start room bases) t i ≡ Some (get_or bases i 0)

pub none_found : (bytes : List ℕ) (t : List TableEntry) (h : BeginsWithHeader bytes t) (start room : ℕ) (bases : List ℕ) → FoundSoFar h start room bases 0 5 0
none_found bytes t h start room bases = record {
  is_row = record { stands = stands_first bytes t h; base_is = refl };
  enough = omega arith;
  each = λ i less. absurd (omega (arith, less));
}

module _ {bytes : List ℕ} {t : List TableEntry} {h : BeginsWithHeader bytes t} {start room : ℕ} {bases : List ℕ} {hunk at before : ℕ} (s : FoundSoFar h start room bases hunk at before) where
  module _ (inside : hunk < length t) where
    pub row_here : HasRow bytes (record { longword = at; base = before })
    row_here = record { table = t; header = h; start = 0; hunk = hunk; few = omega arith; inside = inside; is_row = s.is_row }

    module _ (at2 before2 : ℕ) (r : IsRow h 0 (hunk + 1) at2 before2) where
      row_size : before2 ≡ before + 4 * size_longs (get_or t hunk no_entry).word
      row_size = omega (arith, r.base_is, s.is_row.base_is, declared_more t hunk inside)

      pub row_rises : before ≤ before2
      row_rises = omega (arith, row_size)

      pub row_small : before2 - before < 2 ^ 32
      row_small = omega (arith, row_size)

      size_is : before2 - before ≡ 4 * size_longs (get_or t hunk no_entry).word
      size_is = omega (arith, row_size)

      here : base_at (placed_in start room bases) t hunk ≡ base_in start room (before2 - before) (slice_get bases hunk)
      here = ap (λ (n : ℕ). base_in start room n (slice_get bases hunk)) (sym size_is)

      with_base : (x : ℕ) → base_in start room (before2 - before) (slice_get bases hunk) ≡ Some x → FoundSoFar h start room bases (hunk + 1) at2 before2
      with_base x e =
          let found = base_where start room (before2 - before) x (slice_get bases hunk) e in
          let within = slice_get_within bases hunk x found in
          record {
            is_row = r;
            enough = omega (arith, within);
            each =
                below_more (λ (i : ℕ). base_at (placed_in start room bases) t i ≡ Some (get_or bases i 0)) hunk s.each
                (here ∙ e ∙ ap (λ (n : ℕ). Some n) (sym (get_or_from_slice_get bases hunk x 0 found)));
          }

      pub one_more : (o : Option ℕ) → o ≡ base_in start room (before2 - before) (slice_get bases hunk) → is_some o ≡ true → FoundSoFar h start room bases (hunk + 1) at2 before2
      one_more None e some = absurd cc
      one_more (Some x) e some = with_base x (sym e)

      pub none_here : (o : Option ℕ) → o ≡ base_in start room (before2 - before) (slice_get bases hunk) → is_some o ≡ false → IsFirstUnplaced (placed_in start room bases) t hunk
      none_here None e none = record { inside = inside; none = here ∙ sym e; first = λ i less. let some = s.each i less in cc }
      none_here (Some x) e none = absurd cc

  pub all_found : (hunks : ℕ) → hunks ≡ length t → hunks ≤ hunk → hunks ≤ length bases → AreBases (placed_in start room bases) t (take hunks bases)
  all_found hunks many all enough = record {
    count = length-take-le hunks bases enough ∙ many;
    each = λ i less. s.each i (omega (arith, less, many, all)) ∙ ap (λ (n : ℕ). Some n) (sym (get_or-take hunks bases i 0 (omega (arith, less, many))));
  }
