-- The text of an object file is cut into its units, and theirs into hunks.
use Rattle.std.proofs.Common.{◌≡◌, ℕ, zero, suc, ◌≤◌, Bool, true, false, cond, List, [], ◌∷◌, ◌++◌, length, refl, sym, ap, ◌∙◌, append_assoc, append-nil, length-append, arith}
use Rattle.std.specs.List.{flat_map, AllByRecursion}
use Rattle.std.proofs.lemmas.Bool.{ne_eqb}
use Rattle.hunk_words.specs.{Bits.kind, Longs.{bytes_of, longs}}
use Rattle.hunk_words.proofs.LongLaws.{longs-bytes_of}
use Rattle.hunk_blocks.specs.Cuts.{Cut, cut_map}
use Rattle.hunk_files.specs.{Cuts.hunk_cut, Hunks.block_texts}
use Rattle.hunk_files.specs.ObjectFile.{ObjectHunk, UnitValue, ObjectFileValue, IsObjectHunk, IsUnit, IsObjectFile, unit_word, unit_header, unit_text, object_text}
use Rattle.hunk_files.specs.UnitCuts.{items_until, ends_unit, hunks_cut, unit_cut, ends_file, units_cut}
use Rattle.hunk_blocks.proofs.CutLaws.{cut, longs_cut_is}
use Rattle.hunk_files.proofs.{cuts.BlockCuts.hunk_cut_is, views.HunkBlocks.some_text}
use Rattle.hunk_files.proofs.cuts.UnitReading.{no_kind, object_longs, unit_kind}

pub hunk_is : (h : ObjectHunk) (rest : List ℕ) → IsObjectHunk h → hunk_cut (block_texts h ++ rest) ≡ cut h rest
hunk_is h rest is = hunk_cut_is false h rest is.blocks is.order

-- ---- items up to their end

module _ {A : Type 0} (Is : A → Type 0) (text : A → List ℕ) (ends : List ℕ → Bool) (one : List ℕ → Cut A) where
  -- An item is cut off in front of others, after which they end.
  record AreCut : Type 0 where
    pub some : (x : A) → Is x → 1 ≤ length (text x)
    pub goes_on : (x : A) (rest : List ℕ) → Is x → ends (text x ++ rest) ≡ false
    pub first : (x : A) (xs : List A) (rest : List ℕ) → Is x → ends rest ≡ true → one (text x ++ (flat_map text xs ++ rest)) ≡ cut x (flat_map text xs ++ rest)

  until_step : List ℕ → (List ℕ → Cut (List A)) → Bool → Cut (List A)
  until_step words more stops = cond stops (cut [] words) (cut_map (λ items. (one words).value ∷ items) (more (one words).rest))

  items_are : AreCut → (xs : List A) (rest : List ℕ) (most : ℕ) → AllByRecursion Is xs → ends rest ≡ true → length (flat_map text xs) ≤ most → items_until ends one most (flat_map text xs ++ rest) ≡ cut xs rest
  unfolding items_until until_step
  items_are k [] rest zero each stop few = refl
  items_are k [] rest (suc most) each stop few = ap (until_step rest (items_until ends one most)) stop
  items_are k (x ∷ xs) rest zero each stop few = absurd (omega (arith, few, k.some x each.0, length-append (text x) (flat_map text xs)))
  items_are k (x ∷ xs) rest (suc most) each stop few =
      let later : List ℕ = flat_map text xs ++ rest in
      let more : length (flat_map text xs) ≤ most = omega (arith, few, k.some x each.0, length-append (text x) (flat_map text xs)) in
      ap (items_until ends one (suc most)) (append_assoc (text x) (flat_map text xs) rest)
      ∙ ap (until_step (text x ++ later) (items_until ends one most)) (k.goes_on x later each.0)
      ∙ ap (λ (c : Cut A). cut_map (λ items. c.value ∷ items) (items_until ends one most c.rest)) (k.first x xs rest each.0 stop)
      ∙ ap (cut_map (λ items. x ∷ items)) (items_are k xs rest most each.1 stop more)

  all_are : AreCut → (xs : List A) (rest : List ℕ) → AllByRecursion Is xs → ends rest ≡ true → items_until ends one (length (flat_map text xs ++ rest)) (flat_map text xs ++ rest) ≡ cut xs rest
  all_are k xs rest each stop = items_are k xs rest (length (flat_map text xs ++ rest)) each stop (omega (arith, length-append (flat_map text xs) rest))

-- ---- the hunks of a unit

pub hunk_goes_on : (h : ObjectHunk) (rest : List ℕ) → IsObjectHunk h → ends_unit (block_texts h ++ rest) ≡ false
hunk_goes_on [] rest is = absurd is.order
hunk_goes_on (b ∷ bs) rest is = ne_eqb b.word unit_word (λ e. no_kind b.word b.body is.blocks.0.body (ap kind e ∙ unit_kind))

hunks_cut_off : AreCut IsObjectHunk block_texts ends_unit hunk_cut
hunks_cut_off = record { some = some_text; goes_on = hunk_goes_on; first = λ h hs rest is stop. hunk_is h (flat_map block_texts hs ++ rest) is }

pub hunks_are : (hs : List ObjectHunk) (rest : List ℕ) → AllByRecursion IsObjectHunk hs → ends_unit rest ≡ true → hunks_cut (flat_map block_texts hs ++ rest) ≡ cut hs rest
hunks_are hs rest each stop = all_are IsObjectHunk block_texts ends_unit hunk_cut hunks_cut_off hs rest each stop

-- ---- a unit, and the units of a file

pub unit_is : (u : UnitValue) (rest : List ℕ) → IsUnit u → ends_unit rest ≡ true → unit_cut (unit_text u ++ rest) ≡ cut u rest
unit_is u rest is stop =
    let hunks : List ℕ = flat_map block_texts u.hunks in
    let after : Cut (List ℕ) → Cut UnitValue = λ name. cut_map (λ hs. record { name = name.value; hunks = hs }) (hunks_cut name.rest) in
    ap unit_cut (append_assoc (unit_header u.name) hunks rest)
    ∙ ap after (longs_cut_is (length u.name) u.name (hunks ++ rest) refl)
    ∙ ap (cut_map (λ hs. record { name = u.name; hunks = hs })) (hunks_are u.hunks rest is.hunks stop)

-- In front of units, or of nothing, a unit ends.
units_stop : (us : ObjectFileValue) (rest : List ℕ) → ends_file rest ≡ true → ends_unit (object_text us ++ rest) ≡ true
units_stop [] [] stop = refl
units_stop [] (w ∷ rest) stop = absurd cc
units_stop (u ∷ us) rest stop = refl

-- The same in bytes.
pub units_end : (us : ObjectFileValue) → AllByRecursion IsUnit us →
    ends_unit (longs (bytes_of (object_text us) ++ [])) ≡ true
units_end us is = ap ends_unit (longs-bytes_of (object_text us) [] (object_longs us is)) ∙ units_stop us [] refl

units_cut_off : AreCut IsUnit unit_text ends_file unit_cut
units_cut_off = record { some = λ u is. omega arith; goes_on = λ u rest is. refl; first = λ u us rest is stop. unit_is u (object_text us ++ rest) is (units_stop us rest stop) }

pub units_are : (us : ObjectFileValue) → AllByRecursion IsUnit us → units_cut (object_text us) ≡ cut us []
units_are us each = ap units_cut (sym (append-nil (object_text us))) ∙ all_are IsUnit unit_text ends_file unit_cut units_cut_off us [] each refl

-- One object text has one value.
pub object_value : (a b : ObjectFileValue) → IsObjectFile a → IsObjectFile b → object_text a ≡ object_text b → a ≡ b
object_value a b ha hb e = ap (λ (c : Cut ObjectFileValue). c.value) (sym (units_are a ha.units) ∙ ap units_cut e ∙ units_are b hb.units)
