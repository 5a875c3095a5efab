-- Where a kind of warning is not told, it holds of no offset.
use Rattle.std.proofs.Common.{◌≡◌, ◌≢◌, ℕ, zero, suc, ◌+◌, ◌*◌, ◌≤◌, ◌==◌, ◌%◌, Bool, true, false, List, [], ◌∷◌, ◌++◌, length, get_or, refl, sym, subst, arith, nat_lt, Option, Some, None}
use Rattle.std.specs.List.{AllByRecursion, Contains, count_by, filter, flat_map}
use Rattle.std.proofs.lemmas.{Bool.{ltb-false}, List.map-append, List.Elements.All-from_recursion}
use Rattle.hunk_blocks.proofs.Fronts.{All-left, All-right}
use Rattle.hunk_blocks.proofs.Lists.{All-append}
use Rattle.hunk_blocks.specs.Parts.{block_text, group_text}
use Rattle.hunk_blocks.specs.Values.{BlockBody, BlockValue, RelocGroup, Reloc}
use Rattle.hunk_files.specs.Hunks.{block_texts}
use Rattle.hunk_files.specs.Image.{block_relocations, group_relocations, offsets, relocations}
use Rattle.hunk_files.specs.LoadFile.{HunkValue, LoadFileValue}
use Rattle.hunk_files.specs.Overlap.{AreApart, hunk_offsets}
use Rattle.hunk_files.proofs.image.OffsetLists.{group_offsets}
use Rattle.hunk_files.specs.SumImage.{long_at}
use Rattle.hunk_files.specs.Tables.{header_text}
use Rattle.hunk_lint.specs.Suspicious.{is_close, is_outside, least}
use Rattle.hunk_lint.specs.Facts.{HunkFacts, facts_of}
use Rattle.hunk_lint.specs.Warnings.{HasNone, block_warnings, blocks_warnings, body_warnings, group_warnings, hunks_warnings, in_turn, offset_warning, offset_warnings, sizes_of, told, told_of, warnings}
use Rattle.hunk_lint.specs.declared.warning.Warning.{Warning}
use Rattle.hunk_lint.specs.declared.warning.WarningKind.{WarningKind}
use Rattle.hunk_lint.specs.declared.warning.WarningKind.TheVariants.{InBss, OddOffset, OutsideTarget, Overlap, Twice}
use Rattle.hunk_lint.proofs.{Least.none_passes, Rising.close_above}

module _ (kind : WarningKind) where
  not_told : (b : Bool) (w : Warning) → w.kind ≡ kind → HasNone kind (told b w) → b ≡ false
  not_told true w is none = absurd (none.0 is)
  not_told false w is none = refl

  not_told_of : (o : Option ℕ) (row : ℕ → Warning) → ((n : ℕ) → (row n).kind ≡ kind) → HasNone kind (told_of o row) → o ≡ None
  not_told_of None row is none = refl
  not_told_of (Some n) row is none = absurd (none.0 (is n))

  -- ---- from the rows to the offsets

  offsets_untold : (f : HunkFacts) (target place : ℕ) (os : List ℕ) → HasNone kind (in_turn (offset_warnings f target) (λ o. o ∷ []) place os) →
      AllByRecursion (λ o. (t : ℕ) × (p : ℕ) × HasNone kind (offset_warnings f t p o)) os
  offsets_untold f target place [] none = tt
  offsets_untold f target place (o ∷ os) none =
      let here = offset_warnings f target place o in
      let rest = in_turn (offset_warnings f target) (λ x. x ∷ []) (place + 4 * length (o ∷ [])) os in (
        (target, place, All-left (λ w. w.kind ≢ kind) here rest none),
        offsets_untold f target (place + 4 * length (o ∷ [])) os (All-right (λ w. w.kind ≢ kind) here rest none),
      )

  module _ {A : Type 0} (Q : ℕ → Type 0) (found : ℕ → A → List Warning) (text : A → List ℕ) (pairs : A → List (ℕ × ℕ)) (each : (place : ℕ) (x : A) → HasNone kind (found place x) → AllByRecursion Q (offsets (pairs x))) where
    in_turn_untold : (place : ℕ) (xs : List A) → HasNone kind (in_turn found text place xs) → AllByRecursion Q (offsets (flat_map pairs xs))
    in_turn_untold place [] none = tt
    in_turn_untold place (x ∷ xs) none =
        let next = place + 4 * length (text x) in
        let rest = in_turn found text next xs in
        subst (AllByRecursion Q) (sym (map-append (λ (p : ℕ × ℕ). p.0) (pairs x) (flat_map pairs xs)))
        (All-append Q (offsets (pairs x)) (offsets (flat_map pairs xs)) (each place x (All-left (λ w. w.kind ≢ kind) (found place x) rest none))
        (in_turn_untold next xs (All-right (λ w. w.kind ≢ kind) (found place x) rest none)))

  module _ (f : HunkFacts) where
    abbrev Untold : ℕ → Type 0
    Untold o = (t : ℕ) × (p : ℕ) × HasNone kind (offset_warnings f t p o)

    group_untold : (place : ℕ) (g : RelocGroup) → HasNone kind (group_warnings f place g) → AllByRecursion Untold (offsets (group_relocations g))
    group_untold place g none = subst (AllByRecursion Untold) (sym (group_offsets g)) (offsets_untold f g.target (place + 8) g.offsets none)

    body_untold : (place word : ℕ) (body : BlockBody) → HasNone kind (body_warnings f place word body) → AllByRecursion Untold (offsets (block_relocations body))
    body_untold place word (Reloc groups) none = in_turn_untold Untold (group_warnings f) group_text group_relocations group_untold (place + 4) groups none
    body_untold place word _ none = tt

    blocks_untold : (place : ℕ) (bs : List BlockValue) → HasNone kind (blocks_warnings f place bs) → AllByRecursion Untold (offsets (flat_map (λ b. block_relocations b.body) bs))
    blocks_untold place bs none = in_turn_untold Untold (block_warnings f) block_text (λ b. block_relocations b.body) (λ at b. body_untold at b.word b.body) place bs none

    -- of an offset of the hunk
    untold_at : (place : ℕ) (bs : List BlockValue) (o : ℕ) → HasNone kind (blocks_warnings f place bs) → Contains (offsets (flat_map (λ b. block_relocations b.body) bs)) o → Untold o
    untold_at place bs o none has =
        subst Untold has.2 (All-from_recursion Untold (offsets (flat_map (λ b. block_relocations b.body) bs)) (blocks_untold place bs none) has.0 o has.1)

-- ---- what that says of an offset

-- the parts of an offset's rows
first_three : (kind : WarningKind) (a b c d e : List Warning) → HasNone kind (a ++ b ++ c ++ d ++ e) → HasNone kind (a ++ b ++ c)
first_three kind a b c d e none =
    All-left (λ w. w.kind ≢ kind) (a ++ b ++ c) d (All-left (λ w. w.kind ≢ kind) (a ++ b ++ c ++ d) e none)

second_of : (kind : WarningKind) (a b c d e : List Warning) → HasNone kind (a ++ b ++ c ++ d ++ e) → HasNone kind b
second_of kind a b c d e none =
    All-right (λ w. w.kind ≢ kind) a b (All-left (λ w. w.kind ≢ kind) (a ++ b) c (first_three kind a b c d e none))

third_of : (kind : WarningKind) (a b c d e : List Warning) → HasNone kind (a ++ b ++ c ++ d ++ e) → HasNone kind c
third_of kind a b c d e none = All-right (λ w. w.kind ≢ kind) (a ++ b) c (first_three kind a b c d e none)

module _ (kind : WarningKind) (f : HunkFacts) (offset : ℕ) (untold : (target : ℕ) × (place : ℕ) × HasNone kind (offset_warnings f target place offset)) where
  abbrev count : ℕ
  count = count_by (λ o. o == offset) f.offsets

  abbrev odd : List Warning
  odd = told (offset % 2 == 1) (offset_warning f untold.0 untold.1 offset OddOffset 0)

  abbrev twice : List Warning
  twice = told (nat_lt 1 count) (offset_warning f untold.0 untold.1 offset Twice 0)

  abbrev overlap : List Warning
  overlap = told_of (least (filter (is_close offset) f.offsets)) (offset_warning f untold.0 untold.1 offset Overlap)

  abbrev in_bss : List Warning
  in_bss = told f.is_bss (offset_warning f untold.0 untold.1 offset InBss 0)

  abbrev outside : List Warning
  outside = told (is_outside (get_or f.sizes untold.0 0) (long_at f.content offset)) (offset_warning f untold.0 untold.1 offset OutsideTarget 0)

  no_overlap : kind ≡ Overlap → least (filter (is_close offset) f.offsets) ≡ None
  no_overlap is = not_told_of kind (least (filter (is_close offset) f.offsets)) (offset_warning f untold.0 untold.1 offset Overlap) (λ n. sym is) (third_of kind odd twice overlap in_bss outside untold.2)

  no_twin : kind ≡ Twice → count_by (λ o. o == offset) f.offsets ≤ 1
  no_twin is = ltb-false 1 count (not_told kind (nat_lt 1 count) (offset_warning f untold.0 untold.1 offset Twice 0) (sym is) (second_of kind odd twice overlap in_bss outside untold.2))

-- ---- hunk by hunk

-- What is so of the offsets of each hunk without rows of this kind is so of all hunks.
module _ (kind : WarningKind) (P : List ℕ → Type 0) (empty : P []) (each : (sizes : List ℕ) (number place : ℕ) (h : HunkValue) → HasNone kind (blocks_warnings (facts_of sizes number h) place h.blocks) → P (offsets (relocations h))) where
  in_hunk : (sizes : List ℕ) (number place : ℕ) (v : LoadFileValue) (i : ℕ) → HasNone kind (hunks_warnings sizes number place v) → P (hunk_offsets v i)
  in_hunk sizes number place [] i none = empty
  in_hunk sizes number place (h ∷ v) zero none =
      each sizes number place h (All-left (λ w. w.kind ≢ kind) (blocks_warnings (facts_of sizes number h) place h.blocks) (hunks_warnings sizes (number + 1) (place + 4 * length (block_texts h.blocks)) v) none)
  in_hunk sizes number place (h ∷ v) (suc i) none =
      let next = place + 4 * length (block_texts h.blocks) in
      in_hunk sizes (number + 1) next v i (All-right (λ w. w.kind ≢ kind) (blocks_warnings (facts_of sizes number h) place h.blocks) (hunks_warnings sizes (number + 1) next v) none)

apart_of : (sizes : List ℕ) (number place : ℕ) (h : HunkValue) → HasNone Overlap (blocks_warnings (facts_of sizes number h) place h.blocks) → AreApart (offsets (relocations h))
apart_of sizes number place h none a b has_a has_b close =
    let f = facts_of sizes number h in
    none_passes (is_close a) f.offsets (no_overlap Overlap f a (untold_at Overlap f place h.blocks a none has_a) refl) b has_b (close_above a b close.0 close.1)

pub apart_without_overlap : (v : LoadFileValue) (i : ℕ) → HasNone Overlap (warnings v) → AreApart (hunk_offsets v i)
apart_without_overlap v i none =
    in_hunk Overlap AreApart (λ a b has. absurd (omega (arith, has.1))) apart_of (sizes_of v) 0 (4 * length (header_text v)) v i none

abbrev StandOnce : List ℕ → Type 0
StandOnce os = (o : ℕ) → Contains os o → count_by (λ x. x == o) os ≤ 1

once_of : (sizes : List ℕ) (number place : ℕ) (h : HunkValue) → HasNone Twice (blocks_warnings (facts_of sizes number h) place h.blocks) → StandOnce (offsets (relocations h))
once_of sizes number place h none o has =
    let f = facts_of sizes number h in
    no_twin Twice f o (untold_at Twice f place h.blocks o none has) refl

pub once_without_twice : (v : LoadFileValue) (i : ℕ) → HasNone Twice (warnings v) → (o : ℕ) → Contains (hunk_offsets v i) o → count_by (λ x. x == o) (hunk_offsets v i) ≤ 1
once_without_twice v i none =
    in_hunk Twice StandOnce (λ o has. absurd (omega (arith, has.1))) once_of (sizes_of v) 0 (4 * length (header_text v)) v i none
