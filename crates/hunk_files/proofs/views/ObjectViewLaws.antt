-- The units and hunks that stand in bytes are those that their longwords spell.
use Rattle.std.proofs.Common.{◌≡◌, ℕ, ◌+◌, ◌-◌, ◌*◌, Bool, true, false, List, [], ◌∷◌, ◌++◌, length, take, drop, refl, sym, ap, ap₂, ◌∙◌, Some}
use Rattle.std.proofs.lemmas.List.{take_rest}
use Rattle.std.specs.List.{flat_map}
use Rattle.hunk_words.specs.Longs.{longs, bytes_of}
use Rattle.hunk_words.proofs.LongLaws.{bytes_of-nil, longs-bytes_of}
use Rattle.hunk_blocks.specs.{Cuts.Cut}
use Rattle.hunk_files.specs.{Cuts.hunk_cut, Hunks.{HunkAt, block_texts}}
use Rattle.hunk_files.specs.ObjectFile.{ObjectHunk, UnitValue, IsObjectHunk, unit_text}
use Rattle.hunk_files.specs.ObjectViews.{HunksAt, hunk_at, hunks_at, unit_at}
use Rattle.hunk_files.specs.UnitCuts.{ends_unit, hunks_cut, unit_cut}
use Rattle.hunk_files.specs.{InPlace.{GivesPart, StandAt}, Units.UnitAt}
use Rattle.hunk_files.proofs.views.PlaceLaws.{stand_after, stand_first}
use Rattle.hunk_files.proofs.cuts.UnitCutLaws.{hunk_goes_on, hunk_is, hunks_are, unit_is}
use Rattle.hunk_files.proofs.cuts.UnitReading.{hunk_longs, hunks_longs, unit_longs}

-- Where a hunk stands, no unit ends.
hunk_no_end : (bytes rest : List ℕ) (h : ObjectHunk) → IsObjectHunk h → bytes ≡ bytes_of (block_texts h) ++ rest → ends_unit (longs bytes) ≡ true → ⊥
hunk_no_end bytes rest h is e ends =
    let words : longs bytes ≡ block_texts h ++ longs rest = ap longs e ∙ longs-bytes_of (block_texts h) rest (hunk_longs h is.blocks) in
    let no : ends_unit (longs bytes) ≡ false = ap ends_unit words ∙ hunk_goes_on h (longs rest) is in
    cc

-- What stands at a byte is what its longwords spell.
pub hunk_at_is : (bytes : List ℕ) (start : ℕ) (here : HunkAt bytes start) → (hunk_at bytes start).value ≡ here.blocks
hunk_at_is bytes start here =
    ap (λ (c : Cut ObjectHunk). c.value)
    (ap hunk_cut (ap longs here.text ∙ longs-bytes_of (block_texts here.blocks) here.rest (hunk_longs here.blocks here.is.blocks)) ∙ hunk_is here.blocks (longs here.rest) here.is)

pub unit_at_is : (bytes : List ℕ) (start : ℕ) (here : UnitAt bytes start) → (unit_at bytes start).value ≡ here.unit
unit_at_is bytes start here =
    ap (λ (c : Cut UnitValue). c.value)
    (ap unit_cut (ap longs here.text ∙ longs-bytes_of (unit_text here.unit) here.rest (unit_longs here.unit here.is)) ∙ unit_is here.unit (longs here.rest) here.is here.next)

-- ---- the hunks of a unit

pub hunks_at_are : (bytes : List ℕ) (rest : List ℕ) → ends_unit (longs rest) ≡ true → (start : ℕ) (hs : List ObjectHunk) → StandAt IsObjectHunk block_texts bytes start hs rest → (hunks_at bytes start).value ≡ hs
hunks_at_are bytes rest next start hs stand =
    ap (λ (c : Cut (List ObjectHunk)). c.value)
    (ap hunks_cut (ap longs stand.text_is ∙ longs-bytes_of (flat_map block_texts hs) rest (hunks_longs hs stand.each)) ∙ hunks_are hs (longs rest) stand.each next)

-- A hunk is given that stands here, and hunks stand after it.
pub record HunkPassed (bytes : List ℕ) (start end : ℕ) : Type 0 where
  pub after : HunksAt bytes end
  pub gives : GivesPart block_texts (hunks_at bytes start) (Some (hunk_at bytes start)) (hunks_at bytes end)

module _ (bytes : List ℕ) (start : ℕ) (rest : List ℕ) (next : ends_unit (longs rest) ≡ true) where
  pub some_hunk : StandAt IsObjectHunk block_texts bytes start [] rest →
      ends_unit (longs (drop start bytes)) ≡ false → ⊥
  some_hunk s goes_on =
      let same = ap (λ (l : List ℕ). ends_unit (longs l)) (s.text_is ∙ ap (λ (l : List ℕ). l ++ rest) bytes_of-nil) in
      cc

  pub no_hunk_in : (hs : List ObjectHunk) → StandAt IsObjectHunk block_texts bytes start hs rest → ends_unit (longs (drop start bytes)) ≡ true → hs ≡ []
  no_hunk_in [] s ends = refl
  no_hunk_in (h ∷ hs) s ends = absurd (hunk_no_end (drop start bytes) (bytes_of (flat_map block_texts hs) ++ rest) h s.each.0 (stand_first s) ends)

  pub next_hunk_in : (hs : List ObjectHunk) → StandAt IsObjectHunk block_texts bytes start hs rest → ends_unit (longs (drop start bytes)) ≡ false → HunkAt bytes start
  next_hunk_in [] s goes_on = absurd (some_hunk s goes_on)
  next_hunk_in (h ∷ hs) s goes_on = record { blocks = h; is = s.each.0; rest = bytes_of (flat_map block_texts hs) ++ rest; text = stand_first s }

  hunk_passed_in : (hs : List ObjectHunk) → StandAt IsObjectHunk block_texts bytes start hs rest → ends_unit (longs (drop start bytes)) ≡ false → (end : ℕ) → ((hunk : HunkAt bytes start) → end ≡ start + 4 * length (block_texts hunk.blocks)) → HunkPassed bytes start end
  hunk_passed_in [] s goes_on end e = absurd (some_hunk s goes_on)
  hunk_passed_in (h ∷ hs) s goes_on end e =
      let one : HunkAt bytes start = record { blocks = h; is = s.each.0; rest = bytes_of (flat_map block_texts hs) ++ rest; text = stand_first s } in
      let is : h ≡ (hunk_at bytes start).value = sym (hunk_at_is bytes start one) in
      let left = stand_after s end (e one) in
      let size : end ≡ start + 4 * length (block_texts (hunk_at bytes start).value) = e one ∙ ap (λ (bs : ObjectHunk). start + 4 * length (block_texts bs)) is in
      record {
        after = record { hunks = hs; rest = rest; stand = left; next = next };
        gives = (
          ap (λ (xs : List ObjectHunk). record { place = start; value = xs })
              (hunks_at_are bytes rest next start (h ∷ hs) s ∙ ap₂ (λ (x : ObjectHunk) (xs : List ObjectHunk). x ∷ xs) is (sym (hunks_at_are bytes rest next end hs left))),
          size,
        );
      }

module _ (bytes : List ℕ) (start : ℕ) (here : HunksAt bytes start) where
  pub no_hunk : ends_unit (longs (drop start bytes)) ≡ true → (hunks_at bytes start).value ≡ []
  no_hunk ends = hunks_at_are bytes here.rest here.next start here.hunks here.stand ∙ (no_hunk_in bytes start here.rest here.next here.hunks here.stand ends)

  pub next_hunk : ends_unit (longs (drop start bytes)) ≡ false → HunkAt bytes start
  next_hunk = next_hunk_in bytes start here.rest here.next here.hunks here.stand

  pub hunk_passed : ends_unit (longs (drop start bytes)) ≡ false → (end : ℕ) → ((hunk : HunkAt bytes start) → end ≡ start + 4 * length (block_texts hunk.blocks)) → HunkPassed bytes start end
  hunk_passed = hunk_passed_in bytes start here.rest here.next here.hunks here.stand

-- A unit ends where the test says so.
pub tested : (bytes : List ℕ) (at : ℕ) (ends : Bool) →
    ends ≡ ends_unit (longs (take (length bytes - at) (drop at bytes))) →
    {is : Bool} → ends ≡ is → ends_unit (longs (drop at bytes)) ≡ is
tested bytes at ends is test = ap (λ (l : List ℕ). ends_unit (longs l)) (sym (take_rest bytes at)) ∙ sym is ∙ test
