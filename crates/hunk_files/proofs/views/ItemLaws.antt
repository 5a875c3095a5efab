-- The items that stand in bytes, one by one.
use Rattle.std.proofs.Common.{◌≡◌, ℕ, ◌+◌, ◌*◌, ◌<◌, ◌≤◌, true, false, List, [], ◌∷◌, ◌++◌, length, drop, refl, sym, ap, ap₂, subst, ◌∙◌, append_assoc, Some, None, arith}
use Rattle.std.specs.List.{flat_map}
use Rattle.hunk_words.specs.Longs.{longs}
use Rattle.hunk_blocks.specs.{Parts.block_text, Placed.Placed, Values.BlockValue}
use Rattle.hunk_files.specs.{Hunks.{HunkAt, IsRead, block_texts}, InPlace.GivesPart}
use Rattle.hunk_files.specs.Items.{ItemValue, UnitItem, HunkItem, BlockItem, ItemsAt, blocks_items, end_of_blocks, hunks_items, item_text, items_at, units_items}
use Rattle.hunk_files.specs.ObjectFile.{ObjectFileValue, ObjectHunk, UnitValue, unit_header}
use Rattle.hunk_files.specs.ObjectViews.{HunksAt, UnitsAt, hunk_at, hunks_at, unit_at, units_at}
use Rattle.hunk_files.specs.{UnitCuts.ends_unit, Units.UnitAt}
use Rattle.hunk_files.proofs.views.HunkBlocks.{some_text}
use Rattle.hunk_files.proofs.views.ObjectViewLaws.{HunkPassed, hunk_at_is, hunk_passed, hunks_at_are, next_hunk, no_hunk, no_hunk_in, unit_at_is}
use Rattle.hunk_files.proofs.views.PartsInTurn.{end_of, end_stays}
use Rattle.hunk_files.proofs.views.UnitViewLaws.{UnitPassed, hunks_are_here, next_unit, no_unit, unit_ends, unit_hunks, unit_passed}

-- the hunks that stand here, and the units after them
abbrev pub left_at : List ℕ → ℕ → ℕ → ℕ → ℕ → List ItemValue
left_at bytes unit units hunks at =
    let here = hunks_at bytes at in
    hunks_items unit hunks here.value ++ units_items units (units_at bytes (end_of block_texts here)).value

-- ---- Where a block of the open hunk is given

module _ (old new : Placed (List BlockValue)) (block : Placed BlockValue) (gives : GivesPart block_text old (Some block) new) where
  pub same_end : end_of_blocks old ≡ end_of_blocks new
  same_end = sym (end_stays block_text old new block gives)

  pub gives_block : (bytes : List ℕ) (unit hunk units hunks : ℕ) → GivesPart item_text (items_at bytes unit hunk units hunks old) (Some (record { place = block.place; value = BlockItem unit hunk block.value })) (items_at bytes unit hunk units hunks new)
  gives_block bytes unit hunk units hunks =
      (λ i. record { place = (gives.0 i).place; value = blocks_items unit hunk (gives.0 i).value ++ left_at bytes unit units hunks (same_end i) }, gives.1)

-- ---- Where no block of the open hunk is left

module _ (old new : Placed (List BlockValue)) (at : ℕ) (none : GivesPart block_text old None new) (here : at ≡ new.place) where
  pub open_ends : end_of_blocks old ≡ at
  open_ends = omega (arith, here, ap (λ (p : Placed _). p.place) none.1, ap (λ (bs : List BlockValue). length (block_texts bs)) none.0)

  pub none_open : (bytes : List ℕ) (unit hunk units hunks : ℕ) → items_at bytes unit hunk units hunks old ≡ record { place = at; value = left_at bytes unit units hunks at }
  none_open bytes unit hunk units hunks =
      let place : old.place ≡ at = ap (λ (p : Placed _). p.place) (sym none.1) ∙ sym here in
      λ i. record { place = place i; value = blocks_items unit hunk (none.0 i) ++ left_at bytes unit units hunks (open_ends i) }

module _ (bytes : List ℕ) (at units hunks : ℕ) (items : ItemsAt bytes units hunks at) where
  -- ---- a hunk begins

  module _ (goes_on : ends_unit (longs (drop at bytes)) ≡ false) where
    pub hunk_here : HunkAt bytes at
    hunk_here = next_hunk bytes at items.here goes_on

    passed : HunkPassed bytes at (end_of_blocks (hunk_at bytes at))
    passed = hunk_passed bytes at items.here goes_on (end_of_blocks (hunk_at bytes at)) (λ hunk. ap (λ (bs : ObjectHunk). at + 4 * length (block_texts bs)) (hunk_at_is bytes at hunk))

    units_stay : end_of block_texts (hunks_at bytes at) ≡ end_of block_texts (hunks_at bytes (end_of_blocks (hunk_at bytes at)))
    units_stay = sym (end_stays block_texts (hunks_at bytes at) (hunks_at bytes (end_of_blocks (hunk_at bytes at))) (hunk_at bytes at) passed.gives)

    hunk_left : ItemsAt bytes units (hunks + 1) (end_of_blocks (hunk_at bytes at))
    hunk_left =
        let end = end_of_blocks (hunk_at bytes at) in
        let units_from : ℕ → List ObjectHunk → ℕ = λ n hs. n + 4 * length (flat_map block_texts hs) in
        let seen = hunks_at_are bytes items.here.rest items.here.next at items.here.hunks items.here.stand in
        let left = passed.after in
        let then = hunks_at_are bytes left.rest left.next end left.hunks left.stand in
        let size = ap (λ (bs : ObjectHunk). length (block_texts bs)) (hunk_at_is bytes at hunk_here) in
        record {
          here = left;
          more = subst (UnitsAt bytes) (ap (units_from at) (sym seen) ∙ units_stay ∙ ap (units_from end) then) items.more;
          few_units = omega (arith, items.few_units);
          few_hunks = omega (arith, items.few_hunks, size, some_text hunk_here.blocks hunk_here.is);
        }

    gives_here : (unit : ℕ) → GivesPart item_text (record { place = at; value = left_at bytes unit units hunks at }) (Some (record { place = at; value = HunkItem unit hunks (hunk_at bytes at).value })) (items_at bytes unit hunks units (hunks + 1) (hunk_at bytes at))
    gives_here unit =
        let h = (hunk_at bytes at).value in
        let others = hunks_at bytes (end_of_blocks (hunk_at bytes at)) in
        let more : List ItemValue = units_items units (units_at bytes (end_of block_texts others)).value in (
          ap₂ (λ (hs : List ObjectHunk) (n : ℕ). record { place = at; value = hunks_items unit hunks hs ++ units_items units (units_at bytes n).value })
              (ap (λ (p : Placed (List ObjectHunk)). p.value) passed.gives.0) units_stay
              ∙ ap (λ (xs : List ItemValue). record { place = at; value = HunkItem unit hunks h ∷ xs }) (append_assoc (blocks_items unit hunks h) (hunks_items unit (hunks + 1) others.value) more),
          omega arith,
        )

    module _ (view blocks : Placed ObjectHunk) (seen : view ≡ hunk_at bytes at) (are : blocks ≡ view) where
      pub after_hunk : ItemsAt bytes units (hunks + 1) (end_of_blocks blocks)
      after_hunk = subst (λ (p : Placed ObjectHunk). ItemsAt bytes units (hunks + 1) (end_of_blocks p)) (sym (are ∙ seen)) hunk_left

      pub gives_hunk : (unit : ℕ) → GivesPart item_text (record { place = at; value = left_at bytes unit units hunks at }) (Some (record { place = view.place; value = HunkItem unit hunks view.value })) (items_at bytes unit hunks units (hunks + 1) blocks)
      gives_hunk unit =
          subst (λ (p : Placed ObjectHunk). GivesPart item_text (record { place = at; value = left_at bytes unit units hunks at }) (Some (record { place = view.place; value = HunkItem unit hunks view.value })) (items_at bytes unit hunks units (hunks + 1) p)) (sym are)
          (subst (λ (p : Placed ObjectHunk). GivesPart item_text (record { place = at; value = left_at bytes unit units hunks at }) (Some (record { place = p.place; value = HunkItem unit hunks p.value })) (items_at bytes unit hunks units (hunks + 1) p)) (sym seen) (gives_here unit))

  -- ---- the unit ends

  module _ (ends : ends_unit (longs (drop at bytes)) ≡ true) where
    units_here : UnitsAt bytes at
    units_here =
        let none = no_hunk_in bytes at items.here.rest items.here.next items.here.hunks items.here.stand ends in
        subst (UnitsAt bytes) (omega (arith, ap (λ (hs : List ObjectHunk). length (flat_map block_texts hs)) none)) items.more

    only_units : (unit : ℕ) → left_at bytes unit units hunks at ≡ units_items units (units_at bytes at).value
    only_units unit =
        let none = no_hunk bytes at items.here ends in
        let same : end_of block_texts (hunks_at bytes at) ≡ at = omega (arith, ap (λ (hs : List ObjectHunk). length (flat_map block_texts hs)) none) in
        ap₂ (λ (hs : List ObjectHunk) (n : ℕ). hunks_items unit hunks hs ++ units_items units (units_at bytes n).value) none same

    pub none_left : length bytes ≤ at → (unit : ℕ) → left_at bytes unit units hunks at ≡ []
    none_left all unit = only_units unit ∙ ap (units_items units) (no_unit bytes at units_here all)

    -- ---- a unit begins

    module _ (some : at < length bytes) where
      pub unit_here : UnitAt bytes at
      unit_here = next_unit bytes at units_here some

      module _ (name : List ℕ) (start : ℕ) (read : (here : UnitAt bytes at) → IsRead unit_header here.unit.name at name start) where
        hunks_of : HunksAt bytes start
        hunks_of = unit_hunks bytes at unit_here name start (read unit_here)

        passed_unit : UnitPassed bytes at (end_of block_texts (hunks_at bytes start))
        passed_unit =
            unit_passed bytes at units_here some (end_of block_texts (hunks_at bytes start))
            (λ unit. unit_ends bytes at unit name start (end_of block_texts (hunks_at bytes start)) (read unit) refl)

        pub after_header : ItemsAt bytes (units + 1) 0 start
        after_header =
            let are = hunks_at_are bytes hunks_of.rest hunks_of.next start hunks_of.hunks hunks_of.stand in
            record {
              here = hunks_of;
              more = subst (UnitsAt bytes) (ap (λ (hs : List ObjectHunk). start + 4 * length (flat_map block_texts hs)) are) passed_unit.after;
              few_units = omega (arith, items.few_units, (read unit_here).1);
              few_hunks = omega arith;
            }

        pub gives_unit : (unit hunk : ℕ) (blocks : Placed (List BlockValue)) (view : Placed UnitValue) → blocks ≡ record { place = start; value = [] } → view ≡ unit_at bytes at →
            GivesPart item_text (record { place = at; value = left_at bytes unit units hunks at }) (Some (record { place = view.place; value = UnitItem units view.value })) (items_at bytes units hunk (units + 1) 0 blocks)
        gives_unit unit hunk blocks view are seen =
            let u = (unit_at bytes at).value in
            let others = units_at bytes (end_of block_texts (hunks_at bytes start)) in
            let one = unit_at_is bytes at unit_here in
            let hunks_are : u.hunks ≡ (hunks_at bytes start).value = ap (λ (u : UnitValue). u.hunks) one ∙ sym (hunks_are_here bytes at unit_here name start (read unit_here)) in
            let new = none_open (record { place = start; value = [] }) (record { place = start; value = [] }) start (refl, refl) refl bytes units hunk (units + 1) 0 in
            let left : items_at bytes units hunk (units + 1) 0 blocks ≡ record { place = start; value = left_at bytes units (units + 1) 0 start } = ap (items_at bytes units hunk (units + 1) 0) are ∙ new in
            subst (λ (p : Placed UnitValue). GivesPart item_text (record { place = at; value = left_at bytes unit units hunks at }) (Some (record { place = p.place; value = UnitItem units p.value })) (items_at bytes units hunk (units + 1) 0 blocks)) (sym seen) (
              ap (λ (xs : List ItemValue). record { place = at; value = xs }) (only_units unit ∙ ap (λ (p : Placed ObjectFileValue). units_items units p.value) passed_unit.gives.0)
                  ∙ ap (λ (hs : List ObjectHunk). record { place = at; value = UnitItem units u ∷ (hunks_items units 0 hs ++ units_items (units + 1) others.value) }) hunks_are
                  ∙ ap (λ (p : Placed (List ItemValue)). record { place = at; value = UnitItem units u ∷ p.value }) (sym left),
              ap (λ (p : Placed (List BlockValue)). p.place) are ∙ (read unit_here).1 ∙ ap (λ (v : UnitValue). at + 4 * length (unit_header v.name)) (sym one),
            )
