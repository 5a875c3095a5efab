-- Where the items of a file begin.
use Rattle.std.proofs.Common.{◌≡◌, ℕ, ◌+◌, ◌*◌, ◌≤◌, List, [], ◌∷◌, ◌++◌, length, drop, refl, sym, ap, subst, ◌∙◌, append-nil, length-append, arith}
use Rattle.std.specs.Prelude.{⊤}
use Rattle.std.proofs.lemmas.List.{drop_all, length-drop}
use Rattle.std.specs.List.{AllByRecursion, flat_map}
use Rattle.hunk_words.specs.Longs.{bytes_of, longs}
use Rattle.hunk_words.proofs.LongLaws.{bytes_of-nil, length-bytes_of}
use Rattle.hunk_blocks.specs.Placed.{Placed}
use Rattle.hunk_files.specs.{Hunks.block_texts, InPlace.{AreLoadFile, StandAt}, Tables.header_text, UnitCuts.ends_unit}
use Rattle.hunk_files.specs.Items.{ItemValue, ItemsAt, ItemsStand, hunks_items, item_text, items_at, load_items, object_items, units_items}
use Rattle.hunk_files.specs.ObjectFile.{AreObjectFile, IsObjectHunk, ObjectFileValue}
use Rattle.hunk_files.specs.ObjectViews.{UnitsAt, units_at}
use Rattle.hunk_files.proofs.{views.FileItems.{hunks_own, units_own}, views.ItemLaws.none_open, strip.LoadRanges.{blocks_of, hunks_stand}}
use Rattle.hunk_files.proofs.{views.ObjectViewLaws.hunks_at_are, cuts.UnitCutLaws.units_end, views.UnitViewLaws.{units_at_are, units_at_start}}

-- They are the hunks that stand there, and the units after these.
pub first_items : (bytes : List ℕ) (at : ℕ) (items : ItemsAt bytes 0 0 at) →
    items_at bytes 0 0 0 0 (record { place = at; value = [] }) ≡ record { place = at; value = hunks_items 0 0 items.here.hunks ++ units_items 0 items.more.units }
first_items bytes at items =
    let none : Placed (List _) = record { place = at; value = [] } in
    let here = items.here in
    let seen = hunks_at_are bytes here.rest here.next at here.hunks here.stand in
    none_open none none at (refl, refl) refl bytes 0 0 0 0
    ∙ (λ i. record { place = at; value = hunks_items 0 0 (seen i) ++ units_items 0 (units_at bytes (at + 4 * length (flat_map block_texts (seen i)))).value })
    ∙ ap (λ (us : ObjectFileValue). record { place = at; value = hunks_items 0 0 here.hunks ++ units_items 0 us }) (units_at_are bytes (at + 4 * length (flat_map block_texts here.hunks)) items.more.units items.more.stand)

any : {A : Type 0} (xs : List A) → AllByRecursion (λ x. ⊤) xs
any [] = tt
any (x ∷ xs) = (tt, any xs)

stand_alone : (bytes : List ℕ) (at : ℕ) (items : List ItemValue) (words : List ℕ) → at ≤ length bytes → drop at bytes ≡ bytes_of words ++ [] → flat_map item_text items ≡ words → StandAt (λ item. ⊤) item_text bytes at items []
stand_alone bytes at items words inside e own = record { each = any items; inside = inside; text_is = e ∙ ap (λ (ws : List ℕ). bytes_of ws ++ []) (sym own) }

-- ---- object files

module _ (bytes : List ℕ) (file : AreObjectFile bytes) where
  pub object_start : ItemsAt bytes 0 0 0
  object_start =
      record {
        here =
            record {
              hunks = [];
              rest = bytes;
              stand = record { each = tt; inside = omega arith; text_is = ap (λ (l : List ℕ). l ++ bytes) (sym bytes_of-nil) };
              next = ap (λ (l : List ℕ). ends_unit (longs l)) (file.text_is ∙ sym (append-nil _)) ∙ units_end file.value file.is_object_file.units;
            };
        more = units_at_start bytes file;
        few_units = omega arith;
        few_hunks = omega arith;
      }

  pub object_items_are : items_at bytes 0 0 0 0 (record { place = 0; value = [] }) ≡ object_items file.value
  unfolding object_start units_at_start
  object_items_are = first_items bytes 0 object_start

  pub object_items_stand : ItemsStand bytes (object_items file.value)
  object_items_stand = stand_alone bytes 0 (units_items 0 file.value) _ (omega arith) (file.text_is ∙ sym (append-nil _)) (units_own file.value)

-- ---- load files

module _ (bytes : List ℕ) (whole : AreLoadFile bytes) where
  abbrev at : ℕ
  at = 4 * length (header_text whole.file.value)

  stand : StandAt IsObjectHunk block_texts bytes at (blocks_of whole.file.value) []
  stand = subst (λ (rest : List ℕ). StandAt IsObjectHunk block_texts bytes at (blocks_of whole.file.value) rest) whole.ends (hunks_stand bytes whole.file)

  none_after : UnitsAt bytes (at + 4 * length (flat_map block_texts (blocks_of whole.file.value)))
  none_after =
      let words = flat_map block_texts (blocks_of whole.file.value) in
      let end : at + 4 * length words ≡ length bytes = omega (arith, ap length stand.text_is, length-drop at bytes, length-append (bytes_of words) [], length-bytes_of words, stand.inside) in
      record {
        units = [];
        stand =
            record {
              each = tt;
              inside = omega (arith, end);
              text_is = drop_all (at + 4 * length words) bytes (omega (arith, end)) ∙ ap (λ (l : List ℕ). l ++ []) (sym bytes_of-nil);
            };
      }

  pub load_start : ItemsAt bytes 0 0 at
  load_start =
      record { here = record { hunks = blocks_of whole.file.value; rest = []; stand = stand; next = refl }; more = none_after; few_units = omega arith; few_hunks = omega arith }

  pub load_items_are : items_at bytes 0 0 0 0 (record { place = at; value = [] }) ≡ load_items whole.file.value
  unfolding load_start none_after
  load_items_are = first_items bytes at load_start ∙ ap (λ (xs : List ItemValue). record { place = at; value = xs }) (append-nil (hunks_items 0 0 (blocks_of whole.file.value)))

  pub load_items_stand : ItemsStand bytes (load_items whole.file.value)
  load_items_stand = stand_alone bytes at (hunks_items 0 0 (blocks_of whole.file.value)) _ stand.inside stand.text_is (hunks_own 0 0 (blocks_of whole.file.value))
