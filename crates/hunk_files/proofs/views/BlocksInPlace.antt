-- The blocks of a hunk, read where they lie.
use Rattle.std.proofs.Common.{◌≡◌, ℕ, Bool, true, false, ◌+◌, ◌*◌, ◌<◌, ◌≤◌, List, [], ◌∷◌, ◌++◌, length, take, drop, refl, sym, ap, ap₂, subst, ◌∙◌, arith, inl, inr, Some}
use Rattle.std.specs.{List.AllByRecursion, Prelude.◌⊎◌}
use Rattle.std.proofs.lemmas.List.{drop_all, length-drop, length-take-le}
use Rattle.hunk_words.specs.Longs.{longs, bytes_of, AreLongs, IsLong}
use Rattle.hunk_words.proofs.LongLaws.{length-bytes_of, longs-bytes_of}
use Rattle.hunk_blocks.specs.{Values.{BlockValue, IsBlock}, Parts.block_text, Placed.Placed}
use Rattle.hunk_blocks.specs.{Begins.{BeginsWithSomeBlock, IsFrontBlock}, Cuts.Cut}
use Rattle.hunk_blocks.proofs.{BlockLongs.block_longs, Lists.All-append}
use Rattle.hunk_grammar.specs.Standings.{is_ending}
use Rattle.hunk_files.specs.{LoadFile.{AreInOrder, standing}, Hunks.{BlockAt, HunkAt, IsRead, block_texts}}
use Rattle.hunk_files.specs.{Cuts.{blocks_cut, hunk_cut}, InPlace.{BeginsWithBlocks, GivesPart, blocks_in}}
use Rattle.hunk_files.proofs.{cuts.BlockCuts.hunk_cut_is, walk.FileText.standings}
use Rattle.hunk_files.proofs.views.HunkBlocks.{block_inside, block_read, some_block}
use Rattle.hunk_files.proofs.views.PlaceLaws.{First, first_of, stand_after, stand_first, text_inside}
use Rattle.hunk_files.proofs.cuts.OneReading.{order_left, order_stops}

pub texts_longs : (bs : List BlockValue) → AllByRecursion IsBlock bs → AreLongs (block_texts bs)
texts_longs [] is = tt
texts_longs (b ∷ bs) is = All-append IsLong (block_text b) (block_texts bs) (block_longs b is.0) (texts_longs bs is.1)

-- They are those that the bytes spell.
pub blocks_in_is : {bytes : List ℕ} (b : BeginsWithBlocks bytes) → blocks_in bytes ≡ b.blocks
blocks_in_is {bytes} b =
    let words : longs bytes ≡ block_texts b.blocks ++ longs b.more = ap longs b.begins ∙ longs-bytes_of (block_texts b.blocks) b.more (texts_longs b.blocks b.are.each) in
    ap (λ (ws : List ℕ). (hunk_cut ws).value) words ∙ ap (λ (c : Cut (List BlockValue)). c.value) (hunk_cut_is b.are.has_content b.blocks (longs b.more) b.are.each b.are.order)

-- none in no bytes
pub blocks_in-nil : blocks_in [] ≡ []
unfolding blocks_cut
blocks_in-nil = refl

-- ---- the hunk that stands at a byte

abbrev pub hunk_begins : {bytes : List ℕ} {start : ℕ} → HunkAt bytes start → BeginsWithBlocks (drop start bytes)
hunk_begins hunk = record { blocks = hunk.blocks; are = record { each = hunk.is.blocks; has_content = false; order = hunk.is.order }; more = hunk.rest; begins = hunk.text }

pub hunk_value : {bytes : List ℕ} {start : ℕ} (hunk : HunkAt bytes start) → blocks_in (drop start bytes) ≡ hunk.blocks
hunk_value hunk = blocks_in_is (hunk_begins hunk)

-- ---- the first block, and those after it

pub some_words : (has_content : Bool) (bs : List BlockValue) → AreInOrder has_content (standings bs) → 1 ≤ length (block_texts bs)
some_words has_content [] order = absurd order
some_words has_content (x ∷ bs) order = omega arith

module _ (bytes : List ℕ) (at : ℕ) (b : BeginsWithBlocks (drop at bytes)) where
  next : First IsBlock block_text bytes at b.blocks b.more
  next =
      first_of b.blocks
      (record {
        each = b.are.each;
        inside = omega (arith, text_inside bytes at (block_texts b.blocks) b.more b.begins (some_words b.are.has_content b.blocks b.are.order));
        text_is = b.begins;
      })
      (λ none. subst (λ (bs : List BlockValue). AreInOrder b.are.has_content (standings bs)) none b.are.order)

  pub first_here : BlockAt bytes at
  first_here = record { block = next.item; is = next.stand.each.0; rest = bytes_of (block_texts next.later) ++ b.more; text = stand_first next.stand }

  pub first_begins : BeginsWithSomeBlock (drop at bytes)
  first_begins = some_block bytes at first_here

  module _ (x : BlockValue) (n : ℕ) (front : IsFrontBlock (drop at bytes) x n) where
    read : IsRead block_text first_here.block at x (at + n)
    read = block_read bytes at first_here x n front

    pub first_inside : at + n ≤ length bytes
    first_inside = omega (arith, read.1, block_inside bytes at first_here)

    left : AreInOrder b.are.has_content (standings (next.item ∷ next.later))
    left = subst (λ (bs : List BlockValue). AreInOrder b.are.has_content (standings bs)) next.is b.are.order

    -- More blocks follow one that is not END.
    pub more_begin : is_ending (standing x.body) ≡ false → BeginsWithBlocks (drop (at + n) bytes)
    unfolding first_here
    more_begin goes_on =
        let on = order_left b.are.has_content (standing next.item.body) (standings next.later) left (ap (λ (y : BlockValue). is_ending (standing y.body)) (sym read.0) ∙ goes_on) in
        record {
          blocks = next.later;
          are = record { each = next.stand.each.1; has_content = on.0; order = on.1 };
          more = b.more;
          begins = (stand_after next.stand (at + n) read.1).text_is;
        }

    pub more_come : is_ending (standing x.body) ≡ false → blocks_in (drop at bytes) ≡ x ∷ blocks_in (drop (at + n) bytes)
    unfolding first_here more_begin
    more_come goes_on = blocks_in_is b ∙ next.is ∙ ap₂ (λ (y : BlockValue) (ys : List BlockValue). y ∷ ys) (sym read.0) (sym (blocks_in_is (more_begin goes_on)))

    -- END is the last.
    pub none_come : is_ending (standing x.body) ≡ true → blocks_in (drop at bytes) ≡ x ∷ []
    unfolding first_here
    none_come ends =
        blocks_in_is b ∙ next.is
        ∙ ap₂ (λ (y : BlockValue) (ys : List BlockValue). y ∷ ys) (sym read.0)
        (order_stops b.are.has_content (standing next.item.body) next.later left (ap (λ (y : BlockValue). is_ending (standing y.body)) (sym read.0) ∙ ends))

-- ---- as the iterator sees them

abbrev pub seen : List ℕ → ℕ → Placed (List BlockValue)
seen bytes at = record { place = at; value = blocks_in (drop at bytes) }

pub none_seen : (bytes : List ℕ) (at : ℕ) → length bytes ≤ at → blocks_in (drop at bytes) ≡ []
none_seen bytes at all = ap blocks_in (drop_all at bytes all) ∙ blocks_in-nil

pub some_seen : (bytes : List ℕ) (at : ℕ) → (drop at bytes ≡ []) ⊎ BeginsWithBlocks (drop at bytes) → at < length bytes → BeginsWithBlocks (drop at bytes)
some_seen bytes at (inl none) some = absurd (omega (arith, some, ap length none, length-drop at bytes))
some_seen bytes at (inr b) some = b

module _ (bytes : List ℕ) (at : ℕ) (b : BeginsWithBlocks (drop at bytes)) (x : Placed BlockValue) (placed : x.place ≡ at) (n : ℕ) (front : IsFrontBlock (drop at bytes) x.value n) where
  after : at + n ≡ x.place + 4 * length (block_text x.value)
  after = omega (arith, placed, ap length front.text, length-take-le n (drop at bytes) front.whole, length-bytes_of (block_text x.value))

  -- Once END was given, none is left.
  pub gives_last : is_ending (standing x.value.body) ≡ true → GivesPart block_text (seen bytes at) (Some x) (seen (take (at + n) bytes) (at + n))
  gives_last ends =
      let none = none_seen (take (at + n) bytes) (at + n) (omega (arith, length-take-le (at + n) bytes (first_inside bytes at b x.value n front))) in
      let first : blocks_in (drop at bytes) ≡ x.value ∷ blocks_in (drop (at + n) (take (at + n) bytes)) = none_come bytes at b x.value n front ends ∙ ap (λ (l : List BlockValue). x.value ∷ l) (sym none) in
      ((λ i. record { place = sym placed i; value = first i }), after)

  pub gives_next : is_ending (standing x.value.body) ≡ false → GivesPart block_text (seen bytes at) (Some x) (seen bytes (at + n))
  gives_next goes_on = let first = more_come bytes at b x.value n front goes_on in ((λ i. record { place = sym placed i; value = first i }), after)
