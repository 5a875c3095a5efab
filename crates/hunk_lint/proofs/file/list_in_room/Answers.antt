use Rattle.std.proofs.Common.{ℕ, ◌*◌, List, [], length, map, sym, ap, subst, ◌∙◌, arith}
use Rattle.std.proofs.lemmas.List.{length-map}
use Rattle.hunk_words.specs.Bits.{size_longs}
use Rattle.hunk_blocks.specs.Placed.{Placed}
use Rattle.hunk_files.specs.{Items.ItemValue, LoadFile.{IsHunk, TableEntry}}
use Rattle.hunk_lint.specs.{Facts.facts_of, NextHunk.{after_blocks, first_blocks}}
use Rattle.hunk_lint.specs.Warnings.{blocks_warnings, hunks_warnings, sizes_of}
use Rattle.hunk_lint.proofs.HunksLeft.{begins, fits, gives, hunk, is_hunk, number_fits, one_less, opened}
use Rattle.hunk_lint.proofs.InTurn.{hunk_listed}
use Rattle.hunk_lint.proofs.RoomLaws.{each_within, sizes_are}
use Rattle.hunk_lint.proofs.file.list_in_room.Goals as goal

pub listing-init : goal.listing-init
listing-init g c =
    let v = c.args.file.now in
    let room = length c.split_at_mut-sizes.result.1.now in
    record {
      sizes = c.put_sizes.ensures ∙ ap (map (λ (e : TableEntry). 4 * size_longs e.word)) c.table.ensures.value ∙ sizes_are v;
      hunks = record {
        left = v;
        entries_are = c.into_iter-size-iterator.ensures.into_iter_gives ∙ c.table-size-items.ensures.value;
        items_are = ap (λ (p : Placed (List ItemValue)). p.value) c.items-items.ensures;
        number_is = omega arith;
        each = c.table.ensures.file.each;
        room_is = each_within room v (omega (arith, c.requires, c.hunks.ensures.value, c.split_at_mut-sizes.ensures.back_len));
      };
      listed = ([], g.met.T.Takes.none c.args.taker.now, ap (λ (p : Placed (List ItemValue)). hunks_warnings (sizes_of v) 0 p.place v) c.items-items.ensures);
    }

pub open_hunk-blocks-requires : goal.open_hunk-blocks-requires
open_hunk-blocks-requires g c = begins c.listing.invariant.hunks c.in-Some.size c.next.new.self c.in-Some.ensures.steps

pub list_hunk-requires : goal.list_hunk-requires
list_hunk-requires g c =
    let hunks = c.listing.invariant.hunks in
    let size = c.in-Some.size in
    let new = c.next.new.self in
    let steps = c.in-Some.ensures.steps in
    let blocks = c.open_hunk-blocks in
    record {
      hunk = subst (λ (sizes : List ℕ). IsHunk (length sizes) (hunk hunks size new steps blocks.result blocks.ensures.value)) (sym c.listing.invariant.sizes)
          (subst (λ (n : ℕ). IsHunk n (hunk hunks size new steps blocks.result blocks.ensures.value)) (sym (length-map {B = ℕ} c.args.file.now _)) (is_hunk hunks size new steps blocks.result blocks.ensures.value));
      opened = ap first_blocks blocks.ensures.items ∙ opened hunks size new steps blocks.result blocks.ensures.value;
      room = fits hunks size new steps blocks.result blocks.ensures.value;
      number = omega (arith, number_fits hunks size new steps, c.table.ensures.file.most);
    }

pub listing-preserved : goal.listing-preserved
listing-preserved g c =
    let keeps = c.listing.invariant in
    let size = c.in-Some.size in
    let new = c.next.new.self in
    let steps = c.in-Some.ensures.steps in
    let blocks = c.open_hunk-blocks in
    let after = c.list_hunk.new.items in
    let here = hunk keeps.hunks size new steps blocks.result blocks.ensures.value in
    let on = one_less keeps.hunks size new steps after.value _ (c.list_hunk.ensures.items ∙ ap after_blocks blocks.ensures.items) c.list_hunk.auto.offsets in
    record {
      sizes = keeps.sizes;
      hunks = on;
      listed =
          hunk_listed g.T.Takes.takes g.met.T.Takes.more _ _ _ _ (sizes_of c.args.file.now) c.listing.number (record { place = c.listing.items.place; value = keeps.hunks.left }) (record { place = after.place; value = on.left })
          (record { place = blocks.result.place; value = here })
          (gives keeps.hunks size new steps blocks.result blocks.ensures.value c.listing.items.place after.place blocks.ensures.place (omega (arith, c.list_hunk.ensures.place, blocks.ensures.stays)))
          keeps.listed
          (subst (λ (sizes : List ℕ). g.T.Takes.takes c.listing.taker (blocks_warnings (facts_of sizes c.listing.number here) blocks.result.place blocks.result.value) c.list_hunk.new.taker) keeps.sizes c.list_hunk.ensures.taken);
    }
