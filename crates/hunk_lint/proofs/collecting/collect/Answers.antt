use Rattle.std.proofs.Common.{◌≡◌, true, false, ◌∙◌, List, [], ◌∷◌, length, ap, sym, arith, length-append}
use Rattle.hunk_grammar.specs.Standings.{is_ending}
use Rattle.hunk_blocks.specs.{BodyViews.viewed, Parts.block_text, Values.{BlockBody, BlockValue}}
use Rattle.hunk_files.specs.{Hunks.block_texts, LoadFile.standing}
use Rattle.hunk_lint.specs.NextHunk.{first_blocks}
use Rattle.hunk_lint.proofs.Collected.{block_collected, bss_collected, content_collected, count_collected, offsets_collected}
use Rattle.hunk_lint.proofs.OpenHunk.{is_end, no_more_items, none_left, some_left, still_open}
use Rattle.hunk_lint.proofs.collecting.collect.Goals as goal

pub next_block-requires : goal.next_block-requires
next_block-requires c = some_left (first_blocks c.collecting.items.value) c.collecting.invariant.open_still

pub collecting-preserved : goal.collecting-preserved
collecting-preserved c =
    let keeps = c.collecting.invariant in
    let body = c.into_body-body in
    let block = c.collect_block in
    let b = c.next_block.result.value in
    let old = first_blocks c.collecting.items.value in
    let new = first_blocks c.next_block.new.items.value in
    let first : old ≡ b ∷ new = c.next_block.ensures.first in
    let goes_on : is_ending (standing b.body) ≡ false = sym (ap (λ (x : BlockBody). is_ending (standing x)) body.ensures.value) ∙ sym c.is_end.ensures ∙ c.if-is_end.false in
    record {
      left = block_collected keeps.left b new first (viewed body.result) _ _ _ _ body.ensures.value block.ensures.content block.ensures.bss block.ensures.count block.ensures.offsets;
      open_still = still_open old new b first keeps.open_still goes_on;
      after = c.next_block.ensures.after ∙ keeps.after;
      place = omega (arith, c.next_block.ensures.place, keeps.place, ap (λ (bs : List BlockValue). length (block_texts bs)) first, length-append (block_text b) (block_texts new));
    }

pub returns-then-is_end : goal.returns-then-is_end
returns-then-is_end c =
    let keeps = c.collecting.invariant in
    let body = c.into_body-body in
    let b = c.next_block.result.value in
    let old = first_blocks c.collecting.items.value in
    let new = c.next_block.new.items.value in
    let first : old ≡ b ∷ first_blocks new = c.next_block.ensures.first in
    let ends : is_ending (standing b.body) ≡ true = sym (ap (λ (x : BlockBody). is_ending (standing x)) body.ensures.value) ∙ sym c.is_end.ensures ∙ c.if-is_end.true in
    let none : first_blocks new ≡ [] = none_left old (first_blocks new) b first keeps.open_still ends in
    let last : old ≡ b ∷ [] = first ∙ ap (λ (bs : List BlockValue). b ∷ bs) none in
    let end = is_end b.body ends in
    record {
      content = content_collected keeps.left b last end;
      bss = bss_collected keeps.left b last end;
      inside = omega (arith, count_collected keeps.left b last end, c.requires.room, c.collecting.auto.room);
      offsets = offsets_collected keeps.left b last end;
      after = sym (no_more_items new none) ∙ c.next_block.ensures.after ∙ keeps.after;
      place = omega (arith, c.next_block.ensures.place, keeps.place, ap (λ (bs : List BlockValue). length (block_texts bs)) last, length-append (block_text b) []);
    }
