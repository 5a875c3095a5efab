use Rattle.std.proofs.Common.{◌≡◌, ℕ, ◌+◌, ◌-◌, ◌≤◌, List, ◌++◌, length, take, drop, sym, ◌∙◌, arith}
use Rattle.std.proofs.lemmas.{List.{length-drop, length-take}, Slice.drop-put_mid}
use Rattle.hunk_wide.specs.Parts.{put_before}
use Rattle.hunk_wide.proofs.{ManyEnds.{block_gives, block_leads, with_end, without_end}, Written.{part_length, put_behind, same_behind}}
use Rattle.hunk_wide.proofs.units.copy_blocks.Goals.{else-spelled, then-spelled}
use Rattle.hunk_wide.proofs.units.copy_blocks.Goals as goal

pub blocks-2-preserved : goal.blocks-2-preserved
blocks-2-preserved c =
    let block = c.in-Some.ensures.some in
    let piece : List ℕ = c.args.piece.now in
    let at : ℕ = c.blocks-2.at in
    let from : ℕ = c.if-spelled.from in
    let out : List ℕ = take c.blocks-2.given c.blocks-2.buf ++ take (at - c.blocks-2.from) (drop c.blocks-2.from piece) in
    let room : c.blocks-2.given + (at - c.blocks-2.from) + 4 ≤ length c.blocks-2.buf =
    omega (arith, c.blocks-2.invariant.room, c.blocks-2.invariant.fits, block.word, block.whole, part_length at piece) in
    let behind : from ≤ at = elim c.if-spelled.branch [ then-spelled w ↦ omega (arith, w.from-is) | else-spelled w ↦ omega (arith, w.from-is, c.blocks-2.invariant.behind) ] in
    let few : c.if-spelled.given + (at - from) ≤ c.blocks-2.given + (at - c.blocks-2.from) + 4 =
    elim c.if-spelled.branch [
      | then-spelled w ↦ omega (arith, w.from-is, w.given-is, w.copy_and_end-given.ensures.number, length-take (at - c.blocks-2.from) (drop c.blocks-2.from piece))
      | else-spelled w ↦ omega (arith, w.from-is, w.given-is)
    ] in
    let copied : take c.if-spelled.given c.if-spelled.buf ++ take (at - from) (drop from piece) ≡ out ++ put_before c.in-Some.spelled.is_behind =
    elim c.if-spelled.branch [
      | then-spelled w ↦
          with_end piece c.blocks-2.buf w.copy_and_end-given.new.buf _ at c.blocks-2.from c.blocks-2.given w.copy_and_end-given.result _ _ _ w.if-spelled.true w.from-is w.given-is w.buf-is (omega (arith, room))
          (omega (arith, room, w.copy_and_end-given.ensures.number, length-take (at - c.blocks-2.from) (drop c.blocks-2.from piece), w.copy_and_end-given.auto.buf, part_length c.blocks-2.given c.blocks-2.buf))
          w.copy_and_end-given.ensures.bytes
      | else-spelled w ↦ without_end piece c.blocks-2.buf _ at c.blocks-2.from c.blocks-2.given _ _ _ w.if-spelled.false w.from-is w.given-is w.buf-is
    ] in
    let rest : drop c.if-spelled.given c.if-spelled.buf ≡ drop c.if-spelled.given c.args.buf.now =
    elim c.if-spelled.branch [
      | then-spelled w ↦
          (λ j. drop (w.given-is j) (w.buf-is j))
          ∙ put_behind c.blocks-2.given w.copy_and_end-given.result c.blocks-2.buf w.copy_and_end-given.new.buf c.args.buf.now (omega (arith, room))
          (w.copy_and_end-given.auto.buf ∙ part_length c.blocks-2.given c.blocks-2.buf) w.copy_and_end-given.ensures.rest c.blocks-2.invariant.rest
          ∙ sym (λ j. drop (w.given-is j) c.args.buf.now)
      | else-spelled w ↦ (λ j. drop (w.given-is j) (w.buf-is j)) ∙ c.blocks-2.invariant.rest ∙ sym (λ j. drop (w.given-is j) c.args.buf.now)
    ] in
    record {
      inside = omega (arith, block.whole, part_length at piece);
      behind = omega (arith, behind);
      room = omega (arith, few, c.blocks-2.invariant.room, block.word, behind, c.blocks-2.invariant.behind);
      fits = omega (arith, c.blocks-2.invariant.fits, c.if-spelled.auto.buf);
      rest = rest;
      gives = block_gives _ _ _ c.blocks-2.is_first _ _ piece out c.if-spelled.buf at _ from c.if-spelled.given behind c.blocks-2.invariant.gives block copied;
      leads = block_leads _ _ _ c.blocks-2.is_first _ _ piece at _ c.blocks-2.invariant.leads block;
    }

pub returns-clause-rest : goal.returns-clause-rest
returns-clause-rest c =
    let given : ℕ = c.blocks-2.given in
    let last : ℕ = c.blocks-2.at - c.blocks-2.from in
    let buf : List ℕ = c.blocks-2.buf in
    drop-put_mid given (given + last - given) buf c.copy_from_slice.new.self (given + last) (omega arith) (omega (arith, c.blocks-2.invariant.room, c.blocks-2.invariant.inside, c.blocks-2.invariant.fits))
    (omega (arith, c.copy_from_slice.auto.self, length-take (given + last - given) (drop given buf), length-drop given buf, c.blocks-2.invariant.room, c.blocks-2.invariant.inside, c.blocks-2.invariant.fits))
    ∙ same_behind given last buf c.args.buf.now c.blocks-2.invariant.rest
