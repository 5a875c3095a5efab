use Rattle.std.proofs.Common.{◌≡◌, ℕ, List, Option, Some, sym, ap, ◌∙◌, arith}
use Rattle.hunk_words.specs.Longs.{longs}
use Rattle.hunk_parts.specs.Parts.{payload_of}
use Rattle.hunk_parts.proofs.Payloads.{payload_len}
use Rattle.hunk_c.specs.Blocks.{span_of}
use Rattle.hunk_c.proofs.BlockRows.{same_span}
use Rattle.hunk_c.proofs.blocks.content.Goals as goal

pub span_before-requires : goal.span_before-requires
span_before-requires c =
    let is : payload_of c.args.block.now.value.body ≡ Some (longs c.in-Some.payload.now) = ap payload_of (sym c.body.ensures.value) ∙ sym c.in-Some.ensures in
    omega (arith, payload_len c.args.block.now.value _ c.encoded_len.result is c.encoded_len.ensures.value)

pub returns-in-Some : goal.returns-in-Some
returns-in-Some c =
    let block = c.args.block.now in
    let words = longs c.in-Some.payload.now in
    let is : payload_of block.value.body ≡ Some words = ap payload_of (sym c.body.ensures.value) ∙ sym c.in-Some.ensures in
    same_span c.span_before.result (span_of block.place (Some words))
    (omega (arith, c.span_before.ensures.place, c.place.ensures, payload_len block.value words c.encoded_len.result is c.encoded_len.ensures.value)) c.span_before.ensures.bytes
    ∙ ap (λ (ws : Option (List ℕ)). span_of block.place ws) (sym is)
