use Rattle.std.proofs.Common.{rules, ◌≡◌, ℕ, ◌+◌, ◌*◌, List, [], length, Option, Some, unwrap_or, sym, ap, ◌∙◌, arith}
use Rattle.hunk_words.specs.Longs.{longs}
use Rattle.hunk_parts.specs.PartRows.{payload_place, row_at}
use Rattle.hunk_parts.specs.Parts.{block_part, part, payload_of, size_value}
use Rattle.hunk_parts.specs.declared.part_row.PartRow.{PartRow}
use Rattle.hunk_parts.proofs.Payloads.{payload_len}
use Rattle.hunk_parts.proofs.rows.block_row.Goals as goal

pub overflow_sub-result : goal.overflow_sub-result
overflow_sub-result c =
    let is : payload_of c.args.block.now.value.body ≡ Some (longs c.in-Some.payload.now) = ap payload_of (sym c.body-2.ensures.value) ∙ sym c.in-Some.ensures in
    omega (arith, c.byte_count-content_bytes.ensures, payload_len c.args.block.now.value _ c.encoded_len.result is c.encoded_len.ensures.value)

-- a bare row with where its longwords lie
with_payload : (place word value content bytes : ℕ) (words : List ℕ) (bare : PartRow) → bare ≡ row_at 0 0 (part block_part word 0 [] []) → content ≡ place + 8 → bytes ≡ 4 * length words →
    record { what = bare.what; word = bare.word; value = value; reserved = bare.reserved; content = content; content_bytes = bytes; offsets = bare.offsets; offset_count = bare.offset_count }
    ≡ row_at (place + 8) 0 (part block_part word value words [])
with_payload place word value content bytes words bare is at size = search rules

pub returns-in-Some : goal.returns-in-Some
returns-in-Some c =
    let block = c.args.block.now in
    let words = longs c.in-Some.payload.now in
    let is : payload_of block.value.body ≡ Some words = ap payload_of (sym c.body-2.ensures.value) ∙ sym c.in-Some.ensures in
    let len = payload_len block.value words c.encoded_len.result is c.encoded_len.ensures.value in
    let row = λ (p : Option (List ℕ)). row_at (payload_place block.place p) 0 (part block_part block.value.word (size_value block.value.body) (unwrap_or p []) []) in
    with_payload block.place _ _ _ _ words c.bare_row.result c.bare_row.ensures (omega (arith, c.place.ensures, len, c.byte_count-content_bytes.ensures)) c.byte_count-content_bytes.ensures
    ∙ ap (λ (w : ℕ). row_at (block.place + 8) 0 (part block_part w c.size_value.result words [])) (c.word-2.ensures ∙ c.word.ensures.value)
    ∙ ap (λ (v : ℕ). row_at (block.place + 8) 0 (part block_part block.value.word v words [])) (c.size_value.ensures ∙ ap size_value c.body.ensures.value)
    ∙ ap row (sym is)
