-- The longwords of a block that stand after its word and a count.
use Rattle.std.proofs.Common.{◌≡◌, ℕ, ◌+◌, ◌*◌, List, length, Some, ap, ◌∙◌, arith}
use Rattle.std.proofs.lemmas.List.{length-map}
use Rattle.hunk_words.specs.Longs.{bytes_of}
use Rattle.hunk_words.proofs.LongLaws.{length-bytes_of}
use Rattle.hunk_grammar.specs.BlockParts.{Part, Payload}
use Rattle.hunk_blocks.specs.Parts.{block_parts, block_text}
use Rattle.hunk_blocks.specs.Values.{BlockBody, BlockValue, Name, Code, Data, Debug, Advisory}
use Rattle.hunk_parts.specs.Parts.{payload_of}

whole : (word : ℕ) (body : BlockBody) (ws words : List ℕ) → length (block_parts (record { word = word; body = body })) ≡ 2 + length ws → ws ≡ words →
    length (bytes_of (block_text (record { word = word; body = body }))) ≡ 8 + 4 * length words
whole word body ws words parts same =
    omega (arith, length-bytes_of (block_text (record { word = word; body = body })), length-map {B = ℕ} (block_parts (record { word = word; body = body })) (λ p. p.1), parts, ap length same)

-- What stands in a block with such longwords: its word, the count, and they.
pub payload_text : (word : ℕ) (body : BlockBody) (words : List ℕ) → payload_of body ≡ Some words → length (bytes_of (block_text (record { word = word; body = body }))) ≡ 8 + 4 * length words
payload_text word (Name ws) words is = whole word (Name ws) ws words (omega (arith, length-map {B = Part × ℕ} ws (λ w. (Payload, w)))) cc
payload_text word (Code top ws) words is = whole word (Code top ws) ws words (omega (arith, length-map {B = Part × ℕ} ws (λ w. (Payload, w)))) cc
payload_text word (Data top ws) words is = whole word (Data top ws) ws words (omega (arith, length-map {B = Part × ℕ} ws (λ w. (Payload, w)))) cc
payload_text word (Debug ws) words is = whole word (Debug ws) ws words (omega (arith, length-map {B = Part × ℕ} ws (λ w. (Payload, w)))) cc
payload_text word (Advisory ws) words is = whole word (Advisory ws) ws words (omega (arith, length-map {B = Part × ℕ} ws (λ w. (Payload, w)))) cc
payload_text word _ words is = absurd cc

pub payload_len : (block : BlockValue) (words : List ℕ) (len : ℕ) → payload_of block.body ≡ Some words → len ≡ length (bytes_of (block_text block)) → len ≡ 8 + 4 * length words
payload_len block words len is size = size ∙ payload_text block.word block.body words is
