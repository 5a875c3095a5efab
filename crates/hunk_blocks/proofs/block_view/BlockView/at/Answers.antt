use Rattle.std.proofs.Common.{ℕ, List, ◌≡◌, ◌∷◌, ◌+◌, drop, length, ap, refl, subst, arith}
use Rattle.std.proofs.lemmas.List.{length-drop}
use Rattle.hunk_words.specs.Longs.{bytes_of, longs}
use Rattle.hunk_words.proofs.LongLaws.{length-longs}
use Rattle.hunk_blocks.specs.{BodyViews.{HasListAt, viewed}, Parts.block_text}
use Rattle.hunk_blocks.proofs.{Admitted.block, Decoding.{body_there, read_in_front, read_is_block, read_size, word_read, word_there}}
use Rattle.hunk_blocks.proofs.block_view.BlockView.at.Goals as goal

pub invariant_of-reader : goal.invariant_of-reader
invariant_of-reader c =
    omega (arith, word_there (drop c.args.place c.args.bytes.now) c.requires, length-longs (drop c.args.place c.args.bytes.now), length-drop c.args.place c.args.bytes.now)

pub long-requires : goal.long-requires
long-requires c = word_there (drop c.args.place c.args.bytes.now) c.requires

pub read_body-body-requires : goal.read_body-body-requires
read_body-body-requires c =
    let bytes = drop c.args.place c.args.bytes.now in
    body_there bytes c.requires c.of-word.result c.long.new.self (word_read bytes c.requires _ c.long.new.self c.of-word.result c.long.result refl c.long.ensures c.of-word.ensures)

-- ---- what was read

module _ (c : goal.After-reader) where
  bytes : List ℕ
  bytes = drop c.args.place c.args.bytes.now

  first : longs bytes ≡ c.of-word.result ∷ c.long.new.self.rest
  unfolding bytes
  first = word_read bytes c.requires _ c.long.new.self c.of-word.result c.long.result refl c.long.ensures c.of-word.ensures

  after_word : c.long.new.self.place ≡ c.args.place + 4
  after_word = omega (arith, c.long.ensures.further)

  size : c.read_body-body.new.reader.place ≡ c.args.place + length (bytes_of (block_text (block c.of-word.result (viewed c.read_body-body.result))))
  unfolding bytes
  size = read_size bytes c.requires c.of-word.result c.long.new.self first c.read_body-body.new.reader (viewed c.read_body-body.result) c.read_body-body.ensures.read c.args.place after_word

pub overflow_sub-result : goal.overflow_sub-result
overflow_sub-result c = omega (arith, size c, ap (λ u. u.place) c.reader.view_is)

pub invariant_of-result : goal.invariant_of-result
unfolding bytes
invariant_of-result c = (
  read_is_block (bytes c) c.requires c.of-word.result c.long.new.self (first c) c.read_body-body.new.reader (viewed c.read_body-body.result) c.read_body-body.ensures.read,
  omega (arith, size c, ap (λ u. u.place) c.reader.view_is),
  subst (λ (n : ℕ). HasListAt n c.read_body-body.result) (after_word c) c.read_body-body.ensures.place,
  omega (arith, size c, ap (λ u. u.place) c.reader.view_is),
)

pub returns-clause-block : goal.returns-clause-block
unfolding bytes
returns-clause-block c = read_in_front (bytes c) c.requires c.of-word.result c.long.new.self (first c) c.read_body-body.new.reader (viewed c.read_body-body.result) c.read_body-body.ensures.read
