use Rattle.std.proofs.Common.{[], ◌∷◌, ◌-◌}
use Rattle.hunk_words.specs.Bits.{header_word}
use Rattle.hunk_parts.proofs.LongBytes.{longs_more}
use Rattle.hunk_parts.proofs.text.put_front.Goals as goal

pub returns : goal.returns
returns g c =
    let takes = g.T.TakesBytes.takes in
    let more = g.met.T.TakesBytes.more in
    let start = c.args.taker.now in
    let n = c.args.hunks in
    let two = longs_more takes more start c.put_word.new.taker c.put_word-2.new.taker (header_word ∷ []) (0 ∷ []) c.put_word.ensures c.put_word-2.ensures in
    let three = longs_more takes more start c.put_word-2.new.taker c.put_word-3.new.taker (header_word ∷ 0 ∷ []) (n ∷ []) two c.put_word-3.ensures in
    let four = longs_more takes more start c.put_word-3.new.taker c.put_word-4.new.taker (header_word ∷ 0 ∷ n ∷ []) (0 ∷ []) three c.put_word-4.ensures in
    longs_more takes more start c.put_word-4.new.taker c.put_word-5.new.taker (header_word ∷ 0 ∷ n ∷ 0 ∷ []) ((n - 1) ∷ []) four c.put_word-5.ensures
