use Rattle.std.proofs.Common.{◌*◌, ◌++◌, ℕ, List, sym, ap, subst, ◌∙◌, append_assoc, take}
use Rattle.hunk_words.specs.Longs.{bytes_of}
use Rattle.hunk_words.proofs.LongLaws.{bytes_of-append}
use Rattle.hunk_c.specs.Fronts.{empty_hunks, hunk_end}
use Rattle.hunk_c.proofs.front.put_closed.Goals as goal

pub returns : goal.returns
returns g c =
    let front = c.args.front in
    let begin : List ℕ = take (4 * front.longs) c.args.bytes.now in
    let end : List ℕ = bytes_of (hunk_end front.open_hunk) in
    let rest : List ℕ = bytes_of (empty_hunks front.left) in
    let same = append_assoc begin end rest ∙ ap (λ (xs : List ℕ). begin ++ xs) (sym (bytes_of-append (hunk_end front.open_hunk) (empty_hunks front.left))) in
    subst (λ (xs : List ℕ). g.T.TakesBytes.takes c.args.taker.now xs c.put_empty_hunks.new.taker) same
    (g.met.T.TakesBytes.more c.args.taker.now c.put_hunk_end.new.taker c.put_empty_hunks.new.taker (begin ++ end) rest
    (g.met.T.TakesBytes.more c.args.taker.now c.take.new.self c.put_hunk_end.new.taker begin end c.take.ensures c.put_hunk_end.ensures) c.put_empty_hunks.ensures)
