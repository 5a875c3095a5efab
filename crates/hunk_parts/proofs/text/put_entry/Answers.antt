use Rattle.std.proofs.Common.{Bool, List, ℕ, [], ◌∷◌, ap, sym, ◌∙◌, subst, if◌then◌else◌}
use Rattle.hunk_words.specs.Longs.{bytes_of}
use Rattle.hunk_grammar.specs.Roles.{Attributes}
use Rattle.hunk_blocks.specs.Faults.{words}
use Rattle.hunk_parts.proofs.LongBytes.{longs_more}
use Rattle.hunk_parts.proofs.text.put_entry.Goals as goal

pub returns-then-has_extra : goal.returns-then-has_extra
returns-then-has_extra g c =
    let all : Bool → List ℕ = λ b. c.args.word ∷ words (if b then (Attributes, c.args.extra) ∷ [] else []) in
    subst (λ (xs : List ℕ). g.T.TakesBytes.takes c.args.taker.now (bytes_of xs) c.put_word-then-has_extra.new.taker) (ap all (sym c.if-has_extra.true ∙ c.has_extra.ensures))
    (longs_more g.T.TakesBytes.takes g.met.T.TakesBytes.more c.args.taker.now c.put_word.new.taker c.put_word-then-has_extra.new.taker (c.args.word ∷ []) (c.args.extra ∷ []) c.put_word.ensures c.put_word-then-has_extra.ensures)
