use Rattle.std.proofs.Common.{ℕ, Bool, List, Some, ap, subst, sym, ◌∙◌, Option}
use Rattle.hunk_words.specs.Longs.{bytes_of}
use Rattle.hunk_c.specs.Fronts.{hunk_end}
use Rattle.hunk_c.proofs.FrontText.{empty_bytes, end_bytes, none_bytes}
use Rattle.hunk_c.proofs.front.put_hunk_end.Goals as goal

-- the bytes of the end of a hunk that is open so
abbrev bytes_at : Option Bool → List ℕ
bytes_at o = bytes_of (hunk_end o)

pub returns-in-Some-true : goal.returns-in-Some-true
returns-in-Some-true g c =
    let same = ap bytes_at (c.in-Some-true.is ∙ ap (λ (b : Bool). Some b) c.in-Some-true.field-0-test) ∙ end_bytes in
    subst (λ (xs : List ℕ). g.T.TakesBytes.takes c.args.taker.now xs c.take.new.self) (sym same) c.take.ensures

pub returns-in-Some-false : goal.returns-in-Some-false
returns-in-Some-false g c =
    let same = ap bytes_at (c.in-Some-false.is ∙ ap (λ (b : Bool). Some b) c.in-Some-false.field-0-test) ∙ empty_bytes in
    subst (λ (xs : List ℕ). g.T.TakesBytes.takes c.args.taker.now xs c.take-in-Some-false.new.self) (sym same) c.take-in-Some-false.ensures

pub returns-in-None : goal.returns-in-None
returns-in-None g c =
    let same = ap bytes_at c.in-None.is ∙ none_bytes in
    subst (λ (xs : List ℕ). g.T.TakesBytes.takes c.args.taker.now xs c.args.taker.now) (sym same) (g.met.T.TakesBytes.none c.args.taker.now)
