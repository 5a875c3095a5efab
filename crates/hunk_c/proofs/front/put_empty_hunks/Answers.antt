use Rattle.std.proofs.Common.{◌≡◌, List, ℕ, ◌+◌, ◌*◌, ◌%◌, ◌++◌, arith, subst, sym, ap, ◌∙◌, take}
use Rattle.hunk_words.specs.Longs.{bytes_of}
use Rattle.hunk_words.proofs.LongLaws.{bytes_of-nil}
use Rattle.hunk_c.specs.Fronts.{empty_hunks}
use Rattle.hunk_c.proofs.FrontText.{first_hunks, hunks_bytes, more_hunks}
use Rattle.hunk_c.proofs.front.put_empty_hunks.Goals as goal

abbrev bytes_for : ℕ → List ℕ
bytes_for n = bytes_of (empty_hunks n)

pub hunks-init : goal.hunks-init
hunks-init g c = subst (λ (xs : List ℕ). g.T.TakesBytes.takes c.args.taker.now xs c.args.taker.now) (sym bytes_of-nil) (g.met.T.TakesBytes.none c.args.taker.now)

pub hunks-preserved : goal.hunks-preserved
hunks-preserved g c =
    let n : ℕ = 16 * c.hunks.counter in
    let more : 16 * (c.hunks.counter + 1) ≡ n + 16 = omega arith in
    let same = ap bytes_for more ∙ more_hunks n 16 ∙ ap (λ (xs : List ℕ). bytes_for n ++ xs) (sym (c.as_flattened-hunks.ensures.value ∙ hunks_bytes 16)) in
    subst (λ (xs : List ℕ). g.T.TakesBytes.takes c.args.taker.now xs c.take.new.self) (sym same)
    (g.met.T.TakesBytes.more c.args.taker.now c.hunks.taker c.take.new.self (bytes_for n) _ c.hunks.invariant c.take.ensures)

pub returns : goal.returns
returns g c =
    let n : ℕ = 16 * c.hunks.counter in
    let left : ℕ = c.args.count % 16 in
    let sum : c.args.count ≡ n + left = omega (arith, c.hunks-test.false, c.hunks.auto.counter-end) in
    let last = ap (take (12 * left)) (c.as_flattened-hunks.ensures.value ∙ hunks_bytes 16) ∙ first_hunks 16 left (omega arith) in
    let same = ap bytes_for sum ∙ more_hunks n left ∙ ap (λ (xs : List ℕ). bytes_for n ++ xs) (sym last) in
    subst (λ (xs : List ℕ). g.T.TakesBytes.takes c.args.taker.now xs c.take-2.new.self) (sym same)
    (g.met.T.TakesBytes.more c.args.taker.now c.hunks.taker c.take-2.new.self (bytes_for n) _ c.hunks.invariant c.take-2.ensures)
