use Rattle.std.proofs.Common.{◌≡◌, ℕ, ◌<◌, List, [], ◌∷◌, ◌++◌, length, take, drop, sym, ap, subst, arith}
use Rattle.std.proofs.lemmas.List.{length-take, take-append-le}
use Rattle.std.specs.Io.KnownBytes.{Consumes}
use Rattle.hunk_wide.specs.Held.{wanted}
use Rattle.hunk_wide.proofs.Supplies.{keeps_ended}
use Rattle.hunk_wide.proofs.Files.{not_ended, stays_within, wanted_fits}
use Rattle.hunk_wide.proofs.plain.Plain.refill.Goals as goal

pub returns-then-count-eq0-clause-left : goal.returns-then-count-eq0-clause-left
returns-then-count-eq0-clause-left g c =
    keeps_ended c.args.self.now.held c.end.new.self (g.R.Source.supply c.args.self.now.source).left (g.R.Source.supply c.pull.new.self).left (take c.in_ok-count.count c.pull.new.buf)
    c.in_ok-count.ensures.bytes.0 (ap (λ (k : ℕ). take k c.pull.new.buf) c.if-count-eq0.true) (c.in_ok-count.ensures.bytes.1 c.if-count-eq0.true (omega (arith, length-take {A = ℕ} c.args.want (0 ∷ 0 ∷ 0 ∷ 0 ∷ []))))
    c.end.ensures.given c.end.ensures.passes c.end.ensures.nothing

pub returns-then-count-eq0-clause-file : goal.returns-then-count-eq0-clause-file
returns-then-count-eq0-clause-file g c =
    λ file rest i most.
    absurd (not_ended c.args.self.now.held _ _ (take c.in_ok-count.count c.pull.new.buf) file rest i c.in_ok-count.ensures.bytes.0 (ap (λ (k : ℕ). take k c.pull.new.buf) c.if-count-eq0.true)
    (c.in_ok-count.ensures.bytes.1 c.if-count-eq0.true (omega (arith, length-take {A = ℕ} c.args.want (0 ∷ 0 ∷ 0 ∷ 0 ∷ []))))
    (omega (arith, c.requires.some, c.requires.wanted)))

pub returns-else-count-eq0-clause-file : goal.returns-else-count-eq0-clause-file
returns-else-count-eq0-clause-file g c =
    λ file rest i most.
    let a = (g.R.Source.supply c.args.self.now.source).left in
    let b = (g.R.Source.supply c.pull.new.self).left in
    let count : ℕ = c.in_ok-count.count in
    let piece : List ℕ = c.pull.new.buf ++ drop c.args.want (0 ∷ 0 ∷ 0 ∷ 0 ∷ []) in
    let same : take count piece ≡ take count c.pull.new.buf = take-append-le count c.pull.new.buf _ c.in_ok-count.ensures.inside.0 in
    let some : 0 < wanted c.args.self.now.held = omega (arith, c.requires.some, c.requires.wanted) in
    stays_within c.args.self.now.held c.take.new.self (take count piece) [] (λ more. sym (c.take.ensures.left more)) (λ more. sym (c.take.ensures.spot more)) a b file rest i
    (subst (λ (x : List ℕ). Consumes a b x) (sym same) c.in_ok-count.ensures.bytes.0)
    (omega (
      arith,
      c.requires.wanted,
      c.in_ok-count.ensures.inside,
      c.pull.auto.buf,
      length-take {A = ℕ} c.args.want (0 ∷ 0 ∷ 0 ∷ 0 ∷ []),
      length-take count piece,
      ap length same,
      length-take count c.pull.new.buf,
      wanted_fits c.args.self.now.held a file rest i some,
    ))
