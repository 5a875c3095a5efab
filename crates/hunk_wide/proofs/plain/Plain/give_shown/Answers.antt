use Rattle.std.proofs.Common.{ℕ, List, take, sym, subst, arith}
use Rattle.std.proofs.lemmas.List.{length-take}
use Rattle.std.specs.Io.KnownBytes.{Consumes}
use Rattle.hunk_wide.proofs.Files.{stays_bare}
use Rattle.hunk_wide.proofs.plain.Plain.give_shown.Goals as goal

pub returns-clause-file : goal.returns-clause-file
returns-clause-file g c =
    let a = (g.R.Source.supply c.args.self.now.source).left in
    let b = (g.R.Source.supply c.consume.new.self).left in
    let taken : List ℕ = take c.expand-taken.result.0 c.held.result.now in
    let out : List ℕ = take c.expand-taken.result.1 c.expand-taken.new.buf in
    stays_bare c.args.self.now.held c.expand-taken.new.self taken out c.expand-taken.ensures.left c.expand-taken.ensures.spot a b c.expand-taken.result.1
    (subst (λ (x : List ℕ). Consumes a b (take c.expand-taken.result.0 x)) (sym c.held.ensures) c.consume.ensures.bytes)
    (λ some. c.expand-taken.ensures.nothing_held (omega (arith, some, length-take c.expand-taken.result.0 c.held.result.now)))
    (omega (arith, c.expand-taken.ensures.given, length-take c.expand-taken.result.1 c.expand-taken.new.buf))
