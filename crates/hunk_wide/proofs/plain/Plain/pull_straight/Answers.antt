use Rattle.std.proofs.Common.{◌≡◌, ℕ, List, length, take, ◌∙◌, arith}
use Rattle.std.proofs.lemmas.List.{length-take}
use Rattle.hunk_wide.proofs.Files.{stays_bare}
use Rattle.hunk_wide.proofs.plain.Plain.pull_straight.Goals as goal

pub returns-clause-file : goal.returns-clause-file
returns-clause-file g c =
    let n : ℕ = c.in_ok-pulled.pulled in
    let out : List ℕ = take n c.pull.new.buf in
    let len : length out ≡ n = omega (arith, c.in_ok-pulled.ensures.inside, length-take n c.pull.new.buf) in
    let bare = c.straight-most.ensures.bare (omega (arith, c.if-most-eq0.false)) in
    stays_bare c.args.self.now.held c.pass.new.self out out (λ more. c.pass.ensures.left out more len) (λ more. c.pass.ensures.spot out more len) _ _ n c.in_ok-pulled.ensures.bytes.0
    (λ some. (c.pass.ensures.same.0 ∙ bare.0, c.pass.ensures.same.1 ∙ bare.1)) len
