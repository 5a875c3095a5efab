use Rattle.std.proofs.Common.{◌≡◌, ℕ, List, ◌++◌, length, take, sym, ap, ◌∙◌, arith}
use Rattle.std.proofs.lemmas.List.{length-take}
use Rattle.hunk_wide.specs.Held.{left_of}
use Rattle.hunk_wide.proofs.Straight.{straight_fits, straight_front}
use Rattle.hunk_wide.proofs.Supplies.{consumes_for}
use Rattle.hunk_wide.proofs.Files.{stays_bare, straight_bare}
use Rattle.hunk_wide.proofs.plain.PlainSource.consume.Goals as goal

pub returns-clause-bytes : goal.returns-clause-bytes
returns-clause-bytes g c =
    let shown : List ℕ = g.R.Source.shown c.args.self.now.source in
    consumes_for c.args.self.now.held c.pass.new.self (g.R.Source.supply c.args.self.now.source).left (g.R.Source.supply c.consume.new.self).left
    (take c.args.count shown) _ c.consume.ensures.bytes
    (λ more. c.pass.ensures.left (take c.args.count shown) more (omega (arith, length-take c.args.count shown, straight_fits c.args.self.now.held shown, c.requires))
    ∙ ap (λ (x : List ℕ). x ++ left_of c.pass.new.self more) (sym (straight_front c.args.self.now.held shown c.args.count c.requires)))

pub returns-clause-file : goal.returns-clause-file
returns-clause-file g c =
    let h = c.args.self.now.held in
    let shown : List ℕ = g.R.Source.shown c.args.self.now.source in
    let taken : List ℕ = take c.args.count shown in
    let len : length taken ≡ c.args.count = omega (arith, length-take c.args.count shown, straight_fits h shown, c.requires) in
    stays_bare h c.pass.new.self taken taken (λ more. c.pass.ensures.left taken more len) (λ more. c.pass.ensures.spot taken more len) _ _ c.args.count c.consume.ensures.bytes
    (λ some. let bare = straight_bare h shown (omega (arith, some, len, c.requires)) in (c.pass.ensures.same.0 ∙ bare.0, c.pass.ensures.same.1 ∙ bare.1)) len
