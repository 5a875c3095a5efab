use Rattle.std.proofs.Common.{◌+◌, ℕ, List, [], ◌∷◌, length, sym, ap, ◌∙◌, arith}
use Rattle.hunk_files.proofs.findings.FindingSteps.{taken_on}
use Rattle.hunk_c.specs.{Relocations.offset_rows, declared.relocations.RelocationRow.RelocationRow}
use Rattle.hunk_c.proofs.relocations.list_offsets.Goals as goal

pub listing-preserved : goal.listing-preserved
listing-preserved g c =
    let left = offset_rows c.args.relocated c.args.target in
    let place = c.listing.place in
    let old = c.listing.offset-iterator in
    let new = c.next.new.self in
    let steps = c.in-Some.ensures.steps in
    let first = ap (λ (os : List ℕ). left place os) steps ∙ ap (λ (r : RelocationRow). r ∷ left (place + 4) new) (sym c.relocation_row.ensures) in (
      omega (arith, c.listing.invariant.0, ap (λ (os : List ℕ). length os) steps),
      taken_on g.T.Takes.takes g.met.T.Takes.more _ _ _ (c.relocation_row.result ∷ []) (left (place + 4) new) (left place old)
          (left c.args.start c.args.offsets.now) first c.listing.invariant.1 c.take.ensures,
    )
