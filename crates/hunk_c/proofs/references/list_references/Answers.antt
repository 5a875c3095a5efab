use Rattle.std.proofs.Common.{◌+◌, ◌-◌, ◌*◌, ℕ, List, [], ◌∷◌, length, ap, arith}
use Rattle.hunk_files.proofs.findings.FindingSteps.{taken_on}
use Rattle.hunk_parts.specs.Listing.{item_rows}
use Rattle.hunk_c.specs.References.{long_text, reference_row}
use Rattle.hunk_c.proofs.references.list_references.Goals as goal

pub listing-preserved : goal.listing-preserved
listing-preserved g c =
    let row = reference_row c.args.entry c.args.width in
    let left = item_rows row long_text in
    let place = c.listing.place in
    let old = c.listing.offset-iterator in
    let new = c.next.new.self in
    let steps = c.in-Some.ensures.steps in (
      omega (arith, c.listing.invariant.0, ap (λ (os : List ℕ). length os) steps),
      taken_on g.T.Takes.takes g.met.T.Takes.more _ _ _ (row place c.in-Some.offset ∷ []) (left (place + 4) new) (left place old)
          (left (c.args.end - 4 * length c.args.offsets.now) c.args.offsets.now) (ap (λ (os : List ℕ). left place os) steps) c.listing.invariant.1 c.take.ensures,
    )
