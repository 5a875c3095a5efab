use Rattle.std.proofs.Common.{◌+◌, ◌-◌, ◌*◌, ◌∙◌, ◌++◌, ◌∷◌, [], ℕ, List, ap, length, drop, replicate, arith, length-append}
use Rattle.std.proofs.lemmas.List.{length-drop, take_at, take_more_set}
use Rattle.hunk_listing.specs.SegmentLines.{dump_row}
use Rattle.hunk_listing.proofs.segment.print_row.Goals as goal

pub returns : goal.returns
unfolding dump_row
returns g c =
    let count = 2 * length c.args.bytes.now in
    let digits = c.encode-2.new.digits in
    let spaces : List ℕ = replicate 33 32 in
    let rest : List ℕ = drop (2 + count - 2) spaces in
    let whole = take_more_set (32 ∷ 32 ∷ digits ++ rest) (2 + count) 10 (omega (arith, length-append digits rest, length-drop (2 + count - 2) spaces)) in
    let front = take_at (32 ∷ 32 ∷ digits) rest (2 + count) (omega arith) in (
      c.print-2.ensures.prints.0,
      c.print-2.ensures.prints.1
          ∙ ap (λ (xs : List ℕ). c.args.page.now.text ++ xs) (whole ∙ ap (λ (xs : List ℕ). xs ++ 10 ∷ []) (front ∙ ap (λ (xs : List ℕ). 32 ∷ 32 ∷ xs) c.encode-2.ensures)),
    )
