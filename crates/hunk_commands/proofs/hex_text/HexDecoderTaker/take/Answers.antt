use Rattle.std.proofs.Common.{◌≡◌, ◌+◌, ◌-◌, ◌∙◌, ◌++◌, ℕ, List, length, take, drop, sym, ap, append_assoc, arith}
use Rattle.std.proofs.Math.Seq.{take-add}
use Rattle.std.proofs.lemmas.List.{take_rest}
use Rattle.hunk_commands.proofs.hex_text.HexDecoderTaker.take.Goals as goal

-- a front of what is left
taken_more : (old now new piece : List ℕ) (at count : ℕ) → now ≡ old ++ take at piece → new ≡ now ++ take count (take (length piece - at) (drop at piece)) → new ≡ old ++ take (at + count) piece
taken_more old now new piece at count before after =
    after
    ∙ ap (λ (xs : List ℕ). now ++ take count xs) (take_rest piece at)
    ∙ ap (λ (xs : List ℕ). xs ++ take count (drop at piece)) before
    ∙ append_assoc old (take at piece) (take count (drop at piece))
    ∙ ap (λ (xs : List ℕ). old ++ xs) (sym (take-add at count piece))

pub parts-preserved-then-at-piece : goal.parts-preserved-then-at-piece
parts-preserved-then-at-piece c =
    let piece = c.args.piece.now in
    let rest = take_rest piece c.parts.at in
    let more = take_rest piece (c.parts.at + c.in_ok-at.field-0) in
    let pairs = taken_more _ _ _ piece c.parts.at c.in_ok-at.field-0 c.parts.invariant.1 c.in_ok-at.ensures.taken in (
      omega (arith, c.in_ok-at.ensures.inside, c.in_ok-at-2.ensures.inside, ap length rest, ap length more, c.parts.invariant.0),
      taken_more _ _ _ piece (c.parts.at + c.in_ok-at.field-0) c.in_ok-at-2.field-0 pairs c.in_ok-at-2.ensures.taken,
    )
