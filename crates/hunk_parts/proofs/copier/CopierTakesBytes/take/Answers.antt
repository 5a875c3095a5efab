use Rattle.std.proofs.Common.{rules, ◌≡◌, ◌+◌, ◌-◌, ◌++◌, ℕ, List, length, take, refl, ap, ◌∙◌, arith}
use Rattle.std.proofs.lemmas.Slice.{take-put_mid, drop-put_mid}
use Rattle.hunk_parts.proofs.copier.CopierTakesBytes.take.Goals as goal

pub returns-then-bytes-room : goal.returns-then-bytes-room
returns-then-bytes-room c =
    let at = c.args.self.now.at in
    let old = c.args.self.now.text.now in
    let new = c.copy_from_slice.new.self in
    let k = at + length c.args.bytes.now - at in
    let inside = c.if-self-room.true in
    let long : length new ≡ length c.args.bytes.now = ap (λ (xs : List ℕ). length xs) c.copy_from_slice.ensures.after in (
      refl,
      (
        search rules,
        λ room.
            record {
              place = refl;
              front = take-put_mid at k old new _ (omega (arith, long)) (omega (arith, inside)) ∙ ap (λ (xs : List ℕ). take at old ++ xs) c.copy_from_slice.ensures.after;
              rest = drop-put_mid at k old new _ (omega arith) (omega (arith, inside)) (omega (arith, long));
            },
      ),
    )
