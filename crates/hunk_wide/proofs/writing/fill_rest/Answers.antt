use Rattle.std.proofs.Common.{◌≡◌, ℕ, ◌+◌, ◌-◌, ◌<◌, ◌≤◌, ◌⊎◌, inl, inr, List, ◌++◌, length, take, drop, sym, ap, ◌∙◌, arith}
use Rattle.std.proofs.lemmas.List.{take-append-drop, take_rest}
use borrow.Rule.Slice.PartMut.{put_mid}
use Rattle.hunk_wide.specs.{Held.{left_of, wanted}, Plain.plain_from}
use Rattle.hunk_wide.proofs.Written.{gave_more, none_held, part_length, put_last, put_length, room_left}
use Rattle.hunk_wide.proofs.writing.fill_rest.Goals as goal

pub units-preserved : goal.units-preserved
units-preserved c =
    let at : ℕ = c.units.at in
    let new : List ℕ = c.give-at.new.buf in
    let rest : List ℕ = c.units.rest.now in
    let len : length new ≡ length c.units.out - at = c.give-at.auto.buf ∙ part_length at c.units.out in
    record {
      inside = omega (arith, put_length at c.units.out new c.units.invariant.inside len, c.give-at.ensures.number, part_length at c.units.out);
      same =
          gave_more at c.give-at.result c.units.out new (left_of c.units.held rest) _ _ c.units.invariant.inside
          (omega (arith, c.give-at.ensures.number, part_length at c.units.out, len)) c.units.invariant.same
          (c.give-at.ensures.gives rest ∙ ap (λ (x : List ℕ). take c.give-at.result new ++ x) goes);
    }
  where
    goes : left_of c.give-at.new.self c.units.rest.now ≡ left_of c.take.new.self (take (length c.units.rest.now - c.want-want.result) (drop c.want-want.result c.units.rest.now))
    goes =
        sym (c.take.ensures.left (drop c.want-want.result c.units.rest.now) ∙ ap (left_of c.give-at.new.self) (take-append-drop c.want-want.result c.units.rest.now))
        ∙ ap (left_of c.take.new.self) (sym (take_rest c.units.rest.now c.want-want.result))

pub fill_last-requires : goal.fill_last-requires
fill_last-requires c =
    let at : ℕ = c.units.at in
    let out : List ℕ = c.units.out in
    let new : List ℕ = c.give-at.new.buf in
    let n : ℕ = c.give-at.result in
    let rest : List ℕ = c.units.rest.now in
    let len : length new ≡ length out - at = c.give-at.auto.buf ∙ part_length at out in
    let whole : List ℕ = put_mid at (length out - at) out new in
    let inside : at + n ≤ length whole = omega (arith, put_length at out new c.units.invariant.inside len, c.give-at.ensures.number, part_length at out) in
    let same : take (at + n) whole ++ left_of c.give-at.new.self rest ≡ plain_from c.args.spot c.args.bytes.now =
    gave_more at n out new (left_of c.units.held rest) _ _ c.units.invariant.inside
    (omega (arith, c.give-at.ensures.number, part_length at out, len)) c.units.invariant.same (c.give-at.ensures.gives rest) in
    let room : length (left_of c.give-at.new.self rest) ≡ length whole - (at + n) =
    room_left (at + n) whole (left_of c.give-at.new.self rest) (plain_from c.args.spot c.args.bytes.now) inside same
    (put_length at out new c.units.invariant.inside len ∙ c.units.auto.out ∙ c.requires) in
    record {
      ready = none_held c.give-at.new.self rest n (length new) (omega (arith, room, len, put_length at out new c.units.invariant.inside len)) c.give-at.ensures.rest;
      few = few c.then-want-eq0.either;
      room = part_length (at + n) whole ∙ sym room;
    }
  where
    few : (c.want-want.result ≡ 0) ⊎ ((c.want-want.result ≡ 0 → ⊥) × (length c.units.rest.now < c.want-want.result))
        → (wanted c.give-at.new.self ≡ 0) ⊎ (length c.units.rest.now < wanted c.give-at.new.self)
    few (inl none) = inl (sym c.want-want.ensures.value ∙ none)
    few (inr less) = inr (omega (arith, less.1, c.want-want.ensures.value))

pub returns : goal.returns
returns c =
    let at : ℕ = c.units.at in
    let out : List ℕ = c.units.out in
    let new : List ℕ = c.give-at.new.buf in
    let n : ℕ = c.give-at.result in
    let rest : List ℕ = c.units.rest.now in
    let len : length new ≡ length out - at = c.give-at.auto.buf ∙ part_length at out in
    let whole : List ℕ = put_mid at (length out - at) out new in
    let inside : at + n ≤ length whole = omega (arith, put_length at out new c.units.invariant.inside len, c.give-at.ensures.number, part_length at out) in
    let same : take (at + n) whole ++ left_of c.give-at.new.self rest ≡ plain_from c.args.spot c.args.bytes.now =
    gave_more at n out new (left_of c.units.held rest) _ _ c.units.invariant.inside
    (omega (arith, c.give-at.ensures.number, part_length at out, len)) c.units.invariant.same (c.give-at.ensures.gives rest) in
    put_last (at + n) whole c.fill_last.new.out inside (c.fill_last.auto.out ∙ part_length (at + n) whole)
    ∙ ap (λ (x : List ℕ). take (at + n) whole ++ x) c.fill_last.ensures ∙ same
