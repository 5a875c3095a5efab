use Rattle.std.proofs.Common.{rules, ◌≡◌, ◌∙◌, ◌++◌, List, ℕ, length, take, drop, ap, sym, subst, append_assoc, length-take, take-append-drop, arith}
use Rattle.hunk_commands.specs.Incoming.{AnnouncesLoad, AnnouncesObject}
use Rattle.hunk_commands.proofs.IncomingLaws.{announces_more, object_more, of_ok}
use Rattle.hunk_commands.proofs.incoming.keep_first.Goals as goal

pub keep_object-requires : goal.keep_object-requires
keep_object-requires c =
    let front = c.args.front.now in
    let piece = c.args.piece.now in
    let n = c.min.result in
    let first = c.as_slice.result.now in
    let one : c.try_extend_from_slice.new.self.items ≡ front = of_ok c.try_extend_from_slice.result (c.try_extend_from_slice.ensures.variant.1 (omega (arith, ap length c.new-first.ensures, c.requires.few))) c.try_extend_from_slice.ensures.ok
    ∙ ap (λ (xs : List ℕ). xs ++ front) c.new-first.ensures in
    let two : c.try_extend_from_slice-2.new.self.items ≡ c.try_extend_from_slice.new.self.items ++ take n piece = of_ok c.try_extend_from_slice-2.result (c.try_extend_from_slice-2.ensures.variant.1 (omega (arith, c.remaining_capacity-room.ensures, c.min.ensures, length-take n piece))) c.try_extend_from_slice-2.ensures.ok in
    let first_is : first ≡ front ++ take n piece = c.as_slice.ensures.value ∙ two ∙ ap (λ (xs : List ℕ). xs ++ take n piece) one in
    let four : length first ≡ 4 = search rules in
    let begins : first ++ drop n piece ≡ front ++ piece =
    ap (λ (xs : List ℕ). xs ++ drop n piece) first_is ∙ append_assoc front (take n piece) (drop n piece) ∙ ap (λ (xs : List ℕ). front ++ xs) (take-append-drop n piece) in
    record { announced = subst AnnouncesObject begins (object_more first (drop n piece) (omega (arith, four), sym c.sniff.ensures ∙ c.in-Object.is)) }

pub keep_load-requires-clause-announced : goal.keep_load-requires-clause-announced
keep_load-requires-clause-announced c =
    let front = c.args.front.now in
    let piece = c.args.piece.now in
    let n = c.min.result in
    let first = c.as_slice.result.now in
    let one : c.try_extend_from_slice.new.self.items ≡ front = of_ok c.try_extend_from_slice.result (c.try_extend_from_slice.ensures.variant.1 (omega (arith, ap length c.new-first.ensures, c.requires.few))) c.try_extend_from_slice.ensures.ok
    ∙ ap (λ (xs : List ℕ). xs ++ front) c.new-first.ensures in
    let two : c.try_extend_from_slice-2.new.self.items ≡ c.try_extend_from_slice.new.self.items ++ take n piece = of_ok c.try_extend_from_slice-2.result (c.try_extend_from_slice-2.ensures.variant.1 (omega (arith, c.remaining_capacity-room.ensures, c.min.ensures, length-take n piece))) c.try_extend_from_slice-2.ensures.ok in
    let first_is : first ≡ front ++ take n piece = c.as_slice.ensures.value ∙ two ∙ ap (λ (xs : List ℕ). xs ++ take n piece) one in
    let four : length first ≡ 4 = search rules in
    let begins : first ++ drop n piece ≡ front ++ piece =
    ap (λ (xs : List ℕ). xs ++ drop n piece) first_is ∙ append_assoc front (take n piece) (drop n piece) ∙ ap (λ (xs : List ℕ). front ++ xs) (take-append-drop n piece) in
    subst AnnouncesLoad begins (announces_more first (drop n piece) (omega (arith, four), λ object. c.in_default.not-Object (c.sniff.ensures ∙ object)))
