use Rattle.hunk_files.specs.FileParts.{counted, part_by}
use Rattle.std.proofs.Common.{◌≡◌, ◌≤◌, ◌<◌, ◌*◌, ◌/◌, Bool, true, false, ℕ, ◌+◌, List, length, take, arith, ap, sym, subst, ◌∙◌, Some, IfErr}
use Rattle.std.proofs.lemmas.List.{take_all}
use Rattle.hunk_words.specs.{Longs.{longs, IsBytes}, declared.reason.Reason.Reason}
use Rattle.hunk_words.specs.declared.reason.Reason.TheVariants as reasons
use Rattle.hunk_words.proofs.LongLaws.{length-longs}
use Rattle.hunk_files.specs.{FileParts.IsUnitPart, ObjectFault.HasObjectFault, declared.part.Part.Part}
use Rattle.hunk_grammar.specs.ObjectRoles.{refuse_object}
use Rattle.hunk_grammar.specs.declared.object_position.ObjectPosition.{ObjectPosition}
use Rattle.hunk_grammar.specs.ObjectPositions as steps
use Rattle.hunk_files.proofs.object_walk.ObjectWalks.{ObjectWalks, start, refused, passes, ends, ends_early, part_here, part_cut}
use Rattle.hunk_files.proofs.object_walk.PassedUnits.{few_over, goes_on, walk_over}
use Rattle.hunk_files.proofs.parts.FileParts.{refuses}
use Rattle.hunk_files.proofs.object.walk.walk_object.Goals as goal
use Rattle.hunk_files.proofs.object.walk.walk_object.Goals.{then-bytes-ne0-via-then-bytes-ne0, then-bytes-ne0-via-else-bytes-ne0+then-not-may_end}

pub walking-init : goal.walking-init
walking-init c = (omega arith, omega arith, start c.args.bytes.now (λ i. omega (arith, c.type_inv.bytes i)))

-- the part by what was counted
abbrev part_of : ℕ × ℕ → Part
part_of n = part_by n.0 n.1

pub returns-in-Err : goal.returns-in-Err
returns-in-Err c =
    let bytes = c.args.bytes.now in
    let fit : IsBytes bytes = λ i. omega (arith, c.type_inv.bytes i) in
    let w = c.walking in
    let inside : w.at < length (longs bytes) = omega (arith, c.walking-test.true, length-longs bytes) in
    let fault = refused bytes fit w.at w.position w.units w.whole w.invariant.2 inside c.word_at-word.result c.word_at-word.ensures c.in-Err.reason
    (subst (λ r. IfErr r (λ (reason : Reason). refuse_object (steps.role_at w.position) c.word_at-word.result ≡ Some reason)) c.in-Err.is c.stride_from.ensures.refusal) in
    refuses (HasObjectFault bytes) IsUnitPart (longs bytes) w.at c.in-Err.reason (part_of (counted w.position (w.units, w.whole))) c.refusal_at.result c.refusal_at.ensures.fault
    (c.refusal_at.ensures.part ∙ ap part_of c.counted.ensures.value) fault (part_here bytes fit w.at w.position w.units w.whole w.invariant.2 (omega (arith, inside)))

pub walking-preserved : goal.walking-preserved
walking-preserved c =
    let bytes = c.args.bytes.now in
    let fit : IsBytes bytes = λ i. omega (arith, c.type_inv.bytes i) in
    let w = c.walking in
    let ok = c.in-Ok in
    let few = c.counted.ensures.few in
    let over = c.pass_over in
    let on = passes bytes fit w.at w.position w.units w.whole w.invariant.2 (omega (arith, c.walking-test.true, length-longs bytes)) c.word_at-word.result c.word_at-word.ensures
    ok.ensures.passes in
    let P : ℕ → ObjectPosition → ℕ × ℕ → Type 0 = λ n p m. ObjectWalks bytes (w.at + (1 + n)) p m.0 m.1 in
    let here = subst (λ (n : ℕ). P n ok.stride.after c.counted.result) (sym ok.ensures.run)
    (subst (λ (p : ObjectPosition). P (steps.run (steps.step w.position c.word_at-word.result)) p c.counted.result) (sym ok.ensures.after)
    (subst (P (steps.run (steps.step w.position c.word_at-word.result)) (steps.pass_run (steps.step w.position c.word_at-word.result))) (sym c.counted.ensures.value) on)) in
    let counts = few_over (longs bytes) _ _ _ _ _ _ over.ensures (omega (arith, few.0, w.invariant.0), omega (arith, few.1, w.invariant.1)) in (
      counts.0,
      counts.1,
      walk_over bytes fit _ _ _ _ _ _ here over.ensures,
    )

pub walking-smaller : goal.walking-smaller
walking-smaller c = omega (arith, c.walking-test.true, goes_on (longs c.args.bytes.now) _ _ _ _ _ _ c.pass_over.ensures)

clash : (a b : Bool) → a ≡ b → a ≡ false → b ≡ true → ⊥
clash a b e f t = cc (e, f, t)

pub returns-then-at-count : goal.returns-then-at-count
returns-then-at-count c =
    let bytes = c.args.bytes.now in
    let fit : IsBytes bytes = λ i. omega (arith, c.type_inv.bytes i) in
    let w = c.walking in
    let beyond : length (longs bytes) < w.at = omega (arith, c.if-at-count.true, length-longs bytes) in
    let cut = ends_early bytes fit w.at w.position w.units w.whole w.invariant.2 (omega (arith, beyond)) (λ few all may. omega (arith, few, beyond)) in
    let all : longs bytes ≡ take (length bytes / 4) (longs bytes) = sym (take_all (length bytes / 4) (longs bytes) (omega (arith, length-longs bytes))) in
    refuses (HasObjectFault bytes) IsUnitPart (longs bytes) (length bytes / 4) reasons.Truncated (part_by w.units w.whole) c.refusal_at-then-at-count.result c.refusal_at-then-at-count.ensures.fault c.refusal_at-then-at-count.ensures.part
    (subst (λ (n : ℕ). HasObjectFault bytes (4 * n) reasons.Truncated) (length-longs bytes) cut)
    (subst (λ (ws : List ℕ). IsUnitPart ws (part_by w.units w.whole)) all (part_cut bytes fit w.at w.position w.units w.whole w.invariant.2 beyond))

pub returns-then-bytes-ne0 : goal.returns-then-bytes-ne0
returns-then-bytes-ne0 c =
    let bytes = c.args.bytes.now in
    let fit : IsBytes bytes = λ i. omega (arith, c.type_inv.bytes i) in
    let w = c.walking in
    let here : w.at ≡ length bytes / 4 = omega (arith, c.if-at-count.false, c.walking-test.false) in
    let still : w.at ≤ length (longs bytes) → length bytes ≡ 4 * length (longs bytes) → steps.may_end w.position ≡ true → ⊥ =
    λ few all may. elim c.then-bytes-ne0.branch [
      | then-bytes-ne0-via-then-bytes-ne0 v ↦ v.if-bytes-ne0.true (omega (arith, all))
      | then-bytes-ne0-via-else-bytes-ne0+then-not-may_end v ↦ clash v.may_end.result (steps.may_end w.position) v.may_end.ensures v.if-not-may_end.true may
    ] in
    let cut = ends_early bytes fit w.at w.position w.units w.whole w.invariant.2 (omega (arith, here, length-longs bytes)) still in
    let n = counted w.position (w.units, w.whole) in
    refuses (HasObjectFault bytes) IsUnitPart (longs bytes) (length bytes / 4) reasons.Truncated (part_of n) c.refusal_at-then-bytes-ne0.result c.refusal_at-then-bytes-ne0.ensures.fault
    (c.refusal_at-then-bytes-ne0.ensures.part ∙ ap part_of c.counted-then-bytes-ne0.ensures.value)
    (subst (λ (n : ℕ). HasObjectFault bytes (4 * n) reasons.Truncated) (length-longs bytes) cut)
    (subst (λ (k : ℕ). IsUnitPart (take k (longs bytes)) (part_of n)) here (part_here bytes fit w.at w.position w.units w.whole w.invariant.2 (omega (arith, here, length-longs bytes))))

pub returns : goal.returns
returns c =
    let bytes = c.args.bytes.now in
    let w = c.walking in
    ends bytes (λ i. omega (arith, c.type_inv.bytes i)) w.at w.position w.units w.whole w.invariant.2 (sym c.may_end.ensures ∙ c.if-not-may_end.false)
    (omega (arith, c.if-at-count.false, length-longs bytes)) (omega (arith, c.walking-test.false, length-longs bytes)) (omega (arith, c.if-bytes-ne0.false, length-longs bytes))
