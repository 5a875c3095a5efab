use Rattle.std.proofs.Common.{Option, arith, sym, subst}
use Rattle.std.specs.Prelude.{IfNone}
use Rattle.hunk_words.specs.Longs.{longs}
use Rattle.hunk_words.proofs.LongLaws.{length-longs}
use Rattle.hunk_c.specs.FrontPlaces.{IsFrontOf}
use Rattle.hunk_c.specs.Fronts.{HasNoFrontWhere, InObjectText}
use Rattle.hunk_c.specs.declared.front.Front.{Front}
use Rattle.hunk_c.proofs.ObjectFronts.{no_front, object_front}
use Rattle.hunk_c.proofs.front.object_front_before.Goals as goal

pub last_place-requires : goal.last_place-requires
last_place-requires c = omega (arith, c.requires.inside, length-longs c.args.bytes.now)

pub returns-in_err-longs-clause-none : goal.returns-in_err-longs-clause-none
returns-in_err-longs-clause-none c =
    let ws = longs c.args.bytes.now in
    subst (λ (o : Option Front). IfNone o (HasNoFrontWhere InObjectText ws)) (sym c.from_residual.ensures) (no_front ws _ c.requires c.in_err-longs.ensures.none)

pub returns-clause-found : goal.returns-clause-found
returns-clause-found c =
    let p = c.in_ok-longs.field-0 in
    subst (IsFrontOf InObjectText c.args.bytes.now) (sym c.object_front_at.ensures)
    (object_front c.args.bytes.now (λ i. omega (arith, c.type_inv.bytes i)) _ c.requires p.longs p.place c.in_ok-longs.ensures.found)
