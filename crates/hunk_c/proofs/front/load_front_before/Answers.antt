use Rattle.std.proofs.Common.{Option, arith, sym, subst}
use Rattle.std.specs.Prelude.{IfNone}
use Rattle.hunk_words.specs.Longs.{longs}
use Rattle.hunk_words.proofs.LongLaws.{length-longs}
use Rattle.hunk_c.specs.Fronts.{HasNoFrontWhere, InLoadText}
use Rattle.hunk_c.specs.declared.front.Front.{Front}
use Rattle.hunk_c.proofs.LoadFronts.{load_front, no_front}
use Rattle.hunk_c.proofs.front.load_front_before.Goals as goal

pub last_hunk-requires : goal.last_hunk-requires
last_hunk-requires c = omega (arith, c.requires.inside, length-longs c.args.bytes.now)

pub returns-in_err-longs-clause-none : goal.returns-in_err-longs-clause-none
returns-in_err-longs-clause-none c =
    let ws = longs c.args.bytes.now in
    subst (λ (o : Option Front). IfNone o (HasNoFrontWhere InLoadText ws)) (sym c.from_residual.ensures) (no_front ws _ c.requires c.in_err-longs.ensures.none)

pub returns-clause-found : goal.returns-clause-found
returns-clause-found c =
    load_front c.args.bytes.now (λ i. omega (arith, c.type_inv.bytes i)) _ c.requires c.in_ok-longs.field-0.longs c.in_ok-longs.field-0.hunk c.in_ok-longs.ensures.found
