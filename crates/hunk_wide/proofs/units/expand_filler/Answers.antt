use Rattle.std.proofs.Common.{refl, ◌∙◌}
use Rattle.hunk_wide.proofs.Stretches.{filler_front, given_there, other_front}
use Rattle.hunk_wide.proofs.Leads.{filler_front_leads, other_front_leads}
use Rattle.hunk_wide.proofs.units.expand_filler.Goals as goal

pub returns-then-half-eq0-clause-gives : goal.returns-then-half-eq0-clause-gives
returns-then-half-eq0-clause-gives c = filler_front c.args.after c.args.piece.now c.if-piece-lt2.false c.if-half-eq0.true

pub returns-clause-gives : goal.returns-clause-gives
returns-clause-gives c =
    given_there _ _ _ _ _ c.copy_from_slice.new.self c.args.buf.now 6
    (other_front c.args.after c.args.piece.now c.if-piece-lt2.false c.if-half-eq0.false)
    c.copy_from_slice.ensures.len c.if-buf-lt6.false (c.copy_from_slice.ensures.after ∙ c.as_slice.ensures) refl

pub returns-then-half-eq0-clause-leads : goal.returns-then-half-eq0-clause-leads
returns-then-half-eq0-clause-leads c = filler_front_leads c.args.after c.args.piece.now c.if-piece-lt2.false c.if-half-eq0.true

pub returns-clause-leads : goal.returns-clause-leads
returns-clause-leads c = other_front_leads c.args.after c.args.piece.now c.if-piece-lt2.false c.if-half-eq0.false
