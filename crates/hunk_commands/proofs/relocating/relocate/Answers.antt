use Rattle.std.proofs.Common.{refl}
use Rattle.std.proofs.lemmas.Result.{err_from_is_err_and}
use Rattle.hunk_words.specs.declared.reason.Reason.TheVariants as reasons
use Rattle.hunk_scatter.specs.LoadRefusals.{fault_of}
use Rattle.hunk_commands.proofs.RelocateLaws.{over_of, told_for, wrote_first, wrote_all, load_stops}
use Rattle.hunk_commands.proofs.relocating.relocate.Goals as goal

pub returns-in_err-image-clause-relocates : goal.returns-in_err-image-clause-relocates
returns-in_err-image-clause-relocates g c =
    load_stops g.W.Sink.outlet c.args.base c.args.limits _ _ c.args.w.now c.in_err-image.ensures.loads c.from_residual.result
    (err_from_is_err_and c.from_residual.result c.from_residual.ensures.1)

pub returns-in_err-image-clause-succeeds : goal.returns-in_err-image-clause-succeeds
returns-in_err-image-clause-succeeds g c = λ file reads writes.
    let refusal = c.in_err-image.field-0.0 in
    let p = err_from_is_err_and c.from_residual.result c.from_residual.ensures.1 in
    let is = told_for _ refusal c.in_err-image.ensures.loads.names reasons.OutOfMemory refl (c.in_err-image.ensures.succeeds file reads) in rw (p.1, p.2) is

pub returns-in_err-image-clause-over_budget : goal.returns-in_err-image-clause-over_budget
returns-in_err-image-clause-over_budget g c = λ at passes.
    let refusal = c.in_err-image.field-0.0 in
    let p = err_from_is_err_and c.from_residual.result c.from_residual.ensures.1 in
    let over = over_of _ refusal c.in_err-image.ensures.loads.names at (c.in_err-image.ensures.over_budget at passes) in rw (p.1, p.2) over

pub returns-in_err-image-clause-tells_read : goal.returns-in_err-image-clause-tells_read
returns-in_err-image-clause-tells_read g c = λ sound failed.
    let refusal = c.in_err-image.field-0.0 in
    let p = err_from_is_err_and c.from_residual.result c.from_residual.ensures.1 in
    let is = told_for _ refusal c.in_err-image.ensures.loads.names reasons.Read refl (c.in_err-image.ensures.tells_read sound failed) in rw (p.1, p.2) ((fault_of refusal).place, is)

pub returns-in_err-put_listing-clause-relocates : goal.returns-in_err-put_listing-clause-relocates
returns-in_err-put_listing-clause-relocates g c =
    wrote_first g.W.Sink.outlet c.args.base c.args.limits _ _ c.args.w.now c.put_listing.new.w c.in_ok-image.image c.in_ok-image.ensures.loads
    c.in_err-put_listing.field-0.0 c.in_err-put_listing.ensures c.from_residual-in_err-put_listing.result
    (err_from_is_err_and c.from_residual-in_err-put_listing.result c.from_residual-in_err-put_listing.ensures.1)

pub returns-in_err-put_listing-clause-over_budget : goal.returns-in_err-put_listing-clause-over_budget
returns-in_err-put_listing-clause-over_budget g c = λ at passes. absurd (c.in_ok-image.ensures.over_budget at passes)

pub returns-clause-relocates : goal.returns-clause-relocates
returns-clause-relocates g c =
    wrote_all g.W.Sink.outlet c.args.base c.args.limits _ _ c.args.w.now c.put_listing.new.w c.in_ok-image.image c.in_ok-image.ensures.loads
    c.in_ok-put_listing.field-0 c.in_ok-put_listing.ensures
