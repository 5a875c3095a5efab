use Rattle.std.proofs.Common.{arith}
use Rattle.hunk_grammar.specs.declared.phase.Phase.TheVariants as phases
use Rattle.hunk_grammar.specs.declared.position.Position.TheVariants as positions
use Rattle.hunk_c.specs.Loaders.{open_hunk}
use Rattle.hunk_c.proofs.{Numbers.stands_by, Passing.{fits_open, passes_payload, payload_stands}}
use Rattle.hunk_c.proofs.loader.Loader.pass_payload.Goals as goal

pub returns-clause-passes : goal.returns-clause-passes
returns-clause-passes c = λ passed.
    let l = c.args.self.now in
    let phase = phases.Payload l.owed in
    let counts = c.counts_bytes.ensures.0 c.if-not-counts_bytes.false in
    let stands = payload_stands l (omega (arith, c.if-self-ne-PAYLOAD.false)) (c.may_be_open.ensures.0 c.if-not-may_be_open.false) in
    let s = stands_by l (positions.Body (open_hunk l) phase) stands counts (c.is_clean.ensures.0 c.if-not-is_clean.false) in
    let fits = fits_open c.args.rows.now c.args.total l phase (c.lies_in.ensures.0 c.if-not-lies_in.false) counts.few stands in
    rw (c.pass_longs.ensures)
    (passes_payload c.args.rows.now c.args.total l c.args.piece.now s fits (omega (arith, c.if-self-gt0.false)) (λ k. omega (arith, c.type_inv.piece k))
    (omega (arith, c.if-piece-gt0.false)) (omega (arith, c.if-longs-eq0.false)) (omega (arith, c.if-longs-self.false)))
