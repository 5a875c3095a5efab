use Rattle.std.proofs.Common.{ℕ, length, sym, ap, subst, ◌∙◌, arith}
use Rattle.hunk_scatter.specs.StoreContent.{put_slice}
use Rattle.hunk_c.specs.declared.loader.Loader.{Loader}
use Rattle.hunk_c.specs.Streams.{TakesPiece}
use Rattle.hunk_c.proofs.ContentRuns.{takes_content}
use Rattle.hunk_c.proofs.loader.Loader.take_content.Goals as goal

pub returns-clause-takes : goal.returns-clause-takes
returns-clause-takes c = λ took.
    let l = c.args.self.now in
    let memory = c.args.memory.now in
    let piece = c.args.piece.now in
    let stores = c.put_longs.ensures ∙ ap (λ (n : ℕ). put_slice memory n piece) c.content_at-at.ensures in
    subst (λ (x : Loader). TakesPiece c.args.rows.now l x memory c.put_longs.new.memory piece (length piece)) (sym c.pass_longs.ensures)
    (takes_content c.args.rows.now l memory c.put_longs.new.memory piece c.requires (omega (arith, c.if-self-ne-CONTENT.false)) (omega (arith, c.if-self-gt0.false)) (λ k. omega (arith, c.type_inv.piece k))
    (omega (arith, c.if-piece-gt0.false)) (omega (arith, c.if-longs-eq0.false)) (omega (arith, c.if-longs-self.false)) stores c.put_longs.auto.memory)
