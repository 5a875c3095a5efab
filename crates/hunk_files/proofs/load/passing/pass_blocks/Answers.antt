use Rattle.std.proofs.Common.{sym, subst}
use Rattle.hunk_words.specs.Longs.{longs}
use Rattle.hunk_grammar.specs.declared.position.Position.{Position}
use Rattle.hunk_files.specs.Passing.{IsPassed, passed_blocks, position_at}
use Rattle.std.proofs.Common.{refl}
use Rattle.hunk_files.proofs.load.passing.pass_blocks.Goals as goal

pub returns : goal.returns
returns c =
    let from = c.args.from in
    let end = c.after_blocks-end.result in
    subst (λ (q : Position). IsPassed (longs c.args.bytes.now) from.at (position_at from) from.entry end.at q end.entry) (sym c.position.ensures)
    (passed_blocks from.hunk from.begun end refl c.after_blocks-end.ensures)
