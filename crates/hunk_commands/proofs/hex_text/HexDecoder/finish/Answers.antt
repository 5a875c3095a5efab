use Rattle.std.proofs.Common.{rules, ◌≡◌, refl, inr}
use Rattle.hunk_commands.proofs.HexPieces.{refused_before}
use Rattle.hunk_commands.proofs.hex_text.HexDecoder.finish.Goals as goal

pub returns-then-refused-clause-refused : goal.returns-then-refused-clause-refused
returns-then-refused-clause-refused c =
    let view : c.args.self ≡ c.self.inside.text.bytes = search rules in
    inr (refl, rw view (refused_before _ _ _ _ c.if-refused.true c.self.invariant))
