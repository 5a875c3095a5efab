use Rattle.std.proofs.Common.{rules, ◌≡◌, [], List, ℕ, false, take}
use Rattle.hunk_commands.specs.HexText.{held_digits}
use Rattle.hunk_commands.proofs.HexPieces.{pairs_taken}
use Rattle.hunk_commands.proofs.hex_text.HexDecoder.take_pairs.Goals as goal

pub invariant_of-self-2 : goal.invariant_of-self-2
invariant_of-self-2 c =
    let run : List ℕ = take c.in_ok-count.count c.args.text.now in
    let before : c.self.inside.refused ≡ false = search rules in
    let none : held_digits c.self.inside.held ≡ [] = search rules in
    rw c.and-self-inside.ensures
    (pairs_taken _ _ _ _ run _ before none c.in_ok-count.ensures.even c.in_ok-count.ensures.digits c.in_ok-count.ensures.spelled c.self.invariant)
