use Rattle.std.proofs.Common.{◌≡◌, ◌-◌, ◌*◌, ◌≤◌, Ok, take}
use Rattle.hex.specs.Hex.{decode_of}
use Rattle.hunk_commands.proofs.hex_text.decode_pairs.Given as goal

abbrev pub invariant-pairs : goal.invariant-pairs
invariant-pairs l = (l.count ≤ l.most) × (decode_of (take (2 * l.count) l.text) ≡ Ok (take l.count l.room))

abbrev pub decreases-pairs : goal.decreases-pairs
decreases-pairs l = l.most - l.count
