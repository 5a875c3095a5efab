use Rattle.std.proofs.Common.{◌≡◌, ◌+◌, ◌-◌, ◌*◌, ◌≤◌, ◌++◌, false, length, take, drop}
use Rattle.hunk_wide.specs.{InFile.LeadsTo, Parts.{load_at, word_at}, Plain.GivesFor}
use Rattle.hunk_wide.proofs.units.copy_blocks.Given as goal

abbrev pub invariant-blocks-2 : goal.invariant-blocks-2
invariant-blocks-2 l = record {
  inside : l.at ≤ length l.piece;
  behind : l.from ≤ l.at;
  room : l.given + (l.at - l.from) ≤ 2 * l.at;
  fits : 2 * length l.piece ≤ length l.buf;
  rest : drop l.given l.buf ≡ drop l.given l.fn.buf;
  gives : GivesFor (load_at (word_at l.fn.hunk false)) (take l.at l.piece) (take l.given l.buf ++ take (l.at - l.from) (drop l.from l.piece)) (load_at (word_at l.hunk l.is_first));
  leads : LeadsTo (load_at (word_at l.fn.hunk false)) (take l.at l.piece) (load_at (word_at l.hunk l.is_first));
}

abbrev pub decreases-blocks-2 : goal.decreases-blocks-2
decreases-blocks-2 l = length l.piece - l.at
