use Rattle.std.proofs.Common.{ℕ, ◌+◌, ◌≤◌, take}
use Rattle.std.specs.List.{AllByRecursion}
use Rattle.hunk_words.specs.Longs.{longs}
use Rattle.hunk_grammar.specs.Positions.{EndsWithin}
use Rattle.hunk_scatter.proofs.body_check.are_inside.Given as goal

abbrev pub invariant-offsets : goal.invariant-offsets
invariant-offsets l = (limit : ℕ) → l.largest + 4 ≤ limit → AllByRecursion (EndsWithin limit) (take l.i (longs l.offsets))
