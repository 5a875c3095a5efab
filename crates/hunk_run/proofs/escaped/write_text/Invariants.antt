use Rattle.std.proofs.Common.{◌≡◌, ℕ, List, ◌++◌, flat_map, length}
use Rattle.std.specs.Fmt.{HasWritten, IsPlainFormatter}
use Rattle.std.specs.Str.{chars, IsUtf8}
use Rattle.std.specs.Str.Iter.{chars_rest}
use Rattle.hunk_run.specs.Escapes.{shown}
use Rattle.hunk_run.proofs.escaped.write_text.Given as goal

abbrev pub invariant-text : goal.invariant-text
invariant-text g l =
    IsUtf8 (chars_rest l.rest)
    × (IsPlainFormatter l.fn.f
    → (done : List ℕ) × HasWritten g.W.Write.write_str_gives l.fn.f done l.f
    × (done ++ flat_map (shown l.fn.lines) (chars (chars_rest l.rest)) ≡ flat_map (shown l.fn.lines) (chars l.fn.text)))

abbrev pub decreases-text : goal.decreases-text
decreases-text g l = length (chars_rest l.rest)
