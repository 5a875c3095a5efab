use Rattle.std.proofs.Common.{◌≡◌, ℕ, List, ◌++◌, flat_map, length, encode_utf8}
use Rattle.std.specs.Fmt.{HasWritten, IsPlainFormatter}
use Rattle.std.specs.Str.Iter.{bytes_rest}
use Rattle.hunk_run.specs.Escapes.{escape}
use Rattle.hunk_run.proofs.escaped.write_escapes.Given as goal

abbrev pub invariant-bytes : goal.invariant-bytes
invariant-bytes g l =
    IsPlainFormatter l.fn.f
    → (done : List ℕ) × HasWritten g.W.Write.write_str_gives l.fn.f done l.f
    × (done ++ flat_map escape (bytes_rest l.bytes) ≡ flat_map escape (encode_utf8 l.fn.c))

abbrev pub decreases-bytes : goal.decreases-bytes
decreases-bytes g l = length (bytes_rest l.bytes)
