use Rattle.std.proofs.Common.{◌≡◌, ◌<◌, ◌++◌, length, take}
use Rattle.hunk_words.proofs.assembler.Assembler.take.Given as goal

abbrev pub invariant-loop-byte : goal.invariant-loop-byte
invariant-loop-byte l = (l.taken ≡ l.byte-index) × (length l.self < 4) × (l.self ≡ l.fn.self ++ take l.byte-index l.piece)
