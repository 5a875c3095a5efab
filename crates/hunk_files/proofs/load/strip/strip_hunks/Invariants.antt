use Rattle.std.proofs.Common.{◌≡◌, ◌++◌, map, take, drop}
use Rattle.hunk_files.specs.{Strip.strip_file, Tables.hunk_of}
use Rattle.hunk_files.proofs.load.strip.strip_hunks.Given as goal

abbrev pub invariant-hunks : goal.invariant-hunks
invariant-hunks l = map hunk_of l.hunks ≡ strip_file (take l.hunk-index (map hunk_of l.initial.hunks)) ++ drop l.hunk-index (map hunk_of l.initial.hunks)
