use Rattle.hunk_files.proofs.image.Rising.{NoneBefore}
use Rattle.hunk_files.proofs.load.overlap.first_close.Given as goal

abbrev pub invariant-loop-i : goal.invariant-loop-i
invariant-loop-i l = NoneBefore l.rising l.i
