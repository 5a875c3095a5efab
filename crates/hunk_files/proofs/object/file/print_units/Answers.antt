use Rattle.std.proofs.Common.{arith}
use Rattle.hunk_blocks.proofs.ListWriting.{texts_shown}
use Rattle.hunk_files.specs.ObjectFile.{unit_text}
use Rattle.hunk_files.proofs.object.file.print_units.Goals as goal

pub returns : goal.returns
returns g c = (c.writing.invariant.0, texts_shown unit_text c.args.units.now c.writing.unit-index _ _ (omega (arith, c.writing-test.false)) c.writing.invariant.1)
