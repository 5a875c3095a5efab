-- What an input that is no file is refused for, and where.
use Rattle.std.specs.Prelude.{ℕ, List}
use Rattle.hunk_words.specs.Longs.{longs}
use Rattle.hunk_grammar.specs.FileKind.{sniffed}
use Rattle.hunk_files.specs.FileParts.{IsPartAt}
use Rattle.hunk_files.specs.HunkFile.{IsRefusal}
use Rattle.hunk_commands.specs.declared.fault.RunFault.{RunFault}
use Rattle.hunk_commands.specs.declared.fault.RunFault.TheVariants as faults

-- the fault that they have as what their first longword announces, and the part of that which it is in
abbrev pub RefusesBytes : RunFault → List ℕ → Type 0
RefusesBytes (faults.RefusedIn refusal) bytes =
    IsRefusal (sniffed (longs bytes)) bytes refusal.fault × IsPartAt (sniffed (longs bytes)) bytes refusal.fault.place refusal.part
RefusesBytes fault bytes = ⊥
