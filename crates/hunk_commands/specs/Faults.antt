-- The status and the line of each fault.
use Rattle.std.specs.Prelude.{ℕ, List, ◌++◌, ⊤, codes}
use Rattle.std.specs.Fmt.{decimal}
use Rattle.hunk_words.specs.declared.fault.Fault.{Fault}
use Rattle.hunk_words.specs.declared.reason.Reason.{Reason}
use Rattle.hunk_words.specs.declared.reason.Reason.TheVariants as reasons
use Rattle.hunk_words.specs.FaultLines.{refusal_line, write_line}
use Rattle.hunk_scatter.specs.declared.load_refusal.LoadRefusal.{LoadRefusal}
use Rattle.hunk_scatter.specs.declared.load_refusal.LoadRefusal.TheVariants.{Judged, NotJudged}
use Rattle.hunk_commands.specs.declared.fault.RunFault.{RunFault}
use Rattle.hunk_commands.specs.declared.fault.RunFault.TheVariants.{HexText, Memory, Read, Refused, RefusedIn, Write}

-- the exit status
abbrev pub status_of : RunFault → ℕ
status_of (Refused fault) = 1
status_of (RefusedIn refusal) = 1
status_of HexText = 1
status_of (Read place) = 3
status_of (Write written) = 3
status_of Memory = 4

-- the line, without its end
abbrev pub line_of : RunFault → List ℕ
line_of (Refused fault) = refusal_line fault
line_of (RefusedIn refusal) = refusal_line refusal.fault
line_of HexText = codes "hex text refused"
line_of (Read place) = codes "reading failed at byte " ++ decimal place
line_of (Write written) = write_line (record { written = written })
line_of Memory = codes "out of memory"

-- the output failed
abbrev pub IsWrite : RunFault → Type 0
IsWrite (Write written) = ⊤
IsWrite _ = ⊥

-- What a refusal is to a run: out of memory and a failed read are no faults of the input.
abbrev pub refused_for : Reason → Fault → RunFault
refused_for reasons.OutOfMemory refusal = Memory
refused_for reasons.Read refusal = Read refusal.place
refused_for reason refusal = Refused refusal

abbrev pub refused_as : Fault → RunFault
refused_as refusal = refused_for refusal.reason refusal

-- What the refusal of a load is: where it names a part, so does the run.
abbrev pub load_refused : LoadRefusal → RunFault
load_refused (Judged refusal) = RefusedIn refusal
load_refused (NotJudged fault) = refused_as fault
