-- What reasons and faults are shown as.
use Rattle.std.specs.Prelude.{ℕ, List, [], ◌++◌, codes}
use Rattle.std.specs.Fmt.{decimal}
use Rattle.hunk_words.specs.declared.fault.Fault.{Fault}
use Rattle.hunk_words.specs.declared.long_writer.WriteFault.{WriteFault}
use Rattle.hunk_words.specs.declared.reason.Reason.{Reason}
use Rattle.hunk_words.specs.declared.reason.Reason.TheVariants as reasons
use Rattle.hunk_words.specs.Reasons.{name_of, number_of}

-- the hunk that has no base, where that is the reason
abbrev pub hunk_suffix : Reason → List ℕ
hunk_suffix (reasons.NoBase hunk) = codes " hunk " ++ decimal hunk
hunk_suffix _ = []

abbrev pub reason_line : Reason → List ℕ
reason_line reason = name_of reason ++ codes " (" ++ decimal (number_of reason) ++ codes ")" ++ hunk_suffix reason

abbrev pub refusal_line : Fault → List ℕ
refusal_line fault = codes "refused at byte " ++ decimal fault.place ++ codes ": " ++ reason_line fault.reason

abbrev pub write_line : WriteFault → List ℕ
write_line fault = codes "writing failed after " ++ decimal fault.written ++ codes " bytes"
