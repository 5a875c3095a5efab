-- What a run says on standard error, beside what its output has taken: a writer that is old before it and new after it.
use Rattle.std.specs.Prelude.{◌≡◌, ◌==◌, ◌⊎◌, ◌-◌, ◌++◌, ⊤, ℕ, zero, Bool, false, true, if◌then◌else◌, List, [], Option, Some, None, Result, Ok, Err, IfSome, codes}
use Rattle.std.specs.Fmt.{decimal}
use Rattle.std.specs.String.{string_bytes}
use Rattle.std.specs.declared.io.Error.{Error}
use Rattle.hunk_words.specs.Carriers.{Outlet, Writing}
use Rattle.hunk_words.specs.Classes.{class_of, words_of_class}
use Rattle.hunk_words.specs.Meanings.{meaning_of}
use Rattle.hunk_words.specs.declared.class.Class.{Class}
use Rattle.hunk_words.specs.declared.reason.Reason.{Reason}
use Rattle.hunk_words.specs.declared.reason.Reason.TheVariants as reasons
use Rattle.hunk_words.specs.declared.class.Class.TheVariants as classes
use Rattle.hunk_files.specs.FileParts.{part_line}
use Rattle.hunk_files.specs.declared.part.Part.{Part}
use Rattle.hunk_files.specs.declared.part.Part.TheVariants as parts
use Rattle.hunk_files.specs.declared.refusal.Refusal.{Refusal}
use Rattle.hunk_wide.specs.Spellings.{ends_of, short_blocks_of}
use Rattle.hunk_wide.specs.declared.spelling.Spelling.{Spelling}
use Rattle.hunk_command_line.specs.declared.asked.Order.{Order}
use Rattle.hunk_command_line.specs.declared.asked.Order.TheVariants as orders
use Rattle.hunk_command_line.specs.declared.asked.OrderFault.{OrderFault}
use Rattle.hunk_command_line.specs.declared.asked.OrderFault.TheVariants as words
use Rattle.hunk_command_line.specs.FaultTexts.{fault_text, refused_line}
use Rattle.hunk_commands.specs.declared.fault.RunFault.{RunFault}
use Rattle.hunk_commands.specs.declared.fault.RunFault.TheVariants.{HexText, Memory, Read, Refused, RefusedIn, Write}
use Rattle.hunk_commands.specs.declared.rewriting.Rewritten.{Rewritten}
use Rattle.hunk_commands.specs.Faults.{line_of, status_of}
use Rattle.hunk_commands.specs.Output.{Takes}
use Rattle.hunk_run.specs.declared.note.Ended.{Ended}
use Rattle.hunk_run.specs.declared.note.Note.{Note}
use Rattle.hunk_run.specs.declared.note.Note.TheVariants.{Fault, LeftOut, Line, NotText, Output}
use Rattle.hunk_run.specs.declared.spelled.Spelled.{Spelled}
use Rattle.hunk_run.specs.declared.verdict.Verdict.{Verdict}
use Rattle.hunk_run.specs.Escapes.{escaped, escaped_lines}
use Rattle.hunk_run.specs.Runs.{rewritten_lines}
use Rattle.hunk_run.specs.Status.{TellsFindings, with_newline}

-- ---- the texts

-- the name of a file, or else that of the standard stream
abbrev pub shown_name : Option (List ℕ) → List ℕ → List ℕ
shown_name (Some name) stream = escaped name
shown_name None stream = stream

-- a file that was left as it was, if there is one
abbrev pub untouched_end : Option (List ℕ) → List ℕ
untouched_end None = []
untouched_end (Some name) = codes "; " ++ (escaped name ++ codes " was not touched")

-- what is said of something, and of such a file
abbrev pub said : List ℕ → List ℕ → Option (List ℕ) → List ℕ
said name what untouched = codes "hunkinfo: " ++ (name ++ (codes ": " ++ (what ++ (untouched_end untouched ++ codes "\n"))))

-- the same, and a hint after it
abbrev pub said_with : List ℕ → List ℕ → List ℕ → Option (List ℕ) → List ℕ
said_with name what hint untouched =
    codes "hunkinfo: " ++ (name ++ (codes ": " ++ (what ++ (hint ++ (untouched_end untouched ++ codes "\n")))))

-- a refusal: its class, unless the file is not judged, the part of the file that it is in, where one is known, and what the reason means
abbrev pub judged : Class → Option Part → List ℕ → List ℕ
judged classes.NotJudged part meaning = meaning
judged classes.NoHunkFile part meaning = words_of_class classes.NoHunkFile ++ (codes ": " ++ meaning)
judged class None meaning = words_of_class class ++ (codes ": " ++ meaning)
judged class (Some part) meaning = words_of_class class ++ (codes " in " ++ (part_line part ++ (codes ": " ++ meaning)))

abbrev pub verdict_line : Verdict → List ℕ
verdict_line verdict = judged (class_of verdict.refusal) verdict.part (meaning_of verdict.refusal.reason)

-- What may help with an input that ends too soon, where the order has no such flag: `--wide` reads a load file in whose
-- last hunk only the END may be missing.
abbrev pub end_hint : Bool → Part → List ℕ
end_hint false (parts.Hunk number) = codes "; --wide reads it, if only the last END is missing"
end_hint _ _ = []

-- What may help with a refusal for this reason at this place: which types are PowerPC code; of an input that ends at its
-- start, how few bytes it has; and where the order has no such flag, what `--wide` can do, in any file, and where an END
-- may be missing in a hunk of a load file.
abbrev pub hint_in : Bool → Part → Reason → ℕ → List ℕ
hint_in wide part reasons.UnknownBlock place =
    codes "; if it is 4E9 or 4EA, this is a program with PowerPC code, which is not supported"
hint_in wide part reasons.Truncated place =
    if place == 0 then codes "; it is empty, or has fewer than 4 bytes" else end_hint wide part
hint_in false part reasons.ShortReloc place = codes "; --wide reads such blocks"
hint_in false (parts.Hunk number) reasons.SecondContent place =
    codes "; --wide reads it, if only the END before it is missing"
hint_in _ _ _ _ = []

abbrev pub hint_of : Refusal → Bool → List ℕ
hint_of refusal wide = hint_in wide refusal.part refusal.fault.reason refusal.fault.place

-- what is said of a fault, but where the system's own words are in it
abbrev pub fault_note : RunFault → Option (List ℕ) → Option Error → Option (List ℕ) → Bool → Option (List ℕ)
fault_note Memory name cause untouched wide = Some (codes "hunkinfo: out of memory" ++ (untouched_end untouched ++ codes "\n"))
fault_note HexText name cause untouched wide = Some (said (shown_name name (codes "standard input"))
    (codes "no hexadecimal text: two digits a byte are wanted, and nothing else but spaces, tabs and line ends") untouched)
fault_note (Refused refusal) name cause untouched wide =
    Some (said (shown_name name (codes "standard input")) (verdict_line (record { refusal = refusal; part = None })) untouched)
fault_note (RefusedIn refusal) name cause untouched wide =
    Some (said_with (shown_name name (codes "standard input")) (verdict_line (record { refusal = refusal.fault; part = Some refusal.part })) (hint_of refusal wide) untouched)
fault_note (Read place) name (Some error) untouched wide = None
fault_note (Read place) name None untouched wide = Some (said (shown_name name (codes "standard input")) (codes "reading failed") untouched)
fault_note (Write written) name (Some error) untouched wide = None
fault_note (Write written) name None untouched wide = Some (said (shown_name name (codes "standard output")) (codes "writing failed") None)

-- what was left out of a file: blocks, what follows it, or both, with the line's end
abbrev pub left_out_parts : ℕ → ℕ → List ℕ
left_out_parts zero rest = decimal rest ++ codes " bytes after the load file\n"
left_out_parts stripped zero = decimal stripped ++ codes " bytes of NAME, SYMBOL, DEBUG and ADVISORY blocks\n"
left_out_parts stripped rest = decimal stripped ++ (codes " bytes of NAME, SYMBOL, DEBUG and ADVISORY blocks, " ++ (decimal rest ++ codes " bytes after the load file\n"))

abbrev pub note_text : Note → Option (List ℕ)
note_text (Line why) = Some (codes "hunkinfo: " ++ escaped_lines (string_bytes why))
note_text NotText = Some (codes "hunkinfo: a word of the command line is no UTF-8 text: give a file of such a name as standard input, as in hunkinfo show < FILE\n")
note_text (Fault fault name cause untouched wide) = fault_note fault name cause untouched wide
note_text (Output (Some error)) = None
note_text (Output None) = Some (said (codes "standard output") (codes "writing failed") None)
note_text (LeftOut name stripped rest) = Some (codes "hunkinfo: " ++ (escaped name ++ (codes ": left out: " ++ left_out_parts stripped rest)))

-- ---- how an input is spelled

abbrev pub block_words : ℕ → List ℕ
block_words n = if n == 1 then codes "block" else codes "blocks"

-- of so many blocks and of so many END, where there are any
abbrev pub spelled_parts : ℕ → ℕ → List ℕ
spelled_parts zero ends = decimal ends ++ codes " END put in\n"
spelled_parts blocks zero = decimal blocks ++ (codes " " ++ (block_words blocks ++ codes " of short relocations\n"))
spelled_parts blocks ends = decimal blocks ++ (codes " " ++ (block_words blocks ++ (codes " of short relocations, " ++ (decimal ends ++ codes " END put in\n"))))

abbrev pub spelled_line : Spelled → List ℕ
spelled_line spelled =
    codes "hunkinfo: " ++ (shown_name spelled.name (codes "standard input") ++ (codes ": " ++ spelled_parts spelled.short_blocks spelled.ends))

-- what is said of an input of this name with so many blocks of short relocations, of which so many END are left out
abbrev pub spelled_so : Option (List ℕ) → ℕ → ℕ → Option Spelled
spelled_so name zero zero = None
spelled_so name blocks ends = Some (record { name = name; short_blocks = blocks; ends = ends })

abbrev pub spelled_told : Option (List ℕ) → Option Spelling → Option Spelled
spelled_told name None = None
spelled_told name (Some spelling) = spelled_so name spelling.short_blocks spelling.ends

-- of this input
abbrev pub spelled_of : Option (List ℕ) → List ℕ → Option Spelled
spelled_of name input = spelled_so name (short_blocks_of input) (ends_of input)

-- ---- a standard output that fails

-- the same, and where the output has failed, with what the system says of it
abbrev pub note_with : Option Error → Note → Note
note_with cause (Output before) = Output cause
note_with cause note = note

-- ---- which note there is

-- The output has taken the line that goes with the note, and the status is the one of it. Without a note the status is 0, or findings were printed.
abbrev pub Notes : {W : Type 0} → (W → Outlet) → Writing W → Writing W → ℕ → Option Note → Type 0
Notes outlet old new status None = TellsFindings outlet old new status
Notes outlet old new status (Some (Line why)) = (status ≡ 2) × Takes outlet old new (with_newline refused_line)
Notes outlet old new status (Some NotText) = (status ≡ 2) × Takes outlet old new (with_newline refused_line)
Notes outlet old new status (Some (Fault fault name cause untouched wide)) = (status ≡ status_of fault) × Takes outlet old new (with_newline (line_of fault))
Notes outlet old new status (Some (Output cause)) = (status ≡ 3) × ((outlet new.sink).failed ≡ true)
Notes outlet old new status (Some (LeftOut name stripped rest)) = status ≡ 0

-- the input of an order, and its output; none is a standard stream
abbrev pub input_of : Order → Option (List ℕ)
input_of (orders.Show hex wide file) = file
input_of (orders.Validate hex wide file) = file
input_of (orders.Relocate hex wide base budget file) = file
input_of (orders.Rewrite strip wide input output) = Some input

abbrev pub output_of : Order → Option (List ℕ)
output_of (orders.Rewrite strip wide input output) = Some output
output_of _ = None

-- whether it is of the plain spelling
abbrev pub is_wide : Order → Bool
is_wide (orders.Show hex wide file) = wide
is_wide (orders.Validate hex wide file) = wide
is_wide (orders.Relocate hex wide base budget file) = wide
is_wide (orders.Rewrite strip wide input output) = wide

-- whose name is said of a fault
abbrev pub name_for : RunFault → Order → Option (List ℕ)
name_for (Write written) order = output_of order
name_for _ order = input_of order

-- the file of an order that is not touched before such a fault
abbrev pub untouched_by : RunFault → Order → Option (List ℕ)
untouched_by (Write written) order = None
untouched_by _ order = output_of order

-- The note is one of the order's files, by its name, and knows whether the order is of the plain spelling.
abbrev pub NamesFiles : Order → Option Note → Type 0
NamesFiles order (Some (Fault Memory name cause untouched wide)) = IfSome untouched (λ file. Some file ≡ output_of order)
NamesFiles order (Some (Fault fault name cause untouched wide)) =
    (name ≡ name_for fault order) × (untouched ≡ untouched_by fault order) × (wide ≡ is_wide order)
NamesFiles order (Some (LeftOut name stripped rest)) = Some name ≡ input_of order
NamesFiles order (Some (Line why)) = ⊥
NamesFiles order (Some NotText) = ⊥
NamesFiles order _ = ⊤

-- ---- how a run ends

-- as when the output has failed
abbrev pub output_failed : Ended
output_failed = record { status = 3; spelled = None; note = Some (Output None) }

-- the same, with what is said of how the input is spelled
abbrev pub ended_with : Option Spelled → Ended → Ended
ended_with spelled ended = record { status = ended.status; spelled = spelled; note = ended.note }

-- by a fault
abbrev pub fault_ended : RunFault → Option (List ℕ) → Option Error → Option (List ℕ) → Bool → Ended
fault_ended fault name cause untouched wide = record { status = status_of fault; spelled = None; note = Some (Fault fault name cause untouched wide) }

-- with a file of whose blocks, and of what follows it, so many bytes were not written
abbrev pub left_out_note : ℕ → ℕ → List ℕ → Option Note
left_out_note zero zero name = None
left_out_note stripped rest name = Some (LeftOut name stripped rest)

-- with what a rewriting did to the file of this name
abbrev pub rewritten_ended : Rewritten → List ℕ → Ended
rewritten_ended done name = record { status = 0; spelled = None; note = left_out_note (done.read - done.written) done.rest name }

-- where the words are no order
abbrev pub refusal_ended : OrderFault → Ended
refusal_ended (words.Line why) = record { status = 2; spelled = None; note = Some (Line why) }
refusal_ended words.NotText = record { status = 2; spelled = None; note = Some NotText }
refusal_ended (words.Help text) = record { status = 0; spelled = None; note = None }
refusal_ended words.Version = record { status = 0; spelled = None; note = None }
refusal_ended words.Memory = fault_ended Memory None None None false

-- and what is printed then
abbrev pub refusal_text : OrderFault → List ℕ
refusal_text (words.Line why) = with_newline refused_line
refusal_text words.NotText = with_newline refused_line
refusal_text (words.Help text) = string_bytes text
refusal_text words.Version = fault_text words.Version
refusal_text words.Memory = with_newline (line_of Memory)

-- The output has taken this text, and the run ends so; or the output has failed.
abbrev pub EndsOrFails : {W : Type 0} → (W → Outlet) → Writing W → Writing W → List ℕ → Ended → Ended → Type 0
EndsOrFails outlet old new text ended result =
    ((result ≡ ended) × Takes outlet old new text)
    ⊎ ((result ≡ output_failed) × ((outlet new.sink).failed ≡ true))

-- The output has taken the line of the fault.
abbrev pub EndsByFault : {W : Type 0} → (W → Outlet) → Writing W → Writing W → RunFault → Option (List ℕ) → Option Error → Option (List ℕ) → Bool → Ended → Type 0
EndsByFault outlet old new fault name cause untouched wide result =
    EndsOrFails outlet old new (with_newline (line_of fault)) (fault_ended fault name cause untouched wide) result

-- how a run ends that has listed an input, or not: where the output failed nothing more is written
abbrev pub EndsListing : {W : Type 0} → (W → Outlet) → Writing W → Writing W → Result ℕ RunFault → Option (List ℕ) → Option Error → Bool → Ended → Type 0
EndsListing outlet old new (Ok status) name cause wide result = (result ≡ record { status = status; spelled = None; note = None }) × (new ≡ old)
EndsListing outlet old new (Err (Write written)) name cause wide result = (result ≡ output_failed) × (new ≡ old)
EndsListing outlet old new (Err fault) name cause wide result = EndsByFault outlet old new fault name cause None wide result

-- how a run ends that has rewritten a file, or not
abbrev pub EndsRewriting : {W : Type 0} → (W → Outlet) → Writing W → Writing W → Result Rewritten RunFault → List ℕ → List ℕ → Option Error → Bool → Ended → Type 0
EndsRewriting outlet old new (Ok done) input output cause wide result =
    EndsOrFails outlet old new (rewritten_lines done) (rewritten_ended done input) result
EndsRewriting outlet old new (Err (Write written)) input output cause wide result = EndsByFault outlet old new (Write written) (Some output) cause None wide result
EndsRewriting outlet old new (Err fault) input output cause wide result = EndsByFault outlet old new fault (Some input) cause (Some output) wide result
