use Rattle.std.proofs.Common.{◌≡◌, List, ℕ}
use Rattle.std.specs.Prelude.{Result, Ok, Err, IfErr}
use Rattle.hunk_words.specs.{declared.fault.Fault.Fault, Longs.bytes_of}
use Rattle.hunk_words.specs.declared.reason.Reason.TheVariants as reasons
use Rattle.hunk_files.specs.Lacks.{EndsAt, EndsObjectPart, LacksObjectPart}
use Rattle.hunk_files.specs.ObjectFile.{ObjectFileValue, IsObjectFile, object_text}
use Rattle.hunk_files.proofs.object.file.ObjectFile.decode.Goals as goal

-- A part of the file in the bytes is lacking.
lacks : {T : Type 0} (r : Result T Fault) (bytes : List ℕ) (o : ObjectFileValue) → IsObjectFile o → bytes ≡ bytes_of (object_text o) → IfErr r (λ fault. EndsAt (EndsObjectPart o) 0 fault.place) →
    IfErr r (λ fault. fault.reason ≡ reasons.OutOfMemory → LacksObjectPart bytes fault.place)
lacks (Ok x) bytes o is text h = tt
lacks (Err fault) bytes o is text h = λ memory. record { file = record { value = o; is_object_file = is; text_is = text }; ends = h }

pub returns-clause-memory : goal.returns-clause-memory
returns-clause-memory c = lacks c.keep.result c.args.bytes.now c.in_ok-read.field-0 c.in_ok-read.ensures.file c.in_ok-read.ensures.text c.keep.ensures.place
