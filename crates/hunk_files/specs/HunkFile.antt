-- What bytes are by their first longword: an object file, or a load file and whatever follows it.
use Rattle.std.specs.Prelude.{◌≡◌, ◌⊎◌, ℕ, List, length, IsTrue}
use Rattle.hunk_words.specs.Longs.{bytes_of}
use Rattle.hunk_words.specs.declared.fault.Fault.{Fault}
use Rattle.hunk_grammar.specs.declared.file_kind.Sniff.{Sniff}
use Rattle.hunk_grammar.specs.declared.file_kind.Sniff.TheVariants as sniffs
use Rattle.hunk_files.specs.Fault.{BeginsWithLoadFile, HasFault, is_load_refusal}
use Rattle.hunk_files.specs.LoadText.{text}
use Rattle.hunk_files.specs.ObjectFault.{HasObjectFault}
pub use Rattle.hunk_files.specs.ObjectFile.{AreObjectFile}
use Rattle.hunk_files.specs.ObjectFile.{is_object_refusal, object_text}
use Rattle.hunk_files.specs.Lacks.{EndsLoadPart, EndsObjectPart, LacksLoadPart, LacksObjectPart}
use Rattle.hunk_files.specs.Strip.{strip_file, strip_object}
use Rattle.hunk_files.specs.declared.hunk_file.HunkFile.{HunkFile}
use Rattle.hunk_files.specs.declared.hunk_file.HunkFile.TheVariants as files

abbrev pub AreFile : List ℕ → Type 0
AreFile bytes = BeginsWithLoadFile bytes ⊎ AreObjectFile bytes

-- the file that the bytes are, or begin with, and how many bytes follow it
abbrev pub IsFileOf : List ℕ → HunkFile → Type 0
IsFileOf bytes (files.Load value rest) = (file : BeginsWithLoadFile bytes) × (value ≡ file.value) × (rest ≡ length file.rest)
IsFileOf bytes (files.Object value) = (file : AreObjectFile bytes) × (value ≡ file.value)

-- ---- bytes that are no file

-- refused for the fault that the bytes have as a load file
abbrev pub IsLoadRefusal : List ℕ → Fault → Type 0
IsLoadRefusal bytes refusal = HasFault bytes refusal.place refusal.reason × IsTrue (is_load_refusal refusal.reason)

-- refused for the fault that they have as an object file
abbrev pub IsObjectRefusal : List ℕ → Fault → Type 0
IsObjectRefusal bytes refusal = HasObjectFault bytes refusal.place refusal.reason × IsTrue (is_object_refusal refusal.reason)

-- refused as what the bytes announce: an object file, or else a load file
abbrev pub IsRefusal : Sniff → List ℕ → Fault → Type 0
IsRefusal sniffs.Object bytes refusal = IsObjectRefusal bytes refusal
IsRefusal kind bytes refusal = IsLoadRefusal bytes refusal

-- ---- bytes for whose file memory was refused

-- the file that they announce is there, and here a part of it ends that takes memory
abbrev pub IsMemory : Sniff → List ℕ → ℕ → Type 0
IsMemory sniffs.Object bytes place = LacksObjectPart bytes place
IsMemory kind bytes place = LacksLoadPart bytes place

-- It ends a part of the file that takes memory.
abbrev pub EndsFilePart : HunkFile → ℕ → Type 0
EndsFilePart (files.Load value rest) n = EndsLoadPart value n
EndsFilePart (files.Object value) n = EndsObjectPart value n

-- ---- the file in memory

-- the bytes that it has
abbrev pub file_bytes : HunkFile → List ℕ
file_bytes (files.Load value rest) = bytes_of (text value)
file_bytes (files.Object value) = bytes_of (object_text value)

-- without the blocks that strip drops
abbrev pub stripped : HunkFile → HunkFile
stripped (files.Load value rest) = files.Load (strip_file value) rest
stripped (files.Object value) = files.Object (strip_object value)

-- how many bytes follow it
abbrev pub bytes_after : HunkFile → ℕ
bytes_after (files.Load value rest) = rest
bytes_after (files.Object value) = 0
