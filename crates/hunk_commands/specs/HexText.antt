-- Hexadecimal text with blanks in it.
use Rattle.std.specs.Prelude.{◌==◌, ◌||◌, ◌≡◌, ◌⊎◌, ◌++◌, ⊤, ℕ, Bool, true, false, not, List, [], ◌∷◌, Ok, Option, Some, None}
use Rattle.std.specs.List.{filter}
use Rattle.hex.specs.Hex.{decode_of}
use Rattle.hunk_words.specs.Carriers.{Supply}
use Rattle.hunk_commands.specs.Inputs.{ReadsInVain, ReadsInput}
use Rattle.hunk_commands.specs.declared.fault.RunFault.{RunFault}
use Rattle.hunk_commands.specs.declared.fault.RunFault.TheVariants as faults

-- a space, a tab, CR or LF
abbrev pub is_blank : ℕ → Bool
is_blank byte = byte == 32 || byte == 9 || byte == 13 || byte == 10

abbrev pub without_blanks : List ℕ → List ℕ
without_blanks text = filter (λ byte. not (is_blank byte)) text

-- the text, without its blanks, is hexadecimal text of the bytes
abbrev pub SpellsHex : List ℕ → List ℕ → Type 0
SpellsHex text bytes = decode_of (without_blanks text) ≡ Ok bytes

-- the text, without its blanks, is not hexadecimal text
abbrev pub IsNotHex : List ℕ → Type 0
IsNotHex text = (bytes : List ℕ) → ¬ SpellsHex text bytes

-- why no bytes are answered: it is not, or memory ran out
abbrev pub RefusesHex : List ℕ → RunFault → Type 0
RefusesHex text fault = (fault ≡ faults.Memory) ⊎ ((fault ≡ faults.HexText) × IsNotHex text)

-- ---- text that comes by pieces

-- a digit that is held
abbrev pub held_digits : Option ℕ → List ℕ
held_digits None = []
held_digits (Some digit) = digit ∷ []

-- its digits, but for the last ones, which are held, spell the bytes
abbrev pub SpellsBefore : List ℕ → List ℕ → List ℕ → Type 0
SpellsBefore text bytes held = (digits : List ℕ) × (without_blanks text ≡ digits ++ held) × (decode_of digits ≡ Ok bytes)

-- no text that begins so spells any bytes
abbrev pub SpellsNever : List ℕ → Type 0
SpellsNever text = (more bytes : List ℕ) → ¬ SpellsHex (text ++ more) bytes

-- what is known of the text so far, which is refused or not
abbrev pub IsDecoded : Bool → List ℕ → List ℕ → List ℕ → Type 0
IsDecoded true text bytes held = SpellsNever text
IsDecoded false text bytes held = SpellsBefore text bytes held

-- the bytes that the digits spell were appended, or they spell none
abbrev pub AppendsSpelled : Bool → List ℕ → List ℕ → List ℕ → Type 0
AppendsSpelled true digits old new = (more : List ℕ) × (decode_of digits ≡ Ok more) × (new ≡ old ++ more)
AppendsSpelled false digits old new = (more : List ℕ) → ¬ (decode_of digits ≡ Ok more)

-- ---- a source's text

-- fewer than `most` bytes of text, read to its end, spell the bytes
abbrev pub ReadsHex : Supply → Supply → ℕ → List ℕ → Type 0
ReadsHex old new most bytes = ReadsInput (λ text. SpellsHex text bytes) old new most

-- fewer than `most` bytes of text, read to its end, spell no bytes
abbrev pub SpellsNone : Supply → Supply → ℕ → Type 0
SpellsNone old new most = ReadsInput IsNotHex old new most

-- why no bytes were read: its text was not read to its end in fewer than `most` bytes, or spells none
abbrev pub ReadsNoHex : RunFault → Supply → Supply → ℕ → Type 0
ReadsNoHex faults.HexText old new most = SpellsNone old new most
ReadsNoHex faults.Memory old new most = ⊤
ReadsNoHex fault old new most = ReadsInVain fault old new most
