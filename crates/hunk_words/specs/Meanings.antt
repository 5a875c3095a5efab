-- The table of reasons: what they mean.
use Rattle.std.specs.Prelude.{List, ℕ, codes}
use Rattle.hunk_words.specs.declared.reason.Reason.{Reason}
use Rattle.hunk_words.specs.declared.reason.Reason.TheVariants as reason

-- a sentence of at most 75 bytes, with no full stop
abbrev pub meaning_of : Reason → List ℕ
meaning_of reason.NotLoadFile = codes "the first longword is not 3F3"
meaning_of reason.IsObject = codes "a load file is needed, and this is an object file: link it first"
meaning_of reason.Library = codes "a library for a linker, with a LIB or INDEX block"
meaning_of reason.Resident = codes "the header names resident libraries, as for the first AmigaDOS"
meaning_of reason.NoHunks = codes "the header has a table of no hunks"
meaning_of reason.TooManyHunks = codes "the header has a table of more than 65,536 hunks"
meaning_of reason.FirstHunk = codes "the first hunk of the table is not 0"
meaning_of reason.LastHunk = codes "the last hunk is not the table size less 1, as in files with overlays"
meaning_of reason.BothBits = codes "a block word has bits 30 and 31 both set"
meaning_of reason.Advisory = codes "reserved: no answer has this number"
meaning_of reason.Overlay = codes "an OVERLAY block, of a file with overlays"
meaning_of reason.Break = codes "a BREAK block, of a file with overlays"
meaning_of reason.ShortReloc = codes "a block of short relocations, whose offsets have 16 bits"
meaning_of reason.NotInLoadFile = codes "a block that only object files have: the file is only partly linked"
meaning_of reason.Misplaced = codes "a HEADER or UNIT where none may stand, or a block before the first UNIT"
meaning_of reason.UnknownBlock = codes "a type of block that is not known, without the bit of advisory blocks"
meaning_of reason.SecondContent = codes "a second CODE, DATA or BSS block in a hunk"
meaning_of reason.BeforeContent = codes "a relocation or EXT block before the CODE, DATA or BSS block of its hunk"
meaning_of reason.NoContent = codes "a hunk ends without a CODE, DATA or BSS block"
meaning_of reason.ContentTooLong = codes "more content than the hunk is declared to have"
meaning_of reason.NameWord = codes "the top byte of the longword with the length of a name is not 0"
meaning_of reason.NothingToRelocate = codes "a relocation in a hunk of 0 bytes"
meaning_of reason.BadTarget = codes "the target of a relocation is no hunk of the file"
meaning_of reason.BadOffset = codes "a relocated longword runs past the end of its hunk"
meaning_of reason.ExtKind = codes "an EXT entry of a type that is not known"
meaning_of reason.Truncated = codes "the input ends too soon"
meaning_of reason.Budget = codes "the hunks declare more bytes than the budget allows"
meaning_of reason.FileLimit = codes "as many bytes as may be read were read, and the file had not ended"
meaning_of (reason.NoBase i) = codes "a hunk has no base, or would pass the address 2^32"
meaning_of reason.Read = codes "the input could not be read"
meaning_of reason.OutOfMemory = codes "memory was refused"
