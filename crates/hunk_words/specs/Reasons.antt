-- The table of reasons: its numbers and its names.
use Rattle.std.specs.Prelude.{ℕ, List, codes}
use Rattle.hunk_words.specs.declared.reason.Reason.{Reason}
use Rattle.hunk_words.specs.declared.reason.Reason.TheVariants as reason

abbrev pub number_of : Reason → ℕ
number_of reason.NotLoadFile = 1
number_of reason.IsObject = 2
number_of reason.Library = 3
number_of reason.Resident = 4
number_of reason.NoHunks = 5
number_of reason.TooManyHunks = 6
number_of reason.FirstHunk = 7
number_of reason.LastHunk = 8
number_of reason.BothBits = 9
number_of reason.Advisory = 10
number_of reason.Overlay = 11
number_of reason.Break = 12
number_of reason.ShortReloc = 13
number_of reason.NotInLoadFile = 14
number_of reason.Misplaced = 15
number_of reason.UnknownBlock = 16
number_of reason.SecondContent = 17
number_of reason.BeforeContent = 18
number_of reason.NoContent = 19
number_of reason.ContentTooLong = 20
number_of reason.NameWord = 21
number_of reason.NothingToRelocate = 22
number_of reason.BadTarget = 23
number_of reason.BadOffset = 24
number_of reason.ExtKind = 25
number_of reason.Truncated = 26
number_of reason.Budget = 27
number_of reason.FileLimit = 28
number_of (reason.NoBase i) = 29
number_of reason.Read = 30
number_of reason.OutOfMemory = 31

abbrev pub name_of : Reason → List ℕ
name_of reason.NotLoadFile = codes "NotLoadFile"
name_of reason.IsObject = codes "IsObject"
name_of reason.Library = codes "Library"
name_of reason.Resident = codes "Resident"
name_of reason.NoHunks = codes "NoHunks"
name_of reason.TooManyHunks = codes "TooManyHunks"
name_of reason.FirstHunk = codes "FirstHunk"
name_of reason.LastHunk = codes "LastHunk"
name_of reason.BothBits = codes "BothBits"
name_of reason.Advisory = codes "Advisory"
name_of reason.Overlay = codes "Overlay"
name_of reason.Break = codes "Break"
name_of reason.ShortReloc = codes "ShortReloc"
name_of reason.NotInLoadFile = codes "NotInLoadFile"
name_of reason.Misplaced = codes "Misplaced"
name_of reason.UnknownBlock = codes "UnknownBlock"
name_of reason.SecondContent = codes "SecondContent"
name_of reason.BeforeContent = codes "BeforeContent"
name_of reason.NoContent = codes "NoContent"
name_of reason.ContentTooLong = codes "ContentTooLong"
name_of reason.NameWord = codes "NameWord"
name_of reason.NothingToRelocate = codes "NothingToRelocate"
name_of reason.BadTarget = codes "BadTarget"
name_of reason.BadOffset = codes "BadOffset"
name_of reason.ExtKind = codes "ExtKind"
name_of reason.Truncated = codes "Truncated"
name_of reason.Budget = codes "Budget"
name_of reason.FileLimit = codes "FileLimit"
name_of (reason.NoBase i) = codes "NoBase"
name_of reason.Read = codes "Read"
name_of reason.OutOfMemory = codes "OutOfMemory"
