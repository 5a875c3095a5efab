-- The table of reasons: the class of a refusal.
use Rattle.std.specs.Prelude.{◌==◌, List, ℕ, codes, if◌then◌else◌}
use Rattle.hunk_words.specs.declared.class.Class.{Class}
use Rattle.hunk_words.specs.declared.class.Class.TheVariants as class
use Rattle.hunk_words.specs.declared.fault.Fault.{Fault}
use Rattle.hunk_words.specs.declared.reason.Reason.{Reason}
use Rattle.hunk_words.specs.declared.reason.Reason.TheVariants as reason

-- by the place and the reason: an input that ends before its first longword is no hunk file
abbrev pub class_by : ℕ → Reason → Class
class_by place reason.NotLoadFile = class.NoHunkFile
class_by place reason.IsObject = class.Unsupported
class_by place reason.Library = class.Unsupported
class_by place reason.Resident = class.Unsupported
class_by place reason.NoHunks = class.Damaged
class_by place reason.TooManyHunks = class.Damaged
class_by place reason.FirstHunk = class.Unsupported
class_by place reason.LastHunk = class.Unsupported
class_by place reason.BothBits = class.Damaged
class_by place reason.Advisory = class.NotJudged
class_by place reason.Overlay = class.Unsupported
class_by place reason.Break = class.Unsupported
class_by place reason.ShortReloc = class.Unsupported
class_by place reason.NotInLoadFile = class.Unsupported
class_by place reason.Misplaced = class.Damaged
class_by place reason.UnknownBlock = class.Damaged
class_by place reason.SecondContent = class.Damaged
class_by place reason.BeforeContent = class.Damaged
class_by place reason.NoContent = class.Damaged
class_by place reason.ContentTooLong = class.Damaged
class_by place reason.NameWord = class.Damaged
class_by place reason.NothingToRelocate = class.Damaged
class_by place reason.BadTarget = class.Damaged
class_by place reason.BadOffset = class.Damaged
class_by place reason.ExtKind = class.Damaged
class_by place reason.Truncated = if place == 0 then class.NoHunkFile else class.Damaged
class_by place reason.Budget = class.NotJudged
class_by place reason.FileLimit = class.NotJudged
class_by place (reason.NoBase i) = class.NotJudged
class_by place reason.Read = class.NotJudged
class_by place reason.OutOfMemory = class.NotJudged

abbrev pub class_of : Fault → Class
class_of fault = class_by fault.place fault.reason

-- what people read
abbrev pub words_of_class : Class → List ℕ
words_of_class class.NoHunkFile = codes "no hunk file"
words_of_class class.Unsupported = codes "not supported"
words_of_class class.Damaged = codes "damaged"
words_of_class class.NotJudged = codes "not judged"
