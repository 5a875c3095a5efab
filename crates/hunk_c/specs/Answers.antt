-- What calls answer.
use Rattle.std.specs.Prelude.{ℕ, Bool, IsTrue, ◌||◌, ◌==◌}
use Rattle.hunk_words.specs.Reasons.{number_of}
use Rattle.hunk_words.specs.declared.fault.Fault.{Fault}
use Rattle.hunk_words.specs.declared.reason.Reason.{Reason}
use Rattle.hunk_words.specs.declared.reason.Reason.TheVariants as reasons
use Rattle.hunk_scatter.specs.LoaderReasons.{between}
use Rattle.hunk_c.specs.declared.answer.Answer.{Answer}

-- the hunk that a reason names; 0 of most
abbrev pub refused_hunk : Reason → ℕ
refused_hunk (reasons.NoBase hunk) = hunk
refused_hunk _ = 0

-- the answer of a refusal, with how much is to come
abbrev pub refused_owing : Fault → ℕ → Answer
refused_owing f owed = record { number = number_of f.reason; hunk = refused_hunk f.reason; place = f.place; count = owed }

-- the answer of a refusal
abbrev pub refused : Fault → Answer
refused f = refused_owing f 0

-- the number that says that the caller's array has too few elements
abbrev pub no_room_number : ℕ
no_room_number = 32

-- the answer where it needs this many
abbrev pub no_room : ℕ → ℕ → ℕ → Answer
no_room hunks place count = record { number = no_room_number; hunk = hunks; place = place; count = count }

abbrev pub done : ℕ → ℕ → ℕ → Answer
done hunks place count = record { number = 0; hunk = hunks; place = place; count = count }

-- ---- the numbers of a loader

-- the number that says that they are none that it may have
abbrev pub strange_number : ℕ
strange_number = 33

abbrev pub strange : Answer
strange = record { number = strange_number; hunk = 0; place = 0; count = 0 }

-- ---- all numbers

-- those that calls answer: 0, those of reasons but Advisory, FileLimit, Read and OutOfMemory, NoRoom and Strange
abbrev pub is_answered : ℕ → Bool
is_answered n = between 0 9 n || between 11 27 n || n == 29 || n == no_room_number || n == strange_number

-- Whatever a call comes to, by this, it answers one of them.
abbrev pub AreAnswered : (Answer → Type 0) → Type 0
AreAnswered Answers = (answer : Answer) → Answers answer → IsTrue (is_answered answer.number)

-- ---- the interface

-- the number of the interface of bindings/c/hunk.h, HUNK_ABI there
abbrev pub interface_number : ℕ
interface_number = 1
