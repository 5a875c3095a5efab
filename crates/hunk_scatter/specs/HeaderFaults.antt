-- What the loader of a header refuses: its first fault, what passes the budget, or a row for which memory ran out.
use Rattle.std.specs.Prelude.{◌≡◌, ℕ, ◌+◌, ◌*◌, ◌<◌, ◌≤◌, List, [], ◌∷◌, ◌++◌, length, ◌⊎◌}
use Rattle.hunk_words.specs.Bits.{size_longs}
use Rattle.hunk_words.specs.Longs.{bytes_of, longs}
use Rattle.hunk_words.specs.declared.fault.Fault.{Fault}
use Rattle.hunk_words.specs.declared.reason.Reason.{Reason}
use Rattle.hunk_words.specs.declared.reason.Reason.TheVariants as reasons
use Rattle.hunk_grammar.specs.Roles.{Role as roles}
use Rattle.hunk_files.specs.Fault.{Expects, HasRefusal}
use Rattle.hunk_files.specs.Image.{declared_bytes}
use Rattle.hunk_files.specs.LoadFile.{TableEntry}
use Rattle.hunk_scatter.specs.HeaderBytes.{IsHeaderTable, header_bytes, IsHeaderFront, entries_so_far}

-- ---- the budget

-- With no size word among the longwords do the declared bytes pass the budget.
abbrev pub IsWithinBudget : ℕ → List ℕ → Type 0
IsWithinBudget budget ws =
    (before after : List ℕ) (word : ℕ) → ws ≡ before ++ word ∷ after → Expects before roles.SizeWord
    → declared_bytes (entries_so_far before) + 4 * size_longs word ≤ budget

-- The longword at the place is the size word with which the declared bytes of a table first pass the budget.
pub record ExceedsBudget (budget : ℕ) (bytes : List ℕ) (at : ℕ) : Type 0 where
  pub before : List ℕ
  pub word : ℕ
  pub after : List ℕ
  pub split : longs bytes ≡ before ++ word ∷ after
  pub place : at ≡ 4 * length before
  pub expects : Expects before roles.SizeWord
  pub first : IsWithinBudget budget before
  pub passes : budget < declared_bytes (entries_so_far before) + 4 * size_longs word

-- With no longword do the declared bytes pass the budget.
abbrev pub KeepsToBudget : ℕ → List ℕ → Type 0
KeepsToBudget budget bytes = (at : ℕ) → ExceedsBudget budget bytes at → ⊥

-- Budget at the place, or OutOfMemory before it.
abbrev pub IsOverBudget : ℕ → Fault → Type 0
IsOverBudget at f = ((f.reason ≡ reasons.Budget) × (f.place ≡ at)) ⊎ ((f.reason ≡ reasons.OutOfMemory) × (f.place < at))

abbrev pub IsBudgetOrMemory : Reason → Type 0
IsBudgetOrMemory reason = (reason ≡ reasons.Budget) ⊎ (reason ≡ reasons.OutOfMemory)

-- ---- faults

-- The longword at the place completes a row: there is one more with it than before it. A header begins with the bytes,
-- where no header that begins so far ends before them.
pub record CompletesRow (bytes : List ℕ) (at : ℕ) : Type 0 where
  pub before : List ℕ
  pub word : ℕ
  pub rest : List ℕ
  pub split : bytes ≡ bytes_of (before ++ word ∷ []) ++ rest
  pub place : at ≡ 4 * length before
  pub row : length (entries_so_far before) < length (entries_so_far (before ++ word ∷ []))
  pub begins : ((table : List TableEntry) (more : List ℕ) → IsHeaderTable table
      → header_bytes table ≡ bytes_of (before ++ word ∷ []) ++ more → length rest ≤ length more)
      → IsHeaderFront bytes

-- A row is completed by a longword that ends in the piece, after the bytes that were fed.
abbrev pub CompletesRowIn : List ℕ → List ℕ → Type 0
CompletesRowIn fed piece = (at : ℕ) × CompletesRow (fed ++ piece) at × (length fed < at + 4)

-- What the loader of a header answers: Budget where its table passes it, OutOfMemory where memory ran out for a row, else
-- the fault of the bytes.
abbrev pub IsHeaderFaultBy : Reason → ℕ → List ℕ → ℕ → Type 0
IsHeaderFaultBy reasons.Budget budget bytes at = ExceedsBudget budget bytes at
IsHeaderFaultBy reasons.OutOfMemory budget bytes at = CompletesRow bytes at
IsHeaderFaultBy reason budget bytes at = HasRefusal bytes at reason

abbrev pub IsHeaderFault : ℕ → List ℕ → Fault → Type 0
IsHeaderFault budget bytes f = IsHeaderFaultBy f.reason budget bytes f.place
