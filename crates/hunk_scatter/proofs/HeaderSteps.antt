-- A longword of a header: what it adds to the table and to the declared bytes, and that the first hunk opens after the last.
use Rattle.std.proofs.Common.{rules, ◌≡◌, ℕ, ◌+◌, ◌*◌, true, false, List, ◌++◌, sym, ap, ◌∙◌, arith}
use Rattle.std.proofs.lemmas.Grind.{common_steps}
use Rattle.hunk_words.specs.Bits.{size_longs}
use Rattle.hunk_grammar.specs.{Roles.{Role as roles, refuse}, Positions.{role_at, is_after_header}}
use Rattle.hunk_files.specs.{Image.declared_bytes, LoadFile.TableEntry, FileSteps.{Progress, More, role_of, rows, step_file}}
use Rattle.hunk_files.specs.ReaderPosition.{position_of, open_longs, table_of, IsAfterHeader}
use Rattle.hunk_files.proofs.{walk.FileProgress.ProgressFits, walk.Positions.refuse_same}
use Rattle.hunk_scatter.specs.HeaderLoaderFields.{adds, declares, declared_so_far, OpensFirst}
use Rattle.hunk_scatter.proofs.DeclaredBytes.{declared-append}

-- ---- what is in the header

abbrev pub IsInHeader : Progress → Type 0
IsInHeader p = is_after_header (position_of (More p)) ≡ false

pub not_in_body : (p : Progress) → IsInHeader p → IsAfterHeader (More p) → ⊥
not_in_body p e b = let clash : false ≡ true = sym e ∙ b in cc

-- no hunk is open
none_open : (p : Progress) → IsInHeader p → open_longs p ≡ 0
none_open p e = search rules

-- The position tells the refusal.
pub refusal_here : (p : Progress) (w : ℕ) → IsInHeader p → ProgressFits p → refuse (role_of p) w ≡ refuse (role_at 0 (position_of (More p))) w
refusal_here p w e f = refuse_same p w f ∙ ap (λ (n : ℕ). refuse (role_at n (position_of (More p))) w) (none_open p e)

-- where a size word is expected, it declares its bytes beside those of the rows
pub size_word : (p : Progress) (w : ℕ) → role_of p ≡ roles.SizeWord → (declares (position_of (More p)) w ≡ 4 * size_longs w) × (declared_so_far (More p) ≡ declared_bytes (table_of (More p)))
size_word p w e = search rules

-- ---- the table

-- A longword adds a row, or none.
pub step_adds : (p : Progress) (w : ℕ) → IsInHeader p → table_of (step_file p w) ≡ table_of (More p) ++ adds (position_of (More p)) w
step_adds p w e = search rules

-- ---- the declared bytes

pub rows_total : (hunks : ℕ) (done : List TableEntry) (owed : ℕ) → declared_so_far (rows hunks done owed) ≡ declared_bytes done
rows_total hunks done owed = search rules

-- A longword adds what it declares.
pub step_declares : (p : Progress) (w : ℕ) → IsInHeader p → declared_so_far (step_file p w) ≡ declared_so_far (More p) + declares (position_of (More p)) w
step_declares p w e = search (rules, declared-append)

-- ---- the end

-- After the last longword the first hunk opens.
pub step_opens : (p : Progress) (w : ℕ) → IsInHeader p → ProgressFits p → OpensFirst (step_file p w)
step_opens p w e f = grind (arith, common_steps)
