-- A load file that fits is loaded.
use Rattle.std.proofs.Common.{◌≡◌, ℕ, List, ◌++◌, length, sym, ap, subst, ◌∙◌, append_assoc, arith, inl, inr}
use Rattle.hunk_files.specs.{Fault.BeginsWithLoadFile, Image.declared_bytes, LoadFile.TableEntry, LoadText.table}
use Rattle.hunk_files.proofs.walk.Scan.{no_fault}
use Rattle.hunk_scatter.specs.{HeaderBytes.{BeginsWithHeader, header_bytes}, Placing.{Placing, HasBases}}
use Rattle.hunk_scatter.proofs.HeaderFronts.{one_table, text_header}
use Rattle.hunk_c.specs.declared.answer.Answer.{Answer}
use Rattle.hunk_c.specs.Loads.{HavePlaces, Loads, LoadsWhatFits, IsNotLoaded, HasNoFile, HasNoRoom, HasNoBase}

-- The bytes begin with one header.
pub same_header : (bytes : List ℕ) (t u : List TableEntry) → BeginsWithHeader bytes t → BeginsWithHeader bytes u → t ≡ u
same_header bytes t u h k = one_table t u h.rest k.rest h.is_table k.is_table (sym h.split ∙ k.split)

-- whichever table the header has, it has so many rows
pub same_length : (bytes : List ℕ) (t u : List TableEntry) (n : ℕ) → BeginsWithHeader bytes t → length t ≡ n → BeginsWithHeader bytes u → length u ≡ n
same_length bytes t u n h e k = ap (λ (v : List TableEntry). length v) (same_header bytes u t k h) ∙ e

-- The header that a load file begins with.
pub file_header : (bytes : List ℕ) (file : BeginsWithLoadFile bytes) → BeginsWithHeader bytes (table file.value)
file_header bytes file =
    let f = text_header file.value file.is_load_file in
    record {
      is_table = f.0;
      rest = f.1.0 ++ file.rest;
      split = file.split ∙ ap (λ (xs : List ℕ). xs ++ file.rest) f.1.1 ∙ append_assoc (header_bytes (table file.value)) f.1.0 file.rest;
    }

module _ (base : Placing) (room : ℕ) (bytes : List ℕ) (answer : Answer) where
  none_else : IsNotLoaded base room bytes answer → (file : BeginsWithLoadFile bytes) → HavePlaces base room (table file.value) → ⊥
  none_else (HasNoFile f h k e) file places = no_fault bytes f.place f.reason file h
  none_else (HasNoRoom t h less e) file places = omega (arith, ap declared_bytes (same_header bytes _ t (file_header bytes file) h), less, places.0)
  none_else (HasNoBase t hunk h room_is u e) file places =
      let placed : HasBases base t = subst (HasBases base) (same_header bytes _ t (file_header bytes file) h) places.1 in
      let some = placed hunk u.inside in
      let none = u.none in
      absurd cc

-- So much of what a load comes to.
pub what_fits : (base : Placing) (bytes old new : List ℕ) (answer : Answer) → Loads base bytes old new answer → LoadsWhatFits base (length old) bytes answer
what_fits base bytes old new answer (inl l) file places = ap (λ (a : Answer). a.number) l.answer_is
what_fits base bytes old new answer (inr (n, same)) file places = absurd (none_else base (length old) bytes answer n file places)
