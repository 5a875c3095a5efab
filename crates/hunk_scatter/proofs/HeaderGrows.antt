-- Whatever longwords follow in a table, a header has them.
use Rattle.std.proofs.Common.{rules, ◌≡◌, ℕ, zero, suc, ◌+◌, ◌-◌, ◌*◌, ◌%◌, ◌<◌, ◌≤◌, Bool, List, [], ◌∷◌, ◌++◌, length, replicate, get_or, refl, sym, ap, subst, ◌∙◌, append_assoc, append-nil, arith, length-append, None}
use Rattle.std.proofs.lemmas.List.{length-replicate}
use Rattle.hunk_words.specs.{Bits.has_both_bits, Longs.{longs, bytes_of, IsLong, AreLongs, IsBytes}}
use Rattle.hunk_words.proofs.LongLaws.{spelled, longs_fit, length-bytes_of, bytes_of-append}
use Rattle.hunk_grammar.specs.Roles.{refuse}
use Rattle.hunk_files.specs.{LoadFile.TableEntry, ReaderPosition.position_of, WordsRead.HasRead}
use Rattle.hunk_files.specs.FileSteps.{table_entry, Progress, AtFirst, AtResident, AtTableSize, AtFirstHunk, AtLastHunk, AtSizeWord, AtAttributes, AtBlock, InBody, Next, More, Finished, role_of, rows, sized_row, step_file}
use Rattle.hunk_files.proofs.walk.Reading.{reads, step_read}
use Rattle.hunk_scatter.specs.{HeaderBytes.{IsHeaderTable, header_bytes, IsHeaderFront}, HeaderLoaderFields.{adds, OpensFirst}}
use Rattle.hunk_scatter.proofs.{HeaderLeast.{header_least, header_ends, header_falls}, HeaderSteps.{IsInHeader, step_opens}}

-- ---- longwords of the table

abbrev pub IsInTable : Next → Type 0
IsInTable (More AtFirst) = ⊥
IsInTable (More AtResident) = ⊥
IsInTable (More AtTableSize) = ⊥
IsInTable (More (AtFirstHunk hunks)) = ⊥
IsInTable (More (AtLastHunk hunks)) = ⊥
IsInTable n = Unit {0}

rows_in_table : (hunks : ℕ) (done : List TableEntry) (owed : ℕ) → IsInTable (rows hunks done owed)
rows_in_table hunks done owed = search rules

sized_in_table : (hunks : ℕ) (done : List TableEntry) (w owed : ℕ) (b : Bool) → IsInTable (sized_row hunks done w owed b)
sized_in_table hunks done w owed b = search rules

-- after a longword that completes a row
pub row_in_table : (p : Progress) (w : ℕ) → 0 < length (adds (position_of (More p)) w) → IsInTable (step_file p w)
row_in_table p w some = search rules

-- The reader goes on in the header.
record GoesOn (ws : List ℕ) : Type 0 where
  pub next : Next
  pub read : HasRead ws next
  pub opens_first : OpensFirst next

abbrev GoOn : List ℕ → Next → List ℕ → Type 0
GoOn xs n ws = IsInTable n → HasRead ws n → OpensFirst n → length xs ≤ header_least n → GoesOn (ws ++ xs)

-- after one longword
further : (x : ℕ) (xs : List ℕ) → IsLong x → (p : Progress) (ws : List ℕ) → GoOn xs (step_file p x) (ws ++ x ∷ []) → IsInHeader p → IsInTable (step_file p x) → refuse (role_of p) x ≡ None →
    HasRead ws (More p) → length (x ∷ xs) ≤ header_least (More p) → GoesOn (ws ++ x ∷ xs)
further x xs l p ws rest e i pass h le =
    subst GoesOn (append_assoc ws (x ∷ []) xs) (rest i (step_read ws p x h l pass) (step_opens p x e (reads h).0) (omega (arith, le, header_falls p x pass)))

rows_go_on : (xs : List ℕ) → AreLongs xs → (n : Next) (ws : List ℕ) → GoOn xs n ws
rows_go_on [] l n ws i h o le = record { next = n; read = subst (λ (us : List ℕ). HasRead us n) (sym (append-nil ws)) h; opens_first = o }
rows_go_on (x ∷ xs) l (More (AtSizeWord hunks done owed)) ws i h o le =
    further x xs l.0 (AtSizeWord hunks done owed) ws (rows_go_on xs l.1 (step_file (AtSizeWord hunks done owed) x) (ws ++ x ∷ [])) refl (sized_in_table hunks done x owed (has_both_bits x)) refl h le
rows_go_on (x ∷ xs) l (More (AtAttributes hunks done word owed)) ws i h o le =
    further x xs l.0 (AtAttributes hunks done word owed) ws (rows_go_on xs l.1 (step_file (AtAttributes hunks done word owed) x) (ws ++ x ∷ [])) refl (rows_in_table hunks (done ++ table_entry word x ∷ []) owed) refl h le
rows_go_on (x ∷ xs) l (More (AtBlock p)) ws i h o le = absurd (omega (arith, le))
rows_go_on (x ∷ xs) l (More (InBody p word y)) ws i h o le = absurd (omega (arith, le))
rows_go_on (x ∷ xs) l (Finished v) ws i h o le = absurd (omega (arith, le))
rows_go_on (x ∷ xs) l _ ws i h o le = absurd i

-- ---- bytes that may end inside a longword

zeros_are_bytes : (n i : ℕ) → get_or (replicate n 0) i 0 < 256
zeros_are_bytes zero i = omega arith
zeros_are_bytes (suc n) zero = omega arith
zeros_are_bytes (suc n) (suc i) = zeros_are_bytes n i

padded_are_bytes : (zs : List ℕ) (n : ℕ) → IsBytes zs → IsBytes (zs ++ replicate n 0)
padded_are_bytes [] n h i = zeros_are_bytes n i
padded_are_bytes (z ∷ zs) n h zero = h 0
padded_are_bytes (z ∷ zs) n h (suc i) = padded_are_bytes zs n (λ k. h (suc k)) i

record Padded (zs : List ℕ) : Type 0 where
  pub pad : List ℕ
  pub ws : List ℕ
  pub are_longs : AreLongs ws
  pub spelled_are : zs ++ pad ≡ bytes_of ws
  pub few : 4 * length ws < length zs + 4

padded : (zs : List ℕ) → IsBytes zs → Padded zs
padded zs h =
    let n : ℕ = (4 - length zs % 4) % 4 in
    let all : List ℕ = zs ++ replicate n 0 in
    let fit = padded_are_bytes zs n h in
    let s = spelled all fit in
    let none : length s.over ≡ 0 = omega (arith, s.few, ap length s.split, length-append (bytes_of (longs all)) s.over, length-bytes_of (longs all), length-append zs (replicate n 0), length-replicate {A = ℕ} n 0) in
    record {
      pad = replicate n 0;
      ws = longs all;
      are_longs = longs_fit all fit;
      spelled_are = s.split ∙ ap (λ (bs : List ℕ). bytes_of (longs all) ++ bs) (empty s.over none) ∙ append-nil (bytes_of (longs all));
      few = omega (arith, none, ap length s.split, length-append (bytes_of (longs all)) s.over, length-bytes_of (longs all), length-append zs (replicate n 0), length-replicate {A = ℕ} n 0);
    }
  where
    empty : (bs : List ℕ) → length bs ≡ 0 → bs ≡ []
    empty [] e = refl
    empty (b ∷ bs) e = absurd (omega (arith, e))

-- After a row a header has whatever bytes follow, as far as headers go on.
pub table_grows : (n : Next) (ws more : List ℕ) → IsInTable n → HasRead ws n → OpensFirst n → IsBytes more →
    ((t : List TableEntry) (k : List ℕ) → IsHeaderTable t → header_bytes t ≡ bytes_of ws ++ k → length more ≤ length k) → IsHeaderFront (bytes_of ws ++ more)
table_grows n ws more i h o fit fits =
    let end = header_ends n ws h o in
    let room = fits end.table (bytes_of end.more) end.is_table (ap bytes_of end.begins ∙ bytes_of-append ws end.more) in
    let p = padded more fit in
    let g = rows_go_on p.ws p.are_longs n ws i h o (omega (arith, room, p.few, end.count, length-bytes_of end.more)) in
    let e = header_ends g.next (ws ++ p.ws) g.read g.opens_first in
    record {
      table = e.table;
      is_table = e.is_table;
      more = p.pad ++ bytes_of e.more;
      fits =
          ap bytes_of e.begins
          ∙ bytes_of-append (ws ++ p.ws) e.more
          ∙ ap (λ (bs : List ℕ). bs ++ bytes_of e.more) (bytes_of-append ws p.ws ∙ ap (λ (bs : List ℕ). bytes_of ws ++ bs) (sym p.spelled_are) ∙ sym (append_assoc (bytes_of ws) more p.pad))
          ∙ append_assoc (bytes_of ws ++ more) p.pad (bytes_of e.more);
    }
