-- The rows of a table, read from the bytes that begin with its header.
use Rattle.std.proofs.Common.{rules, ◌≡◌, ℕ, suc, ◌+◌, ◌*◌, ◌<◌, ◌≤◌, Bool, true, false, List, [], ◌∷◌, ◌++◌, length, drop, drop-cons, get_or, refl, sym, ap, subst, ◌∙◌, add-one, arith, if◌then◌else◌}
use Rattle.std.proofs.lemmas.List.{Elements.All-from_recursion, drop-drop, get_or-drop, length-append, length-drop}
use Rattle.hunk_words.specs.{Bits.has_both_bits, Longs.longs}
use Rattle.hunk_words.proofs.LongLaws.{longs-bytes_of, length-longs}
use Rattle.hunk_files.specs.LoadFile.{TableEntry, IsTableEntry}
use Rattle.hunk_files.proofs.cuts.TableReading.{entries_words}
use Rattle.hunk_scatter.specs.HeaderBytes.{BeginsWithHeader, header_words}
use Rattle.hunk_scatter.proofs.HeaderStops.{header_longs}
use Rattle.hunk_c.specs.Packs.{RowStandsAt}

abbrev pub no_entry : TableEntry
no_entry = record { word = 0; extra = 0 }

pub stands_first : (bytes : List ℕ) (t : List TableEntry) (h : BeginsWithHeader bytes t) → RowStandsAt bytes t h 0 5
stands_first bytes t h =
    let split : longs bytes ≡ header_words t ++ longs h.rest = ap longs h.split ∙ longs-bytes_of (header_words t) h.rest (header_longs t h.is_table) in
    ap (λ (l : List ℕ). drop 5 l) split

module _ (bytes : List ℕ) (t : List TableEntry) (h : BeginsWithHeader bytes t) (i at : ℕ) (s : RowStandsAt bytes t h i at) (more : i < length t) where
  abbrev entry : TableEntry
  entry = get_or t i no_entry

  after : List ℕ
  after = entries_words (drop (suc i) t) ++ longs h.rest

  here : (b : Bool) → has_both_bits entry.word ≡ b → drop at (longs bytes) ≡ (entry.word ∷ (if b then entry.extra ∷ [] else [])) ++ after
  unfolding after
  here b both = let split = drop-cons t i no_entry more in search rules

  longword : (k : ℕ) → get_or (longs bytes) (at + k) 0 ≡ get_or (drop at (longs bytes)) k 0
  longword k = sym (get_or-drop at (longs bytes) k 0)

  word_by : (b : Bool) → has_both_bits entry.word ≡ b → get_or (longs bytes) at 0 ≡ entry.word
  word_by b both = ap (λ (n : ℕ). get_or (longs bytes) n 0) (omega arith) ∙ longword 0 ∙ ap (λ (l : List ℕ). get_or l 0 0) (here b both)

  word_is : get_or (longs bytes) at 0 ≡ entry.word
  word_is = word_by (has_both_bits entry.word) refl

  extra_by : (b : Bool) → has_both_bits entry.word ≡ b → (if b then get_or (longs bytes) (at + 1) 0 else 0) ≡ entry.extra
  extra_by true both = longword 1 ∙ ap (λ (l : List ℕ). get_or l 1 0) (here true both)
  extra_by false both = sym ((All-from_recursion IsTableEntry t h.is_table.each i no_entry more).2 both)

  room : (b : Bool) → has_both_bits entry.word ≡ b → 4 * at + (if b then 8 else 4) ≤ length bytes
  room true both = omega (arith, ap length (here true both), length-append (entry.word ∷ entry.extra ∷ []) after, length-drop at (longs bytes), length-longs bytes)
  room false both = omega (arith, ap length (here false both), length-append (entry.word ∷ []) after, length-drop at (longs bytes), length-longs bytes)

  -- its longwords
  pub word_room : 4 * at + 4 ≤ length bytes
  word_room = go (has_both_bits entry.word) refl
    where
      go : (b : Bool) → has_both_bits entry.word ≡ b → 4 * at + 4 ≤ length bytes
      go true both = omega (arith, room true both)
      go false both = omega (arith, room false both)

  pub extra_room : has_both_bits (get_or (longs bytes) at 0) ≡ true → 4 * at + 8 ≤ length bytes
  extra_room both = omega (arith, room true (ap has_both_bits (sym word_is) ∙ both))

  -- The row that was read is that of the table, and the next stands after it.
  module _ (word extra : ℕ) (reads_word : word ≡ get_or (longs bytes) at 0) (reads_extra : extra ≡ (if has_both_bits (get_or (longs bytes) at 0) then get_or (longs bytes) (at + 1) 0 else 0)) where
    pub entry_is : get_or t i no_entry ≡ record { word = word; extra = extra }
    entry_is =
        let w : word ≡ entry.word = reads_word ∙ word_is in
        let x : extra ≡ entry.extra =
        reads_extra ∙ ap (λ (n : ℕ). if has_both_bits n then get_or (longs bytes) (at + 1) 0 else 0) word_is ∙ extra_by (has_both_bits entry.word) refl in
        λ k. record { word = sym w k; extra = sym x k }

    pub stands_next : RowStandsAt bytes t h (i + 1) (at + (if has_both_bits word then 2 else 1))
    unfolding after
    stands_next = subst (λ (n : ℕ). RowStandsAt bytes t h n (at + (if has_both_bits word then 2 else 1))) (sym (add-one i)) (by_bits (has_both_bits word) refl)
      where
        word_at : word ≡ entry.word
        word_at = reads_word ∙ word_is

        by_bits : (b : Bool) → has_both_bits word ≡ b → RowStandsAt bytes t h (suc i) (at + (if b then 2 else 1))
        by_bits true both = sym (drop-drop 2 at (longs bytes)) ∙ ap (λ (l : List ℕ). drop 2 l) (here true (ap has_both_bits (sym word_at) ∙ both))
        by_bits false both = sym (drop-drop 1 at (longs bytes)) ∙ ap (λ (l : List ℕ). drop 1 l) (here false (ap has_both_bits (sym word_at) ∙ both))
