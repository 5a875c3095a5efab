-- Hunks one right after the other, by a table that is read where it lies.
use Rattle.std.proofs.Common.{rules, ◌≡◌, ℕ, zero, suc, ◌+◌, ◌-◌, ◌*◌, ◌/◌, ◌%◌, ◌^◌, ◌<◌, ◌≤◌, List, [], ◌∷◌, ◌++◌, length, take, get_or, set, Option, Some, None, refl, sym, ap, ap₂, subst, ◌∙◌, arith, if◌then◌else◌, below_more, inl, inr, ◌⊎◌, nat_le, nat_lt}
use Rattle.std.proofs.lemmas.Bool.Decides.{nat_tests}
use Rattle.std.proofs.lemmas.{List.{get_or-take, length-take-le, take_more}, Option.{slice_get-get_or, slice_get_past}}
use Rattle.hunk_words.specs.{Bits.{entry_longs, has_both_bits, size_longs}, Longs.longs}
use Rattle.hunk_blocks.specs.Cuts.{Cut}
use Rattle.hunk_files.specs.{Cuts.table_cut, Image.declared_bytes, LoadFile.TableEntry}
use Rattle.hunk_files.proofs.{cuts.LoadCuts.table_cut_is, cuts.TableReading.entries_are}
use Rattle.hunk_scatter.specs.HeaderBytes.{BeginsWithHeader}
use Rattle.hunk_scatter.specs.Placing.{AreBases, IsFirstUnplaced, base_at, listed_in, packed_from}
use Rattle.hunk_scatter.specs.{HeaderSizes.HasHeaderSize, declared.header_state.HeaderSize.HeaderSize}
use Rattle.hunk_scatter.proofs.DeclaredBytes.{declared-append, declared-cons}
use Rattle.hunk_c.specs.declared.packed.Mark.{Mark}
use Rattle.hunk_c.specs.Packs.{ArePacked, AreMarksTo, AreNearTo, AreShort, AreShortFrom, HasRow, IsRow, RowStandsAt, bases_in, hunks_a_mark, hunks_near, no_mark, packed_after}
use Rattle.hunk_c.specs.Loads.{AreBasesOf}
use Rattle.hunk_c.proofs.{Succeeding.same_header, TableRows.{no_entry, stands_first, stands_next, entry_is, word_room}}

-- ---- a table, entry by entry

pub declared_more : (t : List TableEntry) (i : ℕ) → i < length t → declared_bytes (take (i + 1) t) ≡ declared_bytes (take i t) + 4 * size_longs (get_or t i no_entry).word
declared_more t i inside =
    omega (arith, ap declared_bytes (take_more t i no_entry inside), declared-append (take i t) (get_or t i no_entry ∷ []), declared-cons (get_or t i no_entry) [])

-- ---- rows

module _ (bytes : List ℕ) (t : List TableEntry) (h : BeginsWithHeader bytes t) (start i at base : ℕ) (r : IsRow h start i at base) (more : i < length t) (word extra : ℕ) (reads_word : word ≡ get_or (longs bytes) at 0)
    (reads_extra : extra ≡ (if has_both_bits (get_or (longs bytes) at 0) then get_or (longs bytes) (at + 1) 0 else 0)) where
  is : get_or t i no_entry ≡ record { word = word; extra = extra }
  is = entry_is bytes t h i at r.stands more word extra reads_word reads_extra

  declared_is : declared_bytes (take (i + 1) t) ≡ declared_bytes (take i t) + 4 * size_longs word
  declared_is = omega (arith, declared_more t i more, ap (λ (e : TableEntry). 4 * size_longs e.word) is)

  pub row_next : (count size : ℕ) → count ≡ entry_longs word → size ≡ 4 * size_longs word → IsRow h start (i + 1) (at + count) (base + size)
  row_next count size l s = record {
    stands = subst (λ (n : ℕ). RowStandsAt bytes t h (i + 1) (at + n)) (sym l) (stands_next bytes t h i at r.stands more word extra reads_word reads_extra);
    base_is = omega (arith, r.base_is, declared_is, s);
  }

-- ---- what a row says of its hunk's place

packed_some : (start before size : ℕ) → start + before < 2 ^ 32 → start + before + size ≤ 2 ^ 32 →
    ◌≡◌ {A = Option ℕ} (if nat_le (2 ^ 32) (start + before) then None else if nat_lt (2 ^ 32) (start + before + size) then None else Some (start + before)) (Some (start + before))
packed_some start before size a b = grind (arith, nat_tests)

packed_none : (start before size : ℕ) → (2 ^ 32 ≤ start + before) ⊎ (2 ^ 32 < start + before + size) →
    ◌≡◌ {A = Option ℕ} (if nat_le (2 ^ 32) (start + before) then None else if nat_lt (2 ^ 32) (start + before + size) then None else Some (start + before)) None
packed_none start before size (inl a) = grind (arith, nat_tests)
packed_none start before size (inr b) = grind (arith, nat_tests)

module _ (t : List TableEntry) (start i b b2 : ℕ) (inside : i < length t) (here : b ≡ start + declared_bytes (take i t)) (after : b2 ≡ start + declared_bytes (take (i + 1) t)) where
  size : ℕ
  size = 4 * size_longs (get_or t i no_entry).word

  pub placed_at : b < 2 ^ 32 → b2 ≤ 2 ^ 32 → base_at (packed_from start) t i ≡ Some b
  placed_at low fits =
      packed_some start (declared_bytes (take i t)) (4 * size_longs (get_or t i no_entry).word) (omega (arith, low, here)) (omega (arith, fits, after, declared_more t i inside)) ∙ ap (λ (n : ℕ). Some n) (sym here)

  pub unplaced_at : (2 ^ 32 ≤ b) ⊎ (2 ^ 32 < b2) → base_at (packed_from start) t i ≡ None
  unplaced_at (inl high) = packed_none start (declared_bytes (take i t)) (4 * size_longs (get_or t i no_entry).word) (inl (omega (arith, high, here)))
  unplaced_at (inr past) = packed_none start (declared_bytes (take i t)) (4 * size_longs (get_or t i no_entry).word) (inr (omega (arith, past, after, declared_more t i inside)))

-- ---- the bases by the longwords

packed_length : (start : ℕ) (t : List TableEntry) → length (packed_after start t) ≡ length t
packed_length start [] = refl
packed_length start (e ∷ t) = omega (arith, packed_length (start + 4 * size_longs e.word) t)

packed_get : (start : ℕ) (t : List TableEntry) (i : ℕ) → i < length t → get_or (packed_after start t) i 0 ≡ start + declared_bytes (take i t)
packed_get start [] i inside = absurd (omega (arith, inside))
packed_get start (e ∷ t) zero inside = omega arith
packed_get start (e ∷ t) (suc i) inside = packed_get (start + 4 * size_longs e.word) t i (omega (arith, inside)) ∙ omega (arith, declared-cons e (take i t))

module _ (bytes : List ℕ) (t : List TableEntry) (h : BeginsWithHeader bytes t) (start hunks : ℕ) (many : hunks ≡ length t) where
  bases_are : bases_in start hunks bytes ≡ packed_after start t
  unfolding bases_in
  bases_are =
      ap₂ (λ (n : ℕ) (ws : List ℕ). packed_after start (table_cut n ws).value) many (stands_first bytes t h ∙ ap (λ (ws : List ℕ). ws ++ longs h.rest) (entries_are t))
      ∙ ap (λ (c : Cut (List TableEntry)). packed_after start c.value) (table_cut_is t (longs h.rest) h.is_table.each)

  pub bases_length : length (bases_in start hunks bytes) ≡ length t
  bases_length = ap (λ (l : List ℕ). length l) bases_are ∙ packed_length start t

  pub bases_get : (i : ℕ) → i < length t → get_or (bases_in start hunks bytes) i 0 ≡ start + declared_bytes (take i t)
  bases_get i inside = ap (λ (l : List ℕ). get_or l i 0) bases_are ∙ packed_get start t i inside

-- ---- the hunks that were placed

pub record PackedSoFar {bytes : List ℕ} {t : List TableEntry} (h : BeginsWithHeader bytes t) (start : ℕ) (marks : List Mark) (hunk at base : ℕ) : Type 0 where
  pub is_row : IsRow h start hunk at base
  pub near : at ≤ 5 + 2 * hunk
  pub far : 5 + hunk ≤ at
  pub short : at ≡ 5 + hunk → (i : ℕ) → i < hunk → RowStandsAt bytes t h i (5 + i)
  pub are_marks : AreMarksTo h start marks hunk
  pub room : length t ≤ hunks_a_mark * length marks
  pub placed : (i : ℕ) → i < hunk → base_at (packed_from start) t i ≡ Some (start + declared_bytes (take i t))
  pub each : (i : ℕ) → i < hunk → start + declared_bytes (take i t) < 2 ^ 32

pub none_packed : (bytes : List ℕ) (t : List TableEntry) (h : BeginsWithHeader bytes t) (start base : ℕ) (marks : List Mark) → base ≡ start → length t ≤ hunks_a_mark * length marks → PackedSoFar h start marks 0 5 base
none_packed bytes t h start base marks e room = record {
  is_row = record { stands = stands_first bytes t h; base_is = omega (arith, e) };
  near = omega arith;
  far = omega arith;
  short = λ _ i less. absurd (omega (arith, less));
  are_marks = λ k less. absurd (omega (arith, less));
  room = room;
  placed = λ i less. absurd (omega (arith, less));
  each = λ i less. absurd (omega (arith, less));
}

module _ (bytes : List ℕ) (t : List TableEntry) (h : BeginsWithHeader bytes t) (start : ℕ) (marks : List Mark) (hunk at base : ℕ) (s : PackedSoFar h start marks hunk at base) (inside : hunk < length t) (at2 base2 : ℕ) (r : IsRow h start (hunk + 1) at2 base2) where
  pub packed_more : (marks2 : List Mark) → at < at2 → at2 ≤ at + 2 → AreMarksTo h start marks2 (hunk + 1) → length marks2 ≡ length marks → base < 2 ^ 32 → base2 ≤ 2 ^ 32 → PackedSoFar h start marks2 (hunk + 1) at2 base2
  packed_more marks2 more near are n low fits = record {
    is_row = r;
    near = omega (arith, near, s.near);
    far = omega (arith, more, s.far);
    short = λ e.
        let same : at ≡ 5 + hunk = omega (arith, e, more, s.far) in
        below_more (λ (k : ℕ). RowStandsAt bytes t h k (5 + k)) hunk (s.short same) (subst (λ (n : ℕ). RowStandsAt bytes t h hunk n) same s.is_row.stands);
    are_marks = are;
    room = omega (arith, n, s.room);
    placed =
        below_more (λ (k : ℕ). base_at (packed_from start) t k ≡ Some (start + declared_bytes (take k t))) hunk s.placed
        (placed_at t start hunk base base2 inside s.is_row.base_is r.base_is low fits ∙ ap (λ (k : ℕ). Some k) s.is_row.base_is);
    each = below_more (λ (k : ℕ). start + declared_bytes (take k t) < 2 ^ 32) hunk s.each (omega (arith, s.is_row.base_is, low));
  }

  pub packed_not : (2 ^ 32 ≤ base) ⊎ (2 ^ 32 < base2) → IsFirstUnplaced (packed_from start) t hunk
  packed_not why = record {
    inside = inside;
    none = unplaced_at t start hunk base base2 inside s.is_row.base_is r.base_is why;
    first = λ i less. let some = s.placed i less in cc;
  }

module _ (bytes : List ℕ) (t : List TableEntry) (h : BeginsWithHeader bytes t) (start hunks : ℕ) (marks : List Mark) (hunk at base : ℕ) (many : hunks ≡ length t) (all : length t ≤ hunk) (s : PackedSoFar h start marks hunk at base) where
  pub all_packed : AreBases (packed_from start) t (bases_in start hunks bytes)
  all_packed = record {
    count = bases_length bytes t h start hunks many;
    each = λ i less. s.placed i (omega (arith, all, less)) ∙ ap (λ (n : ℕ). Some n) (sym (bases_get bytes t h start hunks many i less));
  }

  pub are_packed : start < 2 ^ 32 → ArePacked bytes hunks start marks
  are_packed few = record {
    table = t;
    header = h;
    hunks_are = many;
    few = few;
    each = λ i less. s.each i (omega (arith, all, less, many));
    are_marks = λ k less. s.are_marks k (omega (arith, all, less, many));
    room = omega (arith, many, s.room);
  }

  pub are_short : at ≡ 5 + hunks → hunk ≡ hunks → AreShort h
  are_short e end i less = s.short (omega (arith, e, end)) i (omega (arith, less, many, end))

-- ---- the rows by the marks

module _ (bytes : List ℕ) (hunks start : ℕ) (marks : List Mark) (p : ArePacked bytes hunks start marks) where
  pub has_base : (hunk : ℕ) → hunk < length (bases_in start hunks bytes) → hunk < hunks
  has_base hunk less = omega (arith, less, bases_length bytes p.table p.header start hunks p.hunks_are, p.hunks_are)

  pub mark_inside : (hunk : ℕ) → hunk < hunks → hunk / hunks_a_mark < length marks
  mark_inside hunk less = omega (arith, less, p.room)

  module _ (hunk at base : ℕ) (r : IsRow p.header start hunk at base) (less : hunk < hunks) where
    inside : hunk < length p.table
    inside = omega (arith, less, p.hunks_are)

    pub base_low : base < 2 ^ 32
    base_low = omega (arith, r.base_is, p.each hunk less)

    pub base_found : base ≡ get_or (bases_in start hunks bytes) hunk 0
    base_found = r.base_is ∙ sym (bases_get bytes p.table p.header start hunks p.hunks_are hunk inside)

    pub has_row : HasRow bytes (record { longword = at; base = base })
    has_row = record { table = p.table; header = p.header; start = start; hunk = hunk; few = p.few; inside = inside; is_row = r }

    pub row_after : (at2 base2 : ℕ) → (hunk < length p.table → IsRow p.header start hunk at base → IsRow p.header start (hunk + 1) at2 base2) → IsRow p.header start (hunk + 1) at2 base2
    row_after at2 base2 next = next inside r

  -- where each row from a mark on is a longword
  module _ (number : ℕ) (short : AreShortFrom p number) where
    abbrev from : ℕ
    from = (get_or marks number no_mark).longword

    pub short_at : (k at base : ℕ) → IsRow p.header start (hunks_a_mark * number + k) at base → k < hunks_a_mark → hunks_a_mark * number + k < hunks → IsRow p.header start (hunks_a_mark * number + k) (from + k) base
    short_at k at base r few less = record { stands = short k few less; base_is = r.base_is }

    module _ (k base : ℕ) (r : IsRow p.header start (hunks_a_mark * number + k) (from + k) base) (few : k + 1 < hunks_a_mark) (less : hunks_a_mark * number + (k + 1) < hunks) where
      here : hunks_a_mark * number + k < length p.table
      here = omega (arith, less, p.hunks_are)

      pub short_room : 4 * (from + k) + 4 ≤ length bytes
      short_room = word_room bytes p.table p.header (hunks_a_mark * number + k) (from + k) r.stands here

      module _ (word : ℕ) (reads : word ≡ get_or (longs bytes) (from + k) 0) where
        after : IsRow p.header start (hunks_a_mark * number + k + 1) (from + k + entry_longs word) (base + 4 * size_longs word)
        after = row_next bytes p.table p.header start (hunks_a_mark * number + k) (from + k) base r here word _ reads refl (entry_longs word) (4 * size_longs word) refl refl

        pub short_next : IsRow p.header start (hunks_a_mark * number + (k + 1)) (from + (k + 1)) (base + 4 * size_longs word)
        short_next =
            let row : hunks_a_mark * number + k + 1 ≡ hunks_a_mark * number + (k + 1) = omega arith in
            short_at (k + 1) (from + k + entry_longs word) (base + 4 * size_longs word)
            (subst (λ (i : ℕ). IsRow p.header start i (from + k + entry_longs word) (base + 4 * size_longs word)) row after) few less

        pub short_low : base + 4 * size_longs word < 2 ^ 32
        short_low = omega (arith, short_next.base_is, p.each (hunks_a_mark * number + (k + 1)) less)

-- ---- the bases kept together

-- Those of the hunks before this one stand there, and its row is the next.
pub record NearSoFar {bytes : List ℕ} {hunks start : ℕ} {marks : List Mark} (p : ArePacked bytes hunks start marks) (number : ℕ) (near : List ℕ) (hunk at base : ℕ) : Type 0 where
  pub is_row : IsRow p.header start hunk at base
  pub are_near : AreNearTo (bases_in start hunks bytes) number near hunk

-- one base more stands there
near_more : (bases near : List ℕ) (number hunk base : ℕ) → hunk / hunks_near ≡ number → length near ≡ hunks_near → base ≡ get_or bases hunk 0 → AreNearTo bases number near hunk →
    AreNearTo bases number (set near (hunk % hunks_near) base) (hunk + 1)
near_more bases near number hunk base here long is are i less same = search rules

module _ (bytes : List ℕ) (hunks start : ℕ) (marks : List Mark) (p : ArePacked bytes hunks start marks) where
  pub none_near : (number at base : ℕ) (near : List ℕ) → IsRow p.header start (hunks_near * number) at base → NearSoFar p number near (hunks_near * number) at base
  none_near number at base near r = record { is_row = r; are_near = λ i less same. absurd (omega (arith, less, same)) }

  pub near_next : (number : ℕ) (near : List ℕ) (hunk at base : ℕ) (s : NearSoFar p number near hunk at base) → hunk < hunks → (at2 base2 : ℕ) → hunk / hunks_near ≡ number → length near ≡ hunks_near →
      (hunk < length p.table → IsRow p.header start hunk at base → IsRow p.header start (hunk + 1) at2 base2) → NearSoFar p number (set near (hunk % hunks_near) base) (hunk + 1) at2 base2
  near_next number near hunk at base s less at2 base2 here long next = record {
    is_row = row_after bytes hunks start marks p hunk at base s.is_row less at2 base2 next;
    are_near = near_more (bases_in start hunks bytes) near number hunk base here long (base_found bytes hunks start marks p hunk at base s.is_row less) s.are_near;
  }

-- ---- lists of bases

pub listed_bases : (bytes bases : List ℕ) (size : HeaderSize) → HasHeaderSize (2 ^ 64 - 1) bytes size → size.hunks ≤ length bases → AreBasesOf (listed_in bases) bytes (take size.hunks bases)
listed_bases bytes bases size s room t h =
    let many : size.hunks ≡ length t = s.hunks_are ∙ ap (λ (u : List TableEntry). length u) (same_header bytes s.table t s.header h) in
    record {
      count = length-take-le size.hunks bases room ∙ many;
      each = λ i less. slice_get-get_or bases i 0 (omega (arith, less, many, room)) ∙ ap (λ (k : ℕ). Some k) (sym (get_or-take size.hunks bases i 0 (omega (arith, less, many))));
    }

pub listed_not : (bases : List ℕ) (t : List TableEntry) → length bases < length t → IsFirstUnplaced (listed_in bases) t (length bases)
listed_not bases t few = record {
  inside = few;
  none = slice_get_past bases (length bases) (omega arith);
  first = λ i less. let some = slice_get-get_or bases i 0 less in cc;
}
