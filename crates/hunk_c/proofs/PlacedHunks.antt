-- Hunks at places of one memory.
use Rattle.std.proofs.Common.{rules, ◌≡◌, ℕ, zero, suc, ◌+◌, ◌-◌, ◌*◌, ◌<◌, ◌≤◌, List, [], ◌∷◌, ◌++◌, length, take, drop, get_or, slice_get, Option, Some, None, refl, sym, ap, subst, ◌∙◌, append_assoc, append-nil, length-append, arith, ◌⊎◌, inl, inr}
use Rattle.std.proofs.lemmas.{Bool.cases_lt, Bool.Decides.nat_tests, List.{ext_get_or, get_or-drop, get_or-take, length-drop, length-map, length-take-le, map-append, places}, Option.{slice_get_within}}
use Rattle.std.proofs.Math.Seq.{get_or-append_seam}
use Rattle.std.specs.List.{AllByRecursion}
use borrow.Rule.Slice.PartMut.{put_mid}
use Rattle.hunk_words.specs.Bits.{size_longs}
use Rattle.hunk_blocks.proofs.Fronts.{All-right}
use Rattle.hunk_files.specs.Image.{image}
use Rattle.hunk_files.specs.LoadFile.{HunkValue, LoadFileValue, TableEntry, IsHunk, IsLoadFile, declared_longs}
use Rattle.hunk_files.specs.LoadText.{table}
use Rattle.hunk_scatter.specs.Placing.{AreBases}
use Rattle.hunk_c.specs.LoadsAt.{HasByte, HasHunks, HasOwnBytes, HasImages, IsOwn, KeepsOthers, base_in, placed_in}

-- ---- an element of a list with one more

module _ {A : Type 0} where
  get_before : (xs : List A) (x : A) (i : ℕ) → i < length xs → slice_get (xs ++ x ∷ []) i ≡ slice_get xs i
  get_before [] x i inside = absurd (omega (arith, inside))
  get_before (y ∷ xs) x zero inside = refl
  get_before (y ∷ xs) x (suc i) inside = get_before xs x i (omega (arith, inside))

  get_last : (xs : List A) (x : A) → slice_get (xs ++ x ∷ []) (length xs) ≡ Some x
  get_last [] x = refl
  get_last (y ∷ xs) x = get_last xs x

-- ---- a part of the memory that was written anew

module _ (at size : ℕ) (memory part : List ℕ) (fits : at + size ≤ length memory) (long : length part ≡ size) where
  put_length : length (put_mid at (at + size - at) memory part) ≡ length memory
  put_length = search (rules, places)

  put_inside : (byte offset : ℕ) → byte ≡ at + offset → offset < size → get_or (put_mid at (at + size - at) memory part) byte 0 ≡ get_or part offset 0
  put_inside byte offset e less = search (rules, places)

  put_outside : (byte : ℕ) → (byte < at) ⊎ (at + size ≤ byte) → get_or (put_mid at (at + size - at) memory part) byte 0 ≡ get_or memory byte 0
  put_outside byte (inl before) = search (rules, places)
  put_outside byte (inr after) = search (rules, places)

-- ---- a hunk more

-- A hunk of this size lies in the memory at this base.
pub record Lies (start room size base : ℕ) : Type 0 where
  pub from : start ≤ base
  pub inside : base + size ≤ start + room

-- These hunks are in the memory, which was this.
pub record ArePut (start : ℕ) (bases : List ℕ) (hunks : LoadFileValue) (old new : List ℕ) : Type 0 where
  pub size : length new ≡ length old
  pub lie : (i : ℕ) (h : HunkValue) → slice_get hunks i ≡ Some h → Lies start (length old) (4 * declared_longs h) (get_or bases i 0)
  pub sized : (i : ℕ) (h : HunkValue) → slice_get hunks i ≡ Some h → length (image bases h) ≡ 4 * declared_longs h
  pub bytes : HasOwnBytes start bases hunks new
  pub outside : KeepsOthers start bases hunks old new

none_yet : (start : ℕ) (bases memory : List ℕ) → ArePut start bases [] memory memory
none_yet start bases memory = record {
  size = refl;
  lie = λ i h is. absurd cc;
  sized = λ i h is. absurd cc;
  bytes = λ i byte b own. absurd (let is = b.is in cc);
  outside = λ byte none. refl;
}

module _ (start : ℕ) (bases : List ℕ) (done : LoadFileValue) (old memory : List ℕ) (s : ArePut start bases done old memory) (h : HunkValue) (at size : ℕ) (part : List ℕ)
    (here : start + at ≡ get_or bases (length done) 0) (many : size ≡ 4 * declared_longs h) (fits : at + size ≤ length memory) (long : length part ≡ size) (part_is : part ≡ image bases h) where
  more : LoadFileValue
  more = done ++ h ∷ []

  new : List ℕ
  new = put_mid at (at + size - at) memory part

  old_byte : (i byte : ℕ) → HasByte start bases done i byte → HasByte start bases (done ++ h ∷ []) i byte
  old_byte i byte b =
      record { hunk = b.hunk; is = get_before done h i (slice_get_within done i b.hunk b.is) ∙ b.is; offset = b.offset; inside = b.inside; lies = b.lies }

  new_byte : (byte offset : ℕ) → byte ≡ at + offset → offset < size → HasByte start bases (done ++ h ∷ []) (length done) byte
  new_byte byte offset e less = record { hunk = h; is = get_last done h; offset = offset; inside = omega (arith, less, many); lies = omega (arith, e, here) }

  elsewhere : (byte : ℕ) → (HasByte start bases (done ++ h ∷ []) (length done) byte → ⊥) → (byte < at) ⊎ (at + size ≤ byte)
  elsewhere byte none = by (cases_lt byte at) (cases_lt byte (at + size))
    where
      by : (byte < at) ⊎ (at ≤ byte) → (byte < at + size) ⊎ (at + size ≤ byte) → (byte < at) ⊎ (at + size ≤ byte)
      by (inl before) k = inl before
      by (inr from) (inl less) = absurd (none (new_byte byte (byte - at) (omega (arith, from)) (omega (arith, from, less))))
      by (inr from) (inr after) = inr after

  image_of : (i byte : ℕ) (b : HasByte start bases (done ++ h ∷ []) i byte) → IsOwn start bases (done ++ h ∷ []) i byte → (i < length done) ⊎ (length done ≤ i) →
      get_or (put_mid at (at + size - at) memory part) byte 0 ≡ get_or (image bases b.hunk) b.offset 0
  image_of i byte b own (inl less) =
      put_outside at size memory part fits long byte (elsewhere byte (λ n. let same = own (length done) n in omega (arith, same, less)))
      ∙ s.bytes i byte (record { hunk = b.hunk; is = sym (get_before done h i less) ∙ b.is; offset = b.offset; inside = b.inside; lies = b.lies }) (λ j k. own j (old_byte j byte k))
  image_of i byte b own (inr from) =
      let within = slice_get_within (done ++ h ∷ []) i b.hunk b.is in
      let last : i ≡ length done = omega (arith, within, from, length-append done (h ∷ [])) in
      let same : h ≡ b.hunk = by_some (sym (get_last done h) ∙ ap (λ (k : ℕ). slice_get (done ++ h ∷ []) k) (sym last) ∙ b.is) in
      put_inside at size memory part fits long byte b.offset (omega (arith, b.lies, here, ap (λ (k : ℕ). get_or bases k 0) last)) (omega (arith, b.inside, many, ap (λ (x : HunkValue). declared_longs x) same))
      ∙ ap (λ (m : List ℕ). get_or m b.offset 0) (part_is ∙ ap (λ (x : HunkValue). image bases x) same)
    where
      by_some : {x y : HunkValue} → ◌≡◌ {A = Option HunkValue} (Some x) (Some y) → x ≡ y
      by_some e = cc

  -- what holds of the hunks before, and of this
  each_more : (P : ℕ → HunkValue → Type 0) → ((i : ℕ) (x : HunkValue) → slice_get done i ≡ Some x → P i x) → P (length done) h → (i : ℕ) (x : HunkValue) → slice_get (done ++ h ∷ []) i ≡ Some x → P i x
  each_more P before here i x is = by (cases_lt i (length done))
    where
      by_some : {y : HunkValue} → ◌≡◌ {A = Option HunkValue} (Some y) (Some x) → y ≡ x
      by_some e = cc

      by : (i < length done) ⊎ (length done ≤ i) → P i x
      by (inl less) = before i x (sym (get_before done h i less) ∙ is)
      by (inr from) =
          let last : i ≡ length done = omega (arith, slice_get_within (done ++ h ∷ []) i x is, from, length-append done (h ∷ [])) in
          subst (P i) (by_some (sym (get_last done h) ∙ ap (λ (k : ℕ). slice_get (done ++ h ∷ []) k) (sym last) ∙ is)) (subst (λ (k : ℕ). P k h) (sym last) here)

  hunks_more : ArePut start bases (done ++ h ∷ []) old (put_mid at (at + size - at) memory part)
  hunks_more = record {
    size = put_length at size memory part fits long ∙ s.size;
    lie =
        each_more (λ i x. Lies start (length old) (4 * declared_longs x) (get_or bases i 0)) s.lie
        (record { from = omega (arith, here); inside = omega (arith, here, fits, many, s.size) });
    sized = each_more (λ i x. length (image bases x) ≡ 4 * declared_longs x) s.sized (ap length (sym part_is) ∙ long ∙ many);
    bytes = λ i byte b own. image_of i byte b own (cases_lt i (length done));
    outside = λ byte none. put_outside at size memory part fits long byte (elsewhere byte (none (length done))) ∙ s.outside byte (λ i b. none i (old_byte i byte b));
  }

-- ---- a hunk that lies apart

module _ (start : ℕ) (bases : List ℕ) (hunks : LoadFileValue) (old new : List ℕ) (s : ArePut start bases hunks old new) where
  whole_image : HasImages start bases hunks new
  whole_image i h is apart =
      let lies = s.lie i h is in
      let size = 4 * declared_longs h in
      let at = get_or bases i 0 - start in
      let long : length (take (4 * declared_longs h) (drop (get_or bases i 0 - start) new)) ≡ 4 * declared_longs h = length-take-le size (drop at new) (omega (arith, length-drop at new, lies.from, lies.inside, s.size)) in
      ext_get_or 0 (take size (drop at new)) (image bases h) (long ∙ sym (s.sized i h is))
      (λ offset less.
      let inside : offset < 4 * declared_longs h = omega (arith, less, long) in
      let b : HasByte start bases hunks i (get_or bases i 0 - start + offset) = record { hunk = h; is = is; offset = offset; inside = inside; lies = omega (arith, lies.from) } in
      get_or-take size (drop at new) offset 0 inside ∙ get_or-drop at new offset 0 ∙ s.bytes i (get_or bases i 0 - start + offset) b (apart (get_or bases i 0 - start + offset) b))

  has_hunks : HasHunks start bases hunks old new
  has_hunks = record { size = s.size; images = whole_image; bytes = s.bytes; outside = s.outside }

-- ---- the hunks of a file in turn

lies_if : (start room size base x : ℕ) → base_in start room size (Some base) ≡ Some x → Lies start room size base × (base ≡ x)
lies_if start room size base x e = (record { from = grind (arith, nat_tests); inside = grind (arith, nat_tests) }, grind (arith, nat_tests))

lies_where : (start room size x : ℕ) (o : Option ℕ) → base_in start room size o ≡ Some x → Lies start room size x
lies_where start room size x None e = absurd cc
lies_where start room size x (Some base) e = let l = lies_if start room size base x e in subst (Lies start room size) l.1 l.0

-- Some hunks are put, and these are left.
pub record PutSoFar (start : ℕ) (bases : List ℕ) (all left : LoadFileValue) (number : ℕ) (old memory : List ℕ) : Type 0 where
  pub done : LoadFileValue
  pub split : all ≡ done ++ left
  pub count : number ≡ length done
  pub has : ArePut start bases done old memory

pub none_put : (start : ℕ) (bases : List ℕ) (all left : LoadFileValue) (memory : List ℕ) → left ≡ all → PutSoFar start bases all left 0 memory memory
none_put start bases all left memory e = record { done = []; split = sym e; count = refl; has = none_yet start bases memory }

pub all_put : {start : ℕ} {bases : List ℕ} {all left : LoadFileValue} {number : ℕ} {old memory : List ℕ} → PutSoFar start bases all left number old memory → left ≡ [] → HasHunks start bases all old memory
all_put {start} {bases} {all} {left} {number} {old} {memory} s none =
    let none_left = s.split ∙ ap (λ (v : LoadFileValue). s.done ++ v) none ∙ append-nil s.done in
    subst (λ (v : LoadFileValue). HasHunks start bases v old memory) (sym none_left) (has_hunks start bases s.done old memory s.has)

-- The first of the hunks that are left, and what the table has of it and of the others.
pub record FirstLeft (left : LoadFileValue) (entry : TableEntry) (entries : List TableEntry) : Type 0 where
  pub hunk : HunkValue
  pub later : LoadFileValue
  pub is : left ≡ hunk ∷ later
  pub entry_is : hunk.entry ≡ entry
  pub entries_are : table later ≡ entries

pub first_left : (left : LoadFileValue) (entry : TableEntry) (entries : List TableEntry) → table left ≡ entry ∷ entries → FirstLeft left entry entries
first_left [] entry entries same = absurd cc
first_left (h ∷ later) entry entries same =
    let e : table (h ∷ later) ≡ entry ∷ entries = same in
    let one : h.entry ≡ entry = cc in
    let others : table later ≡ entries = cc in
    record { hunk = h; later = later; is = refl; entry_is = one; entries_are = others }

pub no_left : (left : LoadFileValue) → table left ≡ [] → left ≡ []
no_left [] none = refl
no_left (h ∷ later) none = absurd cc

module _ {start : ℕ} {bases : List ℕ} {all left : LoadFileValue} {number : ℕ} {old memory : List ℕ} (s : PutSoFar start bases all left number old memory) (listed : List ℕ) (are : AreBases (placed_in start (length old) listed) (table all) bases)
    (h : HunkValue) (later : LoadFileValue) (is : left ≡ h ∷ later) where
  whole : all ≡ s.done ++ h ∷ later
  whole = s.split ∙ ap (λ (v : LoadFileValue). s.done ++ v) is

  bases_length : length bases ≡ length all
  bases_length = are.count ∙ length-map all (λ (x : HunkValue). x.entry)

  pub number_inside : number < length bases
  number_inside = omega (arith, bases_length, ap length whole, length-append s.done (h ∷ later), s.count)

  entry_at : (d : TableEntry) → get_or (table all) number d ≡ h.entry
  entry_at d =
      ap (λ (v : LoadFileValue). get_or (table v) number d) whole
      ∙ ap (λ (t : List TableEntry). get_or t number d) (map-append (λ (x : HunkValue). x.entry) s.done (h ∷ later))
      ∙ ap (λ (n : ℕ). get_or (table s.done ++ h.entry ∷ table later) n d) (s.count ∙ sym (length-map s.done (λ (x : HunkValue). x.entry)))
      ∙ get_or-append_seam (table s.done) h.entry (table later) d

  pub hunk_lies : Lies start (length old) (4 * declared_longs h) (get_or bases number 0)
  hunk_lies =
      let no_entry : TableEntry = record { word = 0; extra = 0 } in
      lies_where start (length old) (4 * declared_longs h) (get_or bases number 0) (slice_get listed number)
      (sym (ap (λ (e : TableEntry). base_in start (length old) (4 * size_longs e.word) (slice_get listed number)) (entry_at no_entry)) ∙ are.each number (omega (arith, number_inside, are.count)))

  pub is_hunk : IsLoadFile all → IsHunk (length bases) h
  is_hunk file = subst (λ (n : ℕ). IsHunk n h) (sym bases_length) (All-right (IsHunk (length all)) s.done (h ∷ later) (subst (AllByRecursion (IsHunk (length all))) whole file.each)).0

  pub hunk_room : (size : ℕ) → size ≡ 4 * declared_longs h → get_or bases number 0 - start + size ≤ length memory
  hunk_room size e = omega (arith, hunk_lies.from, hunk_lies.inside, e, s.has.size)

  pub hunk_put : (size : ℕ) (part : List ℕ) → size ≡ 4 * declared_longs h → length part ≡ size → part ≡ image bases h →
      PutSoFar start bases all later (number + 1) old (put_mid (get_or bases number 0 - start) (get_or bases number 0 - start + size - (get_or bases number 0 - start)) memory part)
  hunk_put size part e long part_is = record {
    done = s.done ++ h ∷ [];
    split = whole ∙ sym (append_assoc s.done (h ∷ []) later);
    count = omega (arith, s.count, length-append s.done (h ∷ []));
    has =
        hunks_more start bases s.done old memory s.has h (get_or bases number 0 - start) size part
        (omega (arith, hunk_lies.from, ap (λ (n : ℕ). get_or bases n 0) s.count)) e (hunk_room size e) long part_is;
  }
