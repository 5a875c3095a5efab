-- Entries of a header's table that are a longword each, passed at once.
use Rattle.std.proofs.Common.{◌≡◌, ℕ, zero, suc, ◌+◌, ◌-◌, ◌*◌, ◌<◌, ◌≤◌, ◌^◌, Bool, false, if◌then◌else◌, List, length, drop, get_or, refl, sym, ap, subst, ◌∙◌, arith, None}
use Rattle.hunk_words.specs.{Bits.{has_both_bits, size_longs}, Longs.longs}
use Rattle.hunk_grammar.specs.{Positions.owe_entries, declared.position.Position.Position}
use Rattle.hunk_grammar.specs.declared.position.Position.TheVariants as positions
use Rattle.hunk_grammar.specs.{Positions.role_at, Roles.refuse}
use Rattle.hunk_files.specs.Passing.{HasHeaderFront}
use Rattle.hunk_files.proofs.walk.ShortRows.{none_below}
use Rattle.hunk_words.proofs.{LongLaws.length-longs, PartLaws.longs-drop}
use Rattle.std.proofs.lemmas.List.{get_or-drop}
use Rattle.hunk_scatter.specs.{declared.header_state.HeaderState.HeaderState, HeaderLoaderFields.{HasShortEntries, PassesWord, PassesWords, at_start, no_entry, one_entry}}

-- the state at an entry, after which so many come
abbrev pub at_entry : ℕ → ℕ → ℕ → HeaderState
at_entry hunks owed total = record { position = positions.SizeWord hunks owed; total = total }

-- Those from one byte to another were passed.
pub record EntriesPassed (budget : ℕ) (bytes : List ℕ) (from : ℕ) (state : HeaderState) (hunks at owed total : ℕ) : Type 0 where
  pub count : ℕ
  pub at_is : at ≡ from + 4 * count
  pub inside : at ≤ length bytes
  pub within : total ≤ budget
  pub passes : PassesWords budget bytes from state count (at_entry hunks owed total)

pub none_passed : (budget : ℕ) (bytes : List ℕ) (from : ℕ) (state : HeaderState) (hunks entries : ℕ) → state.position ≡ positions.SizeWord hunks entries → from ≤ length bytes → state.total ≤ budget →
    EntriesPassed budget bytes from state hunks from entries state.total
none_passed budget bytes from state hunks entries is inside within = record {
  count = 0;
  at_is = omega arith;
  inside = inside;
  within = within;
  passes = ap (λ (p : Position). record { position = p; total = state.total }) is;
}

-- Where entries are owed, the next of them comes.
owe_next : (hunks owed : ℕ) → 0 < owed → owe_entries hunks owed ≡ positions.SizeWord hunks (owed - 1)
owe_next hunks zero some = absurd (omega (arith, some))
owe_next hunks (suc left) some = ap (λ (n : ℕ). positions.SizeWord hunks n) (omega arith)

-- One more passes, after which another comes.
pub one_passed : (budget : ℕ) (bytes : List ℕ) (from : ℕ) (state : HeaderState) (hunks at owed total : ℕ) → EntriesPassed budget bytes from state hunks at owed total → 0 < owed → (word size : ℕ) → word ≡ get_or (longs (drop at bytes)) 0 0 →
    size ≡ 4 * size_longs word → has_both_bits word ≡ false → at + 4 ≤ length bytes → total + size ≤ budget → EntriesPassed budget bytes from state hunks (at + 4) (owed - 1) (total + size)
one_passed budget bytes from state hunks at owed total p some word size here is one whole fits = record {
  count = suc p.count;
  at_is = omega (arith, p.at_is);
  inside = whole;
  within = fits;
  passes = (at_entry hunks owed total, p.passes, refl, subst (λ (w : ℕ). PassesWord budget (at_entry hunks owed total) w (at_entry hunks (owed - 1) (total + size))) (here ∙ ap (λ (n : ℕ). get_or (longs (drop n bytes)) 0 0) p.at_is) passed);
}
  where
    passed : PassesWord budget (at_entry hunks owed total) word (at_entry hunks (owed - 1) (total + size))
    passed = record {
      accepted = refl;
      within = omega (arith, is, fits);
      position_is = sym (ap (λ (both : Bool). if both then positions.Attributes hunks word owed else owe_entries hunks owed) one ∙ owe_next hunks owed some);
      total_is = ap (λ (n : ℕ). total + n) is;
    }

-- One entry more is a longword, where no attributes follow the largest size word up to it.
pub one_short : (ws : List ℕ) (i total largest word : ℕ) → (has_both_bits largest ≡ false → HasShortEntries ws (i - 5) total) →
    (most : ℕ) → most < 2 ^ 32 → largest ≤ most → word ≤ most → word ≡ get_or ws i 0 → 5 ≤ i → i < length ws →
    (size : ℕ) → size ≡ 4 * size_longs word → has_both_bits most ≡ false → HasShortEntries ws (i + 1 - 5) (total + size)
one_short ws i total largest word so_far most bound less here is from inside size size_is none =
    let place : 5 + (i - 5) ≡ i = omega (arith, from) in
    let word_is : word ≡ get_or ws (5 + (i - 5)) 0 = is ∙ ap (λ (n : ℕ). get_or ws n 0) (sym place) in
    let short = ap has_both_bits (sym word_is) ∙ none_below word most here bound none in
    let next = one_entry (i - 5) total (so_far (none_below largest most less bound none)) (omega (arith, place, inside)) short in
    let count : suc (i - 5) ≡ i + 1 - 5 = omega (arith, from) in
    let sum : total + 4 * size_longs (get_or ws (5 + (i - 5)) 0) ≡ total + size =
    ap (λ (n : ℕ). total + n) (ap (λ (w : ℕ). 4 * size_longs w) (sym word_is) ∙ sym size_is) in
    subst (λ (n : ℕ). HasShortEntries ws n (total + size)) count (subst (λ (n : ℕ). HasShortEntries ws (suc (i - 5)) n) sum next)

-- ---- the longwords before the table

module _ (budget : ℕ) (bytes : List ℕ) where
  long_at : (k : ℕ) → get_or (longs (drop (0 + 4 * k) bytes)) 0 0 ≡ get_or (longs bytes) k 0
  long_at k = let from : 0 + 4 * k ≡ 4 * k = omega arith in let same : k + 0 ≡ k = omega arith in ap (λ (ws : List ℕ). get_or ws 0 0) (longs-drop bytes k (0 + 4 * k) from) ∙ get_or-drop k (longs bytes) 0 0 ∙ ap (λ (n : ℕ). get_or (longs bytes) n 0) same

  -- One of them passes.
  front_word : (k : ℕ) (s next : HeaderState) → PassesWord budget s (get_or (longs bytes) k 0) next → PassesWord budget s (get_or (longs (drop (0 + 4 * k) bytes)) 0 0) next
  front_word k s next passes = subst (λ (w : ℕ). PassesWord budget s w next) (sym (long_at k)) passes

  at : Position → HeaderState
  at position = record { position = position; total = 0 }

  -- All of them pass.
  pub front_passes : (hunks : ℕ) → HasHeaderFront (longs bytes) hunks → PassesWords budget bytes 0 at_start 5 (at_entry hunks (hunks - 1) 0)
  unfolding at
  front_passes hunks f = go hunks f.hunks_are f.some f.size f.last
    where
      go : (n : ℕ) → n ≡ get_or (longs bytes) 2 0 → 0 < n → refuse (role_at 0 positions.TableSize) n ≡ None → refuse (role_at 0 (positions.LastHunk n)) (get_or (longs bytes) 4 0) ≡ None → PassesWords budget bytes 0 at_start 5 (at_entry n (n - 1) 0)
      go zero is some size last = absurd (omega (arith, some))
      go (suc k) is some size last =
          let left : k ≡ suc k - 1 = omega arith in
          let word = front_word 0 at_start (at positions.ResidentName) (record { accepted = f.word; within = omega arith; position_is = refl; total_is = refl }) in
          let names = front_word 1 (at positions.ResidentName) (at positions.TableSize) (record { accepted = f.names; within = omega arith; position_is = refl; total_is = refl }) in
          let sized = front_word 2 (at positions.TableSize) (at (positions.FirstHunk (suc k))) (record { accepted = subst (λ (n : ℕ). refuse (role_at 0 positions.TableSize) n ≡ None) is size; within = omega arith; position_is = ap (λ (n : ℕ). positions.FirstHunk n) is; total_is = refl }) in
          let first = front_word 3 (at (positions.FirstHunk (suc k))) (at (positions.LastHunk (suc k))) (record { accepted = f.first; within = omega arith; position_is = refl; total_is = refl }) in
          let end = front_word 4 (at (positions.LastHunk (suc k))) (at_entry (suc k) (suc k - 1) 0) (record { accepted = last; within = omega arith; position_is = ap (λ (n : ℕ). positions.SizeWord (suc k) n) (sym left); total_is = refl }) in
          (at (positions.LastHunk (suc k)), (at (positions.FirstHunk (suc k)), (at positions.TableSize, (at positions.ResidentName, (at_start, refl, refl, word), refl, names), refl, sized), refl, first), refl, end)

  -- So do the first entries, where each is a longword.
  pub short_passed : (hunks : ℕ) → HasHeaderFront (longs bytes) hunks → (count total : ℕ) → HasShortEntries (longs bytes) count total →
      count < hunks → total ≤ budget → EntriesPassed budget bytes 0 at_start hunks (20 + 4 * count) (hunks - 1 - count) total
  short_passed hunks f _ _ no_entry some fits =
      let all : hunks - 1 ≡ hunks - 1 - 0 = omega arith in record {
        count = 5;
        at_is = omega arith;
        inside = omega (arith, f.whole, length-longs bytes);
        within = omega arith;
        passes = subst (λ (n : ℕ). PassesWords budget bytes 0 at_start 5 (at_entry hunks n 0)) all (front_passes hunks f);
      }
  short_passed hunks f _ _ (one_entry count total before stands short) some fits =
      let word = get_or (longs bytes) (5 + count) 0 in
      let place : 0 + 4 * (5 + count) ≡ 20 + 4 * count = omega arith in
      let here = sym (long_at (5 + count)) ∙ ap (λ (n : ℕ). get_or (longs (drop n bytes)) 0 0) place in
      let so_far = short_passed hunks f count total before (omega (arith, some)) (omega (arith, fits)) in
      let next = one_passed budget bytes 0 at_start hunks _ _ total so_far (omega (arith, some)) word (4 * size_longs word) here refl short (omega (arith, stands, length-longs bytes)) fits in
      let end : 20 + 4 * count + 4 ≡ 20 + 4 * suc count = omega arith in
      let left : hunks - 1 - count - 1 ≡ hunks - 1 - suc count = omega arith in
      subst (λ (n : ℕ). EntriesPassed budget bytes 0 at_start hunks n (hunks - 1 - suc count) (total + 4 * size_longs word)) end
      (subst (λ (n : ℕ). EntriesPassed budget bytes 0 at_start hunks (20 + 4 * count + 4) n (total + 4 * size_longs word)) left next)
