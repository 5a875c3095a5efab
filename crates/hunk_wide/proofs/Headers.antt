-- The header of a load file and the last row of its table, passed over at once.
use Rattle.std.proofs.Common.{◌≡◌, ℕ, zero, suc, ◌+◌, ◌-◌, ◌<◌, ◌≤◌, Bool, true, false, cond, List, length, take, drop, refl, ap, subst, ◌∙◌, arith}
use Rattle.std.proofs.lemmas.List.{length-drop}
use Rattle.hunk_words.specs.Bits.{has_both_bits, header_word}
use Rattle.hunk_grammar.specs.declared.position.Position.{Position}
use Rattle.hunk_grammar.specs.declared.position.Position.TheVariants as positions
use Rattle.hunk_grammar.specs.Positions.{owe_entries}
use Rattle.hunk_wide.specs.declared.position.FilePosition.TheVariants as files
use Rattle.hunk_wide.specs.declared.spot.Spot.{Spot}
use Rattle.hunk_wide.specs.declared.spot.Given.TheVariants.{Same}
use Rattle.hunk_wide.specs.Longwords.{behind_first, behind_load, given}
use Rattle.hunk_wide.specs.Parts.{AsIs, IsHeader, IsRow, first_hunk, front_word, load_at, word_at}
use Rattle.hunk_wide.proofs.AsIs.{load_on, long_as_is, more_as_is}

-- a longword more, which stands at this position
header_more : (s : Spot) (p : Position) (u : Spot) (bytes : List ℕ) (at : ℕ) → AsIs s (take at bytes) (load_at p) → at + 4 ≤ length bytes → given (files.Load p) (front_word (drop at bytes)) ≡ Same
    → behind_load p (front_word (drop at bytes)) ≡ u → AsIs s (take (at + 4) bytes) u
header_more s p u bytes at front whole same e =
    more_as_is s (load_at p) u bytes at 4 front
    (subst (λ (x : Spot). AsIs (load_at p) (take 4 (drop at bytes)) x) e (long_as_is (files.Load p) (drop at bytes) (omega (arith, length-drop at bytes)) same))

first_long : (bytes : List ℕ) → 4 ≤ length bytes → front_word bytes ≡ header_word → AsIs (load_at positions.FirstLong) (take 4 bytes) (load_at positions.ResidentName)
first_long bytes whole e =
    subst (λ (w : ℕ). AsIs (load_at positions.FirstLong) (take 4 bytes) (behind_first w)) e (long_as_is (files.Load positions.FirstLong) bytes whole refl)

entries_owed : (hunks : ℕ) → 0 < hunks → load_on (owe_entries hunks hunks) ≡ load_at (positions.SizeWord hunks (hunks - 1))
entries_owed zero some = absurd (omega arith)
entries_owed (suc more) some =
    let e : more ≡ suc more - 1 = omega arith in
    ap (λ (n : ℕ). load_at (positions.SizeWord (suc more) n)) e

pub header_as_is : (bytes : List ℕ) (hunks : ℕ) → IsHeader bytes hunks → AsIs (load_at positions.FirstLong) (take 20 bytes) (load_at (positions.SizeWord hunks (hunks - 1)))
header_as_is bytes hunks h =
    let resident = first_long bytes (omega (arith, h.whole)) h.begins in
    let size = header_more _ positions.ResidentName (load_at positions.TableSize) bytes 4 resident (omega (arith, h.whole)) refl refl in
    let first = header_more _ positions.TableSize (load_at (positions.FirstHunk hunks)) bytes 8 size (omega (arith, h.whole)) refl (ap (λ (n : ℕ). load_at (positions.FirstHunk n)) h.count) in
    let last = header_more _ (positions.FirstHunk hunks) (load_at (positions.LastHunk hunks)) bytes 12 first (omega (arith, h.whole)) refl refl in
    header_more _ (positions.LastHunk hunks) _ bytes 16 last (omega (arith, h.whole)) refl (entries_owed hunks h.some)

last_owed : (hunks w : ℕ) → 0 < hunks → has_both_bits w ≡ false → behind_load (positions.SizeWord hunks 0) w ≡ load_at (word_at (first_hunk hunks) true)
last_owed zero w some bare = absurd (omega arith)
last_owed (suc more) w some bare =
    let e : more ≡ suc more - 1 = omega arith in
    ap (λ (b : Bool). load_on (cond b (positions.Attributes (suc more) w 0) (owe_entries (suc more) 0))) bare
    ∙ ap (λ (n : ℕ). load_at (word_at (record { hunks = suc more; ahead = n; has_content = false }) true)) e

pub last_row_as_is : (hunks : ℕ) (bytes : List ℕ) → 0 < hunks → IsRow bytes → AsIs (load_at (positions.SizeWord hunks 0)) (take 4 bytes) (load_at (word_at (first_hunk hunks) true))
last_row_as_is hunks bytes some row =
    subst (λ (s : Spot). AsIs (load_at (positions.SizeWord hunks 0)) (take 4 bytes) s) (last_owed hunks (front_word bytes) some row.bare)
    (long_as_is (files.Load (positions.SizeWord hunks 0)) bytes row.whole refl)
