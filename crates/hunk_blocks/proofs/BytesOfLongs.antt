-- Bytes that are a whole number of longwords.
use Rattle.std.proofs.Common.{◌≡◌, ℕ, ◌+◌, ◌*◌, ◌%◌, ◌<◌, List, [], ◌++◌, length, sym, ap, ◌∙◌, append-nil, length-append, arith}
use Rattle.std.proofs.lemmas.Grind.{common_steps}
use Rattle.hunk_words.specs.Longs.{longs, bytes_of, IsBytes}
use Rattle.hunk_words.proofs.LongLaws.{spelled, length-bytes_of, length-longs}

pub ruleset long_counts = (length-longs)

none_over : (over : List ℕ) (n : ℕ) → length over < 4 → (4 * n + length over) % 4 ≡ 0 → over ≡ []
none_over over n few whole = grind (arith, common_steps)

-- their longwords have just these bytes
pub bytes_of-longs : (bytes : List ℕ) → IsBytes bytes → length bytes % 4 ≡ 0 → bytes_of (longs bytes) ≡ bytes
bytes_of-longs bytes fit whole =
    let s = spelled bytes fit in
    let none : s.over ≡ [] = none_over s.over (length (longs bytes)) s.few (omega (arith, whole, ap length s.split, length-append (bytes_of (longs bytes)) s.over, length-bytes_of (longs bytes))) in
    sym (s.split ∙ ap (λ (xs : List ℕ). bytes_of (longs bytes) ++ xs) none ∙ append-nil (bytes_of (longs bytes)))

-- the size of a payload
pub payload_size : (bytes : List ℕ) → bytes_of (longs bytes) ≡ bytes → length bytes ≡ 4 * length (longs bytes)
payload_size bytes whole = ap (λ (xs : List ℕ). length xs) (sym whole) ∙ length-bytes_of (longs bytes)
