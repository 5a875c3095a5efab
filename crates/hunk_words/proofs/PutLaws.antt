-- How puts follow one another.
use Rattle.std.proofs.Common.{◌≡◌, ℕ, ◌+◌, ◌-◌, ◌≤◌, List, ◌++◌, Option, length, take, drop, sym, ap, ◌∙◌, append_assoc, length-append, arith}
use Rattle.std.proofs.{Math.Seq.{take-append-add, take-append_seam}, KnownBytes.{Appends-trans}}
use Rattle.std.proofs.lemmas.{List.{take-append-drop, take_rest, take-append-le, take_all}, Grind.common_steps}
use Rattle.std.specs.Io.KnownBytes.{Appends}
use Rattle.hunk_words.specs.Puts.{Puts, PutsBefore}

-- one push in the middle of a put
pub puts_more : (a b c : Option (List ℕ)) (start mid now : ℕ) (bytes rest : List ℕ) (n : ℕ)
    → PutsBefore a b start mid bytes rest → n ≤ length rest → now ≡ mid + n
    → Appends b c (take n rest) → PutsBefore a c start now bytes (take (length rest - n) (drop n rest))
puts_more a b c start mid now bytes rest n (front, split, counted, gone) fits rose pushed = (
  front ++ take n rest,
  split ∙ (ap (λ xs. front ++ xs) (sym (take-append-drop n rest)) ∙ (sym (append_assoc front (take n rest) (drop n rest)) ∙ ap (λ xs. (front ++ take n rest) ++ xs) (sym (take_rest rest n)))),
  grind (arith, common_steps),
  Appends-trans a b c front (take n rest) gone pushed,
)

-- the first part of what was to go was put
pub puts_front : (a b : Option (List ℕ)) (m n : ℕ) (bytes rest : List ℕ) → PutsBefore a b m n bytes rest → Puts a b m n bytes
puts_front a b m n bytes rest (front, split, rose, gone) =
    record {
      count = length front;
      fits = grind (arith, common_steps);
      rose = rose;
      gone = rw (split, take-append_seam front rest) gone;
    }

-- after xs, of which all went out, a part of ys went out
pub puts_more_after : (a b c : Option (List ℕ)) (m n o : ℕ) (xs ys : List ℕ)
    → Puts a b m n xs → n ≡ m + length xs → Puts b c n o ys → Puts a c m o (xs ++ ys)
puts_more_after a b c m n o xs ys p whole q =
    let all : length xs ≤ p.count = omega (arith, p.rose, whole) in
    record {
      count = length xs + q.count;
      fits = omega (arith, length-append xs ys, q.fits);
      rose = omega (arith, whole, q.rose);
      gone = rw (take-append-add xs ys q.count) (Appends-trans a b c xs (take q.count ys) (rw (take_all p.count xs all) at p.gone) q.gone);
    }

-- a part of xs is a part of xs and more
pub puts_part : (a b : Option (List ℕ)) (m n : ℕ) (xs ys : List ℕ) → Puts a b m n xs → Puts a b m n (xs ++ ys)
puts_part a b m n xs ys p =
    record { count = p.count; fits = omega (arith, length-append xs ys, p.fits); rose = p.rose; gone = rw (take-append-le p.count xs ys p.fits) p.gone }
