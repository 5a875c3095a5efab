-- Where texts stand in bytes, and where parts of them end.
use Rattle.std.proofs.Common.{◌≡◌, ℕ, ◌+◌, ◌-◌, ◌*◌, ◌≤◌, List, [], ◌∷◌, ◌++◌, length, drop, refl, sym, ap, ◌∙◌, append_assoc, length-append, arith}
use Rattle.std.specs.List.{flat_map}
use Rattle.std.proofs.lemmas.List.{length-drop, drop-drop, drop_at}
use Rattle.hunk_words.specs.Longs.{bytes_of}
use Rattle.hunk_words.proofs.LongLaws.{bytes_of-append, length-bytes_of}
use Rattle.hunk_files.specs.{Lacks.{After, EndsAt, IsLast}, InPlace.StandAt}

-- Where a text stands, there is room for it.
pub text_inside : (bytes : List ℕ) (start : ℕ) (words rest : List ℕ) → drop start bytes ≡ bytes_of words ++ rest → 1 ≤ length words → start + 4 * length words ≤ length bytes
text_inside bytes start words rest e some = omega (arith, some, ap length e, length-drop start bytes, length-append (bytes_of words) rest, length-bytes_of words)

-- ---- where parts end

-- The last longword of a text is where it ends.
pub last_at : (text : List ℕ) (start end place : ℕ) → 1 ≤ length text → end ≡ start + 4 * length text → place + 4 ≡ end → EndsAt (IsLast text) start place
last_at text start end place some e p = record { number = length text - 1; ends = omega (arith, some); place = omega (arith, some, e, p) }

pub ends_map : {P Q : ℕ → Type 0} {start place : ℕ} → ((n : ℕ) → P n → Q n) → EndsAt P start place → EndsAt Q start place
ends_map f e = record { number = e.number; ends = f e.number e.ends; place = e.place }

pub ends_after : {Ends : ℕ → Type 0} {start from place : ℕ} (count : ℕ) → from ≡ start + 4 * count → EndsAt Ends from place → EndsAt (After count Ends) start place
ends_after count after e = record { number = count + e.number; ends = record { number = e.number; ends = e.ends; place = refl }; place = omega (arith, after, e.place) }

-- ---- parts that stand one after the other

module _ {A : Type 0} {Is : A → Type 0} {text : A → List ℕ} {bytes : List ℕ} {start : ℕ} {x : A} {xs : List A} {rest : List ℕ} (s : StandAt Is text bytes start (x ∷ xs) rest) where
  -- The first stands in front of the others.
  pub stand_first : drop start bytes ≡ bytes_of (text x) ++ (bytes_of (flat_map text xs) ++ rest)
  stand_first = s.text_is ∙ ap (λ (l : List ℕ). l ++ rest) (bytes_of-append (text x) (flat_map text xs)) ∙ append_assoc (bytes_of (text x)) (bytes_of (flat_map text xs)) rest

  -- After it stand the others.
  pub stand_after : (end : ℕ) → end ≡ start + 4 * length (text x) → StandAt Is text bytes end xs rest
  stand_after end e =
      let size : ℕ = 4 * length (text x) in
      let after : List ℕ = bytes_of (flat_map text xs) ++ rest in
      record {
        each = s.each.1;
        inside = omega (arith, e, s.inside, ap length stand_first, length-drop start bytes, length-append (bytes_of (text x)) after, length-bytes_of (text x));
        text_is = ap (λ (n : ℕ). drop n bytes) e ∙ sym (drop-drop size start bytes) ∙ ap (drop size) stand_first ∙ drop_at (bytes_of (text x)) after size (length-bytes_of (text x));
      }

-- The first of them, and the others.
pub record First {A : Type 0} (Is : A → Type 0) (text : A → List ℕ) (bytes : List ℕ) (start : ℕ) (parts : List A) (rest : List ℕ) : Type 0 where
  pub item : A
  pub later : List A
  pub is : parts ≡ item ∷ later
  pub stand : StandAt Is text bytes start (item ∷ later) rest

pub first_of : {A : Type 0} {Is : A → Type 0} {text : A → List ℕ} {bytes : List ℕ} {start : ℕ} {rest : List ℕ} (parts : List A) → StandAt Is text bytes start parts rest → (parts ≡ [] → ⊥) → First Is text bytes start parts rest
first_of [] s some = absurd (some refl)
first_of (x ∷ xs) s some = record { item = x; later = xs; is = refl; stand = s }
