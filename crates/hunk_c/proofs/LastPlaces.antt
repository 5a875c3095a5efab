-- The last of some places at which something is found, and where longwords lead.
use Rattle.std.proofs.Common.{◌≡◌, ℕ, ◌+◌, ◌<◌, ◌≤◌, List, [], ◌∷◌, ◌++◌, length, get_or, take, drop, take-add, refl, ap, ◌∙◌, arith, Option, Some, None, inl, inr}
use Rattle.std.proofs.lemmas.{Bool.cases_lt, List.take_more}
use Rattle.hunk_files.specs.Machines.{leads_to}
use Rattle.hunk_c.specs.FrontPlaces.{FindsNone, IsLast}

module _ {A : Type 0} (find : ℕ → Option A) where
  -- none after the one, up to the other
  abbrev pub FindsNoneIn : ℕ → ℕ → Type 0
  FindsNoneIn from end = (m : ℕ) → from < m → m ≤ end → find m ≡ None

  pub last_here : (n : ℕ) (a : A) → find n ≡ Some a → IsLast find n n a
  last_here n a e = record { inside = omega arith; found = e; none_after = λ m l k. absurd (omega (arith, l, k)) }

  pub still_last : (from end n : ℕ) (a : A) → from ≤ end → IsLast find from n a → FindsNoneIn from end → IsLast find end n a
  still_last from end n a less h none =
      record {
        inside = omega (arith, h.inside, less);
        found = h.found;
        none_after = λ m l k. elim (cases_lt from m) [ inl beyond ↦ none m beyond k | inr before ↦ h.none_after m l before ];
      }

  pub still_none : (from end : ℕ) → FindsNone find from → FindsNoneIn from end → FindsNone find end
  still_none from end h none m k = elim (cases_lt from m) [ inl beyond ↦ none m beyond k | inr before ↦ h m before ]

module _ {Pos : Type 0} (step : Pos → ℕ → Pos) where
  leads_past : (p : Pos) (xs ys : List ℕ) → leads_to step p (xs ++ ys) ≡ leads_to step (leads_to step p xs) ys
  leads_past p [] ys = refl
  leads_past p (x ∷ xs) ys = leads_past (step p x) xs ys

  -- One longword more is a step more.
  pub one_more : (p : Pos) (ws : List ℕ) (at : ℕ) → at < length ws → leads_to step p (take (at + 1) ws) ≡ step (leads_to step p (take at ws)) (get_or ws at 0)
  one_more p ws at l = ap (leads_to step p) (take_more ws at 0 l) ∙ leads_past p (take at ws) (get_or ws at 0 ∷ [])

  pub more : (p : Pos) (ws : List ℕ) (at n : ℕ) → leads_to step p (take (at + n) ws) ≡ leads_to step (leads_to step p (take at ws)) (take n (drop at ws))
  more p ws at n = ap (leads_to step p) (take-add at n ws) ∙ leads_past p (take at ws) (take n (drop at ws))
