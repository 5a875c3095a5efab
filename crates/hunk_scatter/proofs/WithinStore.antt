-- Within a hunk no longword leads out of the rows or the store, whatever was fed before.
use Rattle.std.proofs.Common.{rules, ◌≡◌, ℕ, List, None, sym, subst}
use Rattle.hunk_grammar.specs.{declared.position.Position.Position, Positions.{pass, step}}
use Rattle.hunk_scatter.specs.{declared.store.BodyState.BodyState, BodySteps.{IsInStore, StaysInStore, move_to, pass_body, refusal, step_body}}
use Rattle.hunk_scatter.specs.StoreContent.{TakesOffsets}

-- ---- the state

module _ (sizes : List ℕ) (total hunk start : ℕ) where
  abbrev at : Position → BodyState
  at p = record { hunk = hunk; start = start; position = p }

  steps_in : (p : Position) (w : ℕ) → IsInStore sizes total (at p) → refusal sizes (at p) w ≡ None → StaysInStore sizes total (at (step p w))
  steps_in p w i ok = search rules

  passes_in : (p : Position) (n : ℕ) → IsInStore sizes total (at p) → StaysInStore sizes total (at (pass p n))
  passes_in p n i = search rules

  offsets_in : (p : Position) (ws store store2 bases : List ℕ) (s2 : BodyState) → IsInStore sizes total (at p) → TakesOffsets sizes bases (at p) ws store s2 store2 → IsInStore sizes total s2
  offsets_in p ws store store2 bases s2 i t = search rules

-- where a hunk is after, the next has to open
moved : (sizes : List ℕ) (total : ℕ) (s : BodyState) (p : Position) → StaysInStore sizes total (at sizes total s.hunk s.start p) → StaysInStore sizes total (move_to sizes s p)
moved sizes total s p k = search rules

pub word_stays : (sizes : List ℕ) (total : ℕ) (s : BodyState) (w : ℕ) → IsInStore sizes total s → refusal sizes s w ≡ None → StaysInStore sizes total (step_body sizes s w)
word_stays sizes total s w i ok = moved sizes total s (step s.position w) (steps_in sizes total s.hunk s.start s.position w i ok)

pub run_stays : (sizes : List ℕ) (total : ℕ) (s : BodyState) (n : ℕ) → IsInStore sizes total s → StaysInStore sizes total (pass_body s n)
run_stays sizes total s n i = passes_in sizes total s.hunk s.start s.position n i

pub offsets_stay : (sizes bases : List ℕ) (total : ℕ) (s s2 : BodyState) (ws store store2 : List ℕ) → IsInStore sizes total s → TakesOffsets sizes bases s ws store s2 store2 → StaysInStore sizes total s2
offsets_stay sizes bases total s s2 ws store store2 i t = λ e. offsets_in sizes total s.hunk s.start s.position ws store store2 bases s2 i t

pub stays_as : (sizes : List ℕ) (total total2 : ℕ) (s s2 : BodyState) → total2 ≡ total → s2 ≡ s → StaysInStore sizes total s → StaysInStore sizes total2 s2
stays_as sizes total total2 s s2 e f k = subst (λ (n : ℕ). StaysInStore sizes n s2) (sym e) (subst (λ (x : BodyState). StaysInStore sizes total x) (sym f) k)
