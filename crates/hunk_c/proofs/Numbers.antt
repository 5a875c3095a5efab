-- The numbers of a loader tell where it stands.
use Rattle.std.proofs.Common.{◌≡◌, ◌==◌, ℕ, Bool, true, false, Option, Some, refl, sym, ap, ap₂, subst, ◌∙◌, if◌then◌else◌, MatchOption}
use Rattle.hunk_grammar.specs.declared.phase.Phase.{Phase}
use Rattle.hunk_grammar.specs.declared.phase.Phase.TheVariants as phases
use Rattle.hunk_grammar.specs.{declared.position.OpenHunk.OpenHunk, declared.position.Position.Position}
use Rattle.hunk_grammar.specs.declared.position.Position.TheVariants as positions
use Rattle.hunk_scatter.specs.declared.stream.Standing.{Standing}
use Rattle.hunk_c.specs.declared.loader.Loader.{Loader}
use Rattle.hunk_c.specs.Loaders.{CountsBytes, HasNumbers, MayHavePosition, MayHaveStood, MayOwe, MayStand, MayStandAt, StandsAt, TellsNone, bit, body_in, hunk_of, loader_at, loader_position, phase_in, phase_numbers, position_numbers, standing_in, unrefused, unused, whole}

bit_again : (b : Bool) → (bit b == 1) ≡ b
bit_again true = refl
bit_again false = refl

hunk_again : (o : OpenHunk) → ◌≡◌ {A = OpenHunk} (record { hunks = o.hunks; ahead = o.ahead; has_content = bit o.has_content == 1 }) o
hunk_again o = ap (λ (b : Bool). record { hunks = o.hunks; ahead = o.ahead; has_content = b }) (bit_again o.has_content)

phase_again : (o : OpenHunk) (p : Phase) → MayOwe o p → phase_in (phase_numbers p).0 (phase_numbers p).1 (phase_numbers p).2 ≡ Some p
phase_again o phases.ExtWord h = absurd h
phase_again o (phases.ExtFront owed) h = absurd h
phase_again o phases.ExtCount h = absurd h
phase_again o (phases.ExtRest owed) h = absurd h
phase_again o _ h = refl

-- the number of the end is that of no phase
no_end : (o : OpenHunk) (p : Phase) → MayOwe o p → ((phase_numbers p).0 == whole) ≡ false
no_end o phases.FirstBlock h = refl
no_end o _ h = refl

-- the position that numbers tell
abbrev told : ℕ → ℕ → ℕ → OpenHunk → Option Position
told n part owed hunk = if n == whole then Some positions.Done else body_in hunk (phase_in n part owed)

position_again : (hunk fed : ℕ) (p : Position) → MayStandAt hunk fed p →
    told (position_numbers p).0 (position_numbers p).1 (position_numbers p).2 (record { hunks = (hunk_of p).hunks; ahead = (hunk_of p).ahead; has_content = bit (hunk_of p).has_content == 1 }) ≡ Some p
position_again hunk fed (positions.Body o p) h = rw (no_end o p h.2) (ap₂ body_in (hunk_again o) (phase_again o p h.2))
position_again hunk fed positions.Done h = refl
position_again hunk fed _ h = absurd h

-- It is the one that they are of.
pub told_is : (l : Loader) (p : Position) → MayHavePosition l p → loader_position l ≡ Some p
told_is l p h =
    (λ i. told (h.numbers.phase i) (h.numbers.part i) (h.numbers.owed i) (record { hunks = h.numbers.hunks i; ahead = h.numbers.ahead i; has_content = h.numbers.has_content i == 1 }))
    ∙ position_again l.hunk l.fed p h.may_stand

some_is : (a b : Position) → Some a ≡ Some b → a ≡ b
some_is a b e = cc

-- No two positions have the same numbers.
pub one_position : (l : Loader) (p q : Position) → MayHavePosition l p → MayHavePosition l q → p ≡ q
one_position l p q h k = some_is p q (sym (told_is l p h) ∙ told_is l q k)

-- Then the loader may have stood so.
pub has_stood : (l : Loader) (p : Position) → MayHavePosition l p → CountsBytes l.start l.fed l.pending → MayHaveStood l
has_stood l p h counts = record { counts = counts; position = subst (λ (o : Option Position). MatchOption o ⊥ (MayHavePosition l)) (sym (told_is l p h)) h }

pub stood_at : (l : Loader) (p : Position) → MayHaveStood l → loader_position l ≡ Some p → MayHavePosition l p
stood_at l p h e = subst (λ (o : Option Position). MatchOption o ⊥ (MayHavePosition l)) e h.position

-- ---- all numbers

-- Numbers of a position are those of a loader that stands there.
pub numbers_are : (l : Loader) (p : Position) → HasNumbers l p → unrefused l ≡ loader_at (standing_in l p)
numbers_are l p h = λ i. record {
  start = l.start;
  fed = l.fed;
  place = 0;
  refused = 0;
  refused_hunk = 0;
  hunk = l.hunk;
  hunks = h.hunks i;
  ahead = h.ahead i;
  has_content = h.has_content i;
  phase = h.phase i;
  part = h.part i;
  owed = h.owed i;
  pending = l.pending;
  first = l.first;
  second = l.second;
  third = l.third;
  reserved = unused;
}

pub has_numbers : (l : Loader) (at : Standing) → unrefused l ≡ loader_at at → HasNumbers l at.state.position
has_numbers l at e = record {
  hunks = ap (λ (x : Loader). x.hunks) e;
  ahead = ap (λ (x : Loader). x.ahead) e;
  has_content = ap (λ (x : Loader). x.has_content) e;
  phase = ap (λ (x : Loader). x.phase) e;
  part = ap (λ (x : Loader). x.part) e;
  owed = ap (λ (x : Loader). x.owed) e;
}

pub position_of : (l : Loader) (at : Standing) → unrefused l ≡ loader_at at → MayStand at → MayHavePosition l at.state.position
position_of l at e h = record {
  numbers = has_numbers l at e;
  may_stand = subst (λ (x : Loader). MayStandAt x.hunk x.fed at.state.position) (sym e) h.position;
  none_pending = λ done. ap (λ (x : Loader). x.pending) e ∙ h.none_pending done;
}

pub counts_of : (l : Loader) (at : Standing) → unrefused l ≡ loader_at at → MayStand at → CountsBytes l.start l.fed l.pending
counts_of l at e h = subst (λ (x : Loader). CountsBytes x.start x.fed x.pending) (sym e) h.counts

standing_is : (l : Loader) (at : Standing) → unrefused l ≡ loader_at at → standing_in l at.state.position ≡ at
standing_is l at e = ap (λ (x : Loader). standing_in x at.state.position) e

-- No two standings have the same numbers.
pub one_standing : (l : Loader) (a b : Standing) → unrefused l ≡ loader_at a → unrefused l ≡ loader_at b → MayStand a → MayStand b → a ≡ b
one_standing l a b e f h k =
    sym (standing_is l a e)
    ∙ ap (standing_in l) (one_position l a.state.position b.state.position (position_of l a e h) (position_of l b f k))
    ∙ standing_is l b f

-- It may stand there.
pub may_stand_by : (l : Loader) (p : Position) → MayHavePosition l p → CountsBytes l.start l.fed l.pending → MayStand (standing_in l p)
may_stand_by l p h counts = record { counts = counts; position = h.may_stand; none_pending = h.none_pending }

pub stands_by : (l : Loader) (p : Position) → MayHavePosition l p → CountsBytes l.start l.fed l.pending → TellsNone l → StandsAt l (standing_in l p)
stands_by l p h counts clean = record { numbers = numbers_are l p h.numbers; may_stand = may_stand_by l p h counts; clean = clean }

-- A standing that may be is one by its numbers.
pub stands_again : (l : Loader) (at : Standing) → unrefused l ≡ loader_at at → MayStand at → MayHaveStood l
stands_again l at e m = has_stood l at.state.position (position_of l at e m) (counts_of l at e m)
