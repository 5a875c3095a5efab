-- What of an object file is passed over at once.
use Rattle.std.specs.Prelude.{◌≡◌, ℕ, ◌+◌, ◌<◌, ◌≤◌, List, length, slice_index, Option, Some, None}
use Rattle.hunk_words.specs.Limits.{name_limit}
use Rattle.hunk_words.specs.declared.block_word.Kind.{Kind}
use Rattle.hunk_grammar.specs.Standings.{standing_of_kind}
use Rattle.hunk_grammar.specs.ObjectRoles.{refuse_object}
use Rattle.hunk_grammar.specs.ObjectPositions.{place_next, refuse_place, role_at, step, run, pass_run}
use Rattle.hunk_grammar.specs.declared.phase.Phase.{Phase}
use Rattle.hunk_grammar.specs.declared.phase.Phase.TheVariants as phases
use Rattle.hunk_grammar.specs.declared.object_position.ObjectPosition.{ObjectPosition}
use Rattle.hunk_grammar.specs.declared.object_position.ObjectPosition.TheVariants as positions
use Rattle.hunk_grammar.specs.declared.object_position.WordPlace.{WordPlace}
use Rattle.hunk_files.specs.FileParts.{counted}
use Rattle.hunk_files.specs.Passing.{IsCounted}
use Rattle.hunk_files.specs.declared.object.passing.UnitPlace.{UnitPlace}

-- From the one longword the other is come to, where none between them is refused. Each comes with its position, and with the units
-- that began before it and the parts of the last that are whole.
pub data AreStrides (ws : List ℕ) (at : ℕ) (p : ObjectPosition) (n : ℕ × ℕ) : ℕ → ObjectPosition → ℕ × ℕ → Type 0 where
  no_stride : AreStrides ws at p n at p n
  one_stride : (to : ℕ) (q : ObjectPosition) (m : ℕ × ℕ) → AreStrides ws at p n to q m → refuse_object (role_at q) (slice_index ws to) ≡ None → to + (1 + run (step q (slice_index ws to))) ≤ length ws →
      AreStrides ws at p n (to + (1 + run (step q (slice_index ws to)))) (pass_run (step q (slice_index ws to))) (counted q m)

-- In any block the one longword, of this phase, leads to the other, where the block has ended.
abbrev pub EndsBlock : List ℕ → Phase → ℕ → ℕ → Type 0
EndsBlock ws phase at after = (next : WordPlace) (n : ℕ × ℕ) → AreStrides ws at (positions.Block next phase) n after (positions.Word next) n

-- External entries go from the one longword up to the other.
abbrev pub AreEntries : List ℕ → ℕ → ℕ → Type 0
AreEntries ws at after = (next : WordPlace) (n : ℕ × ℕ) → AreStrides ws at (positions.Block next phases.ExtWord) n after (positions.Block next phases.ExtWord) n

-- So do groups of offsets.
abbrev pub AreObjectGroups : List ℕ → ℕ → ℕ → Type 0
AreObjectGroups ws at after = (next : WordPlace) (n : ℕ × ℕ) → AreStrides ws at (positions.Block next phases.GroupCount) n after (positions.Block next phases.GroupCount) n

-- The count of a name stands at this longword, which ends at the other.
pub record IsNamed (ws : List ℕ) (at after : ℕ) : Type 0 where
  pub few : slice_index ws at < name_limit
  pub counted : IsCounted ws at after

-- what the place is come to with
abbrev pub counts_at : UnitPlace → ℕ × ℕ
counts_at p = (p.units, p.whole)

-- From the one place the other is come to.
abbrev pub LeadsTo : List ℕ → UnitPlace → UnitPlace → Type 0
LeadsTo ws p q = AreStrides ws p.at (positions.Word p.place) (counts_at p) q.at (positions.Word q.place) (counts_at q)

-- So it is, and the other is beyond it, and in the bytes.
pub record LeadsOn (ws : List ℕ) (p q : UnitPlace) : Type 0 where
  pub leads : LeadsTo ws p q
  pub on : p.at < q.at
  pub inside : q.at ≤ length ws

-- A block of this kind may stand at the one place, and the other comes after it, where it ends there.
pub record IsAfter (p : UnitPlace) (k : Kind) (after : Option ℕ) (q : UnitPlace) : Type 0 where
  pub allowed : refuse_place p.place (standing_of_kind k) ≡ None
  pub ends : after ≡ Some q.at
  pub next : q.place ≡ place_next p.place (standing_of_kind k)
  pub counts : counts_at q ≡ counted (positions.Word p.place) (counts_at p)
