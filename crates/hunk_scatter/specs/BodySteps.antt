-- The loader of a body in numbers. The size words of the table stand beside it.
use Rattle.std.specs.Prelude.{◌≡◌, ℕ, ◌+◌, ◌*◌, ◌<◌, ◌≤◌, true, false, List, length, get_or, if◌then◌else◌, Option}
use Rattle.hunk_words.specs.Limits.{most_hunks}
use Rattle.hunk_words.specs.declared.reason.Reason.{Reason}
use Rattle.hunk_words.specs.Bits.{size_longs}
use Rattle.hunk_grammar.specs.declared.phase.Phase.{Phase}
use Rattle.hunk_grammar.specs.declared.phase.Phase.TheVariants as phases
use Rattle.hunk_grammar.specs.declared.position.Position.{Position}
use Rattle.hunk_grammar.specs.declared.position.Position.TheVariants as positions
use Rattle.hunk_grammar.specs.Positions.{role_at, step, pass, is_between_hunks, is_after_header}
use Rattle.hunk_grammar.specs.Roles.{refuse}
use Rattle.hunk_scatter.specs.declared.store.BodyState.{BodyState}

abbrev pub longs_at : List ℕ → ℕ → ℕ
longs_at sizes hunk = size_longs (get_or sizes hunk 0)

-- Why the longword is refused, where it is.
abbrev pub refusal : List ℕ → BodyState → ℕ → Option Reason
refusal sizes s w = refuse (role_at (longs_at sizes s.hunk) s.position) w

-- at this position: the next hunk where none is open
abbrev pub move_to : List ℕ → BodyState → Position → BodyState
move_to sizes s p =
    if is_between_hunks p then record { hunk = s.hunk + 1; start = s.start + 4 * longs_at sizes s.hunk; position = p }
    else record { hunk = s.hunk; start = s.start; position = p }

-- After a longword that is not refused.
abbrev pub step_body : List ℕ → BodyState → ℕ → BodyState
step_body sizes s w = move_to sizes s (step s.position w)

-- After this many longwords of a run; the hunk stays.
abbrev pub pass_body : BodyState → ℕ → BodyState
pass_body s n = record { hunk = s.hunk; start = s.start; position = pass s.position n }

-- Room for what a longword does at this phase, in a hunk of this many longs.
abbrev pub RoomFor : List ℕ → ℕ → Phase → Type 0
RoomFor sizes longs (phases.Content all owed) = (owed < all) × (all ≤ longs)
RoomFor sizes longs (phases.Offset target owed) = target < length sizes
RoomFor sizes longs _ = Unit {0}

abbrev pub RoomIn : List ℕ → ℕ → Position → Type 0
RoomIn sizes longs (positions.Body o phase) = RoomFor sizes longs phase
RoomIn sizes longs _ = Unit {0}

-- how many hunks relocations may have as their target
abbrev pub targets_at : Position → ℕ
targets_at (positions.Body o phase) = o.hunks
targets_at _ = 0

-- The state is that of an open hunk whose segment lies in a store of this many bytes.
pub record IsInStore (sizes : List ℕ) (total : ℕ) (s : BodyState) : Type 0 where
  pub hunks : length sizes ≤ most_hunks
  pub hunk : s.hunk < length sizes
  pub segment : s.start + 4 * longs_at sizes s.hunk ≤ total
  pub in_body : is_after_header s.position ≡ true
  pub targets : targets_at s.position ≤ length sizes
  pub room : RoomIn sizes (longs_at sizes s.hunk) s.position

-- It is, unless a hunk has to open first or the file is whole.
abbrev pub StaysInStore : List ℕ → ℕ → BodyState → Type 0
StaysInStore sizes total s = is_between_hunks s.position ≡ false → IsInStore sizes total s
