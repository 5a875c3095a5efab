-- The numbers of a loader that a C program keeps: how they say where it stands, and which of them none has.
use Rattle.std.specs.Prelude.{◌≡◌, ◌⊎◌, ℕ, ◌+◌, ◌-◌, ◌*◌, ◌%◌, ◌^◌, ◌<◌, ◌≤◌, ◌==◌, List, [], ◌∷◌, ◌++◌, length, if◌then◌else◌, Bool, true, false, Option, Some, None, IsTrue, MatchOption}
use Rattle.hunk_words.specs.Limits.{content_limit, most_hunks, name_limit}
use Rattle.hunk_words.specs.Reasons.{number_of}
use Rattle.hunk_words.specs.declared.fault.Fault.{Fault}
use Rattle.hunk_words.specs.declared.pending.Pending.{Pending}
use Rattle.hunk_grammar.specs.declared.position.OpenHunk.{OpenHunk}
use Rattle.hunk_grammar.specs.declared.phase.Phase.{Phase}
use Rattle.hunk_grammar.specs.declared.phase.Phase.TheVariants as phases
use Rattle.hunk_grammar.specs.Positions.{is_done}
use Rattle.hunk_grammar.specs.declared.position.Position.{Position}
use Rattle.hunk_grammar.specs.declared.position.Position.TheVariants as positions
use Rattle.hunk_files.specs.declared.row.Row.{Row}
use Rattle.hunk_scatter.specs.BodySteps.{longs_at}
use Rattle.hunk_scatter.specs.LoaderReasons.{is_of_body}
use Rattle.hunk_scatter.specs.LoaderValues.{IsBodyRefusal}
use Rattle.hunk_scatter.specs.Rows.{words_of}
use Rattle.hunk_scatter.specs.Streaming.{IsFed}
use Rattle.hunk_scatter.specs.declared.stream.Standing.{Standing}
use Rattle.hunk_c.specs.declared.answer.Answer.{Answer}
use Rattle.hunk_c.specs.declared.loader.Loader.{Loader}
use Rattle.hunk_c.specs.Answers.{refused, refused_hunk, strange}

-- ---- where a loader stands, in numbers

-- A phase: its number, the longwords of a content or the target of offsets, and how many are owed. Nothing is external in
-- a load file: that is the number of no phase.
abbrev pub phase_numbers : Phase → ℕ × ℕ × ℕ
phase_numbers phases.FirstBlock = (1, 0, 0)
phase_numbers phases.BlockWord = (2, 0, 0)
phase_numbers phases.NameCount = (3, 0, 0)
phase_numbers phases.LongCount = (4, 0, 0)
phase_numbers phases.ContentSize = (5, 0, 0)
phase_numbers phases.BssSize = (6, 0, 0)
phase_numbers (phases.Content longs owed) = (7, longs, owed)
phase_numbers (phases.Payload owed) = (8, 0, owed)
phase_numbers phases.GroupCount = (9, 0, 0)
phase_numbers (phases.Target owed) = (10, 0, owed)
phase_numbers (phases.Offset target owed) = (11, target, owed)
phase_numbers phases.EntryWord = (12, 0, 0)
phase_numbers (phases.Symbol owed) = (13, 0, owed)
phase_numbers _ = (0, 0, 0)

-- the number of the end, where the file is whole
abbrev pub whole : ℕ
whole = 14

-- the same of a position; in a header no loader of a body stands
abbrev pub position_numbers : Position → ℕ × ℕ × ℕ
position_numbers (positions.Body hunk phase) = phase_numbers phase
position_numbers positions.Done = (whole, 0, 0)
position_numbers _ = (0, 0, 0)

-- The phase that has these numbers, where one has them.
abbrev pub phase_in : ℕ → ℕ → ℕ → Option Phase
phase_in n part owed =
    if n == 1 then Some phases.FirstBlock
    else if n == 2 then Some phases.BlockWord
    else if n == 3 then Some phases.NameCount
    else if n == 4 then Some phases.LongCount
    else if n == 5 then Some phases.ContentSize
    else if n == 6 then Some phases.BssSize
    else if n == 7 then Some (phases.Content part owed)
    else if n == 8 then Some (phases.Payload owed)
    else if n == 9 then Some phases.GroupCount
    else if n == 10 then Some (phases.Target owed)
    else if n == 11 then Some (phases.Offset part owed)
    else if n == 12 then Some phases.EntryWord
    else if n == 13 then Some (phases.Symbol owed)
    else None

-- the open hunk, where one is open
abbrev pub hunk_of : Position → OpenHunk
hunk_of (positions.Body hunk phase) = hunk
hunk_of _ = record { hunks = 0; ahead = 0; has_content = false }

abbrev pub bit : Bool → ℕ
bit true = 1
bit false = 0

-- the room to grow, as it is written
abbrev pub unused : List ℕ
unused = 0 ∷ 0 ∷ 0 ∷ 0 ∷ []

-- The numbers of a loader that stands so, and has refused nothing.
abbrev pub loader_at : Standing → Loader
loader_at s = record {
  start = s.state.start;
  fed = s.fed;
  place = 0;
  refused = 0;
  refused_hunk = 0;
  hunk = s.state.hunk;
  hunks = (hunk_of s.state.position).hunks;
  ahead = (hunk_of s.state.position).ahead;
  has_content = bit (hunk_of s.state.position).has_content;
  phase = (position_numbers s.state.position).0;
  part = (position_numbers s.state.position).1;
  owed = (position_numbers s.state.position).2;
  pending = s.pending.count;
  first = s.pending.first;
  second = s.pending.second;
  third = s.pending.third;
  reserved = unused;
}

-- the open hunk and the phase are in these numbers
pub record HasNumbers (l : Loader) (p : Position) : Type 0 where
  pub hunks : l.hunks ≡ (hunk_of p).hunks
  pub ahead : l.ahead ≡ (hunk_of p).ahead
  pub has_content : l.has_content ≡ bit (hunk_of p).has_content
  pub phase : l.phase ≡ (position_numbers p).0
  pub part : l.part ≡ (position_numbers p).1
  pub owed : l.owed ≡ (position_numbers p).2

-- the phase alone
abbrev pub HasPhase : Loader → Phase → Type 0
HasPhase l p = (l.phase ≡ (phase_numbers p).0) × (l.part ≡ (phase_numbers p).1) × (l.owed ≡ (phase_numbers p).2)

-- Its longword that is not whole, and its refusal, in numbers.
abbrev pub pending_in : Loader → Pending
pending_in l = record { count = l.pending; first = l.first; second = l.second; third = l.third }

abbrev pub refusal_in : Loader → ℕ × ℕ × ℕ
refusal_in l = (l.place, l.refused, l.refused_hunk)

-- With these numbers, and otherwise as it was, but for the room to grow, which is not read.
abbrev pub with_numbers : Loader → ℕ → ℕ → Pending → ℕ × ℕ × ℕ → Loader
with_numbers l fed owed pending refusal = record {
  start = l.start;
  fed = fed;
  place = refusal.0;
  refused = refusal.1;
  refused_hunk = refusal.2;
  hunk = l.hunk;
  hunks = l.hunks;
  ahead = l.ahead;
  has_content = l.has_content;
  phase = l.phase;
  part = l.part;
  owed = owed;
  pending = pending.count;
  first = pending.first;
  second = pending.second;
  third = pending.third;
  reserved = unused;
}

-- with a refusal
abbrev pub refusing : Loader → Fault → Loader
refusing l f = with_numbers l l.fed l.owed (pending_in l) (f.place, number_of f.reason, refused_hunk f.reason)

-- as it was before its refusal
abbrev pub unrefused : Loader → Loader
unrefused l = with_numbers l l.fed l.owed (pending_in l) (0, 0, 0)

-- the numbers of no loader: no longword is for the phase 0
abbrev pub no_loader : Loader
no_loader = record {
  start = 0;
  fed = 0;
  place = 0;
  refused = 0;
  refused_hunk = 0;
  hunk = 0;
  hunks = 0;
  ahead = 0;
  has_content = 0;
  phase = 0;
  part = 0;
  owed = 0;
  pending = 0;
  first = 0;
  second = 0;
  third = 0;
  reserved = unused;
}

-- the hunk that is open, by the numbers
abbrev pub open_hunk : Loader → OpenHunk
open_hunk l = record { hunks = l.hunks; ahead = l.ahead; has_content = l.has_content == 1 }

-- the position that the number of the phase tells
abbrev pub body_in : OpenHunk → Option Phase → Option Position
body_in hunk None = None
body_in hunk (Some phase) = Some (positions.Body hunk phase)

abbrev pub loader_position : Loader → Option Position
loader_position l = if l.phase == whole then Some positions.Done else body_in (open_hunk l) (phase_in l.phase l.part l.owed)

-- where a loader stands at this position, by its other numbers
abbrev pub standing_in : Loader → Position → Standing
standing_in l position = record {
  state = record { start = l.start; hunk = l.hunk; position = position };
  fed = l.fed;
  pending = pending_in l;
}

-- ---- where one may stand, whatever its places and its memory

-- What may be owed at a phase of a hunk. Content comes once, and relocations after it.
abbrev pub MayOwe : OpenHunk → Phase → Type 0
MayOwe o phases.FirstBlock = o.has_content ≡ false
MayOwe o phases.BlockWord = Unit {0}
MayOwe o phases.NameCount = Unit {0}
MayOwe o phases.LongCount = Unit {0}
MayOwe o phases.ContentSize = o.has_content ≡ false
MayOwe o phases.BssSize = o.has_content ≡ false
MayOwe o (phases.Content longs owed) = (o.has_content ≡ false) × (owed < longs) × (longs < content_limit)
MayOwe o (phases.Payload owed) = Unit {0}
MayOwe o phases.GroupCount = o.has_content ≡ true
MayOwe o (phases.Target owed) = o.has_content ≡ true
MayOwe o (phases.Offset target owed) = (o.has_content ≡ true) × (target < o.hunks)
MayOwe o phases.EntryWord = Unit {0}
MayOwe o (phases.Symbol owed) = owed < name_limit
MayOwe o _ = ⊥

-- the bytes of the least header of so many hunks: five longwords, and one for each
abbrev pub least_header : ℕ → ℕ
least_header hunks = 4 * (5 + hunks)

-- and of the least file: each hunk has three longwords more
abbrev pub least_file : ℕ → ℕ
least_file hunks = 4 * (5 + 4 * hunks)

-- The open hunk has this number, in a file of few hunks.
pub record MayBeOpen (o : OpenHunk) (hunk : ℕ) : Type 0 where
  pub counts : hunk + 1 + o.ahead ≡ o.hunks
  pub few : o.hunks ≤ most_hunks

-- So many hunks are whole, and so many bytes were fed.
abbrev pub MayStandAt : ℕ → ℕ → Position → Type 0
MayStandAt hunk fed (positions.Body o phase) = MayBeOpen o hunk × (least_header o.hunks ≤ fed) × MayOwe o phase
MayStandAt hunk fed positions.Done = (0 < hunk) × (hunk ≤ most_hunks) × (least_file hunk ≤ fed)
MayStandAt hunk fed _ = ⊥

-- Bytes are pending as they were fed after whole longwords, and hunks are longwords.
pub record CountsBytes (start fed pending : ℕ) : Type 0 where
  pub few : pending < 4
  pub counted : (fed % 4 ≡ pending) ⊎ (fed ≡ 2 ^ 64 - 1)
  pub whole_longs : start % 4 ≡ 0

-- What holds of each loader that stands after bytes, as far as its numbers tell it by themselves.
pub record MayStand (s : Standing) : Type 0 where
  pub counts : CountsBytes s.state.start s.fed s.pending.count
  pub position : MayStandAt s.state.hunk s.fed s.state.position
  pub none_pending : is_done s.state.position ≡ true → s.pending.count ≡ 0

-- The numbers are those of a loader at this position, which may stand there.
pub record MayHavePosition (l : Loader) (p : Position) : Type 0 where
  pub numbers : HasNumbers l p
  pub may_stand : MayStandAt l.hunk l.fed p
  pub none_pending : is_done p ≡ true → l.pending ≡ 0

-- what is owed is so by the numbers, and may be
abbrev pub OwesByPhase : Loader → Type 0
OwesByPhase l = MatchOption (phase_in l.phase l.part l.owed) ⊥ (λ phase. HasPhase l phase × MayOwe (open_hunk l) phase)

-- They are those of a loader that may stand at a phase, by its number.
abbrev pub MayBeInBody : Loader → Type 0
MayBeInBody l = MatchOption (phase_in l.phase l.part l.owed) ⊥ (λ phase. MayHavePosition l (positions.Body (open_hunk l) phase))

-- The open hunk is one of the rows, which are the hunks, and lies in a memory of this many bytes.
pub record LiesIn (rows : List Row) (total : ℕ) (l : Loader) : Type 0 where
  pub hunks : l.hunks ≡ length rows
  pub segment : l.start + 4 * longs_at (words_of rows) l.hunk ≤ total
  pub content : l.phase ≡ 7 → l.part ≤ longs_at (words_of rows) l.hunk

-- No longword was refused.
pub record TellsNone (l : Loader) : Type 0 where
  pub place : l.place ≡ 0
  pub number : l.refused ≡ 0
  pub hunk : l.refused_hunk ≡ 0

-- A hunk is open, and a loader with these rows and a memory of this many bytes may stand so.
pub record IsReady (rows : List Row) (total : ℕ) (l : Loader) : Type 0 where
  pub clean : TellsNone l
  pub counts : CountsBytes l.start l.fed l.pending
  pub in_body : MayBeInBody l
  pub lies : LiesIn rows total l

-- A loader may stand so, or have stood so before a refusal.
pub record MayHaveStood (l : Loader) : Type 0 where
  pub counts : CountsBytes l.start l.fed l.pending
  pub position : MatchOption (loader_position l) ⊥ (MayHavePosition l)

-- ---- which loader the numbers are

-- This is the refusal, of a longword of a body.
pub record TellsFault (l : Loader) (f : Fault) : Type 0 where
  pub place : l.place ≡ f.place
  pub number : l.refused ≡ number_of f.reason
  pub hunk : l.refused_hunk ≡ refused_hunk f.reason
  pub own_reason : IsTrue (is_of_body f.reason)
  pub whole_longs : f.place % 4 ≡ 0

-- The numbers are those of a loader that stands so.
pub record StandsAt (l : Loader) (at : Standing) : Type 0 where
  pub numbers : unrefused l ≡ loader_at at
  pub may_stand : MayStand at
  pub clean : TellsNone l

-- They are those of one that stood so, and has refused a longword.
pub record HasRefusedAt (l : Loader) (at : Standing) (f : Fault) : Type 0 where
  pub numbers : unrefused l ≡ loader_at at
  pub may_stand : MayStand at
  pub tells : TellsFault l f

-- The loader stands after these bytes, header and body joined, and has refused none; the memory is what it has made of them.
pub record Stands (rows : List Row) (l : Loader) (memory fed : List ℕ) : Type 0 where
  pub at : Standing
  pub numbers : unrefused l ≡ loader_at at
  pub clean : TellsNone l
  pub is_fed : IsFed rows memory at fed

-- The loader stood after bytes, and has refused so the piece that came then.
pub record HasRefusedPiece (l : Loader) (f : Fault) : Type 0 where
  pub rows : List Row
  pub old : Loader
  pub memory : List ℕ
  pub fed : List ℕ
  pub piece : List ℕ
  pub stood : Stands rows old memory fed
  pub refuses : IsBodyRefusal (fed ++ piece) f
  pub as_it_stood : unrefused l ≡ unrefused old
  pub tells : TellsFault l f

-- No loader has these numbers, with any places, memory and bytes: none stands so, and none has refused a piece so.
pub record IsNoLoader (l : Loader) : Type 0 where
  pub stands : (rows : List Row) (memory fed : List ℕ) → Stands rows l memory fed → ⊥
  pub has_refused : (f : Fault) → HasRefusedPiece l f → ⊥

-- What each call answers where a loader does not stand: its refusal again, or that no loader has these numbers.
pub data TellsAgain (l : Loader) (answer : Answer) : Type 0 where
  TellsRefusal : (at : Standing) (f : Fault) → HasRefusedAt l at f → answer ≡ refused f → TellsAgain l answer
  TellsStrange : IsNoLoader l → answer ≡ strange → TellsAgain l answer
