-- What of a load file is passed over at once.
use Rattle.std.specs.Prelude.{◌≡◌, ℕ, suc, ◌+◌, ◌-◌, ◌*◌, ◌<◌, ◌≤◌, Bool, true, false, List, length, slice_index, Some, None}
use Rattle.hunk_words.specs.Bits.{entry_longs, kind, name_longs, size_longs}
use Rattle.hunk_grammar.specs.PhaseSteps.{begin}
use Rattle.hunk_grammar.specs.declared.phase.Phase.{Phase}
use Rattle.hunk_grammar.specs.declared.phase.Phase.TheVariants as phases
use Rattle.hunk_grammar.specs.declared.position.OpenHunk.{OpenHunk}
use Rattle.hunk_grammar.specs.declared.position.Position.{Position}
use Rattle.hunk_grammar.specs.declared.position.Position.TheVariants as positions
use Rattle.hunk_grammar.specs.Positions.{EndsWithin}
use Rattle.hunk_grammar.specs.Roles.{Role as roles, refuse, refuse_word}
use Rattle.hunk_files.specs.Entries.{entry_after}
use Rattle.hunk_files.specs.declared.load.passing.BlockPlace.{BlockPlace}
use Rattle.hunk_files.specs.declared.load.walk.DeclaredHunk.{DeclaredHunk}

-- ---- rows of the table

-- the longword after the row whose size word stands at this one
abbrev pub after_row : List ℕ → ℕ → ℕ
after_row ws at = at + entry_longs (slice_index ws at)

-- So many whole rows stand from the one longword up to the other.
pub data AreRows (ws : List ℕ) (from : ℕ) : ℕ → ℕ → Type 0 where
  no_row : AreRows ws from 0 from
  one_row : (count at : ℕ) → AreRows ws from count at → after_row ws at ≤ length ws → AreRows ws from (suc count) (after_row ws at)

-- ---- groups

-- A group goes from the one longword up to the other: the number of its offsets, the number of a hunk, and the offsets. The long
-- at each ends in a hunk of the declared number of longs.
pub record IsGroup (ws : List ℕ) (hunks longs at after : ℕ) : Type 0 where
  pub some : 0 < slice_index ws at
  pub ends : after ≡ at + 2 + slice_index ws at
  pub whole : after ≤ length ws
  pub target : slice_index ws (at + 1) < hunks
  pub inside : (i : ℕ) → at + 2 ≤ i → i < after → EndsWithin (4 * longs) (slice_index ws i)

-- Such groups stand from the one longword up to the other.
pub data AreGroups (ws : List ℕ) (hunks longs from : ℕ) : ℕ → Type 0 where
  no_group : AreGroups ws hunks longs from from
  one_group : (at after : ℕ) → AreGroups ws hunks longs from at → IsGroup ws hunks longs at after → AreGroups ws hunks longs from after

-- ---- symbols

-- the longword after the symbol whose word stands at this one: after it come its name, and its value
abbrev pub after_symbol : List ℕ → ℕ → ℕ
after_symbol ws at = at + (name_longs (slice_index ws at) + 2)

-- Whole symbols stand from the one longword up to the other. None has 0 for its word.
pub data AreSymbols (ws : List ℕ) (from : ℕ) : ℕ → Type 0 where
  no_symbol : AreSymbols ws from from
  one_symbol : (at : ℕ) → AreSymbols ws from at → 0 < slice_index ws at → after_symbol ws at ≤ length ws → AreSymbols ws from (after_symbol ws at)

-- ---- blocks

-- The word of a block stands at this longword, is not refused, and the phase comes after it.
pub record BeginsBlock (ws : List ℕ) (has : Bool) (at : ℕ) (phase : Phase) : Type 0 where
  pub inside : at < length ws
  pub accepted : refuse_word has (slice_index ws at) ≡ None
  pub begins : begin (kind (slice_index ws at)) ≡ Some phase

-- The size word of a content stands at this longword, which has at most the declared number of longs, and ends at the other.
pub record IsContent (ws : List ℕ) (longs at after : ℕ) : Type 0 where
  pub fits : size_longs (slice_index ws at) ≤ longs
  pub ends : after ≡ at + 1 + size_longs (slice_index ws at)
  pub whole : after ≤ length ws

-- The count of a payload stands at this longword, which ends at the other.
pub record IsCounted (ws : List ℕ) (at after : ℕ) : Type 0 where
  pub ends : after ≡ at + 1 + slice_index ws at
  pub whole : after ≤ length ws

-- A list that may go up to some longword goes up to this one, with the 0 that ends it.
pub record IsList (ws : List ℕ) (GoesTo : ℕ → Type 0) (after : ℕ) : Type 0 where
  pub end : ℕ
  pub items : GoesTo end
  pub zero_is : slice_index ws end ≡ 0
  pub ends : after ≡ end + 1
  pub whole : after ≤ length ws

-- A block goes from the one longword up to the other, in a hunk that has its content block or not, before it and after it.
pub data IsWholeBlock (ws : List ℕ) (hunks longs at : ℕ) (has : Bool) : ℕ → Bool → Type 0 where
  content : (after : ℕ) → BeginsBlock ws has at phases.ContentSize → IsContent ws longs (at + 1) after → IsWholeBlock ws hunks longs at has after true
  counted : (after : ℕ) → BeginsBlock ws has at phases.LongCount → IsCounted ws (at + 1) after → IsWholeBlock ws hunks longs at has after has
  groups : (after : ℕ) → BeginsBlock ws has at phases.GroupCount → IsList ws (AreGroups ws hunks longs (at + 1)) after → IsWholeBlock ws hunks longs at has after has
  symbols : (after : ℕ) → BeginsBlock ws has at phases.EntryWord → IsList ws (AreSymbols ws (at + 1)) after → IsWholeBlock ws hunks longs at has after has

-- the same hunk, with or without its content block
abbrev pub having : Bool → OpenHunk → OpenHunk
having has o = record { hunks = o.hunks; ahead = o.ahead; has_content = has }

-- the place after a block of the hunk that ends before this longword, where the hunk has its content block or not
abbrev pub past : BlockPlace → ℕ → Bool → BlockPlace
past p after has = record { at = after; hunk = having has p.hunk; begun = true; entry = p.entry }

-- ---- hunks

-- The END of the hunk stands at this longword, and is not refused.
pub record EndsHunk (ws : List ℕ) (has : Bool) (at : ℕ) : Type 0 where
  pub inside : at < length ws
  pub accepted : refuse_word has (slice_index ws at) ≡ None
  pub ends : begin (kind (slice_index ws at)) ≡ None

-- the place after the END that stands at this one, where the next hunk opens, which the next entry of the table declares
abbrev pub opening : List ℕ → BlockPlace → BlockPlace
opening ws p = record {
  at = p.at + 1;
  hunk = record { hunks = p.hunk.hunks; ahead = p.hunk.ahead - 1; has_content = false };
  begun = false;
  entry = entry_after (slice_index ws p.entry.next) p.entry.next;
}

-- The other is the place after this END, and hunks are ahead of the one that ends.
pub record IsOpened (ws : List ℕ) (p q : BlockPlace) : Type 0 where
  pub ahead : 0 < p.hunk.ahead
  pub entry_inside : p.entry.next < length ws
  pub opens : q ≡ opening ws p

-- A block goes from the one place up to the other: one of the open hunk, or its END, after which another hunk opens.
pub data IsBlock (ws : List ℕ) (p : BlockPlace) : BlockPlace → Type 0 where
  of_hunk : (after : ℕ) (now : Bool) → IsWholeBlock ws p.hunk.hunks p.entry.longs p.at p.hunk.has_content after now → IsBlock ws p (past p after now)
  hunk_end : (q : BlockPlace) → EndsHunk ws p.hunk.has_content p.at → IsOpened ws p q → IsBlock ws p q

-- Such blocks go from the one place up to the other.
pub data AreBlocks (ws : List ℕ) (from : BlockPlace) : BlockPlace → Type 0 where
  no_block : AreBlocks ws from from
  one_block : (p q : BlockPlace) → AreBlocks ws from p → IsBlock ws p q → AreBlocks ws from q

-- what the longword at the place is for: the word of the first block of the hunk, or of a further one
abbrev pub phase_at : Bool → Phase
phase_at false = phases.FirstBlock
phase_at true = phases.BlockWord

abbrev pub position_at : BlockPlace → Position
position_at p = positions.Body p.hunk (phase_at p.begun)

-- ---- rows, or blocks

-- What is passed over from the longword on, at this position and with this entry of the open hunk, goes up to the other longword,
-- and the other position and entry come there.
pub data IsPassed (ws : List ℕ) (at : ℕ) (p : Position) (entry : DeclaredHunk) : ℕ → Position → DeclaredHunk → Type 0 where
  nothing : IsPassed ws at p entry at p entry
  passed_rows : (hunks owed count end : ℕ) → p ≡ positions.SizeWord hunks owed → count ≤ owed → AreRows ws at count end → IsPassed ws at p entry end (positions.SizeWord hunks (owed - count)) entry
  passed_blocks : (o : OpenHunk) (begun : Bool) (to : BlockPlace) → p ≡ positions.Body o (phase_at begun) → AreBlocks ws (record { at = at; hunk = o; begun = begun; entry = entry }) to →
      IsPassed ws at p entry to.at (position_at to) to.entry

-- ---- the front

-- The longwords of a header of so many hunks stand up to its table, and another after them. None is refused.
pub record HasHeaderFront (ws : List ℕ) (hunks : ℕ) : Type 0 where
  pub whole : 5 < length ws
  pub hunks_are : hunks ≡ slice_index ws 2
  pub some : 0 < hunks
  pub word : refuse roles.FirstLong (slice_index ws 0) ≡ None
  pub names : refuse roles.ResidentName (slice_index ws 1) ≡ None
  pub size : refuse roles.TableSize hunks ≡ None
  pub first : refuse roles.FirstHunk (slice_index ws 3) ≡ None
  pub last : refuse (roles.LastHunk hunks) (slice_index ws 4) ≡ None

-- The header is whole, and at the place after it the first hunk opens, which the first entry of the table declares.
pub record IsFirstPlace (ws : List ℕ) (p : BlockPlace) : Type 0 where
  pub header : HasHeaderFront ws p.hunk.hunks
  pub table : AreRows ws 5 p.hunk.hunks p.at
  pub opens : p ≡ record { at = p.at; hunk = record { hunks = p.hunk.hunks; ahead = p.hunk.hunks - 1; has_content = false }; begun = false; entry = entry_after (slice_index ws 5) 5 }

-- What is passed over from the start on goes up to the longword, and the position and the entry come there: nothing, or the header
-- and the blocks after it.
pub data IsFrontPassed (ws : List ℕ) : ℕ → Position → DeclaredHunk → Type 0 where
  no_front : IsFrontPassed ws 0 positions.FirstLong (record { longs = 0; next = 5 })
  passed_front : (first : BlockPlace) (to : ℕ) (q : Position) (entry : DeclaredHunk) → IsFirstPlace ws first → IsPassed ws first.at (position_at first) first.entry to q entry → IsFrontPassed ws to q entry
