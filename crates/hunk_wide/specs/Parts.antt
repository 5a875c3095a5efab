-- Parts of a file that are given out as they are, passed over at once.
use Rattle.std.specs.Prelude.{◌≡◌, ℕ, suc, ◌+◌, ◌-◌, ◌*◌, ◌<◌, ◌≤◌, Bool, true, false, ◌||◌, List, [], ◌∷◌, ◌++◌, length, take, drop, slice_index_or, if◌then◌else◌}
use Rattle.std.specs.Int.{from_be_bytes, to_be_bytes, w32}
use Rattle.hunk_words.specs.Bits.{end_word, has_both_bits, header_word}
use Rattle.hunk_grammar.specs.declared.phase.Phase.{Phase}
use Rattle.hunk_grammar.specs.declared.phase.Phase.TheVariants as phases
use Rattle.hunk_grammar.specs.declared.position.OpenHunk.{OpenHunk}
use Rattle.hunk_grammar.specs.declared.position.Position.{Position}
use Rattle.hunk_grammar.specs.declared.position.Position.TheVariants as positions
use Rattle.hunk_grammar.specs.declared.object_position.ObjectPosition.{ObjectPosition}
use Rattle.hunk_grammar.specs.declared.object_position.ObjectPosition.TheVariants as places
use Rattle.hunk_grammar.specs.declared.object_position.WordPlace.{WordPlace}
use Rattle.hunk_grammar.specs.ObjectPositions as object
use Rattle.hunk_grammar.specs.PhaseSteps.{longest_run}
use Rattle.hunk_wide.specs.declared.position.FilePosition.{FilePosition}
use Rattle.hunk_wide.specs.declared.position.FilePosition.TheVariants as files
use Rattle.hunk_wide.specs.declared.spot.Spot.{Spot}
use Rattle.hunk_wide.specs.declared.spot.Spot.TheVariants.{Long, Passing}
use Rattle.hunk_wide.specs.InFile.{LeadsTo}
use Rattle.hunk_wide.specs.Places.{here_or, place_from}
use Rattle.hunk_wide.specs.Plain.{GivesFor, plain_from}
use Rattle.hunk_wide.specs.Spellings.{ends_from, one_if, short_blocks_from}

-- These bytes are given out as they are, whatever follows them, and what follows is for this. None of them is counted, and each
-- has its own place.
pub record AsIs (s : Spot) (bytes : List ℕ) (next : Spot) : Type 0 where
  pub gives : GivesFor s bytes bytes next
  pub leads : LeadsTo s bytes next
  pub short_blocks : (more : List ℕ) → short_blocks_from s (bytes ++ more) ≡ short_blocks_from next more
  pub ends : (more : List ℕ) → ends_from s (bytes ++ more) ≡ ends_from next more
  pub places : (more : List ℕ) (n : ℕ) → place_from s (bytes ++ more) n ≡ here_or (length bytes) (length bytes) n (place_from next more (n - length bytes))

-- what is put in: END, or nothing
abbrev pub put_before : Bool → List ℕ
put_before is_behind = if is_behind then to_be_bytes w32 end_word else []

-- The same, where END may be put in before them.
pub record AsIsBehind (s : Spot) (bytes : List ℕ) (is_behind : Bool) (next : Spot) : Type 0 where
  pub gives : GivesFor s bytes (put_before is_behind ++ bytes) next
  pub leads : LeadsTo s bytes next
  pub short_blocks : (more : List ℕ) → short_blocks_from s (bytes ++ more) ≡ short_blocks_from next more
  pub ends : (more : List ℕ) → ends_from s (bytes ++ more) ≡ one_if is_behind + ends_from next more
  pub places : (more : List ℕ) (n : ℕ) → place_from s (bytes ++ more) n
      ≡ here_or (length bytes) (4 * one_if is_behind + length bytes) n (place_from next more (n - (4 * one_if is_behind + length bytes)))

-- These bytes are given out as they are, but for so many END that are put in before some of them. Whatever follows them, what
-- follows is for this.
pub record WithEnds (s : Spot) (bytes : List ℕ) (count : ℕ) (next : Spot) : Type 0 where
  pub few : 4 * count ≤ length bytes
  pub len : (more : List ℕ) → length (plain_from s (bytes ++ more)) ≡ 4 * count + length bytes + length (plain_from next more)
  pub short_blocks : (more : List ℕ) → short_blocks_from s (bytes ++ more) ≡ short_blocks_from next more
  pub ends : (more : List ℕ) → ends_from s (bytes ++ more) ≡ count + ends_from next more
  pub places : (more : List ℕ) (n : ℕ) → 4 * count + length bytes ≤ n
      → place_from s (bytes ++ more) n ≡ length bytes + place_from next more (n - (4 * count + length bytes))

-- a longword of a load file at this position
abbrev pub load_at : Position → Spot
load_at p = Long (files.Load p)

-- where a block word of the hunk stands, the first or a further one
abbrev pub word_at : OpenHunk → Bool → Position
word_at o true = positions.Body o phases.FirstBlock
word_at o false = positions.Body o phases.BlockWord

-- a longword of an object file at this position
abbrev pub object_at : ObjectPosition → Spot
object_at p = Long (files.Object p)

-- Where a block stands: in this hunk of a load file, or in an object file, where the next block word stands at this place.
pub data Frame : Type 0 where
  OfHunk : OpenHunk → Frame
  OfUnit : WordPlace → Frame

-- in the block, at this phase
abbrev pub phase_at : Frame → Phase → FilePosition
phase_at (OfHunk o) phase = files.Load (positions.Body o phase)
phase_at (OfUnit place) phase = files.Object (places.Block place phase)

abbrev pub in_block : Frame → Phase → Spot
in_block f phase = Long (phase_at f phase)

-- the longword that the bytes begin with
abbrev pub front_word : List ℕ → ℕ
front_word bytes = from_be_bytes w32 (slice_index_or bytes 0 0 ∷ slice_index_or bytes 1 0 ∷ slice_index_or bytes 2 0 ∷ slice_index_or bytes 3 0 ∷ [])

-- a size word that no attributes follow
pub record IsRow (bytes : List ℕ) : Type 0 where
  pub whole : 4 ≤ length bytes
  pub bare : has_both_bits (front_word bytes) ≡ false

-- the hunk after one that others follow
pub record IsNext (hunk next : OpenHunk) : Type 0 where
  pub hunks : next.hunks ≡ hunk.hunks
  pub ahead : hunk.ahead ≡ suc next.ahead
  pub bare : next.has_content ≡ false

-- the block has the content of its hunk
abbrev pub is_content : Phase → Bool
is_content phases.ContentSize = true
is_content phases.BssSize = true
is_content _ = false

-- the hunk after a block of it
abbrev pub past : OpenHunk → Phase → OpenHunk
past o phase = record { hunks = o.hunks; ahead = o.ahead; has_content = is_content phase || o.has_content }

-- after the block, whose word leads to this phase
abbrev pub past_block : Frame → Phase → Spot
past_block (OfHunk o) phase = load_at (positions.Body (past o phase) phases.BlockWord)
past_block (OfUnit place) phase = object_at (places.Word place)

-- So many bytes are those of a block after its word, which leads to this phase.
pub record IsBody (phase : Phase) (bytes : List ℕ) (size : ℕ) : Type 0 where
  pub whole : size ≤ length bytes
  pub begins : longest_run phase ≡ 0
  pub as_is : (f : Frame) → AsIs (in_block f phase) (take size bytes) (past_block f phase)

-- So many bytes are those of an EXT entry.
pub record IsEntry (bytes : List ℕ) (size : ℕ) : Type 0 where
  pub word : 4 ≤ size
  pub whole : size ≤ length bytes
  pub as_is : (f : Frame) → AsIs (in_block f phases.ExtWord) (take size bytes) (in_block f phases.ExtWord)

-- So many bytes are those of a block of the hunk, or of its END, after which this one stands so.
pub record IsBlock (o : OpenHunk) (bytes : List ℕ) (size : ℕ) (is_end : Bool) (next : OpenHunk) : Type 0 where
  pub word : 4 ≤ size
  pub whole : size ≤ length bytes
  pub as_is : AsIs (load_at (word_at o false)) (take size bytes) (load_at (word_at next is_end))

-- The bytes begin with the END of a load file, which stands at this position. After it all bytes pass.
pub record IsFileEnd (p : FilePosition) (bytes : List ℕ) : Type 0 where
  pub whole : 4 ≤ length bytes
  pub as_is : AsIs (Long p) (take 4 bytes) Passing

-- The same of a block, where END may be left out before it.
pub record IsSpelled (o : OpenHunk) (bytes : List ℕ) (size : ℕ) (is_behind is_end : Bool) (next : OpenHunk) : Type 0 where
  pub word : 4 ≤ size
  pub whole : size ≤ length bytes
  pub as_is : AsIsBehind (load_at (word_at o false)) (take size bytes) is_behind (load_at (word_at next is_end))

-- So many bytes are those of a block of an object file, or of the header of a unit, whose word stands at this place; the next
-- word stands at that one.
pub record IsUnitBlock (place : WordPlace) (bytes : List ℕ) (size : ℕ) (next : WordPlace) : Type 0 where
  pub word : 4 ≤ size
  pub whole : size ≤ length bytes
  pub as_is : AsIs (object_at (places.Word place)) (take size bytes) (object_at (places.Word next))

-- The same of what comes after its word, which leads to this position.
pub record IsUnitBody (p : ObjectPosition) (bytes : List ℕ) (size : ℕ) (next : WordPlace) : Type 0 where
  pub whole : size ≤ length bytes
  pub begins : object.run p ≡ 0
  pub as_is : AsIs (object_at p) (take size bytes) (object_at (places.Word next))

-- a header that is whole up to its table, with the number of hunks, of which there are some
pub record IsHeader (bytes : List ℕ) (hunks : ℕ) : Type 0 where
  pub whole : 20 ≤ length bytes
  pub begins : front_word bytes ≡ header_word
  pub count : front_word (drop 8 bytes) ≡ hunks
  pub some : 0 < hunks

-- the first of so many hunks, of which no block came
abbrev pub first_hunk : ℕ → OpenHunk
first_hunk hunks = record { hunks = hunks; ahead = hunks - 1; has_content = false }
