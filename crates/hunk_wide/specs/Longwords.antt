-- What the plain spelling has for a longword of a wide one, and what the bytes after it are for.
use Rattle.std.specs.Prelude.{ℕ, zero, suc, ◌+◌, ◌*◌, ◌^◌, ◌==◌, nat_lt, Bool, false, ◌&&◌, List, ◌++◌, if◌then◌else◌}
use Rattle.std.specs.Int.{to_be_bytes, w32}
use Rattle.hunk_words.specs.Bits.{end_word, flags, has_both_bits, header_word, kind, unit_word}
use Rattle.hunk_words.specs.declared.block_word.Kind.{Kind}
use Rattle.hunk_words.specs.declared.block_word.Kind.TheVariants as kinds
use Rattle.hunk_grammar.specs.declared.phase.Phase.{Phase}
use Rattle.hunk_grammar.specs.declared.phase.Phase.TheVariants as phases
use Rattle.hunk_grammar.specs.declared.position.OpenHunk.{OpenHunk}
use Rattle.hunk_grammar.specs.declared.position.Position.{Position}
use Rattle.hunk_grammar.specs.declared.position.Position.TheVariants as positions
use Rattle.hunk_grammar.specs.declared.object_position.ObjectPosition.{ObjectPosition}
use Rattle.hunk_grammar.specs.declared.object_position.ObjectPosition.TheVariants as places
use Rattle.hunk_grammar.specs.declared.object_position.WordPlace.{WordPlace}
use Rattle.hunk_grammar.specs.ObjectPositions as object
use Rattle.hunk_grammar.specs.ObjectRoles.{after_block}
use Rattle.hunk_grammar.specs.PhaseSteps as inside
use Rattle.hunk_grammar.specs.Positions.{after, close, onward, step}
use Rattle.hunk_grammar.specs.Standings.{Relocating}
use Rattle.hunk_wide.specs.declared.position.FilePosition.{FilePosition}
use Rattle.hunk_wide.specs.declared.position.FilePosition.TheVariants as files
use Rattle.hunk_wide.specs.declared.spot.Spot.{Spot}
use Rattle.hunk_wide.specs.declared.spot.Spot.TheVariants.{Passing, Straight, Long, Half}
use Rattle.hunk_wide.specs.declared.spot.ShortPart.TheVariants.{Count}
use Rattle.hunk_wide.specs.declared.spot.Given.{Given}
use Rattle.hunk_wide.specs.declared.spot.Given.TheVariants.{Same, BehindEnd, AsLong}

-- ---- what is given out for it

-- Some hunk comes after this one, which has its content.
abbrev pub may_end : OpenHunk → Bool
may_end o = o.has_content && nat_lt 0 o.ahead

abbrev pub given_kind : OpenHunk → Kind → Given
given_kind o kinds.Reloc32Short = AsLong
given_kind o kinds.Drel32 = AsLong
given_kind o kinds.Code = if may_end o then BehindEnd else Same
given_kind o kinds.Data = if may_end o then BehindEnd else Same
given_kind o kinds.Bss = if may_end o then BehindEnd else Same
given_kind o k = Same

-- for a block word of a load file
abbrev pub given_block : OpenHunk → ℕ → Given
given_block o w = if has_both_bits w then Same else given_kind o (kind w)

-- In an object file 3F7 has numbers of 32 bits, and no END is left out.
abbrev pub given_object_kind : Kind → Given
given_object_kind kinds.Reloc32Short = AsLong
given_object_kind k = Same

-- for the word of a block or of a unit
abbrev pub given_object : ℕ → Given
given_object w = if has_both_bits w then Same else given_object_kind (kind w)

-- for a longword at this position
abbrev pub given : FilePosition → ℕ → Given
given (files.Load (positions.Body o phases.FirstBlock)) w = given_block o w
given (files.Load (positions.Body o phases.BlockWord)) w = given_block o w
given (files.Object (places.Word place)) w = given_object w
given _ w = Same

-- the block word of RELOC32 with the flags of this one
abbrev pub long_word : ℕ → ℕ
long_word w = flags w * 2 ^ 29 + 0x3EC

-- What the plain spelling has for the longword of these bytes.
abbrev pub out_long : Given → List ℕ → ℕ → List ℕ
out_long Same cells w = cells
out_long BehindEnd cells w = to_be_bytes w32 end_word ++ cells
out_long AsLong cells w = to_be_bytes w32 (long_word w)

-- ---- what comes after it

-- how many longwords come at least that are given out as they are, whatever they have: a run of the machine, or offsets
abbrev pub straight_longs : FilePosition → ℕ
straight_longs (files.Load (positions.Body o phase)) = inside.longest_run phase
straight_longs (files.Object p) = object.run p
straight_longs p = 0

-- after all of them
abbrev pub after_load_run : Position → Position
after_load_run (positions.Body o phase) = onward o (after o phase) (inside.pass_longest_run phase)
after_load_run p = p

abbrev pub after_straight : FilePosition → FilePosition
after_straight (files.Load p) = files.Load (after_load_run p)
after_straight (files.Object p) = files.Object (object.pass_run p)

-- so many longwords, all their bytes as they are, and then a longword there
abbrev pub straight : ℕ → FilePosition → FilePosition → Spot
straight zero here next = Long here
straight (suc more) here next = Straight (4 * more + 3) next

-- After a load file all bytes pass.
abbrev pub go_on : FilePosition → Spot
go_on (files.Load positions.Done) = Passing
go_on p = straight (straight_longs p) p (after_straight p)

-- the block word after a block of relocations in this hunk of a load file
abbrev pub after_short : OpenHunk → FilePosition
after_short o = files.Load (positions.Body o phases.BlockWord)

-- the same in an object file, where that block stands at this place
abbrev pub after_object_short : WordPlace → FilePosition
after_object_short place = files.Object (places.Word (after_block place Relocating))

-- What is neither a load file nor begins with a unit passes as it is.
abbrev pub behind_first : ℕ → Spot
behind_first w =
    if w == header_word then go_on (files.Load (step positions.FirstLong w))
    else if w == unit_word then go_on (files.Object places.UnitCount)
    else Passing

abbrev pub behind_same : Position → ℕ → Spot
behind_same positions.FirstLong w = behind_first w
behind_same p w = go_on (files.Load (step p w))

abbrev pub behind_block : Given → OpenHunk → Phase → ℕ → Spot
behind_block Same o phase w = go_on (files.Load (step (positions.Body o phase) w))
behind_block BehindEnd o phase w = go_on (files.Load (step (close o) w))
behind_block AsLong o phase w = Half (after_short o) Count false

abbrev pub behind_load : Position → ℕ → Spot
behind_load (positions.Body o phases.FirstBlock) w = behind_block (given_block o w) o phases.FirstBlock w
behind_load (positions.Body o phases.BlockWord) w = behind_block (given_block o w) o phases.BlockWord w
behind_load p w = behind_same p w

abbrev pub behind_word : Given → WordPlace → ℕ → Spot
behind_word AsLong place w = Half (after_object_short place) Count false
behind_word _ place w = go_on (files.Object (object.step (places.Word place) w))

abbrev pub behind_object : ObjectPosition → ℕ → Spot
behind_object (places.Word place) w = behind_word (given_object w) place w
behind_object p w = go_on (files.Object (object.step p w))

abbrev pub behind_long : FilePosition → ℕ → Spot
behind_long (files.Load p) w = behind_load p w
behind_long (files.Object p) w = behind_object p w

-- after so many of the bytes that are given out as they are, of which this number follow the next
abbrev pub behind_straight : ℕ → FilePosition → ℕ → Spot
behind_straight owed next zero = Straight owed next
behind_straight zero next (suc count) = Long next
behind_straight (suc owed) next (suc count) = behind_straight owed next count
