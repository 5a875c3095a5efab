-- The first row of which no file is made.
use Rattle.std.specs.Prelude.{ℕ, ◌+◌, ◌-◌, ◌*◌, ◌^◌, ◌==◌, ◌||◌, ◌&&◌, not, nat_lt, Bool, true, false, if◌then◌else◌, List, [], ◌∷◌, length, Option, Some, None, is_some}
use Rattle.std.specs.List.{filter}
use Rattle.hunk_words.specs.Bits.{entry_longs, has_both_bits, is_relocation, kind, size_longs}
use Rattle.hunk_words.specs.Carriers.{saturated}
use Rattle.hunk_words.specs.Limits.{content_limit, most_hunks, name_limit}
use Rattle.hunk_words.specs.declared.block_word.Kind.{Kind}
use Rattle.hunk_words.specs.declared.block_word.Kind.TheVariants as kinds
use Rattle.hunk_words.specs.declared.reason.Reason.{Reason}
use Rattle.hunk_words.specs.declared.reason.Reason.TheVariants as reasons
use Rattle.hunk_grammar.specs.ExtKinds.{ext_shape}
use Rattle.hunk_grammar.specs.ObjectRoles.{after_block, has_content, refuse_ext_type, refuse_object_word}
use Rattle.hunk_grammar.specs.Roles.{refuse_word}
use Rattle.hunk_grammar.specs.Standings.{is_ending, standing_of_kind}
use Rattle.hunk_grammar.specs.declared.ext_shape.ExtShape.{ExtShape}
use Rattle.hunk_grammar.specs.declared.ext_shape.ExtShape.TheVariants.{Definition, References, Common}
use Rattle.hunk_grammar.specs.declared.object_position.WordPlace.{WordPlace}
use Rattle.hunk_grammar.specs.declared.object_position.WordPlace.TheVariants.{BeforeUnits, BetweenHunks, InHunk}
use Rattle.hunk_parts.specs.Parts.{FilePart, block_part, entry_part, group_part, hunk_part, seen, symbol_part, unit_part}
use Rattle.hunk_parts.specs.declared.part_row.PartRow.{PartRow}
pub use Rattle.hunk_parts.specs.declared.part_size.PartSize.{PartSize}
pub use Rattle.hunk_parts.specs.declared.place.PartPlace.{PartPlace}
pub use Rattle.hunk_parts.specs.declared.row_fault.Refusal.{Refusal}
pub use Rattle.hunk_parts.specs.declared.row_fault.RowFault.{RowFault}
pub use Rattle.hunk_parts.specs.declared.row_fault.RowRefusal.{RowRefusal}
use Rattle.hunk_parts.specs.declared.row_fault.RowRefusal.TheVariants.{Strange, Refused}

-- a part with the numbers of its longwords
abbrev pub size_of_part : FilePart → PartSize
size_of_part q = record { what = q.what; word = q.word; value = q.value; content = length q.content; offsets = length q.offsets }

-- ---- refusals

abbrev pub strange : Option Refusal
strange = Some (record { why = Strange; ahead = 0 })

abbrev pub because : ℕ → Reason → Option Refusal
because ahead reason = Some (record { why = Refused reason; ahead = ahead })

abbrev pub by_reason : Option Reason → Option Refusal
by_reason None = None
by_reason (Some reason) = because 0 reason

abbrev pub or_else : Option Refusal → Option Refusal → Option Refusal
or_else (Some refusal) next = Some refusal
or_else None next = next

abbrev pub where_true : Bool → Option Refusal → Option Refusal
where_true test refusal = if test then refusal else None

-- ---- which parts stand where

abbrev pub is_open : WordPlace → Bool
is_open (InHunk has) = true
is_open place = false

abbrev pub is_before_units : WordPlace → Bool
is_before_units BeforeUnits = true
is_before_units place = false

-- what the items of a block are; 0 where it is no list
abbrev pub items_of : Kind → ℕ
items_of kinds.Symbol = symbol_part
items_of kinds.Ext = entry_part
items_of k = if is_relocation k then group_part else 0

abbrev pub open_items : Option Kind → ℕ
open_items None = 0
open_items (Some k) = items_of k

-- ---- the fields of a part

-- its kind has no use for them, and they are 0
abbrev pub has_no_value : PartSize → Bool
has_no_value q = q.value == 0

abbrev pub has_no_content : PartSize → Bool
has_no_content q = q.content == 0

abbrev pub has_no_offsets : PartSize → Bool
has_no_offsets q = q.offsets == 0

abbrev pub fits_shape : Option ExtShape → PartSize → Bool
fits_shape (Some Definition) q = has_no_offsets q
fits_shape (Some References) q = has_no_value q
fits_shape (Some Common) q = true
fits_shape None q = false

abbrev pub has_low_bits : PartSize → Bool
has_low_bits q = not (size_longs q.value == 0)

-- of a block, by its kind
abbrev pub fits_kind : Kind → PartSize → Bool
fits_kind kinds.Code q = not (has_low_bits q)
fits_kind kinds.Data q = not (has_low_bits q)
fits_kind kinds.Bss q = has_no_content q
fits_kind kinds.Unit q = false
fits_kind kinds.Name q = has_no_value q
fits_kind kinds.Debug q = has_no_value q && nat_lt q.content (2 ^ 32)
fits_kind (kinds.Unknown n) q = has_no_value q && nat_lt q.content (2 ^ 32)
fits_kind k q = has_no_value q && has_no_content q

-- The longword that begins an item is not the 0 that ends the block.
abbrev pub goes_on : PartSize → Bool
goes_on q = not (q.word == 0 && has_no_content q)

abbrev pub has_offsets : PartSize → Bool
has_offsets q = nat_lt 0 q.offsets && nat_lt q.offsets (2 ^ 32)

-- ---- what is refused

abbrev pub refuse_name : ℕ → PartSize → Option Refusal
refuse_name ahead q = where_true (not (nat_lt q.content name_limit)) (because ahead reasons.NameWord)

abbrev pub content_longs : Kind → PartSize → ℕ
content_longs kinds.Bss q = size_longs q.value
content_longs k q = q.content

abbrev pub refuse_content : PartPlace → ℕ → Option Refusal
refuse_content p longs =
    where_true (not (nat_lt longs content_limit) || (nat_lt 0 p.hunks && nat_lt p.longs longs)) (because 4 reasons.ContentTooLong)

abbrev pub refuse_size : PartPlace → Kind → PartSize → Option Refusal
refuse_size p kinds.Code q = refuse_content p (content_longs kinds.Code q)
refuse_size p kinds.Data q = refuse_content p (content_longs kinds.Data q)
refuse_size p kinds.Bss q = refuse_content p (content_longs kinds.Bss q)
refuse_size p kinds.Name q = refuse_name 4 q
refuse_size p k q = None

abbrev pub refuse_group : PartPlace → PartSize → Option Refusal
refuse_group p q =
    if p.hunks == 0 then None
    else if p.longs == 0 then because 0 reasons.NothingToRelocate
    else if nat_lt q.word p.hunks then None
    else because 4 reasons.BadTarget

abbrev pub refuse_block_word : PartPlace → ℕ → Option Reason
refuse_block_word p w = if p.hunks == 0 then refuse_object_word p.place w else refuse_word (has_content p.place) w

-- all but HUNK, where a hunk or a unit is open for it
abbrev pub refuse_unit_part : PartPlace → PartSize → Option Refusal
refuse_unit_part p q =
    or_else (where_true (is_open p.place) (because 0 reasons.Misplaced))
    (or_else (where_true (not (q.word == 0 && has_no_value q && has_no_offsets q)) strange) (refuse_name 4 q))

abbrev pub refuse_block_part : PartPlace → PartSize → Option Refusal
refuse_block_part p q =
    or_else (by_reason (refuse_block_word p q.word))
    (or_else (where_true (not (fits_kind (kind q.word) q && has_no_offsets q)) strange) (refuse_size p (kind q.word) q))

abbrev pub refuse_group_part : PartPlace → PartSize → Option Refusal
refuse_group_part p q =
    or_else (where_true (not (open_items p.list == group_part && has_no_value q && has_no_content q && has_offsets q)) strange) (refuse_group p q)

abbrev pub refuse_symbol_part : PartPlace → PartSize → Option Refusal
refuse_symbol_part p q =
    or_else (where_true (not (open_items p.list == symbol_part && has_no_offsets q && nat_lt q.word 256 && goes_on q)) strange) (refuse_name 0 q)

abbrev pub refuse_entry_part : PartPlace → PartSize → Option Refusal
refuse_entry_part p q =
    or_else (where_true (not (open_items p.list == entry_part)) strange)
    (or_else (by_reason (refuse_ext_type q.word))
    (or_else (where_true (not (fits_shape (ext_shape q.word) q && goes_on q && nat_lt q.offsets (2 ^ 32))) strange)
    (refuse_name 0 q)))

abbrev pub refuse_what : ℕ → PartPlace → PartSize → Option Refusal
refuse_what what p q =
    if what == unit_part then refuse_unit_part p q
    else if what == block_part then refuse_block_part p q
    else if what == group_part then refuse_group_part p q
    else if what == symbol_part then refuse_symbol_part p q
    else if what == entry_part then refuse_entry_part p q
    else strange

abbrev pub is_in_place : PartPlace → PartSize → Bool
is_in_place p q = if nat_lt 0 p.hunks then is_open p.place else (q.what == unit_part || not (is_before_units p.place))

abbrev pub refuse_hunk : PartPlace → PartSize → Option Refusal
refuse_hunk p q =
    where_true (p.hunks == 0 || is_open p.place || not (has_no_content q && has_no_offsets q)
    || not (has_both_bits q.word || has_no_value q)) strange

-- the tests of a part, in order, but of its offsets
abbrev pub refuse_part : PartPlace → PartSize → Option Refusal
refuse_part p q =
    if q.what == hunk_part then refuse_hunk p q else if is_in_place p q then refuse_what q.what p q else strange

-- offsets of a load file, the first of which is so many bytes after the first one of the part
abbrev pub refuse_offsets : ℕ → ℕ → List ℕ → Option Refusal
refuse_offsets longs ahead [] = None
refuse_offsets longs ahead (o ∷ os) =
    if nat_lt (4 * longs) (o + 4) then because ahead reasons.BadOffset else refuse_offsets longs (ahead + 4) os

abbrev pub refuse_far : PartPlace → FilePart → Option Refusal
refuse_far p q = if q.what == group_part && nat_lt 0 p.hunks then refuse_offsets p.longs 8 q.offsets else None

-- the tests of a row; one whose bytes are not there is Strange
abbrev pub refuse_row : PartPlace → Option FilePart → Option Refusal
refuse_row p None = strange
refuse_row p (Some q) = or_else (refuse_part p (size_of_part q)) (refuse_far p q)

-- ---- what a part leads to

-- the bytes of the zero that ends the open list before this part
abbrev pub closing_bytes : Option Kind → ℕ → ℕ
closing_bytes list what = if is_some list && (what == unit_part || what == block_part) then 4 else 0

abbrev pub shape_longs : Option ExtShape → PartSize → ℕ
shape_longs (Some Definition) q = 1
shape_longs (Some References) q = 1 + q.offsets
shape_longs (Some Common) q = 2 + q.offsets
shape_longs None q = 0

abbrev pub block_longs : Kind → PartSize → ℕ
block_longs kinds.End q = 1
block_longs k q = if nat_lt 0 (items_of k) then 1 else 2 + q.content

-- how many longwords a part has, but of HUNK in the body
abbrev pub part_longs : PartSize → ℕ
part_longs q =
    if q.what == unit_part then 2 + q.content
    else if q.what == block_part then block_longs (kind q.word) q
    else if q.what == group_part then 2 + q.offsets
    else if q.what == symbol_part then 2 + q.content
    else if q.what == entry_part then 1 + q.content + shape_longs (ext_shape q.word) q
    else 0

abbrev pub place_after : WordPlace → PartSize → WordPlace
place_after place q =
    if q.what == hunk_part then InHunk false
    else if q.what == unit_part then BetweenHunks
    else if q.what == block_part then
    (if is_ending (standing_of_kind (kind q.word)) then BetweenHunks else after_block place (standing_of_kind (kind q.word)))
    else place

abbrev pub list_after : Option Kind → ℕ → ℕ → Option Kind
list_after list what word =
    if nat_lt what block_part then None
    else if what == block_part then (if nat_lt 0 (items_of (kind word)) then Some (kind word) else None)
    else list

abbrev pub step_part : PartPlace → PartSize → PartPlace
step_part p q = record {
  hunks = p.hunks;
  longs = if q.what == hunk_part then size_longs q.word else p.longs;
  place = place_after p.place q;
  list = list_after p.list q.what q.word;
  entry = if q.what == hunk_part then saturated (p.entry + 4 * entry_longs q.word) else p.entry;
  at = saturated (p.at + closing_bytes p.list q.what + 4 * part_longs q);
}

-- ---- rows

abbrev pub is_hunk_row : PartRow → Bool
is_hunk_row r = r.what == hunk_part

abbrev pub table_bytes : List PartRow → ℕ
table_bytes [] = 0
table_bytes (r ∷ rest) = (if is_hunk_row r then 4 * entry_longs r.word else 0) + table_bytes rest

-- where the rows begin, of a file of this many hunks that begins with so many bytes
abbrev pub start : ℕ → ℕ → PartPlace
start hunks size = record { hunks = hunks; longs = 0; place = BeforeUnits; list = None; entry = 20; at = size }

abbrev pub first_place : List PartRow → PartPlace
first_place [] = start 0 0
first_place (r ∷ rest) =
    if is_hunk_row r then start (length (filter is_hunk_row (r ∷ rest))) (20 + table_bytes (r ∷ rest)) else start 0 0

abbrev pub begins_at : PartPlace → PartRow → ℕ
begins_at p r = if is_hunk_row r && nat_lt 0 p.hunks then p.entry else p.at + closing_bytes p.list r.what

-- the byte after the last of them
abbrev pub ends_at : PartPlace → ℕ
ends_at p = saturated (p.at + closing_bytes p.list block_part)

-- the end, where a hunk is open, or there are no rows
abbrev pub end_fault : PartPlace → ℕ → Option RowFault
end_fault p number =
    if is_open p.place || is_before_units p.place
    then Some (record { refusal = Refused reasons.Truncated; place = ends_at p; row = number })
    else None

abbrev pub fault_at : PartPlace → PartRow → ℕ → Refusal → RowFault
fault_at p r number f = record { refusal = f.why; place = saturated (begins_at p r + f.ahead); row = number }

abbrev pub next_fault : Option RowFault → Option Refusal → PartPlace → PartRow → ℕ → Option RowFault
next_fault rest None p r number = rest
next_fault rest (Some f) p r number = Some (fault_at p r number f)

abbrev pub step_row : PartPlace → Option FilePart → PartPlace
step_row p None = p
step_row p (Some q) = step_part p (size_of_part q)

-- the first fault of the rows from the one with this number on
abbrev pub rows_fault : List ℕ → PartPlace → ℕ → List PartRow → Option RowFault
rows_fault bytes p number [] = end_fault p number
rows_fault bytes p number (r ∷ rest) =
    next_fault (rows_fault bytes (step_row p (seen bytes r)) (number + 1) rest) (refuse_row p (seen bytes r)) p r number

-- the number of the row that is HUNK number n
abbrev pub nth_hunk : ℕ → ℕ → List PartRow → ℕ
nth_hunk n number [] = number
nth_hunk n number (r ∷ rest) =
    if is_hunk_row r then (if n == 0 then number else nth_hunk (n - 1) (number + 1) rest) else nth_hunk n (number + 1) rest

-- the first hunk of a load file that is too many
abbrev pub too_many_hunks : List PartRow → RowFault
too_many_hunks rows = record { refusal = Refused reasons.TooManyHunks; place = 8; row = nth_hunk most_hunks 0 rows }

abbrev pub row_fault : List ℕ → List PartRow → Option RowFault
row_fault bytes rows =
    if nat_lt most_hunks (first_place rows).hunks
    then Some (too_many_hunks rows)
    else rows_fault bytes (first_place rows) 0 rows
