-- What rows are refused for: never for memory, a file that can't be read, or an advisory block.
use Rattle.std.proofs.Common.{rules, ◌≡◌, ℕ, ◌+◌, Bool, true, false, cond, List, [], ◌∷◌, Option, Some, None, refl, subst}
use Rattle.std.specs.Prelude.{◌==◌, ◌||◌, ⊤, nat_lt, is_some, IsTrue, IfSome}
use Rattle.hunk_words.specs.{Bits.kind, Limits.most_hunks}
use Rattle.hunk_words.specs.declared.block_word.Kind.{Kind}
use Rattle.hunk_words.specs.declared.block_word.Kind.TheVariants as kinds
use Rattle.hunk_words.specs.declared.reason.Reason.{Reason}
use Rattle.hunk_words.specs.declared.reason.Reason.TheVariants as reasons
use Rattle.hunk_grammar.specs.ExtKinds.{ext_kind}
use Rattle.hunk_grammar.specs.ObjectRoles.{has_content, refuse_object_word}
use Rattle.hunk_grammar.specs.Roles.{refuse_word}
use Rattle.hunk_grammar.specs.declared.object_position.WordPlace.{WordPlace}
use Rattle.hunk_parts.specs.PartFaults as faults
use Rattle.hunk_parts.specs.PartFaults.{PartPlace, PartSize, Refusal, RowFault, RowRefusal, because, by_reason, or_else, strange, where_true}
use Rattle.hunk_parts.specs.Parts as parts
use Rattle.hunk_parts.specs.Parts.{FilePart}
use Rattle.hunk_parts.specs.declared.part_row.PartRow.{PartRow}
use Rattle.hunk_parts.specs.declared.row_fault.RowRefusal.TheVariants.{Strange, Refused}

-- a reason that lies in the longwords
abbrev pub is_of_text : Reason → Bool
is_of_text reasons.Advisory = false
is_of_text reasons.FileLimit = false
is_of_text reasons.Read = false
is_of_text reasons.OutOfMemory = false
is_of_text _ = true

abbrev pub IsOfRows : RowRefusal → Type 0
IsOfRows Strange = ⊤
IsOfRows (Refused reason) = IsTrue (is_of_text reason)

-- ---- none, or one of these

abbrev IsReason : Option Reason → Type 0
IsReason o = IfSome o (λ r. IsTrue (is_of_text r))

abbrev IsRefusal : Option Refusal → Type 0
IsRefusal o = IfSome o (λ r. IsOfRows r.why)

abbrev IsFault : Option RowFault → Type 0
IsFault o = IfSome o (λ f. IsOfRows f.refusal)

chosen : {A : Type 0} (P : Option A → Type 0) (b : Bool) (x y : Option A) → P x → P y → P (cond b x y)
chosen P true x y h k = h
chosen P false x y h k = k

either : (x y : Option Refusal) → IsRefusal x → IsRefusal y → IsRefusal (or_else x y)
either (Some r) y h k = h
either None y h k = k

by_own : (o : Option Reason) → IsReason o → IsRefusal (by_reason o)
by_own None h = tt
by_own (Some r) h = h

tested : (b : Bool) → IsRefusal (where_true b strange)
tested true = tt
tested false = tt

misplaced : (b : Bool) → IsRefusal (where_true b (because 0 reasons.Misplaced))
misplaced true = refl
misplaced false = tt

-- ---- block words

load_word : (has : Bool) (w : ℕ) → IsReason (refuse_word has w)
load_word has w = search rules

object_word : (place : WordPlace) (w : ℕ) → IsReason (refuse_object_word place w)
object_word place w = search rules

block_word : (p : PartPlace) (w : ℕ) → IsReason (faults.refuse_block_word p w)
block_word p w = chosen IsReason (p.hunks == 0) _ _ (object_word p.place w) (load_word (has_content p.place) w)

-- ---- parts

name : (ahead : ℕ) (q : PartSize) → IsRefusal (faults.refuse_name ahead q)
name ahead q = chosen IsRefusal _ (because ahead reasons.NameWord) None refl tt

content : (p : PartPlace) (longs : ℕ) → IsRefusal (faults.refuse_content p longs)
content p longs = chosen IsRefusal _ (because 4 reasons.ContentTooLong) None refl tt

size : (p : PartPlace) (k : Kind) (q : PartSize) → IsRefusal (faults.refuse_size p k q)
size p kinds.Code q = content p _
size p kinds.Data q = content p _
size p kinds.Bss q = content p _
size p kinds.Name q = name 4 q
size p _ q = tt

group : (p : PartPlace) (q : PartSize) → IsRefusal (faults.refuse_group p q)
group p q = search rules

unit_part : (p : PartPlace) (q : PartSize) → IsRefusal (faults.refuse_unit_part p q)
unit_part p q =
    either (where_true (faults.is_open p.place) (because 0 reasons.Misplaced)) _ (misplaced (faults.is_open p.place)) (either _ _ (tested _) (name 4 q))

block_part : (p : PartPlace) (q : PartSize) → IsRefusal (faults.refuse_block_part p q)
block_part p q = either _ _ (by_own _ (block_word p q.word)) (either _ _ (tested _) (size p (kind q.word) q))

group_part : (p : PartPlace) (q : PartSize) → IsRefusal (faults.refuse_group_part p q)
group_part p q = either _ _ (tested _) (group p q)

symbol_part : (p : PartPlace) (q : PartSize) → IsRefusal (faults.refuse_symbol_part p q)
symbol_part p q = either _ _ (tested _) (name 0 q)

entry_part : (p : PartPlace) (q : PartSize) → IsRefusal (faults.refuse_entry_part p q)
entry_part p q =
    let kind : IsRefusal (by_reason _) = by_own _ (chosen IsReason (is_some (ext_kind q.word)) None (Some reasons.ExtKind) tt refl) in
    either _ _ (tested _) (either _ _ kind (either _ _ (tested _) (name 0 q)))

what : (w : ℕ) (p : PartPlace) (q : PartSize) → IsRefusal (faults.refuse_what w p q)
what w p q =
    chosen IsRefusal (w == parts.unit_part) (faults.refuse_unit_part p q) _ (unit_part p q)
    (chosen IsRefusal (w == parts.block_part) (faults.refuse_block_part p q) _ (block_part p q)
    (chosen IsRefusal (w == parts.group_part) (faults.refuse_group_part p q) _ (group_part p q)
    (chosen IsRefusal (w == parts.symbol_part) (faults.refuse_symbol_part p q) _ (symbol_part p q)
    (chosen IsRefusal (w == parts.entry_part) (faults.refuse_entry_part p q) strange (entry_part p q) tt))))

part : (p : PartPlace) (q : PartSize) → IsRefusal (faults.refuse_part p q)
part p q =
    chosen IsRefusal (q.what == parts.hunk_part) (faults.refuse_hunk p q) _ (tested _)
    (chosen IsRefusal (faults.is_in_place p q) (faults.refuse_what q.what p q) strange (what q.what p q) tt)

offsets : (longs ahead : ℕ) (os : List ℕ) → IsRefusal (faults.refuse_offsets longs ahead os)
offsets longs ahead [] = tt
offsets longs ahead (o ∷ os) = chosen IsRefusal _ (because ahead reasons.BadOffset) _ refl (offsets longs (ahead + 4) os)

row : (p : PartPlace) (o : Option FilePart) → IsRefusal (faults.refuse_row p o)
row p None = tt
row p (Some q) = either (faults.refuse_part p (faults.size_of_part q)) (faults.refuse_far p q) (part p (faults.size_of_part q)) far
  where
    far : IsRefusal (faults.refuse_far p q)
    far = chosen IsRefusal _ (faults.refuse_offsets p.longs 8 q.offsets) None (offsets p.longs 8 q.offsets) tt

-- ---- rows

next : (rest : Option RowFault) (o : Option Refusal) (p : PartPlace) (r : PartRow) (number : ℕ) → IsFault rest → IsRefusal o →
    IsFault (faults.next_fault rest o p r number)
next rest None p r number h k = h
next rest (Some f) p r number h k = k

at_end : (p : PartPlace) (number : ℕ) → IsFault (faults.end_fault p number)
at_end p number = chosen IsFault (faults.is_open p.place || faults.is_before_units p.place) (Some cut) None refl tt
  where
    cut : RowFault
    cut = record { refusal = Refused reasons.Truncated; place = faults.ends_at p; row = number }

rows : (bytes : List ℕ) (p : PartPlace) (number : ℕ) (rs : List PartRow) → IsFault (faults.rows_fault bytes p number rs)
rows bytes p number [] = at_end p number
rows bytes p number (r ∷ rs) =
    let part : Option FilePart = parts.seen bytes r in
    next (faults.rows_fault bytes (faults.step_row p part) (number + 1) rs) (faults.refuse_row p part) p r number
    (rows bytes (faults.step_row p part) (number + 1) rs) (row p part)

pub fault_of_rows : (bytes : List ℕ) (rs : List PartRow) (f : RowFault) → faults.row_fault bytes rs ≡ Some f → IsOfRows f.refusal
fault_of_rows bytes rs f e = subst IsFault e found
  where
    first : PartPlace
    first = faults.first_place rs

    found : IsFault (faults.row_fault bytes rs)
    found =
        chosen IsFault (nat_lt most_hunks first.hunks) (Some (faults.too_many_hunks rs)) (faults.rows_fault bytes first 0 rs) refl (rows bytes first 0 rs)
