-- The longwords before a place determine the part of an object file that it is in.
use Rattle.std.proofs.Common.{◌≡◌, ℕ, zero, suc, ◌+◌, ◌-◌, ◌<◌, ◌≤◌, List, [], ◌∷◌, ◌++◌, length, map, take, drop, refl, sym, ap, ap₂, subst, ◌∙◌, arith, Some, None, inl, inr}
use Rattle.std.specs.List.{flat_map, AllByRecursion}
use Rattle.std.proofs.lemmas.List.{length-drop, take-append-drop}
use Rattle.hunk_words.specs.Bits.{kind}
use Rattle.hunk_blocks.specs.{Values.{BlockBody, BlockValue, IsBlock}, Parts.{block_text, body_parts, body_text}}
use Rattle.hunk_grammar.specs.BlockParts.{Part as BlockPart}
use Rattle.hunk_blocks.specs.BlockSteps.{BlockNext, Open, Whole, begin_body, step_inside, Follows}
use Rattle.hunk_blocks.specs.Faults.{Expects, words}
use Rattle.hunk_blocks.proofs.{BlockText.body_follows, FaultLaws.words-append, FaultScan.Machine, Outcomes.state_after}
use Rattle.hunk_files.specs.LoadFile.{standing, AreInOrder}
use Rattle.hunk_files.specs.FileParts.{IsInHeader, IsUnitPart}
use Rattle.hunk_grammar.specs.declared.object_position.WordPlace.{WordPlace}
use Rattle.hunk_grammar.specs.declared.object_position.WordPlace.TheVariants.{BeforeUnits, BetweenHunks}
use Rattle.hunk_grammar.specs.ObjectRoles.{ObjectRole, has_content}
use Rattle.hunk_files.specs.ObjectFault.{IsInUnit, blocks_from}
use Rattle.hunk_files.specs.FileParts.{counted, part_by}
use Rattle.hunk_files.specs.ObjectFile.{ObjectFileValue, ObjectHunk, UnitValue, IsObjectHunk, IsUnit, object_text, unit_header, unit_text}
use Rattle.hunk_files.specs.declared.part.Part.{Part}
use Rattle.hunk_files.specs.declared.part.Part.TheVariants as parts
use Rattle.hunk_files.proofs.{walk.FileText.standings, walk.HunkFaults.blocks_words}
use Rattle.hunk_files.proofs.object_walk.OneObjectFault.{ObjectState, AtWord, AtCount, InName, InBlock, after_name, in_block, order_next, place_next, reader, word_steps}
use Rattle.hunk_files.proofs.object_walk.ObjectWalks.{position_of}

abbrev Numbers : Type 0
Numbers = ℕ × ℕ

abbrev State : Type 0
State = ObjectState × Numbers

abbrev reach : ObjectState → Numbers → State
reach s n = (s, counted (position_of s) n)

-- Units and whole parts are counted along the longwords.
abbrev counter : Machine State ObjectRole
counter =
    record {
      start = (AtWord BeforeUnits, (0, 0));
      expects = λ c. reader.expects c.0;
      step = λ c w. reach (reader.step c.0 w) c.1;
    }

abbrev along : State → List ℕ → State
along c ws = state_after counter c ws

along-append : (c : State) (xs ys : List ℕ) → along c (xs ++ ys) ≡ along (along c xs) ys
along-append c [] ys = refl
along-append c (x ∷ xs) ys = along-append (counter.step c x) xs ys

-- ---- whole parts

body_counts : (next : WordPlace) (n : Numbers) (from : BlockNext) (ps : List (BlockPart × ℕ)) (b : BlockBody) → Follows from ps (Whole b) → along (reach (in_block next from) n) (map (λ p. p.1) ps) ≡ reach (AtWord next) n
body_counts next n from [] b h = ap (λ (x : BlockNext). reach (in_block next x) n) h
body_counts next n (Open x) (p ∷ ps) b h = body_counts next n (step_inside x p.1) ps b h.1
body_counts next n (Whole c) (p ∷ ps) b h = absurd h

block_counts : (place : WordPlace) (n : Numbers) (b : BlockValue) → IsBlock b → along (AtWord place, n) (block_text b) ≡ reach (AtWord (place_next place (standing b.body))) n
block_counts place n b is =
    ap (λ (s : ObjectState). along (reach s n) (body_text b.body)) (word_steps place b is)
    ∙ body_counts (place_next place (standing b.body)) n (begin_body (kind b.word)) (body_parts b.body) b.body (body_follows b.word b.body is.body)

blocks_count : (place : WordPlace) (n : Numbers) (bs : ObjectHunk) → IsInUnit place → AllByRecursion IsBlock bs → AreInOrder (has_content place) (standings bs) → along (AtWord place, n) (flat_map block_text bs) ≡ (AtWord BetweenHunks, (n.0, suc n.1))
blocks_count place n [] h are order = absurd order
blocks_count place n (b ∷ bs) h are order =
    let next : WordPlace = place_next place (standing b.body) in
    let o = order_next place (standing b.body) bs order in
    along-append (AtWord place, n) (block_text b) (flat_map block_text bs)
    ∙ ap (λ (c : State). along c (flat_map block_text bs)) (block_counts place n b are.0)
    ∙ elim o.goes [
      | inl last ↦ ap₂ (λ (p : WordPlace) (cs : ObjectHunk). along (reach (AtWord p) n) (flat_map block_text cs)) last.1 last.0
      | inr more ↦ ap (λ (p : WordPlace). along (reach (AtWord p) n) (flat_map block_text bs)) more.0 ∙ blocks_count _ n bs tt are.1 more.1
    ]

hunks_count : (n : Numbers) (hs : List ObjectHunk) → AllByRecursion IsObjectHunk hs → along (AtWord BetweenHunks, n) (flat_map (flat_map block_text) hs) ≡ (AtWord BetweenHunks, (n.0, n.1 + length hs))
hunks_count n [] h = ap (λ (k : ℕ). (AtWord BetweenHunks, (n.0, k))) (omega arith)
hunks_count n (x ∷ hs) h =
    along-append (AtWord BetweenHunks, n) (flat_map block_text x) (flat_map (flat_map block_text) hs)
    ∙ ap (λ (c : State). along c (flat_map (flat_map block_text) hs)) (blocks_count BetweenHunks n x tt h.0.blocks h.0.order)
    ∙ hunks_count (n.0, suc n.1) hs h.1
    ∙ ap (λ (k : ℕ). (AtWord BetweenHunks, (n.0, k))) (omega arith)

name_counts : (n : Numbers) (name : List ℕ) → along (reach (after_name (length name)) n) name ≡ (AtWord BetweenHunks, (n.0, suc n.1))
name_counts n [] = refl
name_counts n (w ∷ name) = name_counts n name

unit_counts : (place : WordPlace) (n : Numbers) (u : UnitValue) → IsUnit u → along (AtWord place, n) (unit_text u) ≡ (AtWord BetweenHunks, (suc n.0, suc (length u.hunks)))
unit_counts place n u is =
    along-append (AtWord place, n) (unit_header u.name) (flat_map (flat_map block_text) u.hunks)
    ∙ ap (λ (c : State). along c (flat_map (flat_map block_text) u.hunks)) (name_counts (suc n.0, 0) u.name)
    ∙ hunks_count (suc n.0, 1) u.hunks is.hunks
    ∙ ap (λ (k : ℕ). (AtWord BetweenHunks, (suc n.0, k))) (omega arith)

-- after whole units
record AfterWhole (c : State) (begun : ℕ) : Type 0 where
  place : WordPlace
  whole : ℕ
  is : c ≡ (AtWord place, (begun, whole))

units_count : (place : WordPlace) (n : Numbers) (us : ObjectFileValue) → AllByRecursion IsUnit us → AfterWhole (along (AtWord place, n) (object_text us)) (n.0 + length us)
units_count place n [] are = record { place = place; whole = n.1; is = ap (λ (k : ℕ). (AtWord place, (k, n.1))) (omega arith) }
units_count place n (u ∷ us) are =
    let k = suc (length u.hunks) in
    let r = units_count BetweenHunks (suc n.0, k) us are.1 in
    record {
      place = r.place;
      whole = r.whole;
      is =
          along-append (AtWord place, n) (unit_text u) (object_text us)
          ∙ ap (λ (c : State). along c (object_text us)) (unit_counts place n u are.0)
          ∙ r.is
          ∙ ap (λ (m : ℕ). (AtWord r.place, (m, r.whole))) (omega arith);
    }

-- ---- fronts

-- no fewer units, and in the same unit no fewer parts; or one part more at least
abbrev Grows : ℕ → Numbers → Numbers → Type 0
Grows more n m = (n.0 ≤ m.0) × (n.0 ≡ m.0 → n.1 + more ≤ m.1)

one_grows : (s : ObjectState) (n : Numbers) → Grows 0 n (reach s n).1
one_grows (AtWord BeforeUnits) n = (omega arith, λ e. omega arith)
one_grows (AtWord BetweenHunks) n = (omega arith, λ e. omega arith)
one_grows (AtWord _) n = (omega arith, λ e. omega arith)
one_grows AtCount n = (omega arith, λ e. absurd (omega (arith, e)))
one_grows (InName owed) n = (omega arith, λ e. omega arith)
one_grows (InBlock next x) n = (omega arith, λ e. omega arith)

grows_on : (a b : ℕ) (l m n : Numbers) → Grows a l m → Grows b m n → Grows (a + b) l n
grows_on a b l m n h k = (
  omega (arith, h.0, k.0),
  λ e. let first : l.0 ≡ m.0 = omega (arith, e, h.0, k.0) in
      let second : m.0 ≡ n.0 = omega (arith, e, first) in
      omega (arith, h.1 first, k.1 second),
)

along_grows : (c : State) (ws : List ℕ) → Grows 0 c.1 (along c ws).1
along_grows c [] = (omega arith, λ e. omega arith)
along_grows c (w ∷ ws) = let d = counter.step c w in grows_on 0 0 c.1 d.1 (along d ws).1 (one_grows (reader.step c.0 w) c.1) (along_grows d ws)

between_grows : (s : ObjectState) (n : Numbers) → s ≡ AtWord BetweenHunks → Grows 1 n (reach s n).1
between_grows s n e = subst (λ (t : ObjectState). Grows 1 n (reach t n).1) (sym e) (omega arith, λ f. omega arith)

-- A part is whole where longwords lead between hunks.
ends_grow : (c : State) (w : ℕ) (ws : List ℕ) → (along c (w ∷ ws)).0 ≡ AtWord BetweenHunks → Grows 1 c.1 (along c (w ∷ ws)).1
ends_grow c w [] e = between_grows (reader.step c.0 w) c.1 e
ends_grow c w (v ∷ ws) e =
    let d = counter.step c w in
    grows_on 0 1 c.1 d.1 (along d (v ∷ ws)).1 (one_grows (reader.step c.0 w) c.1) (ends_grow d v ws e)

-- A front of what makes one part whole makes none.
front_counts : (c : State) (front : List ℕ) (w : ℕ) (more : List ℕ) → along c (front ++ w ∷ more) ≡ (AtWord BetweenHunks, (c.1.0, suc c.1.1)) → (along c front).1 ≡ c.1
front_counts c front w more e =
    let m = along c front in
    let ends : along m (w ∷ more) ≡ (AtWord BetweenHunks, (c.1.0, suc c.1.1)) = sym (along-append c front (w ∷ more)) ∙ e in
    let from = along_grows c front in
    let to = subst (Grows 1 m.1) (ap (λ (d : State). d.1) ends) (ends_grow m w more (ap (λ (d : State). d.0) ends)) in
    let units : m.1.0 ≡ c.1.0 = omega (arith, from.0, to.0) in
    let whole : m.1.1 ≡ c.1.1 = omega (arith, from.1 (sym units), to.1 units) in
    ap₂ (λ (a b : ℕ). (a, b)) units whole

hunk_front : (n : Numbers) (front : List ℕ) (role : ObjectRole) → Expects (blocks_from BetweenHunks) front role → (along (AtWord BetweenHunks, n) front).1 ≡ n
hunk_front n front role e =
    let text : flat_map block_text e.value ≡ front ++ e.word ∷ words e.more =
    sym (blocks_words BetweenHunks e.value)
    ∙ ap words e.labels
    ∙ words-append e.done ((role, e.word) ∷ e.more)
    ∙ ap (λ ws. ws ++ e.word ∷ words e.more) e.begins in
    front_counts (AtWord BetweenHunks, n) front e.word (words e.more)
    (ap (along (AtWord BetweenHunks, n)) (sym text) ∙ blocks_count BetweenHunks n e.value tt e.is.0 e.is.1)

name_front : (n : Numbers) (name : List ℕ) (k : ℕ) → k < suc (length name) → (along (AtCount, n) (take k (length name ∷ name))).1 ≡ n
name_front n name k short = go (drop k all) (sym (take-append-drop k all)) (length-drop k all)
  where
    all : List ℕ
    all = length name ∷ name

    go : (back : List ℕ) → length name ∷ name ≡ take k (length name ∷ name) ++ back → length back ≡ suc (length name) - k → (along (AtCount, n) (take k (length name ∷ name))).1 ≡ n
    go [] e f = absurd (omega (arith, f, short))
    go (w ∷ more) e f = front_counts (AtCount, n) (take k (length name ∷ name)) w more (ap (along (AtCount, n)) (sym e) ∙ name_counts n name)

-- ---- the part

abbrev PartBy : State → Part
PartBy c = part_by c.1.0 c.1.1

after_units : (ws back : List ℕ) (units : ObjectFileValue) → AllByRecursion IsUnit units → ws ≡ object_text units ++ back → (b : AfterWhole (along counter.start (object_text units)) (0 + length units)) × (along counter.start ws ≡ along (AtWord b.place, (0 + length units, b.whole)) back)
after_units ws back units are e =
    let b = units_count BeforeUnits (0, 0) units are in
    (b, ap (along counter.start) e ∙ along-append counter.start (object_text units) back ∙ ap (λ (c : State). along c back) b.is)

header_by : (ws : List ℕ) (unit : ℕ) (h : IsInHeader ws unit) (count : ℕ) → h.count ≡ count → parts.Unit unit None ≡ PartBy (along counter.start ws)
header_by ws unit h zero e =
    let none = h.begun e in
    let empty : ws ≡ [] = h.split ∙ ap₂ (λ (us : ObjectFileValue) (k : ℕ). object_text us ++ take k (unit_header h.name)) none e in
    ap (λ (k : ℕ). parts.Unit k None) (omega (arith, h.unit_is, ap length none)) ∙ ap (λ (xs : List ℕ). PartBy (along counter.start xs)) (sym empty)
header_by ws unit h (suc k) e =
    let b = after_units ws (take (suc k) (unit_header h.name)) h.units h.are_units (h.split ∙ ap (λ (n : ℕ). object_text h.units ++ take n (unit_header h.name)) e) in
    let short : k < suc (length h.name) = omega (arith, h.not_whole, e) in
    ap (λ (n : ℕ). parts.Unit n None) (omega (arith, h.unit_is))
    ∙ ap (λ (n : Numbers). part_by n.0 n.1) (sym (name_front (suc (0 + length h.units), 0) h.name k short))
    ∙ ap PartBy (sym b.1)

part_numbers : (ws : List ℕ) (part : Part) → IsUnitPart ws part → part ≡ PartBy (along counter.start ws)
part_numbers ws (parts.Unit unit None) h = header_by ws unit h h.count refl
part_numbers ws (parts.Unit unit (Some hunk)) h =
    let b = after_units ws (unit_text h.unit_open ++ h.front) h.units h.are_units h.split in
    let n : Numbers = (suc (0 + length h.units), suc (length h.unit_open.hunks)) in
    let from : State = (AtWord b.0.place, (0 + length h.units, b.0.whole)) in
    let ends : along from (unit_text h.unit_open ++ h.front) ≡ along (AtWord BetweenHunks, n) h.front =
    along-append from (unit_text h.unit_open) h.front ∙ ap (λ (c : State). along c h.front) (unit_counts b.0.place (0 + length h.units, b.0.whole) h.unit_open h.is_unit) in
    ap₂ (λ (k m : ℕ). parts.Unit k (Some m)) (omega (arith, h.unit_is)) h.hunk_is
    ∙ ap (λ (m : Numbers). part_by m.0 m.1) (sym (hunk_front n h.front h.role h.goes_on))
    ∙ ap PartBy (sym (b.1 ∙ ends))
part_numbers ws parts.Header h = absurd h
part_numbers ws (parts.Hunk hunk) h = absurd h

-- It is one alone.
pub one_part : (ws : List ℕ) (a b : Part) → IsUnitPart ws a → IsUnitPart ws b → a ≡ b
one_part ws a b h k = part_numbers ws a h ∙ sym (part_numbers ws b k)
