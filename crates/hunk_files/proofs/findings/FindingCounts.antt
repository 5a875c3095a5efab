-- In an object file no more is found than twice the longwords of its text.
use Rattle.std.proofs.Common.{rules, ◌≡◌, ℕ, ◌+◌, ◌*◌, ◌≤◌, Bool, true, false, cond, List, [], ◌∷◌, length, ap, arith, length-append, Option, Some, None}
use Rattle.std.specs.{Prelude.{⊤, nat_lt}, List.{AllByRecursion, flat_map}}
use Rattle.std.proofs.lemmas.List.{length-map}
use Rattle.hunk_words.specs.Bits.{kind}
use Rattle.hunk_grammar.specs.declared.ext_shape.ExtShape.{ExtShape}
use Rattle.hunk_grammar.specs.declared.ext_shape.ExtShape.TheVariants.{Definition, References, Common}
use Rattle.hunk_grammar.specs.ExtKinds.{ext_shape}
use Rattle.hunk_grammar.specs.BlockParts.{EntryName, ExtWord, GroupCount, Offset, Part}
use Rattle.hunk_blocks.specs.Parts.{block_parts, block_text, body_parts, each, ext_parts, ext_parts_by, group_parts}
use Rattle.hunk_blocks.specs.Values.{BlockBody, BlockValue, Reloc, Ext, ExtEntry, FitsShape, FitsWord, IsBlock, IsExtEntry, RelocGroup, ext_type}
use Rattle.hunk_files.specs.declared.object.check.FindingKind.TheVariants.{OutsideHunk}
use Rattle.hunk_files.specs.Findings.{FindingValue, HunkContext, body_findings, entry_findings, finding, findings, group_findings, hunk_bytes, hunk_findings, hunks_findings, outside, reference_width, relocation_findings, relocation_width, unit_findings, units_findings}
use Rattle.hunk_files.specs.Hunks.{block_texts}
use Rattle.hunk_files.specs.ObjectFile.{IsObjectFile, IsObjectHunk, IsUnit, ObjectFileValue, ObjectHunk, UnitValue, object_text, unit_header, unit_text}

one_or_none : (f : FindingValue) (b : Bool) → (length (cond b (f ∷ []) []) ≤ 1) × (length (cond b [] (f ∷ [])) ≤ 1)
one_or_none f true = (omega arith, omega arith)
one_or_none f false = (omega arith, omega arith)

-- Where each gives so many at most, all give so many for each.
few_of_each : {A : Type 0} (f : A → List FindingValue) (most : ℕ) → ((x : A) → length (f x) ≤ most) → (xs : List A) → length (flat_map f xs) ≤ most * length xs
few_of_each f most few [] = omega arith
few_of_each f most few (x ∷ xs) = omega (arith, length-append (f x) (flat_map f xs), few x, few_of_each f most few xs)

-- the same where they are counted by their texts
few_of_texts : {A B : Type 0} (f : A → List FindingValue) (text : A → List B) (Is : A → Type 0) → ((x : A) → Is x → length (f x) ≤ 2 * length (text x)) →
    (xs : List A) → AllByRecursion Is xs → length (flat_map f xs) ≤ 2 * length (flat_map text xs)
few_of_texts f text Is few [] are = omega arith
few_of_texts f text Is few (x ∷ xs) are =
    omega (arith, length-append (f x) (flat_map f xs), length-append (text x) (flat_map text xs), few x are.0, few_of_texts f text Is few xs are.1)

outside_few : (s : HunkContext) (width offset : ℕ) → length (outside s width offset) ≤ 1
outside_few s width offset = (one_or_none (finding s OutsideHunk offset) (nat_lt s.bytes (offset + width))).0

relocation_few : (s : HunkContext) (width target offset : ℕ) → length (relocation_findings s width target offset) ≤ 2
relocation_few s width target offset = search rules

group_few : (s : HunkContext) (width : ℕ) (g : RelocGroup) → length (group_findings s width g) ≤ 2 * length (group_parts g)
group_few s width g =
    omega (arith, few_of_each (relocation_findings s width g.target) 2 (relocation_few s width g.target) g.offsets, length-map {B = Part × ℕ} g.offsets (λ w. (Offset, w)))

-- the offsets of an entry are in its text
references_within : (s : Option ExtShape) (e : ExtEntry) → FitsShape s e → 1 + length e.offsets ≤ length (ext_parts_by s e)
references_within None e fits = absurd fits
references_within (Some Definition) e fits = omega (arith, ap length fits)
references_within (Some Common) e fits = omega (arith, length-map {B = Part × ℕ} e.offsets (λ w. (Offset, w)))
references_within (Some References) e fits = omega (arith, length-map {B = Part × ℕ} e.offsets (λ w. (Offset, w)))

length-ext_parts : (e : ExtEntry) → length (ext_parts e) ≡ 1 + length e.name + length (ext_parts_by (ext_shape (ext_type e)) e)
length-ext_parts e =
    omega (
      arith,
      length-append (each EntryName e.name) (ext_parts_by (ext_shape (ext_type e)) e),
      length-map {B = Part × ℕ} e.name (λ w. (EntryName, w)),
    )

entry_few : (s : HunkContext) (e : ExtEntry) → IsExtEntry e → length (entry_findings s e) ≤ 2 * length (ext_parts e)
entry_few s e is =
    omega (arith, few_of_each (outside s (reference_width e)) 1 (outside_few s (reference_width e)) e.offsets, length-ext_parts e, references_within (ext_shape (ext_type e)) e is.shape)

pub any : (gs : List RelocGroup) → AllByRecursion (λ g. ⊤) gs
any [] = tt
any (g ∷ gs) = (tt, any gs)

body_few : (s : HunkContext) (word : ℕ) (body : BlockBody) → FitsWord word body → length (body_findings s word body) ≤ 2 * length (body_parts body)
body_few s word (Reloc gs) is =
    let width = relocation_width (kind word) in
    omega (arith, length-append (flat_map group_parts gs) ((GroupCount, 0) ∷ []), few_of_texts (group_findings s width) group_parts (λ g. ⊤) (λ g all. group_few s width g) gs (any gs))
body_few s word (Ext es) is = omega (arith, length-append (flat_map ext_parts es) ((ExtWord, 0) ∷ []), few_of_texts (entry_findings s) ext_parts IsExtEntry (entry_few s) es is.1)
body_few s word _ is = omega arith

block_few : (s : HunkContext) (b : BlockValue) → IsBlock b → length (body_findings s b.word b.body) ≤ 2 * length (block_text b)
block_few s b is = omega (arith, body_few s b.word b.body is.body, length-map (block_parts b) (λ (p : Part × ℕ). p.1))

hunk_few : (s : HunkContext) (h : ObjectHunk) → IsObjectHunk h → length (hunk_findings s h) ≤ 2 * length (block_texts h)
hunk_few s h is = few_of_texts (λ b. body_findings s b.word b.body) block_text IsBlock (block_few s) h is.blocks

hunks_few : (unit hunks number : ℕ) (hs : List ObjectHunk) → AllByRecursion IsObjectHunk hs → length (hunks_findings unit hunks number hs) ≤ 2 * length (flat_map block_texts hs)
hunks_few unit hunks number [] are = omega arith
hunks_few unit hunks number (h ∷ hs) are =
    let s : HunkContext = record { unit = unit; hunk = number; hunks = hunks; bytes = hunk_bytes h } in
    omega (
      arith,
      length-append (hunk_findings s h) (hunks_findings unit hunks (number + 1) hs),
      length-append (block_texts h) (flat_map block_texts hs),
      hunk_few s h are.0,
      hunks_few unit hunks (number + 1) hs are.1,
    )

unit_few : (number : ℕ) (u : UnitValue) → IsUnit u → length (unit_findings number u) ≤ 2 * length (unit_text u)
unit_few number u is = omega (arith, length-append (unit_header u.name) (flat_map block_texts u.hunks), hunks_few number (length u.hunks) 0 u.hunks is.hunks)

units_few : (number : ℕ) (us : ObjectFileValue) → AllByRecursion IsUnit us → length (units_findings number us) ≤ 2 * length (object_text us)
units_few number [] are = omega arith
units_few number (u ∷ us) are =
    omega (
      arith,
      length-append (unit_findings number u) (units_findings (number + 1) us),
      length-append (unit_text u) (object_text us),
      unit_few number u are.0,
      units_few (number + 1) us are.1,
    )

pub findings_few : (o : ObjectFileValue) → IsObjectFile o → length (findings o) ≤ 2 * length (object_text o)
findings_few o is = units_few 0 o is.units
