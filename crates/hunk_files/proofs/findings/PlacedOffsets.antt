-- At the place of each finding stands its offset.
use Rattle.std.proofs.Common.{rules, ◌≡◌, ℕ, ◌+◌, ◌-◌, ◌*◌, Bool, true, false, cond, List, [], ◌∷◌, ◌++◌, length, refl, sym, ap, subst, ◌∙◌, append_assoc, append-nil, length-append, Option, Some, None, arith}
use Rattle.std.specs.{Prelude.{⊤, nat_lt}, List.{AllByRecursion, flat_map}}
use Rattle.hunk_words.specs.Bits.{kind}
use Rattle.hunk_grammar.specs.declared.ext_shape.ExtShape.{ExtShape}
use Rattle.hunk_grammar.specs.declared.ext_shape.ExtShape.TheVariants.{Definition, References, Common}
use Rattle.hunk_blocks.specs.Parts.{block_text, body_text, ext_text, group_text}
use Rattle.hunk_blocks.specs.Values.{BlockBody, BlockValue, ExtEntry, RelocGroup, FitsShape, FitsWord, IsBlock, IsExtEntry, Reloc, Ext, ext_type}
use Rattle.hunk_blocks.specs.Entries.{shaped_text}
use Rattle.hunk_grammar.specs.ExtKinds.{ext_shape}
use Rattle.hunk_blocks.proofs.{Lists.All-append, PartTexts.{body_text_is, ext_text_is, group_text_is}}
use Rattle.hunk_files.specs.declared.object.check.FindingKind.TheVariants.{OutsideHunk}
use Rattle.hunk_files.proofs.findings.FindingCounts.{any}
use Rattle.hunk_files.specs.Findings.{FindingValue, HunkContext, finding, hunk_bytes, outside, reference_width, relocation_findings, relocation_width}
use Rattle.hunk_files.specs.Hunks.{block_texts}
use Rattle.hunk_files.specs.ObjectFile.{IsObjectFile, IsObjectHunk, IsUnit, ObjectFileValue, ObjectHunk, UnitValue, object_text, unit_header, unit_text}
use Rattle.hunk_files.specs.PlacedFindings.{PlacedFinding, StandsInPlace, block_findings_at, body_findings_at, entry_findings_at, group_findings_at, hunk_findings_at, hunks_findings_at, in_turn, offsets_findings_at, placed_findings, standing_at, unit_findings_at, units_findings_at}

-- ---- what is found of an offset has it

abbrev Have : ℕ → List FindingValue → Type 0
Have offset found = AllByRecursion (λ f. f.offset ≡ offset) found

one_has : (f : FindingValue) (offset : ℕ) → f.offset ≡ offset → (b : Bool) → Have offset (cond b (f ∷ []) [])
one_has f offset is true = (is, tt)
one_has f offset is false = tt

outside_has : (s : HunkContext) (width offset : ℕ) → Have offset (outside s width offset)
outside_has s width offset = one_has (finding s OutsideHunk offset) offset refl (nat_lt s.bytes (offset + width))

relocation_has : (s : HunkContext) (width target offset : ℕ) → Have offset (relocation_findings s width target offset)
relocation_has s width target offset = search rules

-- ---- the offsets of an entry are its last longwords

shaped_ends : (s : Option ExtShape) (e : ExtEntry) → FitsShape s e → (front : List ℕ) × (shaped_text s (e.value, e.offsets) ≡ front ++ e.offsets)
shaped_ends None e fits = absurd fits
shaped_ends (Some Definition) e fits = (e.value ∷ [], ap (λ (os : List ℕ). e.value ∷ os) (sym fits))
shaped_ends (Some References) e fits = (length e.offsets ∷ [], refl)
shaped_ends (Some Common) e fits = (e.value ∷ length e.offsets ∷ [], refl)

entry_ends : (e : ExtEntry) → IsExtEntry e → (front : List ℕ) × (ext_text e ≡ front ++ e.offsets)
entry_ends e is =
    let ends = shaped_ends (ext_shape (ext_type e)) e is.shape in (
      e.word ∷ (e.name ++ ends.0),
      ext_text_is e ∙ ap (λ (ws : List ℕ). e.word ∷ (e.name ++ ws)) ends.1 ∙ ap (λ (ws : List ℕ). e.word ∷ ws) (sym (append_assoc e.name ends.0 e.offsets)),
    )

-- ---- in longwords

module _ (words : List ℕ) where
  -- From this byte on stand these.
  record From (place : ℕ) (ws : List ℕ) : Type 0 where
    before : List ℕ
    after : List ℕ
    split : words ≡ before ++ (ws ++ after)
    place_is : place ≡ 4 * length before

  abbrev All : List PlacedFinding → Type 0
  All found = AllByRecursion (StandsInPlace words) found

  both : (xs ys : List PlacedFinding) → All xs → All ys → All (xs ++ ys)
  both xs ys = All-append (StandsInPlace words) xs ys

  front : (place : ℕ) (xs ys : List ℕ) → From place (xs ++ ys) → From place xs
  front place xs ys f = record {
    before = f.before;
    after = ys ++ f.after;
    split = f.split ∙ ap (λ (ws : List ℕ). f.before ++ ws) (append_assoc xs ys f.after);
    place_is = f.place_is;
  }

  from_next : (place : ℕ) (xs ys : List ℕ) → From place (xs ++ ys) → From (place + 4 * length xs) ys
  from_next place xs ys f = record {
    before = f.before ++ xs;
    after = f.after;
    split = f.split ∙ ap (λ (ws : List ℕ). f.before ++ ws) (append_assoc xs ys f.after) ∙ sym (append_assoc f.before xs (ys ++ f.after));
    place_is = omega (arith, f.place_is, length-append f.before xs);
  }

  stand_in_turn : {A : Type 0} (found : ℕ → A → List PlacedFinding) (text : A → List ℕ) (Is : A → Type 0) → ((place : ℕ) (x : A) → Is x → From place (text x) → All (found place x)) →
      (place : ℕ) (xs : List A) → AllByRecursion Is xs → From place (flat_map text xs) → All (in_turn found text place xs)
  stand_in_turn found text Is each place [] are f = tt
  stand_in_turn found text Is each place (x ∷ xs) are f =
      let next = place + 4 * length (text x) in
      both (found place x) (in_turn found text next xs) (each place x are.0 (front place (text x) (flat_map text xs) f))
      (stand_in_turn found text Is each next xs are.1 (from_next place (text x) (flat_map text xs) f))

  stands : (place offset : ℕ) (found : List FindingValue) → Have offset found → From place (offset ∷ []) → All (standing_at place found)
  stands place offset [] has f = tt
  stands place offset (x ∷ found) has f = (
    record {
      before = f.before;
      after = f.after;
      split = f.split ∙ ap (λ (o : ℕ). f.before ++ o ∷ f.after) (sym has.0);
      is = f.place_is;
    },
    stands place offset found has.1 f,
  )

  offsets_stand : (found : ℕ → List FindingValue) → ((offset : ℕ) → Have offset (found offset)) → (place : ℕ) (offsets : List ℕ) → From place offsets → All (offsets_findings_at found place offsets)
  offsets_stand found has place [] f = tt
  offsets_stand found has place (o ∷ os) f =
      let next = place + 4 * length (o ∷ []) in
      both (standing_at place (found o)) (offsets_findings_at found next os) (stands place o (found o) (has o) (front place (o ∷ []) os f))
      (offsets_stand found has next os (from_next place (o ∷ []) os f))

  group_stands : (s : HunkContext) (width place : ℕ) (g : RelocGroup) → From place (group_text g) → All (group_findings_at s width place g)
  group_stands s width place g f =
      offsets_stand (relocation_findings s width g.target) (relocation_has s width g.target) (place + 8) g.offsets
      (from_next place (length g.offsets ∷ g.target ∷ []) g.offsets (subst (From place) (group_text_is g) f))

  entry_stands : (s : HunkContext) (place : ℕ) (e : ExtEntry) → IsExtEntry e → From place (ext_text e) → All (entry_findings_at s (place + 4 * length (ext_text e)) e)
  entry_stands s place e is f =
      let ends = entry_ends e is in
      let found = outside s (reference_width e) in
      let from = from_next place ends.0 e.offsets (subst (From place) ends.1 f) in
      let same : place + 4 * length ends.0 ≡ place + 4 * length (ext_text e) - 4 * length e.offsets = omega (arith, ap (λ (ws : List ℕ). length ws) ends.1, length-append ends.0 e.offsets) in
      subst (λ (n : ℕ). All (offsets_findings_at found n e.offsets)) same (offsets_stand found (outside_has s (reference_width e)) (place + 4 * length ends.0) e.offsets from)

  -- after its word
  body_stands : (s : HunkContext) (place word : ℕ) (body : BlockBody) → FitsWord word body → From (place + 4) (body_text body) → All (body_findings_at s place word body)
  body_stands s place word (Reloc gs) is f =
      let width = relocation_width (kind word) in
      stand_in_turn (group_findings_at s width) group_text (λ g. ⊤) (λ n g all from. group_stands s width n g from) (place + 4) gs (any gs)
      (front (place + 4) (flat_map group_text gs) (0 ∷ []) (subst (From (place + 4)) (body_text_is (Reloc gs)) f))
  body_stands s place word (Ext es) is f =
      stand_in_turn (λ n e. entry_findings_at s (n + 4 * length (ext_text e)) e) ext_text IsExtEntry (entry_stands s) (place + 4) es is.1
      (front (place + 4) (flat_map ext_text es) (0 ∷ []) (subst (From (place + 4)) (body_text_is (Ext es)) f))
  body_stands s place word _ is f = tt

  block_stands : (s : HunkContext) (place : ℕ) (b : BlockValue) → IsBlock b → From place (block_text b) → All (block_findings_at s place b)
  block_stands s place b is f = body_stands s place b.word b.body is.body (from_next place (b.word ∷ []) (body_text b.body) f)

  hunk_stands : (s : HunkContext) (place : ℕ) (h : ObjectHunk) → IsObjectHunk h → From place (block_texts h) → All (hunk_findings_at s place h)
  hunk_stands s place h is f = stand_in_turn (block_findings_at s) block_text IsBlock (block_stands s) place h is.blocks f

  hunks_stand : (unit hunks number place : ℕ) (hs : List ObjectHunk) → AllByRecursion IsObjectHunk hs → From place (flat_map block_texts hs) → All (hunks_findings_at unit hunks number place hs)
  hunks_stand unit hunks number place [] are f = tt
  hunks_stand unit hunks number place (h ∷ hs) are f =
      let s : HunkContext = record { unit = unit; hunk = number; hunks = hunks; bytes = hunk_bytes h } in
      let next = place + 4 * length (block_texts h) in
      both (hunk_findings_at s place h) (hunks_findings_at unit hunks (number + 1) next hs)
      (hunk_stands s place h are.0 (front place (block_texts h) (flat_map block_texts hs) f))
      (hunks_stand unit hunks (number + 1) next hs are.1 (from_next place (block_texts h) (flat_map block_texts hs) f))

  units_stand : (number place : ℕ) (us : List UnitValue) → AllByRecursion IsUnit us → From place (object_text us) → All (units_findings_at number place us)
  units_stand number place [] are f = tt
  units_stand number place (u ∷ us) are f =
      let next = place + 4 * length (unit_text u) in
      let here = front place (unit_text u) (object_text us) f in
      both (unit_findings_at number place u) (units_findings_at (number + 1) next us)
      (hunks_stand number (length u.hunks) 0 (place + 4 * length (unit_header u.name)) u.hunks are.0.hunks (from_next place (unit_header u.name) (flat_map block_texts u.hunks) here))
      (units_stand (number + 1) next us are.1 (from_next place (unit_text u) (object_text us) f))

pub findings_stand : (o : ObjectFileValue) → IsObjectFile o → AllByRecursion (StandsInPlace (object_text o)) (placed_findings o)
findings_stand o is =
    units_stand (object_text o) 0 0 o is.units (record { before = []; after = []; split = sym (append-nil (object_text o)); place_is = omega arith })
