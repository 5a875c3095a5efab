-- References that are listed entry by entry.
use Rattle.std.proofs.Common.{◌≡◌, ℕ, ◌≤◌, List, ◌∷◌, length, ap, subst, length-append, Option, Some, None, arith}
use Rattle.std.specs.List.{AllByRecursion}
use Rattle.std.proofs.lemmas.List.{length-map}
use Rattle.hunk_grammar.specs.declared.ext_shape.ExtShape.{ExtShape}
use Rattle.hunk_grammar.specs.declared.ext_shape.ExtShape.TheVariants.{Definition, References, Common}
use Rattle.hunk_grammar.specs.ExtKinds.{ext_shape}
use Rattle.hunk_grammar.specs.BlockParts.{EntryName, Offset, Part}
use Rattle.hunk_blocks.specs.Parts.{each, ext_parts, ext_parts_by, ext_text}
use Rattle.hunk_blocks.specs.Values.{ExtEntry, FitsShape, IsExtEntry, ext_type}

within : (s : Option ExtShape) (e : ExtEntry) → FitsShape s e → length e.offsets ≤ length (ext_parts_by s e)
within None e fits = absurd fits
within (Some Definition) e fits = omega (arith, ap length fits)
within (Some Common) e fits = omega (arith, length-map {B = Part × ℕ} e.offsets (λ w. (Offset, w)))
within (Some References) e fits = omega (arith, length-map {B = Part × ℕ} e.offsets (λ w. (Offset, w)))

-- The offsets of an entry are in its text.
pub offsets_within : (e : ExtEntry) → IsExtEntry e → length e.offsets ≤ length (ext_text e)
offsets_within e is =
    omega (
      arith,
      length-map {B = ℕ} (ext_parts e) (λ p. p.1),
      length-append (each EntryName e.name) (ext_parts_by (ext_shape (ext_type e)) e),
      within (ext_shape (ext_type e)) e is.shape,
    )

-- where the first of them is given
pub first_is : (old rest : List ExtEntry) (e : ExtEntry) → old ≡ e ∷ rest → AllByRecursion IsExtEntry old → IsExtEntry e × AllByRecursion IsExtEntry rest
first_is old rest e is all = subst (λ (es : List ExtEntry). AllByRecursion IsExtEntry es) is all
