-- The types of EXT entries, a row for each, to be read beside docs/FORMAT.md.
use Rattle.std.specs.Prelude.{ℕ, List, [], ◌∷◌, Option, Some, None, codes, ◌==◌}
use Rattle.std.specs.List.{find}
use Rattle.std.specs.Option.{option_map}
use Rattle.hunk_grammar.specs.declared.ext_kind.ExtKind.{ExtKind}
use Rattle.hunk_grammar.specs.declared.ext_kind.ExtKind.TheVariants.{Symb, Def, Abs, Ref32, Common, Ref16, Ref8, Dext32, Dext16, Dext8, RelRef32, RelCommon, AbsRef16, AbsRef8}
use Rattle.hunk_grammar.specs.declared.ext_shape.ExtShape.{ExtShape}
use Rattle.hunk_grammar.specs.declared.ext_shape.ExtShape.TheVariants as shapes

-- Its number, its name without EXT_, what stands after the name of an entry, and how many bytes each offset stands for.
pub record ExtRow : Type 0 where
  pub code : ℕ
  pub name : List ℕ
  pub shape : ExtShape
  pub width : Option ℕ

abbrev pub row : ℕ → List ℕ → ExtShape → Option ℕ → ExtRow
row code name shape width = record { code = code; name = name; shape = shape; width = width }

-- The table.
abbrev pub ext_row : ExtKind → ExtRow
ext_row Symb = row 0 (codes "SYMB") shapes.Definition None
ext_row Def = row 1 (codes "DEF") shapes.Definition None
ext_row Abs = row 2 (codes "ABS") shapes.Definition None
ext_row Ref32 = row 129 (codes "REF32") shapes.References (Some 4)
ext_row Common = row 130 (codes "COMMON") shapes.Common (Some 4)
ext_row Ref16 = row 131 (codes "REF16") shapes.References (Some 2)
ext_row Ref8 = row 132 (codes "REF8") shapes.References (Some 1)
ext_row Dext32 = row 133 (codes "DEXT32") shapes.References (Some 4)
ext_row Dext16 = row 134 (codes "DEXT16") shapes.References (Some 2)
ext_row Dext8 = row 135 (codes "DEXT8") shapes.References (Some 1)
ext_row RelRef32 = row 136 (codes "RELREF32") shapes.References (Some 4)
ext_row RelCommon = row 137 (codes "RELCOMMON") shapes.Common (Some 4)
ext_row AbsRef16 = row 138 (codes "ABSREF16") shapes.References (Some 2)
ext_row AbsRef8 = row 139 (codes "ABSREF8") shapes.References (Some 1)

abbrev pub ext_kinds : List ExtKind
ext_kinds = Symb ∷ Def ∷ Abs ∷ Ref32 ∷ Common ∷ Ref16 ∷ Ref8 ∷ Dext32 ∷ Dext16 ∷ Dext8 ∷ RelRef32 ∷ RelCommon ∷ AbsRef16 ∷ AbsRef8 ∷ []

-- ---- its columns

abbrev pub ext_code : ExtKind → ℕ
ext_code kind = (ext_row kind).code

abbrev pub ext_name : ExtKind → List ℕ
ext_name kind = (ext_row kind).name

abbrev pub shape_of_kind : ExtKind → ExtShape
shape_of_kind kind = (ext_row kind).shape

abbrev pub ext_width : ExtKind → Option ℕ
ext_width kind = (ext_row kind).width

-- ---- by the number

-- the type of this number; none where it is not accepted, as 3, RES
unfoldable pub ext_kind : ℕ → Option ExtKind
ext_kind code = find (λ kind. ext_code kind == code) ext_kinds

-- what stands after the name of an entry whose type has this number
abbrev pub ext_shape : ℕ → Option ExtShape
ext_shape code = option_map shape_of_kind (ext_kind code)
