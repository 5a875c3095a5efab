use Rattle.std.proofs.Common.{◌≡◌, ◌+◌, ◌*◌, ℕ, List, [], ◌∷◌, length, sym, ap, ◌∙◌, arith}
use Rattle.hunk_words.specs.Carriers.{saturated}
use Rattle.hunk_files.specs.{FileView.file_of, ObjectFile.{unit_header}}
use Rattle.hunk_files.specs.Items.{ItemValue, UnitItem, HunkItem, BlockItem, item_text}
use Rattle.hunk_files.specs.declared.file_view.FileView.{FileView}
use Rattle.hunk_files.proofs.cuts.UnitCounts.{units_counted, units_left}
use Rattle.hunk_c.specs.Units.{items_units, units_in}
use Rattle.hunk_c.proofs.LoadRows.{units_none}
use Rattle.hunk_c.proofs.units.UnitRowCountedRow.count.Goals as goal

-- a row for each item that begins a unit
rows_are : (place : ℕ) (items : List ItemValue) → length (items_units place items) ≡ units_left items
rows_are place [] = omega arith
rows_are place (UnitItem number u ∷ rest) = omega (arith, rows_are (place + 4 * length (unit_header u.name)) rest)
rows_are place (HunkItem unit number h ∷ rest) = omega (arith, rows_are (place + 4 * length (item_text (HunkItem unit number h))) rest)
rows_are place (BlockItem unit hunk b ∷ rest) = omega (arith, rows_are (place + 4 * length (item_text (BlockItem unit hunk b))) rest)

pub returns-in-Load : goal.returns-in-Load
returns-in-Load c =
    sym (
    ap (λ (v : FileView). saturated (length (units_in (file_of v)))) c.in-Load.is
    ∙ ap (λ (rows : List _). saturated (length rows)) (units_none c.in-Load.file c.in-Load.rest)
    )

pub returns-in-Object : goal.returns-in-Object
returns-in-Object c =
    let is : saturated (length (units_in (file_of c.args.file.now))) ≡ saturated c.units.result =
    ap (λ (v : FileView). saturated (length (units_in (file_of v)))) c.in-Object.is ∙ ap saturated (rows_are 0 _ ∙ units_counted 0 _ ∙ sym c.units.ensures.value) in
    omega (arith, is)
