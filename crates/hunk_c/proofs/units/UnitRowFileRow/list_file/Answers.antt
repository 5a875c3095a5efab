use Rattle.std.proofs.Common.{List, ap, subst, sym, ◌∙◌}
use Rattle.hunk_files.specs.FileView.{file_of}
use Rattle.hunk_files.specs.declared.file_view.FileView.{FileView}
use Rattle.hunk_c.specs.Units.{units_in}
use Rattle.hunk_c.specs.declared.units.UnitRow.{UnitRow}
use Rattle.hunk_c.proofs.LoadRows.{units_none}
use Rattle.hunk_c.proofs.units.UnitRowFileRow.list_file.Goals as goal

pub returns-in-Load : goal.returns-in-Load
returns-in-Load g c =
    let taker = c.args.taker.now in
    let none = ap (λ (file : FileView). units_in (file_of file)) c.in-Load.is ∙ units_none c.in-Load.file c.in-Load.rest in
    subst (λ (rows : List UnitRow). g.T.Takes.takes taker rows taker) (sym none) (g.met.T.Takes.none taker)
