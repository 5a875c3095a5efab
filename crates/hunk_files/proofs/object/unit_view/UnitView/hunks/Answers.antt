use Rattle.std.proofs.Common.{List, length, ap, ◌∙◌}
use Rattle.hunk_files.specs.ObjectFile.{ObjectHunk}
use Rattle.hunk_files.proofs.views.UnitViewLaws.{unit_hunks, unit_hunks_are}
use Rattle.hunk_files.proofs.object.unit_view.UnitView.hunks.Goals as goal

pub count_hunks-requires : goal.count_hunks-requires
count_hunks-requires c =
    let unit = c.self.invariant in
    unit_hunks c.self.inside.bytes.now c.self.inside.place unit _ c.read_header-hunks.result.1 (c.read_header-hunks.ensures unit)

pub returns : goal.returns
returns c =
    let unit = c.self.invariant in
    c.count_hunks.ensures
    ∙ ap (λ (hs : List ObjectHunk). length hs) (unit_hunks_are c.self.inside.bytes.now c.self.inside.place unit _ c.read_header-hunks.result.1 (c.read_header-hunks.ensures unit) c.args.self.now c.self.view_is)
