use Rattle.std.proofs.Common.{sym, ◌∙◌}
use Rattle.hunk_files.proofs.{views.HunksInPlace.{all_hunks_at, hunks_begin_at}, cuts.LoadCuts.load_value}
use Rattle.hunk_files.proofs.load.view.LoadView.iter.Goals as goal

pub invariant_of-result : goal.invariant_of-result
invariant_of-result c =
    let bytes = c.self.inside.bytes.now in
    let same = sym (load_value bytes c.self.invariant.file) ∙ c.self.view_is in
    hunks_begin_at bytes c.self.invariant.file c.args.self.now same c.table.result c.body.result c.table.ensures.value c.body.ensures

pub returns-clause-value : goal.returns-clause-value
returns-clause-value c =
    let bytes = c.self.inside.bytes.now in
    let same = sym (load_value bytes c.self.invariant.file) ∙ c.self.view_is in
    all_hunks_at bytes c.self.invariant.file c.args.self.now same c.table.result c.body.result c.table.ensures.value c.body.ensures
