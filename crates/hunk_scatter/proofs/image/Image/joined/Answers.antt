use Rattle.std.proofs.Common.{rules, ◌≡◌, ◌-◌, length, arith}
use Rattle.std.proofs.lemmas.List.{take_all}
use Rattle.hunk_scatter.specs.LoaderValues.{joined}
use Rattle.hunk_scatter.proofs.Joining.{joined_cut}
use Rattle.hunk_scatter.proofs.image.Image.joined.Goals as goal

pub returns-clause-segments : goal.returns-clause-segments
returns-clause-segments c =
    let store : c.as_slice.result.now ≡ joined c.args.self.now.segments = search (rules, joined_cut) in
    search (rules, take_all (length c.as_slice.result.now - 0) c.as_slice.result.now (omega arith), store)
