use Rattle.std.proofs.Common.{◌≡◌, ◌≤◌, ◌+◌, ◌*◌, length}
use Rattle.std.specs.List.{flat_map}
use Rattle.hunk_files.specs.{LoadText.table, Tables.entry_text}
use Rattle.hunk_files.proofs.load.view.LoadView.body.Given as goal

abbrev pub invariant-entries : goal.invariant-entries
invariant-entries l =
    (l.at + length (flat_map entry_text l.size-iterator) ≡ 5 + length (flat_map entry_text (table l.self))) × (l.at + 2 * length l.size-iterator ≤ 5 + 2 * length l.self)
