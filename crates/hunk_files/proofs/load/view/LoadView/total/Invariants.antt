use Rattle.std.proofs.Common.{◌≡◌, ◌≤◌, ◌+◌, ◌*◌, ◌^◌, length}
use Rattle.hunk_files.specs.{Image.declared_bytes, LoadText.table}
use Rattle.hunk_files.proofs.load.view.LoadView.total.Given as goal

abbrev pub invariant-entries : goal.invariant-entries
invariant-entries l =
    (l.sum + declared_bytes l.size-iterator ≡ declared_bytes (table l.self)) × (l.sum + length l.size-iterator * 2 ^ 32 ≤ length l.self * 2 ^ 32)
