use Rattle.std.proofs.Common.{◌≡◌, ℕ, ◌*◌, ◌-◌, ◌<◌, ◌≤◌, length, take, drop, slice_index}
use Rattle.hunk_files.specs.Image.{declared_bytes}
use Rattle.hunk_scatter.specs.Rows.{entries_of}
use Rattle.hunk_scatter.proofs.image.starts_of.Given as goal

abbrev pub invariant-starts : goal.invariant-starts
invariant-starts l =
    (l.k ≤ 32) × (length l.starts ≡ 32) × (l.rest ≡ drop (2048 * l.k) l.rows) × (l.bytes ≡ declared_bytes (entries_of (take (2048 * l.k) l.rows)))
    × ((j : ℕ) → j < l.k → slice_index l.starts j ≡ declared_bytes (entries_of (take (2048 * j) l.rows)))

abbrev pub decreases-starts : goal.decreases-starts
decreases-starts l = 32 - l.k
