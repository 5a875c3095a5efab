use Rattle.std.proofs.Common.{length, ◌-◌, ◌*◌, ◌≡◌, ◌≤◌, take}
use Rattle.std.specs.List.{AllByRecursion}
use Rattle.hunk_words.specs.Longs.{longs}
use Rattle.hunk_grammar.specs.Positions.{EndsWithin}
use Rattle.hunk_scatter.specs.StoreContent.{added_at_each}
use Rattle.hunk_scatter.proofs.store.add_all.Given as goal

abbrev pub invariant-loop-taken : goal.invariant-loop-taken
invariant-loop-taken l =
    (l.taken ≤ l.most) × AllByRecursion (EndsWithin (4 * l.declared)) (take l.taken (longs l.offsets)) × (l.store ≡ added_at_each l.start l.base (take l.taken (longs l.offsets)) l.fn.store)
    × (length l.store ≡ length l.fn.store)

abbrev pub decreases-loop-taken : goal.decreases-loop-taken
decreases-loop-taken l = l.most - l.taken
