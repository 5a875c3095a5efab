use Rattle.std.proofs.Common.{drop, map}
use Rattle.hunk_files.specs.{InPlace.BeginsWithHunks, Tables.hunk_of}
use Rattle.hunk_files.proofs.{views.HunksInPlace.{hunk_text, seen_hunks}, views.PartsInTurn.Taken}
use Rattle.hunk_files.proofs.load.hunk_views.LoadHunkViews.keep.Given as goal

abbrev pub invariant-keeping : goal.invariant-keeping
invariant-keeping l =
    BeginsWithHunks l.size-iterator (drop l.at l.bytes) × Taken hunk_text l.fn.self (seen_hunks l.size-iterator l.bytes l.at) (map hunk_of l.hunks.items)
