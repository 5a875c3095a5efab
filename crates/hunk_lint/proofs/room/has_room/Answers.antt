use Rattle.std.proofs.Common.{◌≡◌, ◌≤◌, ◌-◌, ◌∷◌, ap, arith, length, ℕ}
use Rattle.hunk_blocks.specs.Placed.{Placed}
use Rattle.hunk_files.specs.Image.{relocations}
use Rattle.hunk_files.specs.{LoadFile.LoadFileValue, LoadHunks.hunk_seen}
use Rattle.std.proofs.lemmas.List.{length-map}
use Rattle.hunk_lint.proofs.{EnoughRoom.hunk_is_long, RoomLaws.one_looked_at}
use Rattle.hunk_lint.proofs.room.has_room.Goals as goal
use Rattle.hunk_lint.proofs.room.has_room.Goals.{else-offsets-longs-via-then-offsets-longs+else-offsets-relocation_count, else-offsets-longs-via-else-offsets-longs}

pub looking-preserved : goal.looking-preserved
looking-preserved c =
    let keeps = c.looking.invariant in
    let h = hunk_seen c.in-Some.hunk in
    let steps = c.in-Some.ensures.steps in
    let first : c.looking.hunks.value ≡ h ∷ c.next.new.self.value = ap (λ (p : Placed LoadFileValue). p.value) steps.0 in
    let within : length (relocations h) ≤ c.args.room - c.hunks-count.result = elim c.else-offsets-longs.branch [
      | else-offsets-longs-via-then-offsets-longs+else-offsets-relocation_count w ↦ omega (arith, w.if-offsets-relocation_count.false, w.relocation_count.ensures, length-map {B = ℕ} (relocations h) (λ (p : ℕ × ℕ). p.0))
      | else-offsets-longs-via-else-offsets-longs w ↦ omega (arith, w.if-offsets-longs.false, hunk_is_long h, steps.1, c.place.ensures, c.place-in-Some.ensures)
    ] in
    one_looked_at _ _ _ _ h first within keeps
