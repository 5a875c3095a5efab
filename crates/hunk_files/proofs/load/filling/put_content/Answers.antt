use Rattle.std.proofs.Common.{◌≡◌, ℕ, ◌/◌, ◌≤◌, List, length, ap, sym, arith}
use Rattle.std.proofs.lemmas.List.{length-take-le}
use Rattle.hunk_words.specs.Longs.{bytes_of, longs}
use Rattle.hunk_words.proofs.LongLaws.{length-bytes_of}
use Rattle.hunk_files.proofs.load.filling.put_content.Goals as goal

inside : (bytes payload : List ℕ) (room : ℕ) → bytes ≡ payload → bytes_of (longs bytes) ≡ bytes → length (longs payload) ≤ room / 4 → length bytes ≤ room
inside bytes payload room same whole fits = omega (arith, ap length whole, length-bytes_of (longs bytes), ap (λ (bs : List ℕ). length (longs bs)) same, fits)

pub slice_bounds-copy_from_slice-end : goal.slice_bounds-copy_from_slice-end
slice_bounds-copy_from_slice-end c = inside c.bytes-content.result.now c.args.payload.now _ c.bytes-content.ensures.value c.bytes-content.ensures.longwords c.requires

pub slice_bounds-copy_from_slice-end-2 : goal.slice_bounds-copy_from_slice-end-2
slice_bounds-copy_from_slice-end-2 c = sym (length-take-le _ c.args.memory.now (inside c.bytes-content.result.now c.args.payload.now _ c.bytes-content.ensures.value c.bytes-content.ensures.longwords c.requires))

pub copy_from_slice-requires : goal.copy_from_slice-requires
copy_from_slice-requires c = length-take-le _ c.args.memory.now (inside c.bytes-content.result.now c.args.payload.now _ c.bytes-content.ensures.value c.bytes-content.ensures.longwords c.requires)
