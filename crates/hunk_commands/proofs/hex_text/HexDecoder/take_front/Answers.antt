use Rattle.std.proofs.Common.{rules, ◌≡◌, true, false, None, Some, slice_index, refl}
use Rattle.hunk_commands.specs.HexText.{is_blank}
use Rattle.hunk_commands.proofs.HexPieces.{blank_kept, digit_held, room_made}
use Rattle.hunk_commands.proofs.hex_text.HexDecoder.take_front.Goals as goal
use Rattle.hunk_commands.proofs.hex_text.HexDecoder.take_front.Goals.{then-not-is_blank+in-None, then-not-is_blank+in-Some+in_ok-self-inside-in-Some, else-not-is_blank}

pub invariant_of-self-2 : goal.invariant_of-self-2
invariant_of-self-2 c =
    elim c.if-not-is_blank.branch [
      | then-not-is_blank+in-None w ↦
          let plain : is_blank (slice_index c.args.text.now 0) ≡ false = search rules in
          let none : c.self.inside.held ≡ None = search rules in
          let held = digit_held _ _ _ _ c.args.text.now c.requires plain (rw none at c.self.invariant) in
          rw (c.and-self-inside-2.ensures, w.self-inside-is) held
      | then-not-is_blank+in-Some+in_ok-self-inside-in-Some w ↦
          let plain : is_blank (slice_index c.args.text.now 0) ≡ false = search rules in
          let before : c.self.inside.refused ≡ false = search rules in
          let first : c.self.inside.held ≡ Some w.in-Some.first = search rules in
          let held = digit_held _ _ _ _ c.args.text.now c.requires plain (rw first at c.self.invariant) in
          rw (c.and-self-inside-2.ensures, w.self-inside-is) (room_made _ _ _ _ _ _ before refl held w.in_ok-self-inside-in-Some.ensures.spelled)
      | else-not-is_blank w ↦
          let blank : is_blank (slice_index c.args.text.now 0) ≡ true = search rules in
          rw (c.and-self-inside-2.ensures, w.self-inside-is) (blank_kept _ _ _ _ c.args.text.now c.requires blank c.self.invariant)
    ]
