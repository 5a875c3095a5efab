use Rattle.std.proofs.Common.{◌≡◌, ℕ, length, refl, ap, subst, ◌∙◌, arith}
use Rattle.hunk_scatter.specs.{Rows.entries_of}
use Rattle.hunk_c.specs.declared.loader.Loader.{Loader}
use Rattle.hunk_c.specs.{Answers.done, Streams.{HasBegun, LacksRoom, HasSizes}}
use Rattle.hunk_c.proofs.{Loaded.same_answer, Streamed.stands_so}
use Rattle.hunk_c.proofs.stream.hunk_begin.Goals as goal

pub returns-then-room-bytes-2 : goal.returns-then-room-bytes-2
returns-then-room-bytes-2 c =
    let same : c.in-Some.size ≡ c.args.header = omega (arith, c.if-header-size.false) in
    let sizes = subst (λ (n : ℕ). HasSizes (entries_of c.args.rows.now) n c.in-Some.bytes) same c.in-Some.ensures in
    LacksRoom c.in-Some.bytes sizes (omega (arith, c.if-room-bytes-2.true)) refl refl (c.no_room.ensures ∙ same_answer 32 _ _ _ _ _ _ refl refl (omega arith))

pub returns : goal.returns
returns c =
    let table = entries_of c.args.rows.now in
    let room : c.in-Some.bytes ≡ length c.args.memory.now = omega (arith, c.if-room-bytes.false, c.if-room-bytes-2.false) in
    let same : c.in-Some.size ≡ c.args.header = omega (arith, c.if-header-size.false) in
    let sizes : HasSizes table c.args.header (length c.args.memory.now) =
    subst (HasSizes table c.args.header) room (subst (λ (n : ℕ). HasSizes table n c.in-Some.bytes) same c.in-Some.ensures) in
    let f = c.begin.ensures.begins sizes.is_table (omega (arith, sizes.header_is)) sizes.bytes_are in
    HasBegun sizes (stands_so _ _ _ _ _ c.of.ensures f) c.begin.ensures.zero (ap (λ (l : Loader). l.reserved) c.of.ensures)
    (c.done.ensures ∙ ap (done (length c.args.rows.now) c.args.header) room)
