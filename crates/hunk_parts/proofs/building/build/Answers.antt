use Rattle.std.proofs.Common.{ap, arith, length}
use Rattle.hunk_words.proofs.LongLaws.{length-bytes_of}
use Rattle.hunk_parts.specs.RowsText.{rows_text}
use Rattle.hunk_parts.specs.declared.row_fault.BuiltSize.{BuiltSize}
use Rattle.hunk_parts.proofs.Built.{built, lacks_room, refused, succeeds}
use Rattle.hunk_parts.proofs.building.build.Goals as goal

pub returns-in-Err : goal.returns-in-Err
returns-in-Err c =
    let done = refused c.args.bytes.now c.args.text.now c.args.rows.now c.in-Err.fault c.in-Err.ensures.fault in
    record { outcome = done; succeeds = succeeds _ _ _ _ _ done }

pub returns-then-not-has_room : goal.returns-then-not-has_room
returns-then-not-has_room c =
    let done = lacks_room c.args.bytes.now c.args.text.now c.args.rows.now c.in-Ok.size (λ i. omega (arith, c.type_inv.bytes i)) c.are_rows.ensures c.in-Ok.ensures.spells c.in-Ok.ensures.size
    (c.has_room.ensures.lacks (length (rows_text c.args.bytes.now c.args.rows.now)) (ap (λ (s : BuiltSize). s.bytes) c.in-Ok.ensures.size) c.if-not-has_room.true) in
    record { outcome = done; succeeds = succeeds _ _ _ _ _ done }

pub write-requires-clause-room : goal.write-requires-clause-room
write-requires-clause-room c =
    let words = rows_text c.args.bytes.now c.args.rows.now in
    omega (arith, length-bytes_of words, c.has_room.ensures.fits (length words) (ap (λ (s : BuiltSize). s.bytes) c.in-Ok.ensures.size) c.if-not-has_room.false)

pub returns : goal.returns
returns c =
    let words = rows_text c.args.bytes.now c.args.rows.now in
    let done = built c.args.bytes.now c.args.text.now c.write.new.text c.args.rows.now c.in-Ok.size c.write.result (λ i. omega (arith, c.type_inv.bytes i)) c.are_rows.ensures c.in-Ok.ensures.spells c.in-Ok.ensures.size
    (omega (arith, length-bytes_of words, c.has_room.ensures.fits (length words) (ap (λ (s : BuiltSize). s.bytes) c.in-Ok.ensures.size) c.if-not-has_room.false)) c.write.ensures.count c.write.ensures.text in
    record { outcome = done; succeeds = succeeds _ _ _ _ _ done }
