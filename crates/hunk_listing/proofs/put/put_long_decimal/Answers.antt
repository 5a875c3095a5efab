use Rattle.std.proofs.Common.{◌≡◌, ◌+◌, length, rules, refl, arith}
use Rattle.std.specs.Prelude.{decimal}
use Rattle.std.proofs.lemmas.Fmt.{length-decimal-le}
use Rattle.hunk_listing.proofs.DecimalLaws.{length_power, put_at_end}
use Rattle.hunk_listing.proofs.put.put_long_decimal.Goals as goal

counted : (c : goal.After-write_digits-arg-1) → length (decimal c.args.number) ≡ c.ilog10.result + 1
counted c = length_power c.ilog10.result c.args.number c.ilog10.ensures.power_le c.ilog10.ensures.next_power_gt c.ranges.number.fits

pub write_digits-requires : goal.write_digits-requires
write_digits-requires c =
    let short = length-decimal-le 20 c.args.number (omega arith) (omega (arith, c.ranges.number.fits)) c.ranges.number.fits in
    let count = counted c in
    search (rules, count, short)

pub returns-clause-text : goal.returns-clause-text
returns-clause-text c =
    let w = c.write_digits in
    let count = length_power c.ilog10.result c.args.number c.ilog10.ensures.power_le c.ilog10.ensures.next_power_gt c.ranges.number.fits in
    put_at_end c.args.room.now w.new.buf _ (decimal c.args.number) _ c.args.at w.result (c.ilog10.result + 1) refl (omega arith) (omega (arith, count, w.ensures.start)) count w.ensures.before w.ensures.written
