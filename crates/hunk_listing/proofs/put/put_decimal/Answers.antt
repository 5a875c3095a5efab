use Rattle.std.proofs.Common.{rules}
use Rattle.std.proofs.lemmas.Fmt.{decimal_digit}
use Rattle.hunk_listing.proofs.put.put_decimal.Goals as goal

pub returns-then-number-lt10-clause-text : goal.returns-then-number-lt10-clause-text
returns-then-number-lt10-clause-text c =
    let digit = decimal_digit c.args.number c.if-number-lt10.true in
    search (rules, digit)
