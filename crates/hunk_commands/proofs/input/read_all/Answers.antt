use Rattle.std.proofs.Common.{rules, ◌≡◌, ◌+◌, ◌<◌, ◌≤◌, ◌++◌, ℕ, List, length, take, drop, length-append, refl, subst, arith}
use Rattle.std.proofs.lemmas.List.{take-append-le}
use Rattle.std.proofs.KnownBytes.{Consumes-trans}
use Rattle.std.proofs.lemmas.Result.{err_from_is_err_and}
use Rattle.hunk_commands.specs.{declared.fault.RunFault.TheVariants.Memory, Inputs.ReadsInVain}
use Rattle.hunk_commands.proofs.{Engines.handed, IncomingLaws.of_err}
use Rattle.hunk_commands.proofs.input.read_all.Goals as goal
use Rattle.hunk_commands.proofs.input.read_all.Goals.{then-room, else-room}

pub returns-in_err-take-in-Ok-clause-reads_at_most : goal.returns-in_err-take-in-Ok-clause-reads_at_most
returns-in_err-take-in-Ok-clause-reads_at_most g c =
    let held = g.T.Taker.took c.reading.taker in
    let piece = take c.in-Ok.n c.pull.new.buf in
    let asked : c.reading.count + c.if-room.ask ≤ c.args.most = elim c.if-room.branch [
      | then-room w ↦ omega (arith, w.ask-is, w.if-room.true, c.reading-test.true)
      | else-room w ↦ omega (arith, w.ask-is, w.if-room.false, c.reading-test.true)
    ] in
    let few : length piece ≤ c.if-room.ask = search rules in
    let some : 0 < length piece = search rules in
    let gave = Consumes-trans _ _ _ held piece c.reading.invariant.2 c.in-Ok.ensures.bytes.0 in
    record {
      err = handed (λ fault. ReadsInVain fault (g.S.Source.supply c.args.source.now) (g.S.Source.supply c.pull.new.self) c.args.most)
          c.from_residual.result Memory (err_from_is_err_and c.from_residual.result c.from_residual.ensures.1)
          (length (held ++ piece), omega (arith, length-append held piece, some), (held ++ piece, gave, refl));
      limit = (
        held ++ piece,
        record {
          consumed = gave;
          within = omega (arith, length-append held piece, c.reading.invariant.0, asked, few);
        },
      );
      sound = search rules;
      tells_read = search rules;
    }

pub returns-in_err-take-in-Ok-clause-wanted : goal.returns-in_err-take-in-Ok-clause-wanted
returns-in_err-take-in-Ok-clause-wanted g c =
    let held = g.T.Taker.took c.reading.taker in
    let piece = take c.in-Ok.n c.pull.new.buf in
    let inside : c.in-Ok.n ≤ length c.pull.new.buf = search rules in
    let same : take c.in-Ok.n (c.pull.new.buf ++ drop c.if-room.ask c.reading.buf) ≡ piece = take-append-le c.in-Ok.n c.pull.new.buf (drop c.if-room.ask c.reading.buf) inside in
    of_err _ c.from_residual.result
    (λ fault memory. record {
      before = held;
      piece = piece;
      given = Consumes-trans _ _ _ held piece c.reading.invariant.2 c.in-Ok.ensures.bytes.0;
      wants = subst (λ (bs : List ℕ). g.T.Taker.wants held bs) same c.in_err-take-in-Ok.ensures.wanted;
    })
