use Rattle.std.proofs.Common.{ℕ, ◌-◌, List, ◌++◌, length, length-append, take, drop, subst, ◌∙◌, arith}
use Rattle.std.proofs.lemmas.List.{length-drop, length-take, take_rest}
use borrow.Rule.Slice.PartMut.{post_of}
use Rattle.hunk_wide.specs.Plain.{GivesFor}
use Rattle.hunk_wide.proofs.{Leads.more_lead, Stretches.one_more, Written.{part_length, put_behind}}
use Rattle.hunk_wide.proofs.units.expand.Goals as goal

pub units-preserved : goal.units-preserved
units-preserved c =
    let post : List ℕ = post_of c.units.all.given (length c.units.buf - c.units.all.given) c.units.buf in
    let new : List ℕ = c.expand_unit-unit.new.buf in
    record {
      taken =
          omega (
            arith,
            c.expand_unit-unit.ensures.taken,
            c.units.invariant.taken,
            length-take (length c.args.piece.now - c.units.all.taken) (drop c.units.all.taken c.args.piece.now),
            length-drop c.units.all.taken c.args.piece.now,
          );
      given =
          omega (
            arith,
            length-append (take c.units.all.given c.units.buf) (new ++ post),
            length-append new post,
            length-take c.units.all.given c.units.buf,
            c.units.invariant.given,
            c.expand_unit-unit.ensures.given,
          );
      rest =
          put_behind c.units.all.given c.expand_unit-unit.result.given c.units.buf new c.args.buf.now c.units.invariant.given (c.expand_unit-unit.auto.buf ∙ part_length c.units.all.given c.units.buf)
          c.expand_unit-unit.ensures.rest c.units.invariant.rest;
      gives =
          one_more c.args.spot c.units.all.next c.expand_unit-unit.result.next c.args.piece.now c.units.buf new post
          c.units.all.taken c.expand_unit-unit.result.taken c.units.all.given c.expand_unit-unit.result.given c.units.invariant.given c.expand_unit-unit.ensures.given c.units.invariant.gives
          (subst (λ (rest : List ℕ). GivesFor c.units.all.next (take c.expand_unit-unit.result.taken rest) (take c.expand_unit-unit.result.given new) c.expand_unit-unit.result.next)
          (take_rest c.args.piece.now c.units.all.taken) c.expand_unit-unit.ensures.gives);
      leads =
          more_lead c.args.spot c.units.all.next c.expand_unit-unit.result.next c.args.piece.now _ c.units.all.taken c.expand_unit-unit.result.taken
          c.units.invariant.leads c.expand_unit-unit.ensures.leads (take_rest c.args.piece.now c.units.all.taken);
      none = λ e. absurd (omega (arith, e, c.if-unit-eq0.false));
    }
