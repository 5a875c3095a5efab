use Rattle.std.proofs.Common.{◌≡◌, ℕ, ◌+◌, ◌-◌, ◌*◌, ◌/◌, List, ◌++◌, length, sym, ap, ap₂, ◌∙◌, arith}
use Rattle.std.proofs.lemmas.Slice.{take-put_mid}
use Rattle.hunk_wide.proofs.ShortWords.{half_as_long, widened_all, widened_more}
use Rattle.hunk_wide.proofs.Straight.{take_over}
use Rattle.hunk_wide.proofs.units.widen.Goals as goal

pub words-preserved : goal.words-preserved
words-preserved c =
    let i : ℕ = c.words.i in
    let is =
    c.copy_from_slice.ensures.after ∙ c.as_slice.ensures ∙ c.to_be_bytes.ensures
    ∙ half_as_long _ _ (omega (arith, c.type_inv.halves (2 * i))) (omega (arith, c.type_inv.halves (2 * i + 1))) in
    record {
      done =
          take-put_mid (4 * i) (4 * i + 4 - 4 * i) c.words.longs c.copy_from_slice.new.self (4 * (i + 1)) (omega (arith, ap length is)) (omega (arith, c.words.auto.longs, c.requires))
          ∙ ap₂ (λ (x y : List ℕ). x ++ y) c.words.invariant.done is
          ∙ sym (widened_more i c.args.halves.now (omega arith));
    }

pub returns : goal.returns
returns c =
    let all : c.words.i ≡ length c.args.halves.now / 2 = omega (arith, c.words.auto.i-end) in
    sym (take_over (4 * c.words.i) c.words.longs (omega (arith, c.words.auto.longs, c.requires, all)))
    ∙ c.words.invariant.done ∙ widened_all c.words.i c.args.halves.now (sym all)
