use Rattle.std.proofs.Common.{◌≡◌, ◌++◌, ◌+◌, ℕ, List, length, sym, subst, ◌∙◌, arith, inl, ap}
use Rattle.hunk_words.specs.{Carriers.saturated, PendingBytes.pending_of}
use Rattle.hunk_c.specs.{Loaders.{CountsBytes, pending_in}, Streams.PassesOver}
use Rattle.hunk_c.proofs.Passing.{loader_with, one_byte, passes_byte}
use Rattle.hunk_c.proofs.loader.Loader.pass_byte.Goals as goal

pub returns-clause-passes : goal.returns-clause-passes
returns-clause-passes c = λ passed.
    let l = c.args.self.now in
    let piece = c.args.piece.now in
    let pending = pending_in c.push.new.self in
    let one : length piece ≡ 1 = omega (arith, c.if-piece-ne1.false) in
    let counts : CountsBytes l.start l.fed l.pending = record {
      few = omega (arith, c.if-self-gt2.false);
      counted = inl (omega (arith, c.if-self-from.false, c.from.ensures));
      whole_longs = omega (arith, c.if-self-gt0.false);
    } in
    let gathers = subst (λ (xs : List ℕ). pending_of pending ≡ pending_of (pending_in l) ++ xs) (one_byte piece one) c.push.ensures.gathers in
    let passes = passes_byte c.args.rows.now c.args.total l piece pending (c.may_be_open.ensures.0 c.if-not-may_be_open.false) counts (c.is_clean.ensures.0 c.if-not-is_clean.false)
    (c.lies_in.ensures.0 c.if-not-lies_in.false) gathers c.push.ensures.few in
    let fed : saturated (l.fed + length piece) ≡ l.fed + 1 = omega (arith, one, c.if-self-from.false, c.from.ensures, c.if-self-gt2.false) in
    subst (PassesOver c.args.rows.now c.args.total l piece) (ap (λ (n : ℕ). loader_with l n pending) fed ∙ sym c.push.ensures.numbers) passes
