use Rattle.std.proofs.Common.{◌≡◌, ◌<◌, ◌+◌, ◌*◌, ◌-◌, ◌∷◌, [], ℕ, List, get_or, refl, sym, ap, subst, ◌∙◌, arith}
use Rattle.hunk_words.specs.Longs.{IsBytes}
use Rattle.hunk_grammar.specs.declared.phase.Phase.TheVariants as phases
use Rattle.hunk_scatter.specs.StoreContent.{put_slice}
use Rattle.hunk_c.specs.declared.loader.Loader.{Loader}
use Rattle.hunk_c.specs.Loaders.{open_hunk}
use Rattle.hunk_c.specs.Streams.{TakesPiece}
use Rattle.hunk_c.proofs.Passing.{one_byte}
use Rattle.hunk_c.proofs.LastBytes.{content_less, payload_less, stands_at_phase, symbol_less, takes_last}
use Rattle.hunk_c.proofs.loader.Loader.take_last.Goals as goal

pub returns-then-self-eq-CONTENT-clause-takes : goal.returns-then-self-eq-CONTENT-clause-takes
returns-then-self-eq-CONTENT-clause-takes c = λ took.
    let l = c.args.self.now in
    let piece = c.args.piece.now in
    let byte = get_or piece 0 0 in
    let one = one_byte piece (omega (arith, c.if-piece-ne1.false)) in
    let bytes = subst IsBytes c.long_of-long.ensures.value c.long_of-long.ensures.bytes in
    let memory = c.args.memory.now in
    let seven : l.phase ≡ 7 = omega (arith, c.if-self-eq-CONTENT.true) in
    let some : 0 < l.owed = omega (arith, c.if-self-eq0.false) in
    let stands = stands_at_phase c.args.rows.now _ l 7 c.requires seven in
    let stores = c.put_long.ensures ∙ ap (λ (n : ℕ). put_slice memory n c.long_of-long.result) c.content_at-at.ensures ∙ ap (put_slice memory (l.start + 4 * (l.part - l.owed - 1))) c.long_of-long.ensures.value in
    subst (λ (bs : List ℕ). TakesPiece c.args.rows.now l c.pass_last.new.self memory c.put_long.new.memory bs 1) one
    (subst (λ (x : Loader). TakesPiece c.args.rows.now l x memory c.put_long.new.memory (byte ∷ []) 1) (sym c.pass_last.ensures)
    (takes_last c.args.rows.now l memory c.put_long.new.memory byte (λ n. phases.Content l.part n) c.requires stands bytes
    (omega (arith, c.if-self-ne3.false)) (omega arith) (content_less (open_hunk l) l.part l.owed some)
    (omega (arith, stands.may_stand.2.1), omega (arith, c.requires.lies.content seven)) stores c.put_long.auto.memory refl))

pub returns-then-self-eq-PAYLOAD-clause-takes : goal.returns-then-self-eq-PAYLOAD-clause-takes
returns-then-self-eq-PAYLOAD-clause-takes c = λ took.
    let l = c.args.self.now in
    let piece = c.args.piece.now in
    let byte = get_or piece 0 0 in
    let one = one_byte piece (omega (arith, c.if-piece-ne1.false)) in
    let bytes = subst IsBytes c.long_of-long.ensures.value c.long_of-long.ensures.bytes in
    let memory = c.args.memory.now in
    let some : 0 < l.owed = omega (arith, c.if-self-eq0.false) in
    let stands = stands_at_phase c.args.rows.now _ l 8 c.requires (omega (arith, c.if-self-eq-PAYLOAD.true)) in
    subst (λ (bs : List ℕ). TakesPiece c.args.rows.now l c.pass_last-then-self-eq-PAYLOAD.new.self memory memory bs 1) one
    (subst (λ (x : Loader). TakesPiece c.args.rows.now l x memory memory (byte ∷ []) 1) (sym c.pass_last-then-self-eq-PAYLOAD.ensures)
    (takes_last c.args.rows.now l memory memory byte (λ n. phases.Payload n) c.requires stands bytes
    (omega (arith, c.if-self-ne3.false)) (omega arith) (payload_less (open_hunk l) l.owed some) tt refl refl refl))

pub returns-then-self-eq-SYMBOL-clause-takes : goal.returns-then-self-eq-SYMBOL-clause-takes
returns-then-self-eq-SYMBOL-clause-takes c = λ took.
    let l = c.args.self.now in
    let piece = c.args.piece.now in
    let byte = get_or piece 0 0 in
    let one = one_byte piece (omega (arith, c.if-piece-ne1.false)) in
    let bytes = subst IsBytes c.long_of-long.ensures.value c.long_of-long.ensures.bytes in
    let memory = c.args.memory.now in
    let some : 0 < l.owed = omega (arith, c.if-self-eq0.false) in
    let stands = stands_at_phase c.args.rows.now _ l 13 c.requires (omega (arith, c.if-self-eq-SYMBOL.true)) in
    subst (λ (bs : List ℕ). TakesPiece c.args.rows.now l c.pass_last-then-self-eq-SYMBOL.new.self memory memory bs 1) one
    (subst (λ (x : Loader). TakesPiece c.args.rows.now l x memory memory (byte ∷ []) 1) (sym c.pass_last-then-self-eq-SYMBOL.ensures)
    (takes_last c.args.rows.now l memory memory byte (λ n. phases.Symbol n) c.requires stands bytes
    (omega (arith, c.if-self-ne3.false)) (omega arith) (symbol_less (open_hunk l) l.owed some) tt refl refl refl))
