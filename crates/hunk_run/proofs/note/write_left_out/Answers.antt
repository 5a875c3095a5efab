use Rattle.std.proofs.Common.{rules, ◌≡◌, ◌++◌, ℕ, zero, suc, List, Some, codes, refl, sym, subst}
use Rattle.std.specs.Fmt.{DisplaysOnOk, decimal}
use Rattle.hunk_run.specs.Escapes.{escaped}
use Rattle.hunk_run.specs.Notes.{left_out_parts}
use Rattle.hunk_run.proofs.note.write_left_out.Goals as goal

blocks_alone : (stripped rest : ℕ) → (stripped ≡ 0 → ⊥) → rest ≡ 0 → left_out_parts stripped rest ≡ decimal stripped ++ codes " bytes of NAME, SYMBOL, DEBUG and ADVISORY blocks\n"
blocks_alone zero rest some none = absurd (some refl)
blocks_alone (suc more) zero some none = refl
blocks_alone (suc more) (suc rest) some none = cc

both : (stripped rest : ℕ) → (stripped ≡ 0 → ⊥) → (rest ≡ 0 → ⊥) →
    left_out_parts stripped rest ≡ decimal stripped ++ (codes " bytes of NAME, SYMBOL, DEBUG and ADVISORY blocks, " ++ (decimal rest ++ codes " bytes after the load file\n"))
both zero rest some more = absurd (some refl)
both (suc n) zero some more = absurd (more refl)
both (suc n) (suc rest) some more = refl

pub returns-then-rest-eq0 : goal.returns-then-rest-eq0
returns-then-rest-eq0 g c =
    let Writes : List ℕ → List ℕ → Type 0 =
    λ name parts. DisplaysOnOk g.W.Write.write_str_gives c.args.f.now c.write-then-rest-eq0.result (Some (codes "hunkinfo: " ++ (escaped name ++ (codes ": left out: " ++ parts))))
    c.write-then-rest-eq0.new.self in
    let parts = blocks_alone c.args.stripped c.args.rest c.if-stripped-eq0.false c.if-rest-eq0.true in
    subst (Writes c.args.name.now) (sym parts) (subst (λ (name : List ℕ). Writes name (decimal c.args.stripped ++ codes " bytes of NAME, SYMBOL, DEBUG and ADVISORY blocks\n")) c.escaped-name.ensures (search rules))

pub returns : goal.returns
returns g c =
    let Writes : List ℕ → List ℕ → Type 0 =
    λ name parts. DisplaysOnOk g.W.Write.write_str_gives c.args.f.now c.write-2.result (Some (codes "hunkinfo: " ++ (escaped name ++ (codes ": left out: " ++ parts)))) c.write-2.new.self in
    let parts = both c.args.stripped c.args.rest c.if-stripped-eq0.false c.if-rest-eq0.false in
    subst (Writes c.args.name.now) (sym parts) (subst (λ (name : List ℕ). Writes name (decimal c.args.stripped ++ (codes " bytes of NAME, SYMBOL, DEBUG and ADVISORY blocks, " ++ (decimal c.args.rest ++ codes " bytes after the load file\n")))) c.escaped-name.ensures (search rules))
