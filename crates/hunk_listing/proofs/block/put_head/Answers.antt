use Rattle.std.proofs.Common.{◌≡◌, ℕ, ◌++◌, List, [], false, refl, sym, ap, ap₂, ◌∙◌, append-nil, codes, arith}
use Rattle.hunk_words.specs.Bits.{flags, is_advisory, is_chip, is_fast}
use Rattle.hunk_listing.specs.BlockLines.{head}
use Rattle.hunk_listing.specs.BlockNames.{block_flags, kind_name, memory_flags}
use Rattle.hunk_listing.proofs.block.put_head.Goals as goal

no_flags : (word : ℕ) → flags word ≡ 0 → block_flags word ≡ []
unfolding block_flags memory_flags
no_flags word none =
    let advisory : is_advisory word ≡ false = grind (arith) in
    let chip : is_chip word ≡ false = grind (arith) in
    let fast : is_fast word ≡ false = grind (arith) in
    rw (advisory, chip, fast) refl

pub returns-then-flags-eq0-clause-text : goal.returns-then-flags-eq0-clause-text
unfolding head
returns-then-flags-eq0-clause-text c =
    let name : List ℕ = kind_name c.kind.result in
    let none = no_flags c.args.word (omega (arith, c.flags.ensures.value, c.if-flags-eq0.true)) in
    c.put_name-at.ensures.text ∙ ap (λ (xs : List ℕ). codes "  " ++ xs) (sym (append-nil name) ∙ ap₂ (λ (xs ys : List ℕ). xs ++ ys) (ap kind_name c.kind.ensures) (sym none))
