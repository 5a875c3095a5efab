-- No block begins another.
use Rattle.std.proofs.Common.{◌≡◌, ℕ, List, [], ◌++◌, sym, ap, ◌∙◌, append-nil}
use Rattle.hunk_blocks.specs.{Values.{BlockValue, IsBlock}, Parts.block_text, Cuts.{Cut, block_cut}}
use Rattle.hunk_blocks.proofs.CutLaws.{cut, block_cut_is}

-- Whatever follows them, two blocks of one text are the same.
pub block_same : (a b : BlockValue) (more other : List ℕ) → IsBlock a → IsBlock b → block_text a ++ more ≡ block_text b ++ other → (a ≡ b) × (more ≡ other)
block_same a b more other ha hb e =
    let same : cut a more ≡ cut b other = sym (block_cut_is a more ha) ∙ ap block_cut e ∙ block_cut_is b other hb in
    (ap (λ (c : Cut BlockValue). c.value) same, ap (λ (c : Cut BlockValue). c.rest) same)

pub block_prefix : (a b : BlockValue) (more : List ℕ) → IsBlock a → IsBlock b → block_text a ++ more ≡ block_text b → (a ≡ b) × (more ≡ [])
block_prefix a b more ha hb e = block_same a b more [] ha hb (e ∙ sym (append-nil (block_text b)))
