-- What may stand after the name of an EXT entry, by its type.
use Rattle.std.proofs.Common.{rules, ℕ, List}
use Rattle.hunk_grammar.specs.ExtKinds.{ext_shape}
use Rattle.hunk_blocks.specs.Values.{ExtEntry}
use Rattle.hunk_blocks.specs.BlockSteps.{BlockNext, Open, AtExtValue, AtExtCount, AtExtSize, AtExtWord, shaped}

-- A fact of each of the four holds of the one that a type leads to.
pub by_shape : (P : BlockNext → Type 0) (n : ℕ) (entries : List ExtEntry) (word : ℕ) (name : List ℕ) →
    P (Open (AtExtValue entries word name)) → P (Open (AtExtCount entries word name 0)) → P (Open (AtExtSize entries word name)) → P (Open (AtExtWord entries)) → P (shaped (ext_shape n) entries word name)
by_shape P n entries word name defines refers shares none = search rules
