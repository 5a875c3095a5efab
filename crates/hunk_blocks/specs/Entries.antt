-- What stands after the name of an EXT entry.
use Rattle.std.specs.Prelude.{◌≡◌, ℕ, ◌^◌, List, [], ◌∷◌, Option, Some, None}
use Rattle.hunk_words.specs.Longs.{IsLong}
use Rattle.hunk_grammar.specs.declared.ext_shape.ExtShape.{ExtShape}
use Rattle.hunk_grammar.specs.declared.ext_shape.ExtShape.TheVariants.{Definition, References, Common}
use Rattle.hunk_blocks.specs.Values.{IsPayload}
use Rattle.hunk_blocks.specs.Parts.{counted_text}

-- A value and offsets, as an entry of this shape has them.
abbrev pub IsShaped : Option ExtShape → (ℕ × List ℕ) → Type 0
IsShaped (Some Definition) s = IsLong s.0 × (s.1 ≡ [])
IsShaped (Some References) s = (s.0 ≡ 0) × IsPayload (2 ^ 32) s.1
IsShaped (Some Common) s = IsLong s.0 × IsPayload (2 ^ 32) s.1
IsShaped None s = ⊥

-- Their longwords.
abbrev pub shaped_text : Option ExtShape → (ℕ × List ℕ) → List ℕ
shaped_text (Some Definition) s = s.0 ∷ []
shaped_text (Some References) s = counted_text s.1
shaped_text (Some Common) s = s.0 ∷ counted_text s.1
shaped_text None s = []
