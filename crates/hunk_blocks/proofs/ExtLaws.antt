-- The number of a type.
use Rattle.std.proofs.Common.{◌≡◌, None, refl}
use Rattle.hunk_grammar.specs.{ExtKinds.ext_kind, BlockParts.Part as parts, Modes.refuse_inside}

-- The zero that ends the entries of an EXT block is not refused.
pub end_passes : refuse_inside parts.ExtWord 0 ≡ None
unfolding ext_kind
end_passes = refl
