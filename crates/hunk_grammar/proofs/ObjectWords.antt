-- The tests of an object file are those of a block that stands alone, and then that of its place in the hunk.
use Rattle.std.proofs.Common.{rules, ◌≡◌, ℕ, ◌/◌, ◌^◌, cond, eqb, refl, ◌≢◌}
use Rattle.hunk_words.specs.Bits.{kind}
use Rattle.hunk_grammar.specs.declared.mode.Mode.TheVariants as modes
use Rattle.hunk_grammar.specs.ExtKinds.{ext_shape}
use Rattle.hunk_grammar.specs.{BlockParts.{Part, Part as parts}, Modes.{refuse_alone_word, refuse_inside, refuse_shape}}
use Rattle.hunk_grammar.specs.Standings.{first_of, standing_of_kind}
use Rattle.hunk_words.specs.Bits.{unit_word}
use Rattle.hunk_grammar.specs.declared.object_position.WordPlace.{WordPlace}
use Rattle.hunk_grammar.specs.ObjectRoles.{Within, object_role_at, refuse_ext_type, refuse_unit, refuse_object_word, refuse_object}
pub use Rattle.hunk_grammar.specs.ObjectPositions.{refuse_place}

-- ---- block words

-- The test of a block word, by its two parts.
pub word_split : (place : WordPlace) (w : ℕ) → refuse_object_word place w ≡ cond (eqb w unit_word) (refuse_unit place) (first_of (refuse_alone_word modes.Object w) (refuse_place place (standing_of_kind (kind w))))
word_split place w = search rules

-- ---- after a block word

-- the types that are accepted have a shape
ext_type_split : (n : ℕ) → refuse_ext_type n ≡ refuse_shape (ext_shape n)
ext_type_split n = search rules

pub within_split : (part : Part) (w : ℕ) → refuse_object (Within part) w ≡ refuse_inside part w
within_split parts.ExtWord w = ext_type_split (w / 2 ^ 24)
within_split _ w = refl

pub within_role : (place : WordPlace) (part : Part) → part ≢ parts.BlockWord → object_role_at place part ≡ Within part
within_role place parts.BlockWord ne = absurd (ne refl)
within_role place parts.ContentSize ne = refl
within_role place parts.NameCount ne = refl
within_role place parts.LongCount ne = refl
within_role place parts.Payload ne = refl
within_role place parts.GroupCount ne = refl
within_role place parts.Target ne = refl
within_role place parts.Offset ne = refl
within_role place parts.EntryWord ne = refl
within_role place parts.ExtWord ne = refl
within_role place parts.EntryName ne = refl
within_role place parts.EntryValue ne = refl
within_role place parts.OffsetCount ne = refl
