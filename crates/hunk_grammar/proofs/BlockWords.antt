-- A block word of a load file is refused wherever its block stands, or else for its place in the hunk.
use Rattle.std.proofs.Common.{◌≡◌, ℕ, Bool, true, false, refl, Some, if◌then◌else◌}
use Rattle.hunk_words.specs.{declared.block_word.Kind.Kind, Bits.{has_both_bits, is_advisory, kind}}
use Rattle.hunk_words.specs.declared.block_word.Kind.TheVariants as kinds
use Rattle.hunk_words.specs.declared.reason.Reason.TheVariants as reasons
use Rattle.hunk_grammar.specs.declared.mode.Mode.TheVariants as modes
use Rattle.hunk_grammar.specs.Modes.{refuse_alone_kind, refuse_alone_word}
use Rattle.hunk_grammar.specs.{Roles.{refuse_kind, refuse_word}, Standings.{first_of, refuse_standing, standing_of_kind}}

pub kind_split : (has_content advisory : Bool) (k : Kind) →
    refuse_kind has_content advisory k ≡ first_of (refuse_alone_kind modes.Load advisory k) (refuse_standing has_content (standing_of_kind k))
kind_split c a kinds.Unit = refl
kind_split true true _ = refl
kind_split true false _ = refl
kind_split false true _ = refl
kind_split false false _ = refl

-- The test of a block word of a load file, by its two parts.
pub word_split : (has_content : Bool) (w : ℕ) →
    refuse_word has_content w ≡ first_of (refuse_alone_word modes.Load w) (refuse_standing has_content (standing_of_kind (kind w)))
word_split c w = go (has_both_bits w)
  where
    go : (b : Bool) →
        (if b then Some reasons.BothBits else refuse_kind c (is_advisory w) (kind w))
        ≡ first_of (if b then Some reasons.BothBits else refuse_alone_kind modes.Load (is_advisory w) (kind w)) (refuse_standing c (standing_of_kind (kind w)))
    go true = refl
    go false = kind_split c (is_advisory w) (kind w)
