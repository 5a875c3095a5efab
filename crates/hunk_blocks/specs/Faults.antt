-- The first longword that is refused, of bytes that are read as a text whose longwords have roles.
use Rattle.std.specs.Prelude.{◌≡◌, ℕ, ◌*◌, List, ◌∷◌, ◌++◌, length, map, Option, Some, ◌⊎◌}
use Rattle.hunk_words.specs.declared.reason.Reason.{Reason}
use Rattle.hunk_words.specs.declared.reason.Reason.TheVariants as reasons
use Rattle.hunk_words.specs.Longs.{longs}
use Rattle.hunk_grammar.specs.declared.mode.Mode.{Mode}
use Rattle.hunk_blocks.specs.Values.{BlockValue, IsBlock}
use Rattle.hunk_grammar.specs.BlockParts.{Part, Part as parts}
use Rattle.hunk_blocks.specs.Parts.{block_parts}
use Rattle.hunk_blocks.specs.Modes.{IsOfMode}
use Rattle.hunk_grammar.specs.Modes.{refuse_alone_word, refuse_inside}
use Rattle.hunk_blocks.specs.Reading.{IsFrontOf}
use Rattle.hunk_blocks.specs.Begins.{BeginsWithNoBlock}

-- The values, the longwords of each with their roles, and the test of a longword by its role.
pub record Grammar (Value Role : Type 0) : Type 1 where
  pub Is : Value → Type 0
  pub labelled : Value → List (Role × ℕ)
  pub refuse : Role → ℕ → Option Reason

-- the longwords without their roles
abbrev pub words : {Role : Type 0} → List (Role × ℕ) → List ℕ
words ls = map (λ l. l.1) ls

module _ {Value Role : Type 0} (g : Grammar Value Role) where
  -- Some text begins with these longwords, and then has a longword of this role.
  pub record Expects (before : List ℕ) (role : Role) : Type 0 where
    pub value : Value
    pub is : g.Is value
    pub done : List (Role × ℕ)
    pub word : ℕ
    pub more : List (Role × ℕ)
    pub labels : g.labelled value ≡ done ++ (role, word) ∷ more
    pub begins : words done ≡ before

  -- At byte `at` of these longwords stands one that is refused, where this role is expected.
  pub record HasRefusal (ws : List ℕ) (at : ℕ) (reason : Reason) : Type 0 where
    pub before : List ℕ
    pub word : ℕ
    pub after : List ℕ
    pub role : Role
    pub split : ws ≡ before ++ word ∷ after
    pub place : at ≡ 4 * length before
    pub expects : Expects before role
    pub refuses : g.refuse role word ≡ Some reason

  -- Some text begins with all these longwords.
  abbrev pub IsFront : List ℕ → Type 0
  IsFront ws = IsFrontOf g.Is (λ v. words (g.labelled v)) ws

-- ---- blocks

-- The tests of a longword of a block that stands alone.
abbrev pub refuse_alone : Mode → Part → ℕ → Option Reason
refuse_alone mode parts.BlockWord w = refuse_alone_word mode w
refuse_alone mode part w = refuse_inside part w

abbrev pub blocks : Mode → Grammar BlockValue Part
blocks mode = record { Is = λ b. IsBlock b × IsOfMode mode b; labelled = block_parts; refuse = refuse_alone mode }

-- A block of the mode begins with all the longwords, and none of them ends one.
pub record IsTruncatedBlock (mode : Mode) (bytes : List ℕ) (at : ℕ) : Type 0 where
  pub place : at ≡ 4 * length (longs bytes)
  pub not_whole : BeginsWithNoBlock mode bytes
  pub front : IsFront (blocks mode) (longs bytes)

-- The fault of bytes that do not begin with a block of the mode.
abbrev pub HasBlockFault : Mode → List ℕ → ℕ → Reason → Type 0
HasBlockFault mode bytes at reason = HasRefusal (blocks mode) (longs bytes) at reason ⊎ ((reason ≡ reasons.Truncated) × IsTruncatedBlock mode bytes at)
