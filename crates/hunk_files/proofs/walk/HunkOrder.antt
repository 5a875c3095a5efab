-- Where a block of a hunk may stand, after others.
use Rattle.std.proofs.Common.{◌≡◌, ℕ, Bool, true, false, List, [], ◌∷◌, ◌++◌, refl, sym, subst, Option, None, Some}
use Rattle.std.specs.Prelude.{◌||◌, IsTrue}
use Rattle.hunk_words.specs.{declared.block_word.Kind.Kind, declared.reason.Reason.Reason, Bits.{is_relocation, kind}}
use Rattle.hunk_words.specs.declared.block_word.Kind.TheVariants as kinds
use Rattle.hunk_blocks.specs.Values.{BlockBody, Reloc, Advisory, End, FitsWord, is_unknown}
use Rattle.hunk_files.specs.LoadFile.{standing, AreInOrder}
use Rattle.hunk_grammar.specs.Standings.{BlockStanding, Beside, Content, Relocating, Ending, is_content, is_ending, first_of, refuse_standing, standing_of_kind}

-- ---- one block

relocating : (k : Kind) → IsTrue (is_relocation k) → standing_of_kind k ≡ Relocating
relocating kinds.Unit h = absurd cc
relocating _ h = cc

advisory : (k : Kind) → IsTrue (is_unknown k) → standing_of_kind k ≡ Beside
advisory (kinds.Unknown n) h = refl
advisory kinds.Unit h = absurd cc
advisory _ h = absurd cc

pub standing_is : (word : ℕ) (body : BlockBody) → FitsWord word body → standing body ≡ standing_of_kind (kind word)
standing_is word (Reloc gs) h = sym (relocating (kind word) h.0)
standing_is word (Advisory ws) h = sym (advisory (kind word) h.0)
standing_is word End h = rw h refl
standing_is word _ h = rw h.0 refl

pub first_both : (o next : Option Reason) → first_of o next ≡ None → (o ≡ None) × (next ≡ None)
first_both (Some reason) next e = absurd cc
first_both None next e = (refl, e)

-- ---- the blocks of a hunk

-- By cases of what stands first in an order.
pub by_standing : (P : Bool → BlockStanding → Type 0) (rest : List BlockStanding) → ((has : Bool) → AreInOrder has rest → P has Beside) → (AreInOrder true rest → P false Content) →
    (AreInOrder true rest → P true Relocating) → (rest ≡ [] → P true Ending) → (has : Bool) (s : BlockStanding) → AreInOrder has (s ∷ rest) → P has s
by_standing P rest beside content relocating ending true Beside o = beside true o
by_standing P rest beside content relocating ending false Beside o = beside false o
by_standing P rest beside content relocating ending false Content o = content o
by_standing P rest beside content relocating ending true Relocating o = relocating o
by_standing P rest beside content relocating ending true Ending o = ending o
by_standing P rest beside content relocating ending _ _ o = absurd o

-- These blocks may follow one another, and none of them ends the hunk. The flags say whether the content block came before them, and whether it came then.
abbrev pub Leads : Bool → List BlockStanding → Bool → Type 0
Leads a [] b = a ≡ b
Leads a (Beside ∷ rest) b = Leads a rest b
Leads false (Content ∷ rest) b = Leads true rest b
Leads true (Content ∷ rest) b = ⊥
Leads true (Relocating ∷ rest) b = Leads true rest b
Leads false (Relocating ∷ rest) b = ⊥
Leads a (Ending ∷ rest) b = ⊥

-- what may stand here leads on, unless it is END
pub leads_one : (has : Bool) (s : BlockStanding) → refuse_standing has s ≡ None → is_ending s ≡ false → Leads has (s ∷ []) (has || is_content s)
leads_one true Beside ok no_end = refl
leads_one false Beside ok no_end = refl
leads_one false Content ok no_end = refl
leads_one true Relocating ok no_end = refl
leads_one _ _ ok no_end = absurd cc

pub leads_more : (a b c : Bool) (xs ys : List BlockStanding) → Leads a xs b → Leads b ys c → Leads a (xs ++ ys) c
leads_more a b c [] ys h k = subst (λ (x : Bool). Leads x ys c) (sym h) k
leads_more true b c (Beside ∷ xs) ys h k = leads_more true b c xs ys h k
leads_more false b c (Beside ∷ xs) ys h k = leads_more false b c xs ys h k
leads_more false b c (Content ∷ xs) ys h k = leads_more true b c xs ys h k
leads_more true b c (Relocating ∷ xs) ys h k = leads_more true b c xs ys h k
leads_more _ b c (_ ∷ xs) ys h k = absurd h

pub leads_end : (a b : Bool) (xs ys : List BlockStanding) → Leads a xs b → AreInOrder b ys → AreInOrder a (xs ++ ys)
leads_end a b [] ys h k = subst (λ (x : Bool). AreInOrder x ys) (sym h) k
leads_end true b (Beside ∷ xs) ys h k = leads_end true b xs ys h k
leads_end false b (Beside ∷ xs) ys h k = leads_end false b xs ys h k
leads_end false b (Content ∷ xs) ys h k = leads_end true b xs ys h k
leads_end true b (Relocating ∷ xs) ys h k = leads_end true b xs ys h k
leads_end _ b (_ ∷ xs) ys h k = absurd h

pub end_stands : (has : Bool) (s : BlockStanding) → refuse_standing has s ≡ None → is_ending s ≡ true → AreInOrder has (s ∷ [])
end_stands true Ending ok e = refl
end_stands false Ending ok e = absurd cc
end_stands _ _ ok e = absurd cc
