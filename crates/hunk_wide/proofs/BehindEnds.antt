-- Where END is left out before a content: it is put in, and then the first block of the next hunk is given out as it is.
use Rattle.std.proofs.Common.{◌≡◌, ℕ, suc, ◌+◌, ◌-◌, ◌*◌, ◌<◌, ◌≤◌, ◌&&◌, Bool, true, false, cond, ltb, List, [], ◌∷◌, ◌++◌, length, length-append, take, refl, sym, ap, ap₂, ◌∙◌, arith}
use Rattle.std.specs.Int.{from_be_bytes, to_be_bytes, w32}
use Rattle.std.proofs.lemmas.{Bool.{ltb-false, ltb-true}, List.length-take}
use Rattle.hunk_words.specs.Bits.{end_word, has_both_bits, kind}
use Rattle.hunk_words.specs.declared.block_word.Kind.{Kind}
use Rattle.hunk_words.specs.declared.block_word.Kind.TheVariants as kinds
use Rattle.hunk_grammar.specs.declared.phase.Phase.TheVariants as phases
use Rattle.hunk_grammar.specs.declared.position.OpenHunk.{OpenHunk}
use Rattle.hunk_grammar.specs.declared.position.Position.{Position}
use Rattle.hunk_grammar.specs.declared.position.Position.TheVariants as positions
use Rattle.hunk_grammar.specs.Positions.{close, open_next, step}
use Rattle.hunk_wide.specs.declared.position.FilePosition.{FilePosition}
use Rattle.hunk_wide.specs.declared.position.FilePosition.TheVariants as files
use Rattle.hunk_wide.specs.declared.spot.Spot.{Spot}
use Rattle.hunk_wide.specs.declared.spot.Given.{Given}
use Rattle.hunk_wide.specs.declared.spot.Given.TheVariants.{Same, BehindEnd}
use Rattle.hunk_wide.specs.FileEnds.{ends}
use Rattle.hunk_wide.specs.InFile.{spot_after}
use Rattle.hunk_wide.specs.Longwords.{behind_block, given_block, given_kind, go_on, out_long}
use Rattle.hunk_wide.specs.Parts.{AsIs, AsIsBehind, IsBlock, IsNext, IsSpelled, front_word, load_at, word_at}
use Rattle.hunk_wide.specs.Places.{count_long, here_or, place_from}
use Rattle.hunk_wide.specs.Plain.{plain_from}
use Rattle.hunk_wide.specs.Spellings.{counted, has_end, is_short, one_if}
use Rattle.hunk_wide.proofs.AsIs.{block_from, first_counted, first_gives, first_leads, first_places}

-- ---- END before

next_kind : (o next : OpenHunk) (k : Kind) → next.has_content ≡ false → given_kind o k ≡ BehindEnd → given_kind next k ≡ Same
next_kind o next kinds.Reloc32Short bare e = absurd (cc e)
next_kind o next kinds.Drel32 bare e = absurd (cc e)
next_kind o next kinds.Code bare e = ap (λ (b : Bool). cond (b && ltb 0 next.ahead) BehindEnd Same) bare
next_kind o next kinds.Data bare e = ap (λ (b : Bool). cond (b && ltb 0 next.ahead) BehindEnd Same) bare
next_kind o next kinds.Bss bare e = ap (λ (b : Bool). cond (b && ltb 0 next.ahead) BehindEnd Same) bare
next_kind o next _ bare e = refl

-- The word of the content is given out as it is, where its hunk begins with it.
next_same : (o next : OpenHunk) (w : ℕ) → next.has_content ≡ false → given_block o w ≡ BehindEnd → given_block next w ≡ Same
next_same o next w bare e = go (has_both_bits w) e
  where
    go : (b : Bool) → cond b Same (given_kind o (kind w)) ≡ BehindEnd → cond b Same (given_kind next (kind w)) ≡ Same
    go true e = refl
    go false e = next_kind o next (kind w) bare e

next_first : (o next : OpenHunk) → IsNext o next → close o ≡ positions.Body next phases.FirstBlock
next_first o next n = (λ j. open_next (sym n.hunks j) (n.ahead j)) ∙ is_next next n.bare
  where
    is_next : (next : OpenHunk) → next.has_content ≡ false → open_next next.hunks (suc next.ahead) ≡ positions.Body next phases.FirstBlock
    is_next next bare = ap (λ (b : Bool). positions.Body (record { hunks = next.hunks; ahead = next.ahead; has_content = b }) phases.FirstBlock) (sym bare)

here_put : (n : ℕ) (later : ℕ → ℕ) → here_or 4 8 n (later (n - 8)) ≡ here_or 4 4 (n - 4) (later (n - 4 - 4))
here_put n later = go (ltb n 8) (ltb (n - 4) 4) refl refl
  where
    less : n - 8 ≡ n - 4 - 4
    less = omega arith

    go : (x y : Bool) → ltb n 8 ≡ x → ltb (n - 4) 4 ≡ y → cond x (n - (8 - 4)) (4 + later (n - 8)) ≡ cond y (n - 4 - (4 - 4)) (4 + later (n - 4 - 4))
    go true true d e = omega arith
    go true false d e = absurd (omega (arith, ltb-true n 8 d, ltb-false (n - 4) 4 e))
    go false true d e = absurd (omega (arith, ltb-false n 8 d, ltb-true (n - 4) 4 e))
    go false false d e = ap (λ (k : ℕ). 4 + later k) less

here_behind : (m n : ℕ) (later : ℕ → ℕ) → 0 < m → here_or m m (n - 4) (later (n - 4 - m)) ≡ here_or m (4 + m) n (later (n - (4 + m)))
here_behind m n later some = go (ltb (n - 4) m) (ltb n (4 + m)) refl refl
  where
    less : n - 4 - m ≡ n - (4 + m)
    less = omega arith

    go : (x y : Bool) → ltb (n - 4) m ≡ x → ltb n (4 + m) ≡ y → cond x (n - 4 - (m - m)) (m + later (n - 4 - m)) ≡ cond y (n - (4 + m - m)) (m + later (n - (4 + m)))
    go true true d e = omega arith
    go true false d e = absurd (omega (arith, ltb-true (n - 4) m d, ltb-false n (4 + m) e, some))
    go false true d e = absurd (omega (arith, ltb-false (n - 4) m d, ltb-true n (4 + m) e, some))
    go false false d e = ap (λ (k : ℕ). m + later k) less

module _ (o next : OpenHunk) (is_next : IsNext o next) (a b c d : ℕ) (rest : List ℕ) (behind : given_block o (from_be_bytes w32 (a ∷ b ∷ c ∷ d ∷ [])) ≡ BehindEnd) where
  abbrev word : ℕ
  word = from_be_bytes w32 (a ∷ b ∷ c ∷ d ∷ [])

  abbrev bytes : List ℕ
  bytes = a ∷ b ∷ c ∷ d ∷ rest

  abbrev here : Spot
  here = load_at (positions.Body o phases.BlockWord)

  abbrev there : Spot
  there = load_at (positions.Body next phases.FirstBlock)

  abbrev after : Spot
  after = behind_block (given_block next word) next phases.FirstBlock word

  same : given_block next word ≡ Same
  same = next_same o next word is_next.bare behind

  leads : behind_block (given_block o word) o phases.BlockWord word ≡ after
  leads =
      ap (λ (g : Given). behind_block g o phases.BlockWord word) behind
      ∙ ap (λ (p : Position). go_on (files.Load (step p word))) (next_first o next is_next)
      ∙ sym (ap (λ (g : Given). behind_block g next phases.FirstBlock word) same)

  end_gives : plain_from here bytes ≡ to_be_bytes w32 end_word ++ plain_from there bytes
  unfolding plain_from
  end_gives =
      ap₂ (λ (g : Given) (s : Spot). out_long g (a ∷ b ∷ c ∷ d ∷ []) word ++ plain_from s rest) behind leads
      ∙ sym (ap (λ (g : Given). to_be_bytes w32 end_word ++ (out_long g (a ∷ b ∷ c ∷ d ∷ []) word ++ plain_from after rest)) same)

  end_leads : spot_after here bytes ≡ spot_after there bytes
  unfolding spot_after
  end_leads = ap (λ (s : Spot). spot_after s rest) leads

  here_counted : (f : Given → ℕ) (e : FilePosition → ℕ) → counted f e here bytes ≡ f BehindEnd + counted f e after rest
  unfolding counted
  here_counted f e = ap₂ (λ (g : Given) (s : Spot). f g + counted f e s rest) behind leads

  there_counted : (f : Given → ℕ) (e : FilePosition → ℕ) → counted f e there bytes ≡ f Same + counted f e after rest
  unfolding counted
  there_counted f e = ap (λ (g : Given). f g + counted f e after rest) same

  end_places : (n : ℕ) → place_from here bytes n ≡ place_from there bytes (n - 4)
  unfolding place_from
  end_places n =
      ap₂ (λ (g : Given) (s : Spot). here_or 4 (count_long g) n (place_from s rest (n - count_long g))) behind leads
      ∙ here_put n (place_from after rest)
      ∙ sym (ap (λ (g : Given). here_or 4 (count_long g) (n - 4) (place_from after rest (n - 4 - count_long g))) same)

end_behind : (o next : OpenHunk) (bytes : List ℕ) (size : ℕ) (t : Spot) → IsNext o next → given_block o (front_word bytes) ≡ BehindEnd → 4 ≤ size → size ≤ length bytes
    → AsIs (load_at (positions.Body next phases.FirstBlock)) (take size bytes) t → AsIsBehind (load_at (positions.Body o phases.BlockWord)) (take size bytes) true t
end_behind o next (a ∷ b ∷ c ∷ d ∷ rest) (suc (suc (suc (suc size)))) t is_next behind word whole part = record {
  gives = λ more. end_gives o next is_next a b c d (take size rest ++ more) behind ∙ ap (λ (x : List ℕ). to_be_bytes w32 end_word ++ x) (part.gives more);
  leads = λ more. end_leads o next is_next a b c d (take size rest ++ more) behind ∙ part.leads more;
  short_blocks = λ more.
      omega (
        arith,
        here_counted o next is_next a b c d (take size rest ++ more) behind (λ g. one_if (is_short g)) (λ p. 0),
        there_counted o next is_next a b c d (take size rest ++ more) behind (λ g. one_if (is_short g)) (λ p. 0),
        part.short_blocks more,
      );
  ends = λ more.
      omega (
        arith,
        here_counted o next is_next a b c d (take size rest ++ more) behind (λ g. one_if (has_end g)) (λ p. one_if (ends p)),
        there_counted o next is_next a b c d (take size rest ++ more) behind (λ g. one_if (has_end g)) (λ p. one_if (ends p)),
        part.ends more,
      );
  places = λ more n.
      end_places o next is_next a b c d (take size rest ++ more) behind n
      ∙ part.places more (n - 4)
      ∙ here_behind (length (a ∷ b ∷ c ∷ d ∷ take size rest)) n (place_from t more) (omega arith);
}
end_behind o next _ _ t is_next behind word whole part = absurd (omega arith)

-- the first block of the next hunk
pub spelled_behind : (o next after : OpenHunk) (bytes : List ℕ) (size : ℕ) (is_end : Bool) → IsNext o next → given_block o (front_word bytes) ≡ BehindEnd → IsBlock next bytes size is_end after
    → IsSpelled o bytes size true is_end after
spelled_behind o next after bytes size is_end is_next behind block = record {
  word = block.word;
  whole = block.whole;
  as_is = end_behind o next bytes size (load_at (word_at after is_end)) is_next behind block.word block.whole (block_from next after true is_end bytes size block);
}

-- ---- none before

none_behind : (s t : Spot) (bytes : List ℕ) → AsIs s bytes t → AsIsBehind s bytes false t
none_behind s t bytes part = record {
  gives = part.gives;
  leads = part.leads;
  short_blocks = part.short_blocks;
  ends = λ more. omega (arith, part.ends more);
  places = λ more n.
      let same : length bytes ≡ 4 * one_if false + length bytes = omega arith in
      part.places more n ∙ ap (λ (k : ℕ). here_or (length bytes) k n (place_from t more (n - k))) same;
}

pub spelled_as_is : (o next : OpenHunk) (bytes : List ℕ) (size : ℕ) (is_end : Bool) → IsBlock o bytes size is_end next → IsSpelled o bytes size false is_end next
spelled_as_is o next bytes size is_end block = record { word = block.word; whole = block.whole; as_is = none_behind _ _ (take size bytes) block.as_is }

-- from the first block of a hunk on too
first_behind : (o : OpenHunk) (is_first is_behind : Bool) (bytes : List ℕ) (t : Spot) → 4 ≤ length bytes → AsIsBehind (load_at (word_at o false)) bytes is_behind t → AsIsBehind (load_at (word_at o is_first)) bytes is_behind t
first_behind o false is_behind bytes t word part = part
first_behind o true is_behind bytes t word part = record {
  gives = λ more. first_gives o (bytes ++ more) (whole more) ∙ part.gives more;
  leads = λ more. first_leads o (bytes ++ more) (whole more) ∙ part.leads more;
  short_blocks = λ more. first_counted (λ g. one_if (is_short g)) (λ p. 0) o (bytes ++ more) (whole more) ∙ part.short_blocks more;
  ends = λ more. first_counted (λ g. one_if (has_end g)) (λ p. one_if (ends p)) o (bytes ++ more) (whole more) ∙ part.ends more;
  places = λ more n. first_places o (bytes ++ more) n (whole more) ∙ part.places more n;
}
  where
    whole : (more : List ℕ) → 4 ≤ length (bytes ++ more)
    whole more = omega (arith, word, length-append bytes more)

pub spelled_from : (o next : OpenHunk) (is_first is_behind is_end : Bool) (bytes : List ℕ) (size : ℕ) → IsSpelled o bytes size is_behind is_end next
    → AsIsBehind (load_at (word_at o is_first)) (take size bytes) is_behind (load_at (word_at next is_end))
spelled_from o next is_first is_behind is_end bytes size block =
    first_behind o is_first is_behind (take size bytes) _ (omega (arith, block.word, block.whole, length-take size bytes)) block.as_is
