-- What is collected of a hunk: block by block it comes to what the blocks have.
use Rattle.std.proofs.Common.{◌≡◌, ℕ, ◌+◌, Bool, true, false, cond, List, [], ◌∷◌, ◌++◌, length, take, refl, sym, ap, subst, ◌∙◌, append-nil, append_assoc, length-append, arith, nat_lt, ◌⊎◌, inl, inr}
use Rattle.std.specs.Prelude.{◌||◌}
use Rattle.std.specs.List.{AllByRecursion, count_by, flat_map}
use Rattle.std.proofs.lemmas.{Bool.Decides.nat_tests, List.map-append, List.Sums.sum_by-cons}
use Rattle.hunk_words.specs.Longs.{bytes_of}
use Rattle.hunk_blocks.specs.Values.{BlockBody, BlockValue, Code, Data, Bss, Reloc, Ext, End}
use Rattle.hunk_grammar.specs.Standings.{is_content}
use Rattle.hunk_files.specs.Image.{block_content, block_relocations, offsets}
use Rattle.hunk_files.specs.LoadFile.{AreInOrder, standing}
use Rattle.hunk_files.proofs.{image.FillingLaws.IsNoContent, walk.FileText.{no_more, standings}, walk.HunkOrder.by_standing}
use Rattle.hunk_lint.specs.Collecting.{blocks_content, blocks_offsets, content_after}
use Rattle.hunk_lint.specs.Facts.{is_bss}

-- ---- content comes once

-- None came and one may come, or none comes any more.
abbrev pub ContentOnce : List ℕ → List BlockValue → Type 0
ContentOnce bytes left = ((bytes ≡ []) × AreInOrder false (standings left)) ⊎ AllByRecursion IsNoContent left

pub none_after : (bs : List BlockValue) → AreInOrder true (standings bs) → AllByRecursion IsNoContent bs
none_after [] o = absurd o
none_after (b ∷ bs) o =
    by_standing (λ has s. has ≡ true → (is_content s ≡ false) × AllByRecursion IsNoContent bs) (standings bs)
    (λ has rest e. (refl, none_after bs (subst (λ (k : Bool). AreInOrder k (standings bs)) e rest)))
    (λ rest e. absurd cc)
    (λ rest e. (refl, none_after bs rest))
    (λ none e. (refl, subst (AllByRecursion IsNoContent) (sym (no_more bs none)) tt)) true (standing b.body) o refl

module _ (bytes : List ℕ) (left : List BlockValue) where
  -- One block less is left.
  content_on : (word : ℕ) (body : BlockBody) → ContentOnce bytes (record { word = word; body = body } ∷ left) →
      ContentOnce (content_after bytes body) left × (bytes ++ (block_content body ++ blocks_content left) ≡ content_after bytes body ++ blocks_content left)
  content_on word (Code top words) (inl (none, order)) = (inr (none_after left order), ap (λ (xs : List ℕ). xs ++ (bytes_of words ++ blocks_content left)) none)
  content_on word (Data top words) (inl (none, order)) = (inr (none_after left order), ap (λ (xs : List ℕ). xs ++ (bytes_of words ++ blocks_content left)) none)
  content_on word (Bss size) (inl (none, order)) = (inr (none_after left order), refl)
  content_on word (Reloc groups) (inl (none, order)) = absurd order
  content_on word (Ext entries) (inl (none, order)) = absurd order
  content_on word End (inl (none, order)) = absurd order
  content_on word _ (inl (none, order)) = (inl (none, order), refl)
  content_on word (Code top words) (inr all) = absurd (let e : true ≡ false = all.0 in cc)
  content_on word (Data top words) (inr all) = absurd (let e : true ≡ false = all.0 in cc)
  content_on word (Bss size) (inr all) = absurd (let e : true ≡ false = all.0 in cc)
  content_on word _ (inr all) = (inr all.1, refl)

-- ---- the blocks that are left

abbrev pub bss_count : List BlockValue → ℕ
bss_count bs = count_by (λ (b : BlockValue). is_bss b.body) bs

pub record Left (all left : List BlockValue) (bytes : List ℕ) (bss : Bool) (count : ℕ) (room : List ℕ) : Type 0 where
  pub once : ContentOnce bytes left
  pub content : blocks_content all ≡ bytes ++ blocks_content left
  pub bss_is : nat_lt 0 (bss_count all) ≡ (bss || nat_lt 0 (bss_count left))
  pub count_is : count + length (blocks_offsets left) ≡ length (blocks_offsets all)
  pub offsets_are : take count room ++ blocks_offsets left ≡ blocks_offsets all

bss_on : (bss : Bool) (body : Bool) (n : ℕ) → (bss || nat_lt 0 (cond body 1 0 + n)) ≡ ((bss || body) || nat_lt 0 n)
bss_on true body n = refl
bss_on false true n = grind (arith, nat_tests)
bss_on false false n = grind (arith, nat_tests)

pub first_offsets : (b : BlockValue) (left : List BlockValue) → blocks_offsets (b ∷ left) ≡ offsets (block_relocations b.body) ++ blocks_offsets left
first_offsets b left = map-append (λ (p : ℕ × ℕ). p.0) (block_relocations b.body) (flat_map (λ (x : BlockValue). block_relocations x.body) left)

module _ {all old : List BlockValue} {bytes : List ℕ} {bss : Bool} {count : ℕ} {room : List ℕ} (l : Left all old bytes bss count room) where
  module _ (b : BlockValue) (left : List BlockValue) (is : old ≡ b ∷ left) where
    pub block_collected : (body : BlockBody) (bytes2 : List ℕ) (bss2 : Bool) (count2 : ℕ) (room2 : List ℕ) → body ≡ b.body → bytes2 ≡ content_after bytes body → bss2 ≡ (bss || is_bss body) →
        count2 ≡ count + length (offsets (block_relocations body)) → take count2 room2 ≡ take count room ++ offsets (block_relocations body) → Left all left bytes2 bss2 count2 room2
    block_collected body bytes2 bss2 count2 room2 same content bss_same count_same put =
        let on = content_on bytes left b.word b.body (subst (ContentOnce bytes) is l.once) in
        let bytes_same : bytes2 ≡ content_after bytes b.body = content ∙ ap (content_after bytes) same in
        let here = first_offsets b left in
        record {
          once = subst (λ (xs : List ℕ). ContentOnce xs left) (sym bytes_same) on.0;
          content = l.content ∙ ap (λ (bs : List BlockValue). bytes ++ blocks_content bs) is ∙ on.1 ∙ ap (λ (xs : List ℕ). xs ++ blocks_content left) (sym bytes_same);
          bss_is =
              l.bss_is ∙ ap (λ (bs : List BlockValue). bss || nat_lt 0 (bss_count bs)) is
              ∙ ap (λ (n : ℕ). bss || nat_lt 0 n) (sum_by-cons (λ (x : BlockValue). cond (is_bss x.body) 1 0) b left)
              ∙ bss_on bss (is_bss b.body) (bss_count left)
              ∙ ap (λ (t : Bool). t || nat_lt 0 (bss_count left)) (ap (λ (x : BlockBody). bss || is_bss x) (sym same) ∙ sym bss_same);
          count_is =
              omega (
                arith,
                count_same,
                l.count_is,
                ap (λ (x : BlockBody). length (offsets (block_relocations x))) same,
                ap (λ (bs : List BlockValue). length (blocks_offsets bs)) is,
                ap (λ (os : List ℕ). length os) here,
                length-append (offsets (block_relocations b.body)) (blocks_offsets left),
              );
          offsets_are =
              ap (λ (os : List ℕ). os ++ blocks_offsets left) (put ∙ ap (λ (x : BlockBody). take count room ++ offsets (block_relocations x)) same)
              ∙ append_assoc (take count room) (offsets (block_relocations b.body)) (blocks_offsets left)
              ∙ ap (λ (os : List ℕ). take count room ++ os) (sym here ∙ ap blocks_offsets (sym is))
              ∙ l.offsets_are;
        }

-- ---- only END is left

or_false : (b : Bool) → (b || false) ≡ b
or_false true = refl
or_false false = refl

module _ {all old : List BlockValue} {bytes : List ℕ} {bss : Bool} {count : ℕ} {room : List ℕ} (l : Left all old bytes bss count room) (b : BlockValue) (last : old ≡ b ∷ []) (end : b.body ≡ End) where
  no_offsets : blocks_offsets old ≡ []
  no_offsets = ap blocks_offsets last ∙ first_offsets b [] ∙ ap (λ (x : BlockBody). offsets (block_relocations x) ++ []) end

  pub content_collected : bytes ≡ blocks_content all
  content_collected =
      sym (l.content ∙ ap (λ (xs : List ℕ). bytes ++ xs) (ap blocks_content last ∙ ap (λ (x : BlockBody). block_content x ++ []) end) ∙ append-nil bytes)

  pub bss_collected : bss ≡ nat_lt 0 (bss_count all)
  bss_collected =
      let none : bss_count old ≡ 0 =
      ap bss_count last ∙ sum_by-cons (λ (x : BlockValue). cond (is_bss x.body) 1 0) b [] ∙ ap (λ (x : BlockBody). cond (is_bss x) 1 0 + 0) end in
      sym (l.bss_is ∙ ap (λ (n : ℕ). bss || nat_lt 0 n) none ∙ or_false bss)

  pub count_collected : count ≡ length (blocks_offsets all)
  count_collected = omega (arith, l.count_is, ap (λ (os : List ℕ). length os) no_offsets)

  pub offsets_collected : take count room ≡ blocks_offsets all
  offsets_collected = sym (append-nil (take count room)) ∙ ap (λ (os : List ℕ). take count room ++ os) (sym no_offsets) ∙ l.offsets_are
