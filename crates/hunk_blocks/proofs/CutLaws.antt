-- A text is cut into its value and what stands after it.
use Rattle.std.proofs.Common.{rules, ◌≡◌, ◌≢◌, ℕ, zero, suc, ◌<◌, ◌≤◌, List, [], ◌∷◌, ◌++◌, length, refl, sym, ap, subst, ◌∙◌, append_assoc, length-append, arith}
use Rattle.std.proofs.lemmas.Grind.{common_steps}
use Rattle.std.proofs.Math.Seq.{take-append_seam, drop-append_seam}
use Rattle.std.specs.List.{flat_map, AllByRecursion}
use Rattle.hunk_words.specs.Bits.{name_longs}
use Rattle.hunk_blocks.specs.Parts.{group_text, ext_text, symbol_text, list_text, body_text, text_of, block_text}
use Rattle.hunk_grammar.specs.ExtKinds.{ext_shape}
use Rattle.hunk_blocks.specs.{Entries.shaped_text, Reading.BeginsWithList, BlockSteps.entry}
use Rattle.hunk_blocks.specs.Values.{RelocGroup, ExtEntry, SymbolEntry, BlockBody, BlockValue, IsGroup, IsExtEntry, IsSymbolEntry, IsBlock, FitsWord, ext_type}
use Rattle.hunk_blocks.specs.Cuts.{Cut, cut_map, longs_cut, group_cut, symbol_cut, entry_cut, items_cut, list_cut, body_cut, block_cut}
use Rattle.hunk_blocks.proofs.PartTexts.{body_text_is, group_text_is, symbol_text_is, ext_text_is}

abbrev pub cut : {A : Type 0} → A → List ℕ → Cut A
cut value rest = record { value = value; rest = rest }

-- ---- fields

pub longs_cut_is : (count : ℕ) (words rest : List ℕ) → count ≡ length words → longs_cut count (words ++ rest) ≡ cut words rest
longs_cut_is count words rest e = search (rules, take-append_seam, drop-append_seam)

-- ---- items

pub group_cut_is : (g : RelocGroup) (rest : List ℕ) → group_cut (group_text g ++ rest) ≡ cut g rest
group_cut_is g rest = search (rules, group_text_is, longs_cut_is)

pub symbol_spelled : (word value : ℕ) (name rest : List ℕ) → length name ≡ name_longs word → symbol_cut ((word ∷ (name ++ value ∷ [])) ++ rest) ≡ cut (entry word name value) rest
symbol_spelled word value name rest n = search (rules, append_assoc, longs_cut_is)

pub symbol_cut_is : (s : SymbolEntry) (rest : List ℕ) → IsSymbolEntry s → symbol_cut (symbol_text s ++ rest) ≡ cut s rest
symbol_cut_is s rest h = ap (λ (l : List ℕ). symbol_cut (l ++ rest)) (symbol_text_is s) ∙ symbol_spelled s.word s.value s.name rest h.entry_word.count

pub entry_cut_is : (e : ExtEntry) (rest : List ℕ) → IsExtEntry e → entry_cut (ext_text e ++ rest) ≡ cut e rest
entry_cut_is e rest h = search (rules, ext_text_is, append_assoc, longs_cut_is)

-- ---- lists

-- Each item is cut out of its text, which begins with a longword that is not 0.
pub record AreCut {A : Type 0} (Is : A → Type 0) (text : A → List ℕ) (one : List ℕ → Cut A) : Type 0 where
  pub cut_is : (x : A) (rest : List ℕ) → Is x → one (text x ++ rest) ≡ cut x rest
  pub word : A → ℕ
  pub after : A → List ℕ
  pub text_is : (x : A) → text x ≡ word x ∷ after x
  pub goes_on : (x : A) → Is x → word x ≢ 0

module _ {A : Type 0} {Is : A → Type 0} {text : A → List ℕ} {one : List ℕ → Cut A} (are : AreCut Is text one) where
  items_cut_are : (xs : List A) (most : ℕ) (rest : List ℕ) → AllByRecursion Is xs → length xs < most → items_cut one most (list_text text xs ++ rest) ≡ cut xs rest
  unfolding items_cut
  items_cut_are xs zero rest h few = absurd (omega (arith, few))
  items_cut_are [] (suc most) rest h few = refl
  items_cut_are (x ∷ xs) (suc most) rest h few = search (rules, append_assoc, items_cut_are xs most rest h.1 (omega (arith, few)))

  few_items : (xs : List A) → length xs ≤ length (flat_map text xs)
  few_items [] = omega arith
  few_items (x ∷ xs) = omega (arith, few_items xs, ap length (are.text_is x), length-append (text x) (flat_map text xs))

  pub list_cut_is : (xs : List A) (rest : List ℕ) → AllByRecursion Is xs → list_cut one (list_text text xs ++ rest) ≡ cut xs rest
  list_cut_is xs rest h = search (rules, items_cut_are, few_items, length-append)

  -- ---- one item after the other

  -- after the last item
  pub list_cut_ends : (words rest : List ℕ) → words ≡ 0 ∷ rest → list_cut one words ≡ cut [] rest
  list_cut_ends words rest e = ap (list_cut one) e ∙ list_cut_is [] rest tt

  -- The list is the first item and the list after it.
  pub record GoesOn (words : List ℕ) : Type 0 where
    pub is : Is (one words).value
    pub text_in_front : words ≡ text (one words).value ++ (one words).rest
    pub left : BeginsWithList Is text (one words).rest
    pub list : list_cut one words ≡ cut_map (λ xs. (one words).value ∷ xs) (list_cut one (one words).rest)

  -- A list begins here, and its end does not.
  pub list_goes_on : (words : List ℕ) → BeginsWithList Is text words → (word : ℕ) (rest : List ℕ) → words ≡ word ∷ rest → word ≢ 0 → GoesOn words
  list_goes_on words b word rest begins some = go b.value b.is b.begins
    where
      go : (xs : List A) → AllByRecursion Is xs → words ≡ list_text text xs ++ b.more → GoesOn words
      go [] h e = let f : word ∷ rest ≡ 0 ∷ b.more = sym begins ∙ e in let z : word ≡ 0 = cc in absurd (some z)
      go (x ∷ xs) h e =
          let more : List ℕ = list_text text xs ++ b.more in
          let front : words ≡ text x ++ more = e ∙ ap (λ l. l ++ b.more) (append_assoc (text x) (flat_map text xs) (0 ∷ [])) ∙ append_assoc (text x) (list_text text xs) b.more in
          let first : cut x more ≡ one words = sym (ap one front ∙ are.cut_is x more h.0) in
          let here : Cut A → Type 0 = λ c. Is c.value × (words ≡ text c.value ++ c.rest) × BeginsWithList Is text c.rest × (list_cut one words ≡ cut_map (λ ys. c.value ∷ ys) (list_cut one c.rest)) in
          let all = subst here first (
            h.0,
            front,
            record { value = xs; is = h.1; more = b.more; begins = refl },
            ap (list_cut one) e ∙ list_cut_is (x ∷ xs) b.more h ∙ sym (ap (cut_map (λ ys. x ∷ ys)) (list_cut_is xs b.more h.1)),
          ) in
          record { is = all.0; text_in_front = all.1; left = all.2; list = all.3 }

pub groups_are_cut : AreCut IsGroup group_text group_cut
groups_are_cut =
    record { cut_is = λ g rest h. group_cut_is g rest; word = λ g. length g.offsets; after = λ g. g.target ∷ g.offsets; text_is = group_text_is; goes_on = λ g h. some_offsets g.offsets h.some }
  where
    some_offsets : (offsets : List ℕ) → offsets ≢ [] → length offsets ≢ 0
    some_offsets [] some e = some refl
    some_offsets (o ∷ offsets) some e = absurd cc

pub entries_are_cut : AreCut IsExtEntry ext_text entry_cut
entries_are_cut =
    record { cut_is = entry_cut_is; word = λ e. e.word; after = λ e. e.name ++ shaped_text (ext_shape (ext_type e)) (e.value, e.offsets); text_is = ext_text_is; goes_on = λ e h. h.entry_word.goes_on }

pub symbols_are_cut : AreCut IsSymbolEntry symbol_text symbol_cut
symbols_are_cut = record { cut_is = symbol_cut_is; word = λ s. s.word; after = λ s. s.name ++ s.value ∷ []; text_is = symbol_text_is; goes_on = λ s h. h.entry_word.goes_on }

-- ---- bodies and blocks

text_cut_is : (word : ℕ) (body : BlockBody) (rest : List ℕ) → FitsWord word body → body_cut word (text_of body ++ rest) ≡ cut body rest
text_cut_is word body rest h = grind (arith, common_steps, list_cut_is, groups_are_cut, entries_are_cut, symbols_are_cut)

pub body_cut_is : (word : ℕ) (body : BlockBody) (rest : List ℕ) → FitsWord word body → body_cut word (body_text body ++ rest) ≡ cut body rest
body_cut_is word body rest h = ap (λ (l : List ℕ). body_cut word (l ++ rest)) (body_text_is body) ∙ text_cut_is word body rest h

pub block_cut_is : (b : BlockValue) (rest : List ℕ) → IsBlock b → block_cut (block_text b ++ rest) ≡ cut b rest
block_cut_is b rest h = ap (cut_map (λ body. record { word = b.word; body = body })) (body_cut_is b.word b.body rest h.body)
