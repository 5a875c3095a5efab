-- What was read of bytes is a block, and bytes that begin with none.
use Rattle.std.proofs.Common.{◌≡◌, ℕ, ◌+◌, ◌*◌, ◌<◌, ◌≤◌, List, [], ◌∷◌, ◌++◌, length, take, drop, sym, ap, ap₂, subst, ◌∙◌, append_assoc, length-append, arith}
use Rattle.std.proofs.Math.Seq.{take-append_seam}
use Rattle.std.proofs.lemmas.List.{length-take, take-append-drop}
use Rattle.hunk_words.specs.Longs.{longs, bytes_of, IsBytes}
use Rattle.hunk_words.proofs.LongLaws.{bytes_of-append, length-bytes_of, longs-bytes_of, spelled}
use Rattle.hunk_grammar.specs.declared.mode.Mode.{Mode}
use Rattle.hunk_blocks.specs.{Values.{BlockBody, BlockValue, FitsWord, IsBlock}, Parts.{block_text, body_text}, Modes.IsOfMode}
use Rattle.hunk_blocks.specs.{Begins.{BeginsWithNoBlock, IsFrontBlock, BeginsWithSomeBlock}, Cuts.{Cut, body_cut}}
use Rattle.hunk_blocks.specs.Reading.{Unread, Reads, ReadsValue, BeginsWithSome}
use Rattle.hunk_blocks.proofs.{Admitted.block, BlockLongs.block_longs, BlockPrefix.block_same, CutLaws.{cut, body_cut_is}}

-- the first longwords are the first bytes
pub front_bytes : (bytes words rest : List ℕ) → IsBytes bytes → longs bytes ≡ words ++ rest → (take (4 * length words) bytes ≡ bytes_of words) × (4 * length words ≤ length bytes)
front_bytes bytes words rest fit e =
    let s = spelled bytes fit in
    let cut : bytes ≡ bytes_of words ++ (bytes_of rest ++ s.over) =
    s.split ∙ ap (λ l. bytes_of l ++ s.over) e ∙ ap (λ l. l ++ s.over) (bytes_of-append words rest) ∙ append_assoc (bytes_of words) (bytes_of rest) s.over in
    let long : length (bytes_of words) ≡ 4 * length words = length-bytes_of words in (
      ap (λ (n : ℕ). take n bytes) (sym long) ∙ ap (λ l. take (length (bytes_of words)) l) cut ∙ take-append_seam (bytes_of words) (bytes_of rest ++ s.over),
      omega (arith, long, ap length cut, length-append (bytes_of words) (bytes_of rest ++ s.over)),
    )

-- ---- blocks at the front of bytes

pub front_longs : (bytes : List ℕ) (b : BlockValue) (n : ℕ) → IsFrontBlock bytes b n → longs bytes ≡ block_text b ++ longs (drop n bytes)
front_longs bytes b n h = ap longs (sym (take-append-drop n bytes) ∙ ap (λ l. l ++ drop n bytes) h.text) ∙ longs-bytes_of (block_text b) (drop n bytes) (block_longs b h.block)

-- as many bytes as its text has
pub front_size : (bytes : List ℕ) (b : BlockValue) (n : ℕ) → IsFrontBlock bytes b n → n ≡ length (bytes_of (block_text b))
front_size bytes b n h = omega (arith, ap length h.text, length-take n bytes)

-- there is one
pub front_same : (bytes : List ℕ) (a b : BlockValue) (n m : ℕ) → IsFrontBlock bytes a n → IsFrontBlock bytes b m → a ≡ b
front_same bytes a b n m h k = (block_same a b (longs (drop n bytes)) (longs (drop m bytes)) h.block k.block (sym (front_longs bytes a n h) ∙ front_longs bytes b m k)).0

-- ---- a block that is read

module _ (bytes : List ℕ) (h : BeginsWithSomeBlock bytes) where
  after : List ℕ
  after = longs (drop h.size bytes)

  stands : longs bytes ≡ block_text h.value ++ after
  unfolding after
  stands = front_longs bytes h.value h.size h.front

  pub word_there : 0 < length (longs bytes)
  word_there = omega (arith, ap length stands)

  -- its first longword
  pub word_read : (old mid : Unread) (word long : ℕ) → old.rest ≡ longs bytes → Reads old mid (long ∷ []) → word ≡ long → longs bytes ≡ word ∷ mid.rest
  word_read old mid word long begins r e = sym begins ∙ r.front ∙ ap (λ w. w ∷ mid.rest) (sym e)

  -- `mid` is the reader after its word
  module _ (word : ℕ) (mid : Unread) (first : longs bytes ≡ word ∷ mid.rest) where
    cut_off : word ∷ mid.rest ≡ h.value.word ∷ (body_text h.value.body ++ after)
    cut_off = sym first ∙ stands

    same : h.value.word ≡ word
    same = let f = cut_off in cc

    fits : FitsWord word h.value.body
    fits = subst (λ (w : ℕ). FitsWord w h.value.body) same h.front.block.body

    pub body_there : BeginsWithSome (FitsWord word) body_text mid.rest
    body_there = let f = cut_off in record { value = h.value.body; is = fits; more = after; begins = cc }

    -- and `new` the one after its body
    module _ (new : Unread) (body : BlockBody) (r : ReadsValue (body_cut word) mid new body) where
      both : cut h.value.body after ≡ cut body new.rest
      unfolding body_there after
      both = sym (ap (body_cut word) body_there.begins ∙ body_cut_is word h.value.body after fits) ∙ r.spelled

      block_is : h.value ≡ block word body
      block_is = ap₂ (λ (w : ℕ) (b : BlockBody). block w b) same (ap (λ (c : Cut BlockBody). c.value) both)

      pub read_is_block : IsBlock (block word body)
      read_is_block = subst IsBlock block_is h.front.block

      pub read_in_front : IsFrontBlock bytes (block word body) (length (bytes_of (block_text (block word body))))
      read_in_front = let front = subst (λ (b : BlockValue). IsFrontBlock bytes b h.size) block_is h.front in subst (IsFrontBlock bytes (block word body)) (front_size bytes (block word body) h.size front) front

      pub read_size : (start : ℕ) → mid.place ≡ start + 4 → new.place ≡ start + length (bytes_of (block_text (block word body)))
      read_size start e =
          omega (
            arith,
            e,
            r.further,
            ap length first,
            ap length stands,
            length-append (block_text h.value) after,
            ap (λ (c : Cut BlockBody). length c.rest) both,
            ap (λ (b : BlockValue). length (block_text b)) block_is,
            length-bytes_of (block_text (block word body)),
          )

-- ---- no block

pub no_block : (mode : Mode) (bytes : List ℕ) → ((b : BlockValue) → IsBlock b → IsOfMode mode b → (more : List ℕ) → longs bytes ≡ block_text b ++ more → ⊥) → BeginsWithNoBlock mode bytes
unfolding BeginsWithNoBlock
no_block mode bytes none b is m rest e = none b is m (longs rest) (ap longs e ∙ longs-bytes_of (block_text b) rest (block_longs b is))
