-- What has been printed of a block's parts, when their longwords and names were printed.
use Rattle.std.proofs.Common.{rules, ◌≡◌, ℕ, ◌/◌, ◌^◌, List, [], ◌∷◌, ◌++◌, length, sym, ap, ◌∙◌, append_assoc, append-nil, Option}
use Rattle.hunk_words.specs.Longs.{bytes_of}
use Rattle.hunk_words.proofs.LongLaws.{bytes_of-nil, bytes_of-append}
use Rattle.hunk_blocks.specs.declared.body.Body.{Body}
use Rattle.hunk_grammar.specs.{declared.ext_shape.ExtShape.ExtShape, ExtKinds.ext_shape}
use Rattle.hunk_blocks.specs.{Entries.shaped_text, Values.{BlockBody, BlockValue, ExtEntry}}
use Rattle.hunk_blocks.specs.{Parts.{block_text, body_text, ext_text, group_text, symbol_text, text_of}, Views.body_of}
use Rattle.hunk_blocks.proofs.PartTexts.{body_text_is, group_text_is, symbol_text_is, ext_text_is}

-- longwords, and then others
pub words_printed : (xs ys old mid new : List ℕ) → mid ≡ old ++ bytes_of xs → new ≡ mid ++ bytes_of ys → new ≡ old ++ bytes_of (xs ++ ys)
words_printed xs ys old mid new first then = search (rules, append_assoc, bytes_of-append)

-- one longword, and then others
pub word_printed : (word n : ℕ) (words old mid new : List ℕ) → n ≡ word → mid ≡ old ++ bytes_of (n ∷ []) → new ≡ mid ++ bytes_of words → new ≡ old ++ bytes_of (word ∷ words)
word_printed word n words old mid new is first then = words_printed (word ∷ []) words old mid new (first ∙ ap (λ w. old ++ bytes_of (w ∷ [])) is) then

pub group_printed : (target n : ℕ) (offsets old a b new : List ℕ) → n ≡ length offsets → a ≡ old ++ bytes_of (n ∷ []) → b ≡ a ++ bytes_of (target ∷ []) → new ≡ b ++ bytes_of offsets →
    new ≡ old ++ bytes_of (group_text (record { target = target; offsets = offsets }))
group_printed target n offsets old a b new count first second third = search (rules, word_printed, group_text_is)

pub symbol_printed : (word value : ℕ) (name old a b new : List ℕ) → a ≡ old ++ bytes_of (word ∷ []) → b ≡ a ++ bytes_of name → new ≡ b ++ bytes_of (value ∷ []) →
    new ≡ old ++ bytes_of (symbol_text (record { word = word; name = name; value = value }))
symbol_printed word value name old a b new first second third = search (rules, word_printed, words_printed, symbol_text_is)

-- of an entry, what stands after the name by its shape is last
pub entry_printed : (s : Option ExtShape) (e : ExtEntry) (old a b new : List ℕ) → ext_shape (e.word / 2 ^ 24) ≡ s → a ≡ old ++ bytes_of (e.word ∷ []) → b ≡ a ++ bytes_of e.name →
    new ≡ b ++ bytes_of (shaped_text s (e.value, e.offsets)) → new ≡ old ++ bytes_of (ext_text e)
entry_printed s e old a b new shape first second third = search (rules, word_printed, words_printed, ext_text_is)

-- a body that is known
pub body_printed : (body known : Body) (old new : List ℕ) → body ≡ known → new ≡ old ++ bytes_of (text_of (body_of known)) → new ≡ old ++ bytes_of (body_text (body_of body))
body_printed body known old new is printed = search (rules, body_text_is)

pub no_bytes : (old : List ℕ) → old ≡ old ++ bytes_of []
no_bytes old = sym (ap (λ l. old ++ l) bytes_of-nil ∙ append-nil old)

-- the word of a block, and its body
pub block_printed : (word n : ℕ) (body : BlockBody) (b : BlockValue) (old mid new : List ℕ) → record { word = word; body = body } ≡ b → n ≡ word → mid ≡ old ++ bytes_of (n ∷ []) →
    new ≡ mid ++ bytes_of (body_text body) → new ≡ old ++ bytes_of (block_text b)
block_printed word n body b old mid new view is first then = word_printed word n (body_text body) old mid new is first then ∙ ap (λ v. old ++ bytes_of (block_text v)) view
