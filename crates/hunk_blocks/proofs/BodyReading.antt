-- What stands after a block word, by the kind of the block.
use Rattle.std.proofs.Common.{rules, ◌≡◌, ℕ, ◌+◌, Bool, true, false, ◌^◌, List, ◌++◌, sym, ap, subst, ◌∙◌, arith}
use Rattle.std.specs.Prelude.{IsTrue, ⊤}
use Rattle.hunk_words.specs.{declared.block_word.Kind.Kind, Bits.{is_relocation, kind}}
use Rattle.hunk_blocks.specs.{declared.body_view.BodyView.BodyView, Begins.LacksItemAt, BodyViews.{EndsListItemAt, HasListAt, viewed}, Placed.Placed}
use Rattle.hunk_blocks.specs.Parts.{counted_text, sized_text, group_text, ext_text, symbol_text, body_text, text_of}
use Rattle.hunk_blocks.specs.BlockSteps.{ForBss, AtCount, AtSize, AtGroup, AtExtWord, AtEntry, BlockNext, Open, begin_body}
use Rattle.hunk_blocks.specs.Reading.{BeginsWithSome, BeginsWithList}
use Rattle.hunk_blocks.specs.Values.{BlockBody, BlockValue, Name, Code, Data, Bss, Reloc, Ext, Symbol, Advisory, End, IsPayload, IsSized, IsGroup, IsExtEntry, IsSymbolEntry, FitsWord}
use Rattle.hunk_blocks.proofs.{BlockText.{begin_relocation, begin_unknown}, PartTexts.body_text_is}

-- by where a block of its kind begins
abbrev pub StandsAfter : BlockNext → List ℕ → Type 0
StandsAfter (Open (AtCount c)) rest = BeginsWithSome (IsPayload (2 ^ 32)) counted_text rest
StandsAfter (Open (AtSize ForBss)) rest = ⊤
StandsAfter (Open (AtSize s)) rest = BeginsWithSome IsSized sized_text rest
StandsAfter (Open (AtGroup groups)) rest = BeginsWithList IsGroup group_text rest
StandsAfter (Open (AtExtWord entries)) rest = BeginsWithList IsExtEntry ext_text rest
StandsAfter (Open (AtEntry entries)) rest = BeginsWithList IsSymbolEntry symbol_text rest
StandsAfter _ rest = ⊤

-- a count and a payload come next
abbrev pub is_counted : BlockNext → Bool
is_counted (Open (AtCount c)) = true
is_counted _ = false

module _ (word : ℕ) (rest : List ℕ) (b : BeginsWithSome (FitsWord word) body_text rest) where
  stands : (body : BlockBody) → FitsWord word body → rest ≡ text_of body ++ b.more → StandsAfter (begin_body (kind word)) rest
  stands (Name ws) h e = rw h.0 (record { value = ws; is = (omega (arith, h.1.0), h.1.1); more = b.more; begins = e })
  stands (Code top ws) h e = rw h.0 (record { value = (top, ws); is = (h.1, h.2); more = b.more; begins = e })
  stands (Data top ws) h e = rw h.0 (record { value = (top, ws); is = (h.1, h.2); more = b.more; begins = e })
  stands (Bss size) h e = rw h.0 tt
  stands (Reloc gs) h e = rw (begin_relocation (kind word) h.0) (record { value = gs; is = h.1; more = b.more; begins = e })
  stands (Ext es) h e = rw h.0 (record { value = es; is = h.1; more = b.more; begins = e })
  stands (Symbol es) h e = rw h.0 (record { value = es; is = h.1; more = b.more; begins = e })
  stands (Advisory ws) h e = rw (begin_unknown (kind word) h.0) (record { value = ws; is = h.2; more = b.more; begins = e })
  stands End h e = rw h tt
  stands _ h e = rw h.0 (record { value = _; is = h.1; more = b.more; begins = e })

  pub body_stands : (k : Kind) → k ≡ kind word → StandsAfter (begin_body k) rest
  body_stands k same = subst (λ j. StandsAfter (begin_body j) rest) (sym same) (stands b.value b.is (b.begins ∙ ap (λ l. l ++ b.more) (body_text_is b.value)))

  pub counted_stands : (k : Kind) → k ≡ kind word → IsTrue (is_counted (begin_body k)) → BeginsWithSome (IsPayload (2 ^ 32)) counted_text rest
  counted_stands k same counted = search (rules, body_text_is)

  pub groups_stand : (k : Kind) → k ≡ kind word → IsTrue (is_relocation k) → BeginsWithList IsGroup group_text rest
  groups_stand k same h = subst (λ (n : BlockNext). StandsAfter n rest) (begin_relocation k h) (body_stands k same)

-- ---- what no memory was found for

-- an item of the list is one of the block
pub lacks_item : (b : Placed BlockValue) (body : BodyView) (at : ℕ) → viewed body ≡ b.value.body → HasListAt (b.place + 4) body → EndsListItemAt body at → LacksItemAt b at
lacks_item b body at same begins e = search rules
