-- Bytes that begin with a block, and the reasons that others are refused for.
use Rattle.std.proofs.Common.{rules, ◌≡◌, ◌≢◌, ℕ, ◌≤◌, Bool, true, false, cond, List, [], ◌++◌, length, drop, sym, ap, subst, ◌∙◌, arith, Option, Some, None, inl, inr}
use Rattle.std.specs.Prelude.{IsTrue, Result, Err, IsErrAnd}
use Rattle.std.proofs.lemmas.List.{take-append-drop, drop_more}
use Rattle.hunk_words.specs.{declared.{reason.Reason.Reason, fault.Fault.Fault}, Longs.longs}
use Rattle.hunk_words.specs.declared.reason.Reason.TheVariants as reasons
use Rattle.hunk_words.proofs.LongLaws.{length-longs}
use Rattle.hunk_grammar.specs.{declared.mode.Mode.Mode, BlockParts.{Part, Part as parts}}
use Rattle.hunk_blocks.specs.Values.{BlockValue}
use Rattle.hunk_blocks.specs.{Modes.{IsOfMode, is_block_refusal}, Faults.{HasBlockFault, refuse_alone}}
use Rattle.hunk_grammar.specs.Modes.{refuse_alone_word}
use Rattle.hunk_blocks.specs.Begins.{BeginsWithBlock, BeginsWithNoBlock, HasBlockText, IsFrontBlock, BeginsWithSomeBlock, LacksItem, LacksItemOfMode, first_long}
use Rattle.hunk_grammar.specs.declared.mode.Mode.TheVariants as modes
use Rattle.hunk_blocks.proofs.{BodyFaults.expects_word, Decoding.front_same, OneBlockFault.no_block}

module _ (mode : Mode) (bytes : List ℕ) (size : ℕ) (h : HasBlockText mode bytes size) where
  front : IsFrontBlock bytes h.value size
  front = record { block = h.begins.block; text = h.begins.text; whole = h.begins.whole }

  pub no_fault : (at : ℕ) (reason : Reason) → HasBlockFault mode bytes at reason → ⊥
  unfolding BeginsWithNoBlock
  no_fault at reason f =
      no_block mode bytes at reason f h.value h.begins.block h.begins.of_mode (drop size bytes) (sym (take-append-drop size bytes) ∙ ap (λ l. l ++ drop size bytes) h.begins.text)

  pub some_begins : BeginsWithSomeBlock bytes
  some_begins = record { value = h.value; size = size; front = front }

  -- Whichever block they begin with is of the mode.
  of_mode : (b : BlockValue) (n : ℕ) → IsFrontBlock bytes b n → IsOfMode mode b
  of_mode b n f = subst (IsOfMode mode) (front_same bytes h.value b size n front f) h.begins.of_mode

  pub begins_with : (b : BlockValue) (n : ℕ) → IsFrontBlock bytes b n → BeginsWithBlock mode bytes b n
  begins_with b n f = record { block = f.block; of_mode = of_mode b n f; text = f.text; whole = f.whole }

  pub lacks_of_mode : (at : ℕ) → LacksItem bytes at → LacksItemOfMode mode bytes at
  lacks_of_mode at l = record { lacks = l; of_mode = of_mode l.value l.size l.front }

-- ---- reasons

-- what a longword may be refused for
abbrev is_word_reason : Mode → Reason → Bool
is_word_reason mode reasons.Truncated = false
is_word_reason mode reasons.OutOfMemory = false
is_word_reason modes.Object reasons.NotInLoadFile = false
is_word_reason mode reason = is_block_refusal reason

abbrev word_test : Mode → Option Reason → Bool
word_test mode (Some reason) = is_word_reason mode reason
word_test mode None = true

chosen : (mode : Mode) (b : Bool) (x y : Option Reason) → word_test mode x ≡ true → word_test mode y ≡ true → word_test mode (cond b x y) ≡ true
chosen mode b x y h k = search rules

refusal_test : (mode : Mode) (role : Part) (w : ℕ) → word_test mode (refuse_alone mode role w) ≡ true
refusal_test mode role w = search (rules, chosen)

own_of : (mode : Mode) (reason : Reason) → is_word_reason mode reason ≡ true → IsTrue (is_block_refusal reason)
own_of mode reason e = search rules

module _ (mode : Mode) (bytes : List ℕ) (at : ℕ) (reason : Reason) where
  pub fault_own : HasBlockFault mode bytes at reason → IsTrue (is_block_refusal reason)
  fault_own (inl f) = own_of mode reason (ap (word_test mode) (sym f.refuses) ∙ refusal_test mode f.role f.word)
  fault_own (inr f) = ap is_block_refusal f.0

  pub fault_other : HasBlockFault mode bytes at reason → reason ≢ reasons.OutOfMemory
  fault_other h m = search rules

-- the fault of a block word
pub first_fault : (mode : Mode) (bytes : List ℕ) (reason : Reason) → 4 ≤ length bytes → refuse_alone_word mode (first_long bytes) ≡ Some reason → HasBlockFault mode bytes 0 reason
first_fault mode bytes reason some e =
    inl (record {
      before = [];
      word = first_long bytes;
      after = drop 1 (longs bytes);
      role = parts.BlockWord;
      split = drop_more (longs bytes) 0 0 (omega (arith, some, length-longs bytes));
      place = omega arith;
      expects = expects_word mode;
      refuses = e;
    })

pub err_is : {T : Type 0} (r : Result T Fault) (f : Fault) (place : ℕ) (reason : Reason) → IsErrAnd r (λ e. e ≡ f) → f.place ≡ place → f.reason ≡ reason → r ≡ Err (record { place = place; reason = reason })
err_is r f place reason h p q = search rules
