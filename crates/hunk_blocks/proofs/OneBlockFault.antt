-- Bytes have one fault as a block, and none where they begin with one.
use Rattle.std.proofs.Common.{rules, ◌≡◌, ◌≢◌, ℕ, List, [], ◌∷◌, ◌++◌, refl, ap, ◌∙◌, Option, Some, None, inl, inr}
use Rattle.hunk_words.specs.{declared.reason.Reason.Reason, Bits.kind, Longs.longs}
use Rattle.hunk_words.proofs.LongLaws.{longs-bytes_of}
use Rattle.hunk_grammar.specs.{declared.mode.Mode.Mode, BlockParts.{Part, Part as parts}, Modes.refuse_inside}
use Rattle.hunk_blocks.specs.{Values.{BlockValue, IsBlock}, Parts.{body_parts, block_parts}}
use Rattle.hunk_blocks.specs.{Begins.BeginsWithNoBlock, Faults.{Expects, HasBlockFault, HasRefusal, IsFront, IsTruncatedBlock, blocks, refuse_alone}}
use Rattle.hunk_blocks.specs.BlockSteps.{Inside, BlockNext, Open, Whole, part_of, step_inside, begin_body, Follows}
use Rattle.hunk_blocks.proofs.{Admitted.word_passes, BlockLongs.block_longs, BlockText.body_follows}
use Rattle.hunk_blocks.proofs.FaultScan.{Machine, Leads, Passes, Reads, none_goes_on, one_fault as one_of, front_passes, whole_passes}
pub use Rattle.hunk_blocks.proofs.BlockLongs.{PartsPass, body_passes}

-- ---- the machine of a block that stands alone

pub data Alone : Type 0 where
  AtWord : Alone
  After : BlockNext → Alone

abbrev pub expects : Alone → Option Part
expects AtWord = Some parts.BlockWord
expects (After (Open x)) = Some (part_of x)
expects (After (Whole b)) = None

abbrev pub step : Alone → ℕ → Alone
step AtWord w = After (begin_body (kind w))
step (After (Open x)) w = After (step_inside x w)
step (After (Whole b)) w = After (Whole b)

abbrev pub alone : Machine Alone Part
alone = record { start = AtWord; expects = expects; step = step }

follows_leads : (n end : BlockNext) (ps : List (Part × ℕ)) → Follows n ps end → Leads alone (After n) ps (After end)
follows_leads n end [] h = ap (λ (x : BlockNext). After x) h
follows_leads (Open x) end (p ∷ ps) h = (ap (λ (part : Part). Some part) h.0, follows_leads (step_inside x p.1) end ps h.1)
follows_leads (Whole b) end (p ∷ ps) h = absurd h

-- no longword after the block word is one
pub part_not_word : (x : Inside) → part_of x ≢ parts.BlockWord
part_not_word x e = search rules

pub alone_inside : (mode : Mode) (part : Part) (w : ℕ) → part ≢ parts.BlockWord → refuse_alone mode part w ≡ refuse_inside part w
alone_inside mode part w ne = search rules

alone_passes : (mode : Mode) (ps : List (Part × ℕ)) → PartsPass ps → Passes alone (refuse_alone mode) ps
alone_passes mode [] h = tt
alone_passes mode (p ∷ ps) h = (alone_inside mode p.0 p.1 h.0.0 ∙ h.0.1, alone_passes mode ps h.1)

pub block_leads : (b : BlockValue) → IsBlock b → Leads alone AtWord (block_parts b) (After (Whole b.body))
block_leads b is = (refl, follows_leads (begin_body (kind b.word)) (Whole b.body) (body_parts b.body) (body_follows b.word b.body is.body))

pub block_reads : (mode : Mode) → Reads (blocks mode) alone
block_reads mode =
    record {
      end = λ b. After (Whole b.body);
      leads = λ b h. block_leads b h.0;
      passes = λ b h. (word_passes mode b h.0 h.1, alone_passes mode (body_parts b.body) (body_passes b.word b.body h.0.body));
    }

-- ---- the laws

pub not_truncated : (mode : Mode) (bytes : List ℕ) (at : ℕ) (reason : Reason) (at2 : ℕ) → HasRefusal (blocks mode) (longs bytes) at reason → IsTruncatedBlock mode bytes at2 → ⊥
not_truncated mode bytes at reason at2 h k = front_passes (blocks mode) alone (block_reads mode) (longs bytes) at reason h k.front

pub no_block_goes_on : (mode : Mode) (before : List ℕ) (role : Part) (word : ℕ) (reason : Reason) → Expects (blocks mode) before role → refuse_alone mode role word ≡ Some reason → IsFront (blocks mode) (before ++ word ∷ []) → ⊥
no_block_goes_on mode = none_goes_on (blocks mode) alone (block_reads mode)

pub one_fault : (mode : Mode) (bytes : List ℕ) (at at2 : ℕ) (reason reason2 : Reason) → HasBlockFault mode bytes at reason → HasBlockFault mode bytes at2 reason2 → (at ≡ at2) × (reason ≡ reason2)
one_fault mode bytes = one_of (blocks mode) alone (block_reads mode) (longs bytes) (IsTruncatedBlock mode bytes) (λ at t. (t.place, t.front))

pub no_block : (mode : Mode) (bytes : List ℕ) (at : ℕ) (reason : Reason) → HasBlockFault mode bytes at reason → BeginsWithNoBlock mode bytes
unfolding BeginsWithNoBlock block_reads
no_block mode bytes at reason (inl h) b is of_mode rest e =
    whole_passes (blocks mode) alone (block_reads mode) b (is, of_mode) refl (longs bytes) (longs rest) at reason (ap longs e ∙ longs-bytes_of _ rest (block_longs b is)) h
no_block mode bytes at reason (inr h) b is of_mode rest e = h.1.not_whole b is of_mode rest e
