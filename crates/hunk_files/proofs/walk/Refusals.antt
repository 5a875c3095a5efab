-- The reasons that a longword of a load file can be refused for.
use Rattle.std.proofs.Common.{rules, ◌≡◌, ◌≢◌, ℕ, ◌+◌, Bool, true, false, cond, List, Some, None, Option, refl, sym, subst, ◌∙◌, ◌==◌, inl, inr}
use Rattle.std.specs.Prelude.{IfSome, IsTrue, nat_lt}
use Rattle.hunk_words.specs.{declared.block_word.Kind.Kind, declared.reason.Reason.Reason}
use Rattle.hunk_words.specs.Bits.{has_both_bits, size_longs, is_advisory, kind}
use Rattle.hunk_words.specs.declared.block_word.Kind.TheVariants as kinds
use Rattle.hunk_words.specs.declared.reason.Reason.TheVariants as reasons
use Rattle.hunk_grammar.specs.BlockParts.{Part, Part as parts}
use Rattle.hunk_grammar.specs.Roles.{Place, Role, Role as roles, InBlock, refuse, refuse_kind, refuse_part}
use Rattle.hunk_files.specs.Fault.{HasRefusal, HasFault, is_word_refusal, is_load_refusal}

abbrev pub IsWordRefusal : Reason → Type 0
IsWordRefusal reason = IsTrue (is_word_refusal reason)

-- none, or for a reason of a longword
abbrev AreOfWord : Option Reason → Type 0
AreOfWord o = IfSome o IsWordRefusal

chosen : (b : Bool) (x y : Option Reason) → AreOfWord x → AreOfWord y → AreOfWord (cond b x y)
chosen true x y h k = h
chosen false x y h k = k

refused_kind : (has_content advisory : Bool) (k : Kind) → AreOfWord (refuse_kind has_content advisory k)
refused_kind h a kinds.Unit = refl
refused_kind true true _ = first_of (cc, assumption)
refused_kind true false _ = first_of (cc, assumption)
refused_kind false true _ = first_of (cc, assumption)
refused_kind false false _ = first_of (cc, assumption)

refused_part : (p : Place) (part : Part) (w : ℕ) → AreOfWord (refuse_part p part w)
refused_part p parts.BlockWord w = chosen (has_both_bits w) (Some reasons.BothBits) _ refl (refused_kind p.has_content (is_advisory w) (kind w))
refused_part p parts.ContentSize w = chosen (nat_lt p.longs (size_longs w)) (Some reasons.ContentTooLong) None refl tt
refused_part p parts.NameCount w = chosen (nat_lt w 16777216) None (Some reasons.NameWord) tt refl
refused_part p parts.GroupCount w = chosen (w == 0) None _ tt (chosen (p.longs == 0) (Some reasons.NothingToRelocate) None refl tt)
refused_part p parts.Target w = chosen (nat_lt w p.hunks) None (Some reasons.BadTarget) tt refl
refused_part p parts.Offset w = chosen (nat_lt _ _) (Some reasons.BadOffset) None refl tt
refused_part p _ w = tt

refused_role : (r : Role) (w : ℕ) → AreOfWord (refuse r w)
refused_role roles.FirstLong w = search rules
refused_role roles.ResidentName w = chosen (w == 0) None (Some reasons.Resident) tt refl
refused_role roles.TableSize w = search rules
refused_role roles.FirstHunk w = chosen (w == 0) None (Some reasons.FirstHunk) tt refl
refused_role (roles.LastHunk hunks) w = chosen (w + 1 == hunks) None (Some reasons.LastHunk) tt refl
refused_role (InBlock p part) w = refused_part p part w
refused_role _ w = tt

pub refused_of_word : (r : Role) (w : ℕ) (reason : Reason) → refuse r w ≡ Some reason → IsWordRefusal reason
refused_of_word r w reason e = subst AreOfWord e (refused_role r w)

pub refusal_of_word : (bytes : List ℕ) (at : ℕ) (reason : Reason) → HasRefusal bytes at reason → IsWordRefusal reason
refusal_of_word bytes at reason h = refused_of_word h.role h.word reason h.refuses

of_load_file : (reason : Reason) → IsWordRefusal reason → IsTrue (is_load_refusal reason)
of_load_file reasons.Truncated h = refl
of_load_file reasons.OutOfMemory h = refl
of_load_file _ h = h

-- Each fault is one that a load file may be refused for.
pub fault_of_load : (bytes : List ℕ) (at : ℕ) (reason : Reason) → HasFault bytes at reason → IsTrue (is_load_refusal reason)
fault_of_load bytes at reason (inl h) = of_load_file reason (refusal_of_word bytes at reason h)
fault_of_load bytes at reason (inr h) = subst (λ (r : Reason). IsTrue (is_load_refusal r)) (sym h.0) refl

-- and none is out of memory
pub fault_not_memory : (bytes : List ℕ) (at : ℕ) (reason : Reason) → HasFault bytes at reason → reason ≢ reasons.OutOfMemory
fault_not_memory bytes at reason (inl h) e = let clash : false ≡ true = subst IsWordRefusal e (refusal_of_word bytes at reason h) in cc
fault_not_memory bytes at reason (inr h) e = let clash : reasons.Truncated ≡ reasons.OutOfMemory = sym h.0 ∙ e in cc
