-- The reasons that an object file is refused for.
use Rattle.std.proofs.Common.{rules, ◌≡◌, ◌≢◌, ℕ, ◌/◌, ◌^◌, Bool, true, false, cond, List, refl, sym, ap, ◌∙◌, Option, Some, None, inl, inr}
use Rattle.std.specs.Prelude.{IsTrue, ◌&&◌, nat_lt, is_some}
use Rattle.std.proofs.lemmas.Bool.{and_parts}
use Rattle.hunk_words.specs.{Limits.name_limit, declared.reason.Reason.Reason}
use Rattle.hunk_words.specs.declared.reason.Reason.TheVariants as reasons
use Rattle.hunk_grammar.specs.{ExtKinds.ext_kind, BlockParts.Part as parts}
use Rattle.hunk_files.specs.ObjectFile.{is_object_refusal}
use Rattle.hunk_grammar.specs.ObjectRoles.{ObjectRole, WordAt, UnitCount, Within, refuse_object}
use Rattle.hunk_files.specs.ObjectFault.{HasObjectFault}
use Rattle.hunk_blocks.proofs.Admitted.{not_for_memory, other_than_memory}

-- the reason is one of an object file, and not that of memory
abbrev own_test : Option Reason → Bool
own_test (Some reason) = is_object_refusal reason && not_for_memory (Some reason)
own_test None = true

chosen_own : (b : Bool) (x y : Option Reason) → own_test x ≡ true → own_test y ≡ true → own_test (cond b x y) ≡ true
chosen_own true x y h k = h
chosen_own false x y h k = k

refusal_own : (role : ObjectRole) (w : ℕ) → own_test (refuse_object role w) ≡ true
refusal_own (WordAt place) w = search rules
refusal_own UnitCount w = chosen_own (nat_lt w name_limit) None (Some reasons.NameWord) refl refl
refusal_own (Within parts.NameCount) w = chosen_own (nat_lt w name_limit) None (Some reasons.NameWord) refl refl
refusal_own (Within parts.ExtWord) w = chosen_own (is_some (ext_kind (w / 2 ^ 24))) None (Some reasons.ExtKind) refl refl
refusal_own _ w = refl

own : (bytes : List ℕ) (at : ℕ) (reason : Reason) → HasObjectFault bytes at reason → own_test (Some reason) ≡ true
own bytes at reason (inl h) = ap own_test (sym h.refuses) ∙ refusal_own h.role h.word
own bytes at reason (inr h) = ap (λ (r : Reason). own_test (Some r)) h.0

pub fault_own : (bytes : List ℕ) (at : ℕ) (reason : Reason) → HasObjectFault bytes at reason → IsTrue (is_object_refusal reason)
fault_own bytes at reason h = (and_parts _ _ (own bytes at reason h)).0

pub fault_other : (bytes : List ℕ) (at : ℕ) (reason : Reason) → HasObjectFault bytes at reason → reason ≢ reasons.OutOfMemory
fault_other bytes at reason h = other_than_memory (Some reason) reason (and_parts _ _ (own bytes at reason h)).1 refl
