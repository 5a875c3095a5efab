-- The part of a file at the place where it is refused.
use Rattle.std.proofs.Common.{◌≡◌, ℕ, ◌*◌, ◌/◌, List, take, sym, ap, subst, ◌∙◌, arith}
use Rattle.hunk_words.specs.Longs.{longs}
use Rattle.hunk_words.specs.{declared.fault.Fault.Fault, declared.reason.Reason.Reason}
use Rattle.hunk_grammar.specs.declared.file_kind.Sniff.{Sniff}
use Rattle.hunk_grammar.specs.declared.file_kind.Sniff.TheVariants as sniffs
use Rattle.hunk_files.specs.FileParts.{IsPartAt, fault_at}
use Rattle.hunk_files.specs.{declared.part.Part.Part, declared.refusal.Refusal.Refusal}
use Rattle.hunk_files.proofs.parts.OneUnitPart as units
use Rattle.hunk_files.proofs.parts.TextPlaces as hunks

-- The fault at this longword is that of the refusal, and so is the part that it is of.
pub refuses : (HasFault : ℕ → Reason → Type 0) (IsPart : List ℕ → Part → Type 0) (ws : List ℕ) (at : ℕ) (reason : Reason) (part : Part) (r : Refusal) → r.fault ≡ fault_at (4 * at) reason → r.part ≡ part → HasFault (4 * at) reason → IsPart (take at ws) part →
    HasFault r.fault.place r.fault.reason × IsPart (take (r.fault.place / 4) ws) r.part
refuses HasFault IsPart ws at reason part r fault part_is has is =
    let count : at ≡ 4 * at / 4 = omega arith in
    let before : take at ws ≡ take (r.fault.place / 4) ws = ap (λ (n : ℕ). take n ws) count ∙ ap (λ (f : Fault). take (f.place / 4) ws) (sym fault) in
    (subst (λ (f : Fault). HasFault f.place f.reason) (sym fault) has, subst (IsPart (take (r.fault.place / 4) ws)) (sym part_is) (subst (λ (xs : List ℕ). IsPart xs part) before is))

-- The place names one part alone.
pub one_part : (kind : Sniff) (bytes : List ℕ) (place : ℕ) (a b : Part) → IsPartAt kind bytes place a → IsPartAt kind bytes place b → a ≡ b
one_part sniffs.Object bytes place a b = units.one_part (take (place / 4) (longs bytes)) a b
one_part sniffs.Load bytes place a b = hunks.one_part (take (place / 4) (longs bytes)) a b
one_part sniffs.Library bytes place a b = hunks.one_part (take (place / 4) (longs bytes)) a b
one_part sniffs.Other bytes place a b = hunks.one_part (take (place / 4) (longs bytes)) a b
