use Rattle.std.proofs.Common.{◌≡◌, ℕ, List, Result, Ok, Err, inl, inr, false, refl, sym, subst, append_assoc}
use Rattle.std.specs.Prelude.{IfOk, String}
use Rattle.std.specs.String.{string_bytes}
use Rattle.std.specs.declared.alloc.AllocError.{AllocError}
use Rattle.std.specs.declared.alloc.Global.{Global}
use Rattle.hunk_command_line.specs.Asked.{IsLineOf, IsMemoryOr}
use Rattle.hunk_command_line.specs.FaultTexts.{told_fault, unwanted_text}
use Rattle.hunk_command_line.specs.declared.asked.OrderFault.{OrderFault}
use Rattle.hunk_command_line.proofs.line.unwanted.Goals as goal

says : (why : List ℕ) (text : Result (String Global) AllocError) → IfOk text (λ s. string_bytes s ≡ why) → IsMemoryOr (IsLineOf why) (told_fault text false)
says why (Ok text) is = inr is
says why (Err error) is = inl refl

pub returns : goal.returns
returns c =
    let why = unwanted_text c.args.word.now c.args.place.now c.args.wanted.now in
    subst (λ (fault : OrderFault). IsMemoryOr (IsLineOf why) fault) (sym c.told.ensures) (says why c.format-text.result (simp append_assoc c.format-text.ensures.ok))
