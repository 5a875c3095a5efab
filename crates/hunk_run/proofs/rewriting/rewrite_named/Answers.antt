use Rattle.std.proofs.Common.{rules, ◌≡◌, ℕ, Result, Ok, Err}
use Rattle.std.specs.Prelude.{IfErr}
use Rattle.hunk_commands.specs.declared.fault.RunFault.{RunFault}
use Rattle.hunk_commands.specs.declared.fault.RunFault.TheVariants.{Write}
use Rattle.hunk_run.proofs.rewriting.rewrite_named.Goals as goal

-- what is known after a fault of writing
after_write : {T : Type 0} (answer : Result T RunFault) (Known Holds : ℕ → Type 0) → ((written : ℕ) → Known written → Holds written) →
    IfErr answer (λ fault. (written : ℕ) → fault ≡ Write written → Known written) → IfErr answer (λ fault. (written : ℕ) → fault ≡ Write written → Holds written)
after_write (Ok value) Known Holds holds known = tt
after_write (Err fault) Known Holds holds known = λ written is. holds written (known written is)

pub returns-clause-answers : goal.returns-clause-answers
returns-clause-answers g c = record {
  rewrites = search rules;
  write = after_write c.rewrite_to-store.result.1 _ _ (λ written reads. search rules) c.rewrite_to-store.ensures.write;
  untouched = search rules;
  stops = search rules;
  of_system = search rules;
  succeeds = search rules;
}
