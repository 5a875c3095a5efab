use Rattle.std.proofs.Common.{inl}
use Rattle.hunk_commands.proofs.IncomingLaws.{of_err}
use Rattle.hunk_commands.proofs.incoming.keep_object.Goals as goal

pub returns-in_err-extend_from_slice-clause-wants : goal.returns-in_err-extend_from_slice-clause-wants
returns-in_err-extend_from_slice-clause-wants c = of_err _ c.from_residual.result (λ _. inl c.requires.announced)

pub returns-in_err-take-clause-wants : goal.returns-in_err-take-clause-wants
returns-in_err-take-clause-wants c = of_err _ c.from_residual-in_err-take.result (λ _. inl c.requires.announced)
