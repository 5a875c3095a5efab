use Rattle.std.proofs.Common.{Result, ap, ◌∙◌}
use Rattle.hunk_parts.specs.declared.row_fault.BuiltSize.{BuiltSize}
use Rattle.hunk_parts.specs.declared.row_fault.NotBuilt.{NotBuilt}
use Rattle.hunk_c.specs.Building.{built_answer}
use Rattle.hunk_c.specs.declared.answer.Answer.{Answer}
use Rattle.hunk_c.proofs.build.hunk_build.Goals as goal

pub returns : goal.returns
returns c = record {
  outcome = record { result = c.build.result; builds = c.build.ensures.outcome; is = c.answer_of.ensures };
  succeeds = λ file are room. ap (λ (a : Answer). a.number) (c.answer_of.ensures ∙ ap (λ (r : Result BuiltSize NotBuilt). built_answer r) (c.build.ensures.succeeds file are room));
}
