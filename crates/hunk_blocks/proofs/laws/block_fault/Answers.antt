use Rattle.hunk_blocks.proofs.{BlockOutcome.some_outcome, OneBlockFault.{one_fault, no_block, not_truncated}}
use Rattle.hunk_blocks.proofs.laws.block_fault.Goals as goal

pub returns-clause-one : goal.returns-clause-one
returns-clause-one c = one_fault

pub returns-clause-none : goal.returns-clause-none
returns-clause-none c = no_block

pub returns-clause-some : goal.returns-clause-some
returns-clause-some c = some_outcome

pub returns-clause-not_truncated : goal.returns-clause-not_truncated
returns-clause-not_truncated c = not_truncated
