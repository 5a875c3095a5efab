use Rattle.std.proofs.Common.{ltb, rules}
use Rattle.std.proofs.lemmas.{Bool.{ltb-true, ltb-false}, List.Sorted.{IsPartitionPoint-from_clause, IsPartitionedBy-ltb}}
use Rattle.hunk_lint.proofs.neighbours.below.Goals as goal

pub returns-clause-point : goal.returns-clause-point
returns-clause-point c =
    let parted = IsPartitionedBy-ltb (λ y. y) _ c.args.offset c.requires in
    let point = IsPartitionPoint-from_clause (λ y. ltb y c.args.offset) _ _ c.partition_point.ensures.partitioned parted (λ a r q k. search rules) in
    (λ k d from below. ltb-true _ _ (point.0 k d from below), λ k d from below. ltb-false _ _ (point.1 k d from below))
