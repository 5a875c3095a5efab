use Rattle.std.proofs.Common.{sym, ◌∙◌, arith}
use Rattle.hunk_wide.proofs.{Counted.same_input, Fronts.{file_counts, front_counts, front_fits}}
use Rattle.hunk_wide.proofs.spelling.spelling_of.Goals as goal

pub returns-then-is_file_end-clause-len : goal.returns-then-is_file_end-clause-len
returns-then-is_file_end-clause-len c =
    let front = c.front_at-front in
    sym (file_counts _ _ c.args.bytes.now front.result.size front.ensures.inside front.ensures.as_is (c.is_file_end.ensures c.if-is_file_end.true)).0

pub returns-then-is_file_end-clause-short_blocks : goal.returns-then-is_file_end-clause-short_blocks
returns-then-is_file_end-clause-short_blocks c =
    let front = c.front_at-front in
    sym (file_counts _ _ c.args.bytes.now front.result.size front.ensures.inside front.ensures.as_is (c.is_file_end.ensures c.if-is_file_end.true)).1

pub returns-then-is_file_end-clause-ends : goal.returns-then-is_file_end-clause-ends
returns-then-is_file_end-clause-ends c =
    let front = c.front_at-front in
    sym (file_counts _ _ c.args.bytes.now front.result.size front.ensures.inside front.ensures.as_is (c.is_file_end.ensures c.if-is_file_end.true)).2

pub returns-then-is_file_end-clause-same : goal.returns-then-is_file_end-clause-same
returns-then-is_file_end-clause-same c =
    let front = c.front_at-front in
    let counts = file_counts _ _ c.args.bytes.now front.result.size front.ensures.inside front.ensures.as_is (c.is_file_end.ensures c.if-is_file_end.true) in
    λ short end. same_input c.args.bytes.now counts.1 counts.2

pub spelling_from-behind-requires : goal.spelling_from-behind-requires
spelling_from-behind-requires c =
    let front = c.front_at-front in
    omega (arith, front_fits _ c.args.bytes.now front.result.size front.ensures.inside front.ensures.as_is)

pub overflow_add-result : goal.overflow_add-result
overflow_add-result c =
    let front = c.front_at-front in
    omega (arith, front_fits _ c.args.bytes.now front.result.size front.ensures.inside front.ensures.as_is, c.spelling_from-behind.ensures.len)

pub returns-clause-same : goal.returns-clause-same
returns-clause-same c =
    let front = c.front_at-front in
    let behind = c.spelling_from-behind.ensures in
    let counts = front_counts _ _ c.args.bytes.now front.result.size front.ensures.inside front.ensures.as_is in
    λ short end. same_input c.args.bytes.now (counts.1 ∙ sym behind.short_blocks ∙ short) (counts.2 ∙ sym behind.ends ∙ end)

pub returns-clause-bound : goal.returns-clause-bound
returns-clause-bound c =
    let front = c.front_at-front in
    omega (arith, front_fits _ c.args.bytes.now front.result.size front.ensures.inside front.ensures.as_is, c.spelling_from-behind.ensures.len)
