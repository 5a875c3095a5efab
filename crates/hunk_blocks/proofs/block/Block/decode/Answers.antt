use Rattle.std.proofs.Common.{◌∙◌, sym, ap, subst}
use Rattle.std.specs.Prelude.{IsTrue}
use Rattle.std.proofs.lemmas.Result.{IfOk-weaker, IfErr-weaker}
use Rattle.hunk_words.specs.declared.fault.Fault.{Fault}
use Rattle.hunk_blocks.specs.Modes.{is_block_refusal}
use Rattle.hunk_blocks.proofs.BlockWhole.{begins_with, err_is, fault_other, fault_own, first_fault, lacks_of_mode, no_fault, some_begins}
use Rattle.hunk_blocks.proofs.{ListReading.{if_err, if_err_and}, OneBlockFault.{no_block, one_fault}}
use Rattle.hunk_blocks.proofs.block.Block.decode.Goals as goal

-- ---- a fault

pub returns-in_err-walk_block-clause-none : goal.returns-in_err-walk_block-clause-none
returns-in_err-walk_block-clause-none c =
    let f = c.in_err-walk_block.field-0.0 in
    if_err c.from_residual.result _ (λ fault other. no_block c.args.mode c.args.bytes.now f.place f.reason c.in_err-walk_block.ensures)

pub returns-in_err-walk_block-clause-own_reasons : goal.returns-in_err-walk_block-clause-own_reasons
returns-in_err-walk_block-clause-own_reasons c =
    let f = c.in_err-walk_block.field-0.0 in
    if_err_and c.from_residual.result _ _ c.from_residual.ensures.1
    (λ fault same. subst (λ (g : Fault). IsTrue (is_block_refusal g.reason)) (sym same) (fault_own c.args.mode c.args.bytes.now f.place f.reason c.in_err-walk_block.ensures))

pub returns-in_err-walk_block-clause-memory : goal.returns-in_err-walk_block-clause-memory
returns-in_err-walk_block-clause-memory c =
    let f = c.in_err-walk_block.field-0.0 in
    if_err_and c.from_residual.result _ _ c.from_residual.ensures.1
    (λ fault same memory. absurd (fault_other c.args.mode c.args.bytes.now f.place f.reason c.in_err-walk_block.ensures (ap (λ (g : Fault). g.reason) (sym same) ∙ memory)))

pub returns-in_err-walk_block-clause-first_word : goal.returns-in_err-walk_block-clause-first_word
returns-in_err-walk_block-clause-first_word c reason some refused =
    let f = c.in_err-walk_block.field-0.0 in
    let one = one_fault c.args.mode c.args.bytes.now f.place 0 f.reason reason c.in_err-walk_block.ensures (first_fault c.args.mode c.args.bytes.now reason some refused) in
    err_is c.from_residual.result f 0 reason c.from_residual.ensures.1 one.0 one.1

-- ---- a block, for which memory may be refused

pub returns-clause-first_word : goal.returns-clause-first_word
returns-clause-first_word c reason some refused =
    absurd (no_fault c.args.mode c.args.bytes.now c.in_ok-walk_block.field-0 c.in_ok-walk_block.ensures 0 reason (first_fault c.args.mode c.args.bytes.now reason some refused))

pub read-requires : goal.read-requires
read-requires c = some_begins c.args.mode c.args.bytes.now c.in_ok-walk_block.field-0 c.in_ok-walk_block.ensures

pub returns-clause-memory : goal.returns-clause-memory
returns-clause-memory c = IfErr-weaker c.read.result _ _ (λ f lacks memory. lacks_of_mode c.args.mode c.args.bytes.now c.in_ok-walk_block.field-0 c.in_ok-walk_block.ensures f.place lacks) c.read.ensures.place

pub returns-clause-block : goal.returns-clause-block
returns-clause-block c = IfOk-weaker c.read.result _ _ (λ r front. begins_with c.args.mode c.args.bytes.now c.in_ok-walk_block.field-0 c.in_ok-walk_block.ensures r.0 r.1 front) c.read.ensures.block
