use Rattle.std.proofs.Common.{◌∙◌, Option, ap, sym}
use Rattle.hunk_words.specs.{Bits.kind, declared.block_word.Kind.Kind, declared.reason.Reason.Reason}
use Rattle.hunk_grammar.specs.declared.mode.Mode.TheVariants as modes
use Rattle.hunk_grammar.specs.{Modes.refuse_alone_word, Standings.{first_of, refuse_standing, standing_of_kind}}
use Rattle.hunk_grammar.proofs.BlockWords.{word_split}
use Rattle.hunk_grammar.proofs.refusal.refuse_block_word.Goals as goal

pub returns-in-Some : goal.returns-in-Some
returns-in-Some c =
    let has = c.args.has_content in
    let w = c.args.word in
    let alone = sym (ap (refuse_alone_word modes.Load) c.of-block.ensures) ∙ sym c.refuse.ensures ∙ c.in-Some.is in
    sym (word_split has w ∙ ap (λ (r : Option Reason). first_of r (refuse_standing has (standing_of_kind (kind w)))) alone)

pub returns-in-None : goal.returns-in-None
returns-in-None c =
    let has = c.args.has_content in
    let w = c.args.word in
    let alone = sym (ap (refuse_alone_word modes.Load) c.of-block.ensures) ∙ sym c.refuse.ensures ∙ c.in-None.is in
    c.refuse_place.ensures ∙ ap (λ (k : Kind). refuse_standing has (standing_of_kind k)) (c.kind.ensures ∙ ap kind c.of-block.ensures)
    ∙ sym (word_split has w ∙ ap (λ (r : Option Reason). first_of r (refuse_standing has (standing_of_kind (kind w)))) alone)
