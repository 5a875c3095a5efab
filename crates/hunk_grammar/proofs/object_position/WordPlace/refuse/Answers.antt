use Rattle.std.proofs.Common.{◌∙◌, ℕ, Bool, Option, cond, ap, sym}
use Rattle.std.proofs.lemmas.Bool.{ne_eqb}
use Rattle.hunk_words.specs.{Bits.{kind, unit_word}, declared.reason.Reason.Reason}
use Rattle.hunk_grammar.specs.declared.mode.Mode.TheVariants as modes
use Rattle.hunk_grammar.specs.{Modes.refuse_alone_word, ObjectRoles.refuse_unit, ObjectPositions.refuse_place, Standings.{first_of, standing_of_kind}}
use Rattle.hunk_grammar.proofs.ObjectWords.{word_split}
use Rattle.hunk_grammar.proofs.object_position.WordPlace.refuse.Goals as goal

pub returns-else-word-eq-UNIT_WORD : goal.returns-else-word-eq-UNIT_WORD
returns-else-word-eq-UNIT_WORD c =
    let place = c.args.self in
    let of_block : ℕ → Option Reason = λ w. first_of (refuse_alone_word modes.Object w) (refuse_place place (standing_of_kind (kind w))) in
    let split = word_split place c.args.word ∙ ap (λ (is_unit : Bool). cond is_unit (refuse_unit place) (of_block c.args.word)) (ne_eqb c.args.word unit_word c.if-word-eq-UNIT_WORD.false) in
    c.refuse_block_word.ensures ∙ ap of_block c.of.ensures ∙ sym split
