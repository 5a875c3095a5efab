use Rattle.std.proofs.Common.{rules, ◌≡◌, ◌∙◌, ◌<◌, ◌≤◌, List, map, length, sym, subst, arith, refl, Some, true}
use Rattle.std.specs.String.{string_bytes}
use Rattle.std.proofs.lemmas.Bool.{le-ltb, lt-ltb}
use Rattle.std.proofs.lemmas.List.{length-map}
use Rattle.std.proofs.lemmas.Result.{IfErr-weaker, IfOk-weaker}
use Rattle.clap.specs.Words.{subcommand_of, takes, Text}
use Rattle.hunk_command_line.specs.Asked.{FollowsClap, RefusesOrder}
use Rattle.hunk_command_line.specs.Command.{hunkinfo}
use Rattle.hunk_command_line.specs.Line as spec
use Rattle.hunk_command_line.proofs.line.order.Goals as goal

read_short : (words : List Text) → length words < 2 → spec.words_read words ≡ spec.stored
read_short words short = rw (lt-ltb (length words) 2 short) refl

pub returns-then-words-lt2 : goal.returns-then-words-lt2
returns-then-words-lt2 c =
    let words_are : map (λ s. s.now) c.as_slice.result.now ≡ spec.stored = search rules in
    let same = words_are ∙ sym (read_short (map string_bytes c.args.words.now) (simp length-map (omega arith))) in
    record {
      order = IfOk-weaker c.order_in.result _ _
          (λ order h. subst (λ (words : List Text). spec.entered_order (subcommand_of hunkinfo words) ≡ Some order) same h)
          c.order_in.ensures.order;
      refuses = IfErr-weaker c.order_in.result _ _
          (λ fault h. subst (λ (words : List Text). takes hunkinfo words ≡ true → RefusesOrder (spec.entered_order (subcommand_of hunkinfo words)) fault) same h)
          c.order_in.ensures.refuses;
      clap = subst (λ (words : List Text). FollowsClap words c.order_in.result) same c.order_in.ensures.clap;
    }

read_long : (words : List Text) → 2 ≤ length words → spec.words_read words ≡ words
read_long words long = rw (le-ltb (length words) 2 long) refl

pub returns-else-words-lt2-clause-refuses : goal.returns-else-words-lt2-clause-refuses
returns-else-words-lt2-clause-refuses c =
    let same = sym (read_long (map string_bytes c.args.words.now) (simp length-map (omega arith))) in
    IfErr-weaker c.order_in-else-words-lt2.result _ _
    (λ fault h. subst (λ (words : List Text). takes hunkinfo words ≡ true → RefusesOrder (spec.entered_order (subcommand_of hunkinfo words)) fault) same h)
    c.order_in-else-words-lt2.ensures.refuses

pub returns-else-words-lt2-clause-clap : goal.returns-else-words-lt2-clause-clap
returns-else-words-lt2-clause-clap c =
    let same = sym (read_long (map string_bytes c.args.words.now) (simp length-map (omega arith))) in
    subst (λ (words : List Text). FollowsClap words c.order_in-else-words-lt2.result) same c.order_in-else-words-lt2.ensures.clap
