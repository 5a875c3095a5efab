use Rattle.std.proofs.Common.{◌≡◌, ◌∙◌, ℕ, List, Option, Some, ap, rules, subst, sym, true}
use Rattle.hunk_run.specs.Orders.{AnswersRewriting}
use Rattle.hunk_run.specs.Stores.{Holdings, MadeFile, bytes_of_input}
use Rattle.hunk_run.specs.declared.TheConstants.{FILE_BYTES}
use Rattle.hunk_run.proofs.Accepted.{answers_asked, known_again, of_refused, says_asked}
use Rattle.hunk_run.proofs.rewriting.rewrite_input.Goals as goal

pub returns-clause-answers : goal.returns-clause-answers
returns-clause-answers g c =
    let first = g.S.Store.made c.args.store in
    let known = bytes_of_input (g.S.Store.holdings c.args.store) (g.S.Store.opened c.args.store) first (Some c.args.input.now) in
    let flag : c.args.way.wide ≡ true = search rules in
    answers_asked first (g.S.Store.made c.rewrite_named-store.result.0) known c.args.output.now c.args.way.strip 67108864 c.args.way.wide c.rewrite_named-store.result.1 c.rewrite_named-store.result.2
    flag (sym c.is_refused.ensures ∙ c.if-is_refused.false) c.rewrite_named-store.ensures.answers

pub returns-clause-spelled : goal.returns-clause-spelled
returns-clause-spelled g c =
    let first = g.S.Store.made c.args.store in
    let known = bytes_of_input (g.S.Store.holdings c.args.store) (g.S.Store.opened c.args.store) first (Some c.args.input.now) in
    let flag : c.args.way.wide ≡ true = search rules in
    says_asked first (g.S.Store.made c.rewrite_named-store.result.0) known c.args.output.now c.args.way.strip 67108864 c.args.way.wide c.rewrite_named-store.result.1 c.rewrite_named-store.result.2
    flag (sym c.is_refused.ensures ∙ c.if-is_refused.false) c.rewrite_named-store.ensures.answers

-- it is read again, of which the same is known

pub returns-then-is_refused-clause-answers : goal.returns-then-is_refused-clause-answers
returns-then-is_refused-clause-answers g c =
    let first = g.S.Store.made c.args.store in
    let then = c.rewrite_named-store.result.0 in
    let name = Some c.args.input.now in
    let Answers : Option MadeFile → Option (List ℕ) → Type 0 =
    λ made bytes. AnswersRewriting made (g.S.Store.made c.rewrite_named-then-is_refused.result.0) bytes c.args.output.now c.args.way.strip c.args.way.wide FILE_BYTES c.rewrite_named-then-is_refused.result.1
    c.rewrite_named-then-is_refused.result.2 in
    let same = of_refused c.rewrite_named-store.result.1 (g.S.Store.made then ≡ first) (sym c.is_refused.ensures ∙ c.if-is_refused.true) c.rewrite_named-store.ensures.answers.untouched in
    let again : (g.S.Store.holdings c.args.store).again c.args.input.now ≡ true = search rules in
    let known : bytes_of_input (g.S.Store.holdings then) (g.S.Store.opened then) (g.S.Store.made then) name ≡ bytes_of_input (g.S.Store.holdings c.args.store) (g.S.Store.opened c.args.store) first name =
    ap (λ (h : Holdings). bytes_of_input h (g.S.Store.opened then) (g.S.Store.made then) name) c.rewrite_named-store.ensures.holds
    ∙ ap (λ (m : Option MadeFile). bytes_of_input (g.S.Store.holdings c.args.store) (g.S.Store.opened then) m name) same
    ∙ known_again (g.S.Store.holdings c.args.store) (g.S.Store.opened c.args.store) (g.S.Store.opened then) first c.args.input.now again in
    subst (Answers first) known
    (subst (λ (m : Option MadeFile). Answers m (bytes_of_input (g.S.Store.holdings then) (g.S.Store.opened then) (g.S.Store.made then) name)) same c.rewrite_named-then-is_refused.ensures.answers)
