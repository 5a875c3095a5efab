use Rattle.std.proofs.Common.{ℕ, [], ◌∷◌, ◌++◌, sym, subst, ◌∙◌, Option, arith}
use Rattle.hunk_words.specs.{Longs.{Gathers, bytes_of}, PendingBytes.pending_of}
use Rattle.hunk_wide.specs.declared.spot.Spot.TheVariants.{Long}
use Rattle.hunk_wide.proofs.Few.{begins_more, whole_count}
use Rattle.hunk_wide.proofs.Leads.{more_leads}
use Rattle.hunk_wide.proofs.expander.after_long.Goals as goal

pub returns-in_default-Some-clause-left : goal.returns-in_default-Some-clause-left
returns-in_default-Some-clause-left c =
    let whole = subst (λ (x : Option ℕ). Gathers (pending_of c.args.begun ++ c.args.byte ∷ []) (pending_of c.take.result.0) x) c.in_default-Some.is-1 c.take.ensures.gathers in
    λ more. c.long_done.ensures.left more
    ∙ begins_more (Long c.args.position) (pending_of c.args.begun) (bytes_of (c.in_default-Some.word ∷ [])) more c.args.byte (sym whole.0)

pub returns-in_default-Some-clause-wanted : goal.returns-in_default-Some-clause-wanted
returns-in_default-Some-clause-wanted c =
    let whole = subst (λ (x : Option ℕ). Gathers (pending_of c.args.begun ++ c.args.byte ∷ []) (pending_of c.take.result.0) x) c.in_default-Some.is-1 c.take.ensures.gathers in
    omega (arith, whole_count c.args.begun c.args.byte c.in_default-Some.word c.requires whole.0)

pub returns-in_default-Some-clause-spot : goal.returns-in_default-Some-clause-spot
returns-in_default-Some-clause-spot c =
    let whole = subst (λ (x : Option ℕ). Gathers (pending_of c.args.begun ++ c.args.byte ∷ []) (pending_of c.take.result.0) x) c.in_default-Some.is-1 c.take.ensures.gathers in
    λ more. c.long_done.ensures.spot more
    ∙ more_leads (Long c.args.position) (pending_of c.args.begun) (bytes_of (c.in_default-Some.word ∷ [])) more c.args.byte (sym whole.0)
