-- `new` makes the struct without bytes, with the history that its clause names.
use Rattle.std.proofs.{Common.{[], ◌∷◌, refl}, raw_atomic.Walks.proved}
use mir.Val.{vstruct, vnil}
use base.Fml.{ftrue}
use types.Kit.{raw, ‵, ◌⊛◌, ◌$◌, ◌∵◌, !, qed, move, keep, split, suffices, done}
use types.Part.{agg}
use types.Run.{enter, returns, no_more}
use types.ByLocal.{alloc_all, pass_all, free_all, look_at, sets}
use denote.RattleType.{owns}
use denote.Shadow.{pure_i}
use denote.Signature.{types_at}
use denote.Triple.Entry.{alive}
use denote.Triple.Walked.{says, Stays, walk_of, ends_at}
use Rattle.hunk_words.specs.contracts.history.History as made
use Rattle.hunk_words.specs.contracts.history.History.new as f
use Rattle.hunk_words.proofs.history.History.new.Statement.{statement}
use Rattle.hunk_words.proofs.history.History.new.Code as code

abbrev stayed : Stays f.ended.signature.params f.ended.kept
stayed = tt

pub new_spec : {M : Type 1} → statement M
new_spec 𝓤 𝓛 𝓜 𝓡 wired =
    let c = f.clauses 𝓛 𝓜.mem 𝓡.returns in let W = walk_of 𝓛 f.ended stayed c in
    proved 𝓛 f.ended stayed c 𝓜 𝓡 tt
    f.Key.name code.function (code.unfolded 𝓤 𝓛.H 𝓜 𝓡 wired)
    (λ κs. tt) (λ κs. tt) (λ κs qs bounds a _ are.
    let y : W.Ghost = ((κs, qs, bounds, a, tt), tt) in
    let h : (made.the_row).Denot = record { bytes = [] } in
    qed 𝓛 ((raw (alive 𝓛 f.signature κs qs) ⊛ ‵ (owns (types_at f.signature.params κs) a tt)) ∷ ‵ ftrue ∷ []) ∵
    split ! $ keep ! (0 ∷ 1 ∷ []) $
    enter ! _ _ _ _ _ $ alloc_all ! (λ l. pass_all ! refl tt $
    sets ! (agg ! (no_more !)) refl (tt, tt) $
    returns ! (look_at ! 0 refl) $ free_all ! refl $
    suffices ! _ (ends_at 𝓛 f.ended stayed c y (vstruct vnil) h tt tt) $ says ! refl $
    pure_i ! ((made.the_row).own_val h (vstruct vnil ∷ [])) ((λ vss. (tt, tt)), tt) ((tt, (refl, tt)), tt) $
    move ! (1 ∷ 2 ∷ 0 ∷ []) $ done !))
