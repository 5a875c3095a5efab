use Rattle.std.proofs.Common.{◌≡◌, ◌++◌, ◌∙◌, ℕ, List, None, Some, Ok, inr, length, take, length-take, ap, refl, sym, arith}
use Rattle.hunk_words.specs.declared.fault.Fault.{Fault}
use Rattle.hunk_scatter.specs.{BodyLoaderFields.{FeedsOrRefuses, FeedsPiece}, LoaderValues.{BodyLoaderValue, IsBodyRefusal}}
use Rattle.hunk_scatter.proofs.Faults.{no_refusal_on}
use Rattle.hunk_scatter.proofs.body_loader.BodyLoader.feed.Goals.{in-Some-refused, in-None}
use Rattle.hunk_scatter.proofs.body_loader.BodyLoader.feed.Goals as goal

module _ (old : BodyLoaderValue) (piece : List ℕ) (new : BodyLoaderValue) (n : ℕ) (e : FeedsOrRefuses old piece new n) where
  feeds : new.refused ≡ None → FeedsPiece new.rows old.fed piece new.fed n
  feeds none = rw (none) at e.feeds

  refuses : (f : Fault) → new.refused ≡ Some f → IsBodyRefusal (old.fed ++ piece) f
  refuses f is = (rw (is) at e.feeds).0.refusal

pub returns-clause-all : goal.returns-clause-all
returns-clause-all c = elim c.match-self-2.branch [
  | in-Some-refused w ↦ rw w.result-is tt
  | in-None w ↦ rw w.result-is (feeds _ _ _ _ c.take-taken.ensures (sym (ap (λ (l : BodyLoaderValue). l.refused) c.self-2.view_is) ∙ w.in-None.is)).all
]

pub returns-clause-takes_no_more : goal.returns-clause-takes_no_more
returns-clause-takes_no_more c none v = elim c.match-self-2.branch [
  | in-Some-refused w ↦
      absurd (no_refusal_on _ _ _ (record {
        value = v.0;
        is_load_file = v.1.is_load_file;
        more = c.args.piece.now;
        fits = inr (ap (λ (bs : List ℕ). bs ++ c.args.piece.now) (sym v.1.bytes_are));
      })
      (refuses _ _ _ _ c.take-taken.ensures _ (sym (ap (λ (l : BodyLoaderValue). l.refused) c.self-2.view_is) ∙ w.in-Some-refused.is)).1)
  | in-None w ↦
      let fed = feeds _ _ _ _ c.take-taken.ensures (sym (ap (λ (l : BodyLoaderValue). l.refused) c.self-2.view_is) ∙ w.in-None.is) in
      let front = take c.take-taken.result c.args.piece.now in
      let over = fed.inside_file v.0 front v.1.is_load_file (fed.taken.1 ∙ ap (λ (bs : List ℕ). bs ++ front) (sym v.1.bytes_are)) in
      w.result-is ∙ ap (λ (n : ℕ). Ok n) (omega (arith, ap length over, length-take c.take-taken.result c.args.piece.now, fed.taken.0))
]

pub returns-clause-accepts : goal.returns-clause-accepts
returns-clause-accepts c none on = elim c.match-self-2.branch [
  | in-Some-refused w ↦ absurd (no_refusal_on _ _ _ on (refuses _ _ _ _ c.take-taken.ensures _ (sym (ap (λ (l : BodyLoaderValue). l.refused) c.self-2.view_is) ∙ w.in-Some-refused.is)).1)
  | in-None w ↦ rw w.result-is refl
]
