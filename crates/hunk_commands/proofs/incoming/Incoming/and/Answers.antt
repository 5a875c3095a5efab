use Rattle.std.proofs.Common.{◌∙◌, ◌++◌, List, ℕ, ap, inl, inr, sym, subst}
use Rattle.hunk_scatter.specs.HeaderFaults.{CompletesRowIn}
use Rattle.hunk_commands.specs.{Incoming.{AnnouncesLoad, AnnouncesObject, IsKept, WantsMemory, kept_bytes}, declared.incoming.Kept.Kept}
use Rattle.hunk_commands.proofs.IncomingLaws.{announces_more, object_more, of_err}
use Rattle.hunk_commands.proofs.incoming.Incoming.and.Goals.{in-Front+in_ok-kept-in-Front, in-Load+in_ok-feed-in-Load, in-Object+in_ok-extend_from_slice-in-Object}
use Rattle.hunk_commands.proofs.incoming.Incoming.and.Goals as goal

pub invariant_of-result : goal.invariant_of-result
invariant_of-result c = elim c.match-kept.branch [
  | in-Front+in_ok-kept-in-Front w ↦ rw (w.kept-is) w.in_ok-kept-in-Front.ensures.holds.0
  | in-Load+in_ok-feed-in-Load w ↦
      let announced : AnnouncesLoad w.in-Load.check = subst (λ (k : Kept). IsKept k) w.in-Load.is c.self.invariant in
      rw (w.kept-is) (subst AnnouncesLoad (sym w.in_ok-feed-in-Load.ensures.fed) (announces_more w.in-Load.check c.args.piece.now announced))
  | in-Object+in_ok-extend_from_slice-in-Object w ↦
      let announced : AnnouncesObject w.in-Object.bytes.items = subst (λ (k : Kept). IsKept k) w.in-Object.is c.self.invariant in
      rw (w.kept-is) (subst AnnouncesObject (sym w.in_ok-extend_from_slice-in-Object.ensures.items) (object_more w.in-Object.bytes.items c.args.piece.now announced))
]

pub returns-in_err-kept-in-Front-clause-wants : goal.returns-in_err-kept-in-Front-clause-wants
returns-in_err-kept-in-Front-clause-wants c =
    let same = c.as_slice.ensures.value ∙ sym (ap kept_bytes c.in-Front.is) ∙ c.self.view_is in
    of_err _ c.from_residual.result (λ _. subst (λ (bs : List ℕ). WantsMemory bs c.args.piece.now) same c.in_err-kept-in-Front.ensures.wants)

pub returns-in_err-feed-in-Load-clause-wants : goal.returns-in_err-feed-in-Load-clause-wants
returns-in_err-feed-in-Load-clause-wants c =
    let same = sym (ap kept_bytes c.in-Load.is) ∙ c.self.view_is in
    of_err _ c.from_residual-in_err-feed-in-Load.result (λ _. inr (subst (λ (bs : List ℕ). CompletesRowIn bs c.args.piece.now) same c.in_err-feed-in-Load.ensures.wants))

pub returns-in_err-extend_from_slice-in-Object-clause-wants : goal.returns-in_err-extend_from_slice-in-Object-clause-wants
returns-in_err-extend_from_slice-in-Object-clause-wants c =
    let same = sym (ap kept_bytes c.in-Object.is) ∙ c.self.view_is in
    let announced : AnnouncesObject c.in-Object.bytes.items = subst (λ (k : Kept). IsKept k) c.in-Object.is c.self.invariant in
    of_err _ c.from_residual-in_err-extend_from_slice-in-Object.result (λ _. inl (subst (λ (bs : List ℕ). AnnouncesObject (bs ++ c.args.piece.now)) same (object_more c.in-Object.bytes.items c.args.piece.now announced)))
