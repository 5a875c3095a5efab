use Rattle.std.proofs.Common.{◌≡◌, ◌∙◌, ℕ, List, Option, Some, None, Result, ap, refl, subst, sym}
use Rattle.std.specs.Prelude.{is_some}
use Rattle.std.specs.declared.io.Error.{Error}
use Rattle.hunk_run.specs.OutFile.{OutFile}
use Rattle.hunk_run.specs.Settling.{has_lost}
use Rattle.hunk_run.specs.Stores.{MadeFile, MakesFile, MakesWhole, asked_to_keep}
use Rattle.hunk_run.proofs.to_file.ToFile.sync.Goals as goal

-- a file that was made and says of nothing that it is lost
whole : (first old new : Option MadeFile) (name text : List ℕ) (answer : Result (Unit {0}) Error) (lost : Option Error) → MakesFile first old name text →
    new ≡ asked_to_keep old answer → is_some lost ≡ has_lost answer → lost ≡ None → MakesWhole first new name text
whole first old new name text answer lost makes asked told none = record {
  makes = record { first = makes.first; answer = Some answer; made = asked ∙ ap (λ (o : Option MadeFile). asked_to_keep o answer) makes.made };
  answer = answer;
  asked = refl;
  kept = sym told ∙ ap (λ (o : Option Error). is_some o) none;
}

pub returns-in-None-clause-settled : goal.returns-in-None-clause-settled
returns-in-None-clause-settled g c =
    let made : MakesFile g.K.Outset.made (g.S.Store.made c.self.inside.store) g.K.Outset.name c.self.inside.taken.bytes =
    subst (λ (o : OutFile). MakesFile g.K.Outset.made o.made g.K.Outset.name o.taken) (sym c.self.view_is) c.in_ok-make.ensures.made in
    whole g.K.Outset.made (g.S.Store.made c.self.inside.store) (g.S.Store.made c.keep.new.self) g.K.Outset.name c.self.inside.taken.bytes c.keep.result c.loss_of.result
    made c.keep.ensures.asks c.loss_of.ensures c.in-None.is
