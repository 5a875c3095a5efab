use Rattle.std.proofs.Common.{◌∙◌, ◌≡◌, [], ◌∷◌, ap, map, inl, inr, subst, sym, refl, true}
use Rattle.clap.specs.Words.{App, kind_of, takes}
use Rattle.clap.specs.Kinds.{HasKind, IsAmong, Kinds}
use Rattle.clap.specs.Faults.{fault_of, is_simple_and_free}
use Rattle.clap.specs.declared.error.Error.{Error}
use Rattle.clap.specs.declared.error.kind.ErrorKind.{ErrorKind}
use Rattle.clap.specs.declared.error.kind.ErrorKind.TheVariants as kind
use Rattle.clap.proofs.OnLiterals.{clap_on_literals}
use Rattle.hunk_command_line.specs.Asked.{IsHelp, IsMemoryOr}
use Rattle.hunk_command_line.specs.declared.asked.OrderFault.TheVariants.{Version}
use Rattle.hunk_command_line.specs.Command.{hunkinfo}
use Rattle.hunk_command_line.proofs.line.matches_in.Goals as goal

pub returns-in-Err-clause-refuses : goal.returns-in-Err-clause-refuses
returns-in-Err-clause-refuses g c = λ taken.
    c.fault_of.ensures.memory (c.in-Err.ensures.passes (ap (λ (a : App). takes a (map g.S.AsStr.text c.args.words.now)) c.in_ok-hunkinfo.ensures ∙ taken))

simple : is_simple_and_free hunkinfo ≡ true
unfolding clap_on_literals
simple = refl

pub returns-in-Ok-clause-clap : goal.returns-in-Ok-clause-clap
returns-in-Ok-clause-clap g c =
    let clean : fault_of hunkinfo (map g.S.AsStr.text c.args.words.now) ≡ [] =
    subst (λ (a : App). fault_of a (map g.S.AsStr.text c.args.words.now) ≡ []) c.in_ok-hunkinfo.ensures
    (c.in-Ok.ensures.kinds (ap is_simple_and_free c.in_ok-hunkinfo.ensures ∙ simple)) in
    record { clean = clean; asked = tt; help = λ help. cc; versioned = tt; version = λ version. cc }

among : (k : ErrorKind) (kinds : Kinds) (e : Error) → (kind.OutOfMemory ≡ k → ⊥) → kind_of e ≡ k → HasKind kinds e → IsAmong k kinds
among k kinds e other is (inl memory) = absurd (other (sym memory ∙ is))
among k kinds e other is (inr h) = subst (λ (k : ErrorKind). IsAmong k kinds) is h

-- where an error has one kind alone, it is of that kind or tells of want of memory
alone : (k : ErrorKind) (e : Error) (Holds : Type 0) → (kind_of e ≡ kind.OutOfMemory → Holds) → (kind_of e ≡ k → Holds) → HasKind (k ∷ []) e → Holds
alone k e Holds memory other (inl is) = memory is
alone k e Holds memory other (inr (inl is)) = other is
alone k e Holds memory other (inr (inr none)) = elim none [ ]

pub returns-in-Err-clause-clap : goal.returns-in-Err-clause-clap
returns-in-Err-clause-clap g c =
    let words = map g.S.AsStr.text c.args.words.now in
    let kinds : HasKind (fault_of hunkinfo words) c.in-Err.error =
    subst (λ (a : App). HasKind (fault_of a words) c.in-Err.error) c.in_ok-hunkinfo.ensures
    (c.in-Err.ensures.kinds (ap is_simple_and_free c.in_ok-hunkinfo.ensures ∙ simple)) in
    record {
      clean = tt;
      asked = λ help. among kind.DisplayHelp (fault_of hunkinfo words) c.in-Err.error (λ clash. cc) (c.fault_of.ensures.asked help) kinds;
      help = λ help.
          alone kind.DisplayHelp c.in-Err.error (IsMemoryOr IsHelp c.fault_of.result) (λ memory. inl (c.fault_of.ensures.memory memory)) c.fault_of.ensures.help
          (subst (λ (ks : Kinds). HasKind ks c.in-Err.error) help kinds);
      versioned = λ version. among kind.DisplayVersion (fault_of hunkinfo words) c.in-Err.error (λ clash. cc) (c.fault_of.ensures.versioned version) kinds;
      version = λ version.
          alone kind.DisplayVersion c.in-Err.error (IsMemoryOr (λ fault. fault ≡ Version) c.fault_of.result) (λ memory. inl (c.fault_of.ensures.memory memory))
          (λ is. inr (c.fault_of.ensures.version is)) (subst (λ (ks : Kinds). HasKind ks c.in-Err.error) version kinds);
    }
