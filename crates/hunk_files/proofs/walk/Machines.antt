-- The machines of positions go along the texts of files.
use Rattle.std.proofs.Common.{rules, ◌≡◌, ℕ, [], ◌∷◌, ◌++◌, refl, sym, ap, subst, ◌∙◌, Some, None}
use Rattle.hunk_blocks.specs.AlongText.{GoesAlong}
use Rattle.hunk_blocks.proofs.AlongText.{Forgets, along}
use Rattle.hunk_grammar.specs.{Roles.{Role, refuse}, declared.position.Position.Position}
use Rattle.hunk_grammar.specs.Positions as load
use Rattle.hunk_grammar.specs.declared.position.Position.TheVariants as positions
use Rattle.hunk_files.specs.FileSteps.{Progress, AtBlock, InBody, AtFirst, Next, More, Finished, role_of, step_file, Leads}
use Rattle.hunk_files.specs.Machines.{longs_of, refuse_in_load, refuse_in_object}
use Rattle.hunk_grammar.specs.declared.object_position.WordPlace.TheVariants.{BeforeUnits, BetweenHunks}
use Rattle.hunk_grammar.specs.ObjectRoles.{ObjectRole, refuse_object}
use Rattle.hunk_files.specs.ObjectFault.{units_labelled}
use Rattle.hunk_files.specs.WordsRead.{AreAccepted, Labelled}
use Rattle.hunk_files.specs.{LoadFile.{LoadFileValue, IsLoadFile}, LoadText.labelled}
use Rattle.hunk_files.specs.{ObjectFile.{ObjectFileValue, IsObjectFile}, ReaderPosition.{open_longs, position_of}}
use Rattle.hunk_grammar.specs.ObjectPositions as object
use Rattle.hunk_grammar.specs.declared.object_position.ObjectPosition.TheVariants as places
use Rattle.hunk_files.proofs.{walk.Accepted.labelled_accepted, walk.FileProgress.{Reads, read_progress, step_keeps}}
use Rattle.hunk_files.proofs.walk.FileText.{file_leads}
use Rattle.hunk_files.proofs.object_walk.ObjectWalks.{position_of as object_position, step_position as object_steps}
use Rattle.hunk_files.proofs.object_walk.OneObjectFault.{ObjectState, AtWord, reader, file_leads as object_leads}
use Rattle.hunk_files.proofs.walk.Positions.{refuse_same, step_position}

-- ---- load files

longs_same : (p : Progress) → longs_of (role_of p) ≡ open_longs p
longs_same (AtBlock o) = refl
longs_same (InBody o word x) = refl
longs_same _ = refl

load_from : (n m : Next) (before ls : Labelled) → Reads n before → AreAccepted ls → Leads n ls m → GoesAlong refuse_in_load refuse load.step (position_of n) ls (position_of m)
load_from n m before [] h ok leads = ap position_of leads
load_from (Finished v) m before (l ∷ ls) h ok leads = absurd leads
load_from (More p) m before (l ∷ ls) h ok leads =
    let passes = subst (λ (r : Role). refuse r l.1 ≡ None) (sym leads.0) ok.0.1 in (
      λ w.
          subst (λ (r : Role). refuse (load.role_at (longs_of r) (position_of (More p))) w ≡ refuse r w) leads.0
          (ap (λ (longs : ℕ). refuse (load.role_at longs (position_of (More p))) w) (longs_same p) ∙ sym (refuse_same p w h.0)),
      subst (λ (q : Position). GoesAlong refuse_in_load refuse load.step q ls (position_of m)) (step_position p l.1 h.0)
          (load_from (step_file p l.1) m (read_progress p ++ (role_of p, l.1) ∷ []) ls (step_keeps p l.1 h.0 ok.0.0 passes) ok.1 leads.1),
    )

pub load_along : (v : LoadFileValue) → IsLoadFile v → GoesAlong refuse_in_load refuse load.step positions.FirstLong (labelled v) positions.Done
load_along v is = load_from (More AtFirst) (Finished v) [] (labelled v) (tt, refl) (labelled_accepted v is) (file_leads v is)

-- ---- object files

object_forgets : Forgets reader object_position refuse_in_object refuse_object object.step
object_forgets = record { tests = tests; steps = λ s role w e. object_steps s w }
  where
    tests : (s : ObjectState) (role : ObjectRole) (w : ℕ) → reader.expects s ≡ Some role → refuse_in_object role (object_position s) w ≡ refuse_object role w
    tests s role w e = search rules

pub object_along : (o : ObjectFileValue) → IsObjectFile o → GoesAlong refuse_in_object refuse_object object.step (places.Word BeforeUnits) (units_labelled BeforeUnits o) (places.Word BetweenHunks)
object_along o is = along reader object_position refuse_in_object refuse_object object.step object_forgets (AtWord BeforeUnits) (AtWord BetweenHunks) (units_labelled BeforeUnits o) (object_leads o is)
