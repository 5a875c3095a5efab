-- The part of a load file after longwords that were read.
use Rattle.std.proofs.Common.{◌≡◌, ℕ, zero, suc, List, [], ◌∷◌, ◌++◌, length, refl, sym, ap, ◌∙◌, length-append, arith}
use Rattle.std.proofs.lemmas.List.{length-map}
use Rattle.hunk_blocks.specs.Faults.{words}
use Rattle.hunk_grammar.specs.Roles.{Role, refuse}
use Rattle.hunk_grammar.specs.declared.position.Position.{Position}
use Rattle.hunk_grammar.specs.declared.position.Position.TheVariants as positions
use Rattle.hunk_grammar.specs.Positions as scan
use Rattle.hunk_files.specs.Fault.{Expects}
use Rattle.hunk_files.specs.FileSteps.{HunkSoFar, Progress, AtFirst, AtBlock, InBody, Next, More, Finished, step_file, Leads}
use Rattle.hunk_files.specs.LoadFile.{HunkValue}
use Rattle.hunk_files.specs.Machines.{leads_to}
use Rattle.hunk_files.specs.LoadText.{table}
use Rattle.hunk_files.specs.ReaderPosition.{opened, part_in, position_of}
use Rattle.hunk_files.specs.WordsRead.{HasRead, Labelled, AreAccepted}
use Rattle.hunk_files.specs.declared.part.Part.{Part}
use Rattle.hunk_files.specs.declared.part.Part.TheVariants as parts
use Rattle.hunk_files.proofs.walk.FileProgress.{NextFits, ProgressFits, step_keeps}
use Rattle.hunk_files.proofs.walk.Positions.{step_position}
use Rattle.hunk_files.proofs.walk.Scan.{expected_place}

abbrev pub stepped : Position → List ℕ → Position
stepped p ws = leads_to scan.step p ws

follows : (n m : Next) (ls : Labelled) → NextFits n → AreAccepted ls → Leads n ls m → position_of m ≡ stepped (position_of n) (words ls)
follows n m [] fits ok leads = ap position_of (sym leads)
follows (Finished v) m (l ∷ ls) fits ok leads = absurd leads
follows (More p) m (l ∷ ls) fits ok leads =
    let next = step_keeps p l.1 fits ok.0.0 (ap (λ (r : Role). refuse r l.1) leads.0 ∙ ok.0.1) in
    follows (step_file p l.1) m ls next.0 ok.1 leads.1
    ∙ ap (λ (q : Position). stepped q (words ls)) (step_position p l.1 fits)

-- Longwords that are read lead to the position.
pub read_stepped : (ws : List ℕ) (n : Next) → HasRead ws n → position_of n ≡ stepped positions.FirstLong ws
read_stepped ws n h = follows (More AtFirst) n h.done tt h.accepted h.leads ∙ ap (stepped positions.FirstLong) h.all

-- ---- the part

-- the next longword is of the header, or of the hunk after those that are whole
abbrev pub part_of : Progress → Part
part_of (AtBlock o) = parts.Hunk (length o.finished)
part_of (InBody o word x) = parts.Hunk (length o.finished)
part_of _ = parts.Header

-- where so many hunks were opened
abbrev pub part_opened : ℕ → Part
part_opened zero = parts.Header
part_opened (suc whole) = parts.Hunk whole

open_part : (o : HunkSoFar) → parts.Hunk (length o.finished) ≡ part_opened (length (table o.finished ++ o.entry ∷ []))
open_part o = let count : suc (length o.finished) ≡ length (table o.finished ++ o.entry ∷ []) = omega (arith, length-append (table o.finished) (o.entry ∷ []), length-map o.finished (λ (h : HunkValue). h.entry)) in ap part_opened count

pub opened_part : (p : Progress) → part_of p ≡ part_opened (length (opened p))
opened_part (AtBlock o) = open_part o
opened_part (InBody o word x) = open_part o
opened_part _ = refl

pub part_fits : (p : Progress) → ProgressFits p → part_in (position_of (More p)) ≡ part_of p
part_fits (AtBlock o) f = ap (λ (n : ℕ). parts.Hunk n) (omega (arith, f.front_fits.counts))
part_fits (InBody o word x) f = ap (λ (n : ℕ). parts.Hunk n) (omega (arith, f.0.front_fits.counts))
part_fits _ f = refl

-- ---- where a file is refused

-- A load text goes on there.
pub expects_read : (before : List ℕ) (role : Role) → Expects before role → (p : Progress) × HasRead before (More p)
expects_read before role e =
    let r = expected_place before role e in
    (r.0, record { done = e.done; leads = r.1.leads; accepted = r.1.accepted; all = e.begins })
