-- How much is to come of a content, a name, a payload or a list of offsets.
use Rattle.std.proofs.Common.{rules, ◌≡◌, ℕ, suc, ◌≤◌, List, [], ◌∷◌, ◌++◌, refl, sym, subst, ◌∙◌, arith}
use Rattle.hunk_blocks.specs.{Faults.words, BlockSteps.{Inside, InPayload, InOffsets, InName, InExtName, InExtOffsets}}
use Rattle.hunk_files.specs.{LoadFile.{LoadFileValue, IsLoadFile}, LoadText.labelled}
use Rattle.hunk_files.specs.FileSteps.{Progress, AtFirst, InBody, Next, More, Finished, step_file, Leads}
use Rattle.hunk_files.specs.{WordsRead.{HasRead, Labelled}, ReaderPosition.position_of}
use Rattle.hunk_files.proofs.{walk.FileText.file_leads, walk.Runs.{Leads-split, Leads-same}}
use Rattle.hunk_grammar.specs.Positions.{least_longs}
use Rattle.hunk_scatter.specs.Owing.{run_of}

abbrev pub run_in : Inside → ℕ
run_in (InPayload f done owed) = suc owed
run_in (InOffsets groups target done owed) = suc owed
run_in (InName entries word done owed) = suc owed
run_in (InExtName entries word done owed) = suc owed
run_in (InExtOffsets entries word name value done owed) = suc owed
run_in _ = 0

abbrev pub run_at : Next → ℕ
run_at (More (InBody o word x)) = run_in x
run_at _ = 0

run_is : (n : Next) (ls : Labelled) (v : LoadFileValue) → Leads n ls (Finished v) → run_of ls ≡ run_at n
run_is (More p) [] v leads = absurd cc
run_is (Finished u) [] v leads = refl
run_is (Finished u) (l ∷ ls) v leads = absurd leads
run_is (More p) (l ∷ ls) v leads = search (rules, run_is (step_file p l.1) ls v leads.1)

run_least : (p : Progress) → run_at (More p) ≤ least_longs (position_of (More p))
run_least p = search rules

-- What is to come of the one in which the reader stands.
pub to_come : (ws : List ℕ) (n : Next) → HasRead ws n → (v : LoadFileValue) → IsLoadFile v → (done more : Labelled) → labelled v ≡ done ++ more → words done ≡ ws → run_of more ≡ run_at n
to_come ws n h v is done more e d =
    let cut = Leads-split (More AtFirst) (Finished v) done more (subst (λ (ls : Labelled). Leads (More AtFirst) ls (Finished v)) e (file_leads v is)) in
    let same = Leads-same (More AtFirst) cut.0 n done h.done cut.1 h.leads (d ∙ sym h.all) in
    run_is n more v (subst (λ (m : Next). Leads m more (Finished v)) same.1 cut.2)

pub to_come_least : (ws : List ℕ) (p : Progress) → HasRead ws (More p) → (v : LoadFileValue) → IsLoadFile v → (done more : Labelled) → labelled v ≡ done ++ more → words done ≡ ws → run_of more ≤ least_longs (position_of (More p))
to_come_least ws p h v is done more e d = omega (arith, to_come ws (More p) h v is done more e d, run_least p)
