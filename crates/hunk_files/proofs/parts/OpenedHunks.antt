-- How many hunks were opened, along the longwords of a load file.
use Rattle.std.proofs.Common.{◌≡◌, ℕ, suc, ◌+◌, ◌≤◌, ◌<◌, Bool, true, false, cond, List, [], ◌∷◌, length, refl, ap, ◌∙◌, arith}
use Rattle.std.proofs.lemmas.List.{length-append, length-map}
use Rattle.hunk_blocks.specs.Values.{BlockValue}
use Rattle.hunk_grammar.specs.{Positions.{is_after_header, is_between_hunks}, Roles.Role}
use Rattle.hunk_grammar.specs.declared.position.Position.TheVariants as positions
use Rattle.hunk_files.specs.LoadFile.{TableEntry, HunkValue}
use Rattle.hunk_files.specs.LoadText.{table}
use Rattle.hunk_files.specs.FileSteps.{HunkSoFar, Progress, AtBlock, InBody, Next, More, Finished, open_hunk, step_file, Leads}
use Rattle.hunk_files.specs.ReaderPosition.{block_phase, open_of, opened, position_of}
use Rattle.hunk_files.specs.WordsRead.{Labelled}
use Rattle.hunk_files.proofs.walk.Positions.{Moves, MovesTo, inside_open, step_moves}

-- After the last hunk one more is counted, as if another opened there.
abbrev pub opened_count : Next → ℕ
opened_count (More p) = length (opened p)
opened_count (Finished v) = suc (length v)

abbrev pub is_between : Next → Bool
is_between n = is_between_hunks (position_of n)

-- ---- one longword

-- the next hunk opens, or none does
abbrev OneMore : Bool → ℕ → ℕ → Type 0
OneMore b before now = now ≡ cond b (suc before) before

block_counts : (p : Progress) (o : HunkSoFar) (blocks : List BlockValue) → MovesTo p o blocks → OneMore (is_between_hunks (positions.Body (open_of o) (block_phase blocks))) (length (opened p)) (length (opened (AtBlock o)))
block_counts p o [] m = omega (arith, length-append (table o.finished) (o.entry ∷ []), ap length m)
block_counts p o (b ∷ blocks) m = ap length m.1

moves_count : (p : Progress) (n : Next) → Moves p n → OneMore (is_between n) (length (opened p)) (opened_count n)
moves_count p (More (AtBlock o)) m = block_counts p o o.blocks m
moves_count p (More (InBody o word x)) m = rw (inside_open x (open_of o)) (ap length m.1)
moves_count p (Finished v) m = omega (arith, ap length m, length-map v (λ (h : HunkValue). h.entry))
moves_count p (More _) m = ap length m.1

one_more : (b : Bool) (before now : ℕ) → OneMore b before now → (before ≤ now) × (b ≡ true → before < now)
one_more true before now e = (omega (arith, e), λ t. omega (arith, e))
one_more false before now e = (omega (arith, e), λ t. absurd cc)

one_counts : (p : Progress) (w : ℕ) → (length (opened p) ≤ opened_count (step_file p w)) × (is_between (step_file p w) ≡ true → length (opened p) < opened_count (step_file p w))
one_counts p w = one_more (is_between (step_file p w)) _ _ (moves_count p (step_file p w) (step_moves p w))

-- ---- longwords

-- No hunk is opened twice.
pub leads_count : (n m : Next) (ls : Labelled) → Leads n ls m → opened_count n ≤ opened_count m
leads_count n m [] leads = omega (arith, ap opened_count leads)
leads_count (Finished v) m (l ∷ ls) leads = absurd leads
leads_count (More p) m (l ∷ ls) leads = omega (arith, (one_counts p l.1).0, leads_count (step_file p l.1) m ls leads.1)

-- one, where there are any
abbrev pub some : Labelled → ℕ
some [] = 0
some (l ∷ ls) = 1

-- Where the last longword opens a hunk, one more is.
pub leads_some : (n m : Next) (ls : Labelled) → is_between m ≡ true → Leads n ls m → opened_count n + some ls ≤ opened_count m
leads_some n m [] b leads = omega (arith, ap opened_count leads)
leads_some (Finished v) m (l ∷ ls) b leads = absurd leads
leads_some (More p) m (l ∷ []) b leads = omega (arith, (one_counts p l.1).1 (ap is_between leads.1 ∙ b), ap opened_count leads.1)
leads_some (More p) m (l ∷ k ∷ ls) b leads = omega (arith, (one_counts p l.1).0, leads_some (step_file p l.1) m (k ∷ ls) b leads.1)

pub leads_open : (p : Progress) (m : Next) (l : Role × ℕ) (ls : Labelled) → is_between m ≡ true → Leads (More p) (l ∷ ls) m → length (opened p) < opened_count m
leads_open p m l ls b leads = omega (arith, leads_some (More p) m (l ∷ ls) b leads)

-- ---- where a hunk opens

pub opens_between : (hunks : ℕ) (finished : List HunkValue) (ahead : List TableEntry) → is_between (open_hunk hunks finished ahead) ≡ true
opens_between hunks finished [] = refl
opens_between hunks finished (e ∷ ahead) = refl

pub opens_count : (hunks : ℕ) (finished : List HunkValue) (ahead : List TableEntry) → opened_count (open_hunk hunks finished ahead) ≡ suc (length finished)
opens_count hunks finished [] = refl
opens_count hunks finished (e ∷ ahead) = omega (arith, length-append (table finished) (e ∷ []), length-map finished (λ (h : HunkValue). h.entry))

-- After the header one is open.
pub after_count : (n : Next) → is_after_header (position_of n) ≡ true → 0 < opened_count n
after_count (More (AtBlock o)) b = omega (arith, length-append (table o.finished) (o.entry ∷ []))
after_count (More (InBody o word x)) b = omega (arith, length-append (table o.finished) (o.entry ∷ []))
after_count (Finished v) b = omega arith
after_count _ b = absurd cc

pub header_count : (n : Next) → is_after_header (position_of n) ≡ false → opened_count n ≡ 0
header_count (More (AtBlock o)) b = absurd cc
header_count (More (InBody o word x)) b = absurd cc
header_count (Finished v) b = absurd cc
header_count _ b = refl
