-- Whatever has been read can be completed: with a zero for each longword that is owed, and the ends of the hunks.
use Rattle.std.proofs.Common.{◌≡◌, ℕ, zero, suc, ◌+◌, ◌-◌, ◌*◌, ◌<◌, ◌≤◌, Bool, true, false, ltb, eqb, List, [], ◌∷◌, ◌++◌, refl, sym, subst, arith, Some, None}
use Rattle.std.specs.List.{AllByRecursion}
use Rattle.std.proofs.lemmas.Bool.{lt-ltb, le-ltb, eq-eqb}
use Rattle.hunk_words.specs.declared.reason.Reason.TheVariants as reasons
use Rattle.hunk_words.specs.{Bits.kind, Longs.IsLong}
use Rattle.hunk_blocks.specs.Values.{BlockBody, BlockValue, Bss, End}
use Rattle.hunk_grammar.specs.BlockParts.{Part, Part as parts}
use Rattle.hunk_blocks.specs.BlockSteps.{ForName, ForBss, Inside, AtCount, AtSize, AtTarget, InOffsets, InExtOffsets, BlockNext, Open, Whole, part_of, step_inside, Follows}
use Rattle.hunk_blocks.proofs.BlockCompletion as inside
use Rattle.hunk_blocks.proofs.Lists.{passes_else, passes_then}
use Rattle.hunk_grammar.specs.Standings.{BlockStanding, Beside, Content, Relocating, Ending}
use Rattle.hunk_grammar.specs.Roles.{Place, Role, InBlock, refuse, refuse_part}
use Rattle.hunk_files.specs.{LoadFile.{TableEntry, HunkValue, LoadFileValue, standing}, Fault.completing}
use Rattle.hunk_files.specs.FileSteps.{table_entry, hunk, block, HunkSoFar, Progress, AtFirst, AtResident, AtTableSize, AtFirstHunk, AtLastHunk, AtSizeWord, AtAttributes, AtBlock, InBody, Next, More, Finished, place_of, role_of, open_hunk, rows, with_block, close_by, after, step_file, Leads}
use Rattle.hunk_files.specs.WordsRead.{Labelled, IsAccepted}
use Rattle.hunk_files.proofs.walk.HunkProgress.{Within, NextFits, step_fits}
use Rattle.hunk_files.proofs.walk.FileProgress as file

abbrev pub IsOwed : Role × ℕ → Type 0
IsOwed l = IsAccepted l × (l.1 ≡ completing l.0)

-- longwords that are owed lead to the end
pub record Completes (n : Next) : Type 0 where
  pub value : LoadFileValue
  pub labels : Labelled
  pub leads : Leads n labels (Finished value)
  pub accepted : AllByRecursion IsOwed labels

on_step : (p : Progress) (w : ℕ) → IsLong w → refuse (role_of p) w ≡ None → w ≡ completing (role_of p) → Completes (step_file p w) → Completes (More p)
on_step p w l ok e c = record { value = c.value; labels = (role_of p, w) ∷ c.labels; leads = (refl, c.leads); accepted = (((l, ok), e), c.accepted) }

-- ---- hunks

size_zero_passes : (p : Place) → refuse_part p parts.ContentSize 0 ≡ None
size_zero_passes p = passes_else (ltb p.longs 0) (Some reasons.ContentTooLong) None (le-ltb p.longs 0 (omega arith))

end_completes : (o : HunkSoFar) → o.has_content ≡ true → Completes (open_hunk o.hunks (o.finished ++ hunk o.entry (o.blocks ++ block 0x3F2 End ∷ []) ∷ []) o.ahead) → Completes (More (AtBlock o))
unfolding kind
end_completes o e c = on_step (AtBlock o) 0x3F2 (omega arith) (passes_then o.has_content None (Some reasons.NoContent) e) (sym (passes_then o.has_content 0x3F2 0x3EB e)) c

-- with BSS of no longs where the hunk has no content block
filled_and_ended : (o : HunkSoFar) → o.has_content ≡ false →
    Completes (open_hunk o.hunks (o.finished ++ hunk o.entry ((o.blocks ++ block 0x3EB (Bss 0) ∷ []) ++ block 0x3F2 End ∷ []) ∷ []) o.ahead) → Completes (More (AtBlock o))
unfolding kind
filled_and_ended o e c =
    on_step (AtBlock o) 0x3EB (omega arith) (passes_else o.has_content (Some reasons.SecondContent) None e) (sym (passes_else o.has_content 0x3F2 0x3EB e))
    (on_step (InBody o 0x3EB (AtSize ForBss)) 0 (omega arith) (size_zero_passes (place_of o)) refl (end_completes (with_block o (block 0x3EB (Bss 0)) true) refl c))

hunks_complete : (hunks : ℕ) (finished : List HunkValue) (ahead : List TableEntry) → Completes (open_hunk hunks finished ahead)
hunks_complete hunks finished [] = record { value = finished; labels = []; leads = refl; accepted = tt }
hunks_complete hunks finished (e ∷ ahead) =
    filled_and_ended (record { hunks = hunks; finished = finished; entry = e; blocks = []; has_content = false; ahead = ahead }) refl
    (hunks_complete hunks (finished ++ hunk e (block 0x3EB (Bss 0) ∷ block 0x3F2 End ∷ []) ∷ []) ahead)

open_completes : (o : HunkSoFar) → Completes (More (AtBlock o))
open_completes o = go o.has_content refl
  where
    go : (b : Bool) → o.has_content ≡ b → Completes (More (AtBlock o))
    go true e = end_completes o e (hunks_complete o.hunks _ o.ahead)
    go false e = filled_and_ended o e (hunks_complete o.hunks _ o.ahead)

close_completes : (o : HunkSoFar) (b : BlockValue) (s : BlockStanding) → Completes (close_by o b s)
close_completes o b Beside = open_completes (with_block o b o.has_content)
close_completes o b Relocating = open_completes (with_block o b o.has_content)
close_completes o b Content = open_completes (with_block o b true)
close_completes o b Ending = hunks_complete o.hunks _ o.ahead

-- ---- the open block

zero_passes : (p : Place) (word : ℕ) (x : Inside) → 0 < p.hunks → Within p word x → refuse_part p (part_of x) 0 ≡ None
zero_passes p word (AtCount ForName) k h = refl
zero_passes p word (AtSize s) k h = size_zero_passes p
zero_passes p word (AtTarget groups owed) k h = passes_then (ltb 0 p.hunks) None (Some reasons.BadTarget) (lt-ltb 0 p.hunks k)
zero_passes p word (InOffsets groups target done owed) k h = passes_else (ltb (4 * p.longs) (0 + 4)) (Some reasons.BadOffset) None (le-ltb (4 * p.longs) (0 + 4) (omega (arith, h.3)))
zero_passes p word (InExtOffsets entries w name value done owed) k h = absurd h
zero_passes p word _ k h = refl

zero_completes : (p : Place) (x : Inside) → 0 ≡ completing (InBlock p (part_of x))
zero_completes p (AtCount ForName) = refl
zero_completes p _ = refl

module _ (o : HunkSoFar) (word : ℕ) (some : 0 < o.hunks) where
  parts_complete : (n : BlockNext) (ps : List (Part × ℕ)) (body : BlockBody) → NextFits (place_of o) word n → AllByRecursion inside.IsZero ps → Follows n ps (Whole body) → Completes (after o word n)
  parts_complete n [] body f z leads = subst (λ (m : BlockNext). Completes (after o word m)) (sym leads) (close_completes o (block word body) (standing body))
  parts_complete (Whole b) (p ∷ ps) body f z leads = absurd leads
  parts_complete (Open x) (p ∷ ps) body f z leads =
      let ok = zero_passes (place_of o) word x some f.1 in
      on_step (InBody o word x) 0 (omega arith) ok (zero_completes (place_of o) x)
      (parts_complete (step_inside x 0) ps body (step_fits (place_of o) word x 0 f (omega arith) ok) z.1 (subst (λ (w : ℕ). Follows (step_inside x w) ps (Whole body)) z.0 leads.1))

  body_completes : (x : Inside) → NextFits (place_of o) word (Open x) → Completes (More (InBody o word x))
  body_completes x f = let c = inside.completes x in parts_complete (Open x) c.parts c.body f c.zeros c.follows

-- ---- everything

rows_complete : (hunks : ℕ) (done : List TableEntry) (n : ℕ) → Completes (rows hunks done n)
rows_complete hunks done zero = hunks_complete hunks [] done
rows_complete hunks done (suc n) = on_step (AtSizeWord hunks done n) 0 (omega arith) refl refl (rows_complete hunks (done ++ table_entry 0 0 ∷ []) n)

last_completes : (hunks : ℕ) → 0 < hunks → hunks ≤ 65536 → Completes (More (AtLastHunk hunks))
last_completes hunks h k =
    on_step (AtLastHunk hunks) (hunks - 1) (omega arith) (passes_then (eqb (hunks - 1 + 1) hunks) None (Some reasons.LastHunk) (eq-eqb (hunks - 1 + 1) hunks (omega arith))) refl (rows_complete hunks [] hunks)

first_hunk_completes : (hunks : ℕ) → 0 < hunks → hunks ≤ 65536 → Completes (More (AtFirstHunk hunks))
first_hunk_completes hunks h k = on_step (AtFirstHunk hunks) 0 (omega arith) refl refl (last_completes hunks h k)

table_size_completes : Completes (More AtTableSize)
table_size_completes = on_step AtTableSize 1 (omega arith) refl refl (first_hunk_completes 1 (omega arith) (omega arith))

resident_completes : Completes (More AtResident)
resident_completes = on_step AtResident 0 (omega arith) refl refl table_size_completes

-- What has been read is completed by longwords that are owed.
pub completes : (n : Next) → file.NextFits n → Completes n
completes (More AtFirst) h = on_step AtFirst 0x3F3 (omega arith) refl refl resident_completes
completes (More AtResident) h = resident_completes
completes (More AtTableSize) h = table_size_completes
completes (More (AtFirstHunk hunks)) h = first_hunk_completes hunks h.0 h.1
completes (More (AtLastHunk hunks)) h = last_completes hunks h.0 h.1
completes (More (AtSizeWord hunks done n)) h = rows_complete hunks done (suc n)
completes (More (AtAttributes hunks done word n)) h = on_step (AtAttributes hunks done word n) 0 (omega arith) refl refl (rows_complete hunks (done ++ table_entry word 0 ∷ []) n)
completes (More (AtBlock o)) h = open_completes o
completes (More (InBody o word x)) h = body_completes o word h.0.front_fits.hunks_fit.0 x h.2
completes (Finished v) h = record { value = v; labels = []; leads = refl; accepted = tt }
