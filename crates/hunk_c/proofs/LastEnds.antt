-- A whole load file ends with the END of its last hunk, before which it is between two blocks for the last time.
use Rattle.std.proofs.Common.{◌≡◌, ℕ, zero, suc, ◌+◌, ◌-◌, ◌/◌, ◌<◌, Bool, true, false, cond, List, [], ◌∷◌, ◌++◌, length, take, refl, sym, ap, subst, ◌∙◌, append_assoc, length-append, arith, Option, Some, None}
use Rattle.std.proofs.lemmas.List.{length-take-le, map-append, take_at}
use Rattle.hunk_words.specs.{Bits.{has_both_bits, is_advisory, kind}, Longs.{IsBytes, longs}, declared.block_word.Kind.Kind}
use Rattle.hunk_words.specs.declared.block_word.Kind.TheVariants as kinds
use Rattle.hunk_words.specs.declared.reason.Reason.TheVariants as reasons
use Rattle.hunk_words.proofs.LongLaws.{length-bytes_of}
use Rattle.hunk_grammar.specs.PhaseSteps as inside
use Rattle.hunk_grammar.specs.Positions as load
use Rattle.hunk_grammar.specs.Roles.{Role, refuse, refuse_kind}
use Rattle.hunk_grammar.specs.Standings.{BlockStanding, Beside, Content, Relocating, Ending}
use Rattle.hunk_grammar.specs.declared.phase.Phase.{Phase}
use Rattle.hunk_grammar.specs.declared.phase.Phase.TheVariants as phases
use Rattle.hunk_grammar.specs.declared.position.OpenHunk.{OpenHunk}
use Rattle.hunk_grammar.specs.declared.position.Position.TheVariants as positions
use Rattle.hunk_blocks.specs.{BlockSteps.{BlockNext, Open, Whole, begin_body}, Faults.words, ReaderPhase.phase_of, Values.{BlockBody, BlockValue}}
use Rattle.hunk_blocks.proofs.Lists.{not_nil}
use Rattle.hunk_files.specs.Fault.{HasLoadText}
use Rattle.hunk_files.specs.FileSteps.{AtAttributes, AtBlock, AtFirst, AtFirstHunk, AtLastHunk, AtResident, AtSizeWord, AtTableSize, Finished, HunkSoFar, InBody, Leads, More, Next, Progress, after, block, close_by, hunk, open_hunk, role_of, rows, sized_row, step_file, table_entry}
use Rattle.hunk_files.specs.LoadFile.{HunkValue, IsLoadFile, LoadFileValue, TableEntry, standing}
use Rattle.hunk_files.specs.{LoadText.{text}, Machines.load_at, ReaderPosition.{open_of, position_of}}
use Rattle.hunk_files.specs.WordsRead.{AreAccepted, HasRead, Labelled}
use Rattle.hunk_files.proofs.cuts.LoadCuts.{begins}
use Rattle.hunk_files.proofs.walk.{FileProgress.ProgressFits, LoadPlaces.position_at, Positions.step_position, Reading.{file_read, reads}, Scan.begun_longs}
use Rattle.hunk_c.specs.FrontPlaces.{IsFrontOf, IsLast, before_last_end, find_hunk, hunk_between}
use Rattle.hunk_c.specs.Fronts.{InLoadText}
use Rattle.hunk_c.proofs.{LoadFronts.{found_there, load_front, none_inside}, ReadLongwords.text_reads}

-- ---- the last longword

-- The last of the longwords that lead to a whole file, and where they stand before it.
record EndsSo (n : Next) (ls : Labelled) (v : LoadFileValue) : Type 0 where
  before : Labelled
  p : Progress
  w : ℕ
  split : ls ≡ before ++ (role_of p, w) ∷ []
  leads : Leads n before (More p)
  accepted : AreAccepted before
  passes : refuse (role_of p) w ≡ None
  ends : step_file p w ≡ Finished v

ends_so : (n : Next) (l : Role × ℕ) (ls : Labelled) (v : LoadFileValue) → Leads n (l ∷ ls) (Finished v) → AreAccepted (l ∷ ls) → EndsSo n (l ∷ ls) v
ends_so (Finished u) l ls v leads ok = absurd leads
ends_so (More p) l [] v leads ok =
    record {
      before = [];
      p = p;
      w = l.1;
      split = ap (λ (r : Role). (r, l.1) ∷ []) (sym leads.0);
      leads = refl;
      accepted = tt;
      passes = ap (λ (r : Role). refuse r l.1) leads.0 ∙ ok.0.1;
      ends = leads.1;
    }
ends_so (More p) l (k ∷ ls) v leads ok =
    let rest = ends_so (step_file p l.1) k ls v leads.1 ok.1 in
    record {
      before = l ∷ rest.before;
      p = rest.p;
      w = rest.w;
      split = ap (λ (xs : Labelled). l ∷ xs) rest.split;
      leads = (leads.0, rest.leads);
      accepted = (ok.0, rest.accepted);
      passes = rest.passes;
      ends = rest.ends;
    }

-- ---- what it stands for

-- the file of an open hunk that is the last
record IsLastOf (o : HunkSoFar) (v : LoadFileValue) : Type 0 where
  none_ahead : o.ahead ≡ []
  count : length v ≡ suc (length o.finished)

open_ends : (hunks : ℕ) (finished : List HunkValue) (ahead : List TableEntry) (v : LoadFileValue) → open_hunk hunks finished ahead ≡ Finished v → (ahead ≡ []) × (finished ≡ v)
open_ends hunks finished [] v e = (refl, cc)
open_ends hunks finished (entry ∷ ahead) v e = absurd cc

rows_go_on : (hunks : ℕ) (done : List TableEntry) (entry : TableEntry) (owed : ℕ) (v : LoadFileValue) → rows hunks (done ++ entry ∷ []) owed ≡ Finished v → ⊥
rows_go_on hunks done entry zero v e = not_nil done entry [] (open_ends hunks [] (done ++ entry ∷ []) v e).0
rows_go_on hunks done entry (suc owed) v e = absurd cc

row_goes_on : (hunks : ℕ) (done : List TableEntry) (w owed : ℕ) (both : Bool) (v : LoadFileValue) → sized_row hunks done w owed both ≡ Finished v → ⊥
row_goes_on hunks done w owed true v e = absurd cc
row_goes_on hunks done w owed false v e = rows_go_on hunks done (table_entry w 0) owed v e

close_ends : (o : HunkSoFar) (b : BlockValue) (s : BlockStanding) (v : LoadFileValue) → close_by o b s ≡ Finished v → IsLastOf o v
close_ends o b Ending v e =
    let last : HunkValue = hunk o.entry (o.blocks ++ b ∷ []) in
    let h = open_ends o.hunks (o.finished ++ last ∷ []) o.ahead v e in
    record { none_ahead = h.0; count = omega (arith, ap length h.1, length-append o.finished (last ∷ [])) }
close_ends o b Beside v e = absurd cc
close_ends o b Relocating v e = absurd cc
close_ends o b Content v e = absurd cc

after_ends : (o : HunkSoFar) (word : ℕ) (n : BlockNext) (v : LoadFileValue) → after o word n ≡ Finished v → (body : BlockBody) × (n ≡ Whole body) × IsLastOf o v
after_ends o word (Open x) v e = absurd cc
after_ends o word (Whole body) v e = (body, refl, close_ends o (block word body) (standing body) v e)

-- Without content in the hunk no block word ends a block.
has_content : (has both advisory : Bool) (k : Kind) (body : BlockBody) → cond both (Some reasons.BothBits) (refuse_kind has advisory k) ≡ None → begin_body k ≡ Whole body → has ≡ true
has_content true both advisory k body ok e = refl
has_content false true advisory k body ok e = absurd cc
has_content false false advisory kinds.Name body ok e = absurd cc
has_content false false advisory _ body ok e = absurd cc

-- Within a block no longword ends the file.
onward_goes_on : (o p : OpenHunk) (next : Option Phase) → load.onward o (load.at p phases.BlockWord) next ≡ positions.Done → ⊥
onward_goes_on o p (Some phase) e = absurd cc
onward_goes_on o p None e = absurd cc

inside_goes_on : (o : OpenHunk) (phase : Phase) (w : ℕ) → hunk_between (positions.Body o phase) ≡ None → load.step_in o phase w ≡ positions.Done → ⊥
inside_goes_on o phases.FirstBlock w none e = absurd cc
inside_goes_on o phases.BlockWord w none e = absurd cc
inside_goes_on o phases.ContentSize w none e = onward_goes_on o (load.with_content o) (inside.step phases.ContentSize w) e
inside_goes_on o phases.BssSize w none e = absurd cc
inside_goes_on o (phases.Content longs owed) w none e = onward_goes_on o (load.with_content o) (inside.step (phases.Content longs owed) w) e
inside_goes_on o phase w none e = onward_goes_on o o (inside.step phase w) e

record IsAtEnd (p : Progress) (v : LoadFileValue) : Type 0 where
  so_far : HunkSoFar
  at_block : p ≡ AtBlock so_far
  last : IsLastOf so_far v
  content : so_far.has_content ≡ true

at_end : (p : Progress) (w : ℕ) (v : LoadFileValue) → ProgressFits p → 0 < length v → refuse (role_of p) w ≡ None → step_file p w ≡ Finished v → IsAtEnd p v
at_end (AtBlock o) w v fits some ok e =
    let a = after_ends o w (begin_body (kind w)) v e in
    record { so_far = o; at_block = refl; last = a.2; content = has_content o.has_content (has_both_bits w) (is_advisory w) (kind w) a.0 ok a.1 }
at_end (InBody o word x) w v fits some ok e =
    absurd (inside_goes_on (open_of o) (phase_of x) w (none_inside (open_of o) x) (sym (step_position (InBody o word x) w fits) ∙ ap position_of e))
at_end (AtLastHunk zero) w v fits some ok e = absurd (omega (arith, some, ap length (open_ends 0 [] [] v e).1))
at_end (AtLastHunk (suc hunks)) w v fits some ok e = absurd cc
at_end (AtSizeWord hunks done owed) w v fits some ok e = absurd (row_goes_on hunks done w owed (has_both_bits w) v e)
at_end (AtAttributes hunks done word owed) w v fits some ok e = absurd (rows_go_on hunks done (table_entry word w) owed v e)
at_end AtFirst w v fits some ok e = absurd cc
at_end AtResident w v fits some ok e = absurd cc
at_end AtTableSize w v fits some ok e = absurd cc
at_end (AtFirstHunk hunks) w v fits some ok e = absurd cc

-- ---- the last place

-- The longwords before the last, after which another block word may come.
record BeforeEnd (v : LoadFileValue) : Type 0 where
  before : List ℕ
  w : ℕ
  text_is : text v ≡ before ++ w ∷ []
  found : hunk_between (load_at before) ≡ Some (record { hunks = length v; ahead = 0; has_content = true })

before_end : (v : LoadFileValue) → IsLoadFile v → BeforeEnd v
before_end v is = go (file_read v is).done (file_read v is).leads (file_read v is).accepted (file_read v is).all
  where
    go : (ls : Labelled) → Leads (More AtFirst) ls (Finished v) → AreAccepted ls → words ls ≡ text v → BeforeEnd v
    go [] leads ok all = absurd cc
    go (l ∷ ls) leads ok all =
        let e = ends_so (More AtFirst) l ls v leads ok in
        let read : HasRead (words e.before) (More e.p) = record { done = e.before; leads = e.leads; accepted = e.accepted; all = refl } in
        let fits = (reads read).0 in
        let a = at_end e.p e.w v fits is.some e.passes e.ends in
        let o = a.so_far in
        let open_read : HasRead (words e.before) (More (AtBlock o)) = subst (λ (p : Progress). HasRead (words e.before) (More p)) a.at_block read in
        let none : length o.ahead ≡ 0 = ap length a.last.none_ahead in
        let count : o.hunks ≡ length v = omega (arith, (reads open_read).0.front_fits.counts, none, a.last.count) in
        record {
          before = words e.before;
          w = e.w;
          text_is = sym all ∙ ap words e.split ∙ map-append (λ (x : Role × ℕ). x.1) e.before ((role_of e.p, e.w) ∷ []);
          found = found_there (words e.before) o open_read ∙ (λ i. Some (record { hunks = count i; ahead = none i; has_content = a.content i }));
        }

module _ (v : LoadFileValue) (is : IsLoadFile v) (ws more : List ℕ) (begins : ws ≡ text v ++ more) where
  last : BeforeEnd v
  last = before_end v is

  size : length (text v) ≡ length last.before + 1
  size = ap length last.text_is ∙ length-append last.before (last.w ∷ [])

  pub some_longs : 0 < length (text v)
  some_longs = omega (arith, size)

  all_taken : take (length (text v)) ws ≡ text v
  all_taken = ap (take (length (text v))) begins ∙ take_at (text v) more (length (text v)) refl

  pub stands_last : IsLast (find_hunk ws) (length (text v)) (length (text v) - 1) (record { hunks = length v; ahead = 0; has_content = true })
  stands_last =
      let n : length (text v) - 1 ≡ length last.before = omega (arith, size) in
      let front : take (length last.before) ws ≡ last.before =
      ap (take (length last.before)) (begins ∙ ap (λ (xs : List ℕ). xs ++ more) last.text_is ∙ append_assoc last.before (last.w ∷ []) more) ∙ take_at last.before (last.w ∷ more) (length last.before) refl in
      record {
        inside = omega arith;
        found = ap (find_hunk ws) n ∙ ap (λ (xs : List ℕ). hunk_between (load_at xs)) front ∙ last.found;
        none_after = λ m l k.
            let end : m ≡ length (text v) = omega (arith, l, k) in
            ap (find_hunk ws) end ∙ ap (λ (xs : List ℕ). hunk_between (load_at xs)) all_taken ∙ ap hunk_between (position_at (text v) (Finished v) (file_read v is));
      }

-- The front of a whole load file.
module _ (bytes : List ℕ) (fit : IsBytes bytes) (size : ℕ) (h : HasLoadText bytes size) where
  pub size_is : size / 4 ≡ length (text h.value)
  size_is = omega (arith, ap length h.text_is, length-bytes_of (text h.value), length-take-le size bytes h.whole)

  pub whole_longs : 0 < size / 4
  whole_longs = omega (arith, size_is, some_longs h.value h.is_load_file (longs bytes) _ (begun_longs bytes (begins bytes size h)))

  pub whole_front : IsFrontOf InLoadText bytes (before_last_end (length h.value) (size / 4))
  whole_front =
      load_front bytes fit (size / 4) (text_reads bytes size h) (size / 4 - 1) _
      (subst (λ (n : ℕ). IsLast (find_hunk (longs bytes)) n (n - 1) (record { hunks = length h.value; ahead = 0; has_content = true })) (sym size_is)
      (stands_last h.value h.is_load_file (longs bytes) _ (begun_longs bytes (begins bytes size h))))
