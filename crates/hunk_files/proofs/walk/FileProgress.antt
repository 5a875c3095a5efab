-- What has been read of a load file is the text up to there, and it fits as long as no longword was refused.
use Rattle.std.proofs.Common.{rules, ◌≡◌, ℕ, zero, suc, ◌+◌, ◌-◌, ◌<◌, ◌≤◌, Bool, true, false, ◌||◌, eqb, List, [], ◌∷◌, ◌++◌, length, refl, sym, ap, subst, ◌∙◌, append_assoc, append-nil, arith, Some, None}
use Rattle.std.proofs.lemmas.Grind.{common_steps}
use Rattle.std.proofs.{Math.Bool.{or-false, or-true}, lemmas.{Bool.eqb-true}}
use Rattle.std.specs.{Prelude.{IsTrue, cond}, List.{flat_map, AllByRecursion}}
use Rattle.hunk_words.specs.{declared.block_word.Kind.Kind, Bits.{kind, is_advisory, size_longs, has_both_bits}}
use Rattle.hunk_words.specs.Longs.{IsLong}
use Rattle.hunk_words.specs.declared.reason.Reason.TheVariants as reasons
use Rattle.hunk_blocks.specs.Values.{BlockBody, BlockValue, FitsWord}
use Rattle.hunk_grammar.specs.BlockParts.{Part as parts}
use Rattle.hunk_blocks.specs.BlockSteps.{BlockNext, Open, Whole}
use Rattle.hunk_files.specs.LoadFile.{TableEntry, HunkValue, IsTableEntry, standing, AreInOrder, IsHunkBlock, IsHunk, IsLoadFile}
use Rattle.hunk_files.specs.LoadText.{entry_labelled, block_labelled, blocks_labelled, hunk_labelled, labelled, table}
use Rattle.hunk_files.specs.FileSteps.{table_entry, hunk, block, HunkSoFar, Progress, AtFirst, AtResident, AtTableSize, AtFirstHunk, AtLastHunk, AtSizeWord, AtAttributes, AtBlock, InBody, Next, More, Finished, place_of, role_of, open_hunk, rows, with_block, close, after, sized_row, step_file}
use Rattle.hunk_files.specs.WordsRead.{Labelled}
use Rattle.hunk_grammar.specs.Standings.{BlockStanding, is_content, is_ending, refuse_standing}
use Rattle.hunk_grammar.specs.Roles.{Place, Role, refuse, refuse_part, refuse_kind, Role as roles}
use Rattle.hunk_blocks.proofs.BlockProgress.{read_inside, read_next, step_reads, begin_reads}
use Rattle.hunk_blocks.proofs.Lists.{All-more, map-more, flat_map-more, more_owed, passed_true, passed_both, passes_else, passes_then}
use Rattle.hunk_files.proofs.walk.HunkProgress.{BodyFits, begin_fits, step_fits, alone_passes}
use Rattle.hunk_files.proofs.{walk.FileText.{in_place, standings}, walk.HunkOrder.end_stands}
use Rattle.hunk_files.proofs.walk.HunkProgress as blocks

-- ---- the text so far

abbrev pub header_so_far : ℕ → List TableEntry → List (Role × ℕ)
header_so_far hunks done =
    (roles.FirstLong, 0x3F3) ∷ (roles.ResidentName, 0) ∷ (roles.TableSize, hunks) ∷ (roles.FirstHunk, 0) ∷ (roles.LastHunk hunks, hunks - 1)
    ∷ flat_map entry_labelled done

-- the header, and the hunks that are whole
abbrev pub front : ℕ → List TableEntry → List HunkValue → List (Role × ℕ)
front hunks t finished = header_so_far hunks t ++ flat_map (hunk_labelled hunks) finished

abbrev pub open_so_far : HunkSoFar → List (Role × ℕ)
open_so_far o =
    front o.hunks (table o.finished ++ o.entry ∷ o.ahead) o.finished ++ blocks_labelled o.hunks (size_longs o.entry.word) false o.blocks

abbrev pub read_progress : Progress → List (Role × ℕ)
read_progress AtFirst = []
read_progress AtResident = (roles.FirstLong, 0x3F3) ∷ []
read_progress AtTableSize = (roles.FirstLong, 0x3F3) ∷ (roles.ResidentName, 0) ∷ []
read_progress (AtFirstHunk hunks) = (roles.FirstLong, 0x3F3) ∷ (roles.ResidentName, 0) ∷ (roles.TableSize, hunks) ∷ []
read_progress (AtLastHunk hunks) = (roles.FirstLong, 0x3F3) ∷ (roles.ResidentName, 0) ∷ (roles.TableSize, hunks) ∷ (roles.FirstHunk, 0) ∷ []
read_progress (AtSizeWord hunks done owed) = header_so_far hunks done
read_progress (AtAttributes hunks done word owed) = header_so_far hunks done ++ (roles.SizeWord, word) ∷ []
read_progress (AtBlock o) = open_so_far o
read_progress (InBody o word x) = open_so_far o ++ in_place (place_of o) ((parts.BlockWord, word) ∷ read_inside x)

abbrev pub read : Next → List (Role × ℕ)
read (More p) = read_progress p
read (Finished v) = labelled v

-- whether the content block is among the blocks
abbrev pub content_in : Bool → List BlockValue → Bool
content_in has_content [] = has_content
content_in has_content (b ∷ more) = content_in (has_content || is_content (standing b.body)) more

abbrev pub place_in : ℕ → ℕ → Bool → Place
place_in hunks longs has_content = record { hunks = hunks; longs = longs; has_content = has_content }

blocks-more : (hunks longs : ℕ) (has_content : Bool) (bs : List BlockValue) (b : BlockValue) →
    blocks_labelled hunks longs has_content (bs ++ b ∷ []) ≡ blocks_labelled hunks longs has_content bs ++ block_labelled (place_in hunks longs (content_in has_content bs)) b
blocks-more hunks longs has_content [] b = append-nil (block_labelled (place_in hunks longs has_content) b)
blocks-more hunks longs has_content (c ∷ bs) b =
    ap (λ (l : Labelled). block_labelled (place_in hunks longs has_content) c ++ l) (blocks-more hunks longs (has_content || is_content (standing c.body)) bs b)
    ∙ sym (append_assoc (block_labelled (place_in hunks longs has_content) c) (blocks_labelled hunks longs (has_content || is_content (standing c.body)) bs) _)

content_in-more : (has_content : Bool) (bs : List BlockValue) (b : BlockValue) → content_in has_content (bs ++ b ∷ []) ≡ content_in has_content bs || is_content (standing b.body)
content_in-more has_content [] b = refl
content_in-more has_content (c ∷ bs) b = content_in-more (has_content || is_content (standing c.body)) bs b

-- ---- what fits so far

abbrev pub HunksFit : ℕ → Type 0
HunksFit hunks = (0 < hunks) × (hunks ≤ 65536)

pub record RowsFit (hunks : ℕ) (done : List TableEntry) (owed : ℕ) : Type 0 where
  pub hunks_fit : HunksFit hunks
  pub counts : length done + owed ≡ hunks
  pub rows_fit : AllByRecursion IsTableEntry done

pub record FrontFits (hunks : ℕ) (finished : List HunkValue) (ahead : List TableEntry) : Type 0 where
  pub hunks_fit : HunksFit hunks
  pub counts : length finished + length ahead ≡ hunks
  pub finished_fit : AllByRecursion (IsHunk hunks) finished
  pub ahead_fit : AllByRecursion IsTableEntry ahead

pub record OpenFits (o : HunkSoFar) : Type 0 where
  pub front_fits : FrontFits o.hunks o.finished (o.entry ∷ o.ahead)
  pub blocks_fit : AllByRecursion (IsHunkBlock o.hunks (size_longs o.entry.word)) o.blocks
  pub content_is : o.has_content ≡ content_in false o.blocks
  pub in_order : (later : List BlockStanding) → AreInOrder o.has_content later → AreInOrder false (standings o.blocks ++ later)

abbrev pub IsAdmitted : HunkSoFar → ℕ → Type 0
IsAdmitted o word = IsLong word × (refuse_part (place_of o) parts.BlockWord word ≡ None)

abbrev pub ProgressFits : Progress → Type 0
ProgressFits AtFirst = Unit {0}
ProgressFits AtResident = Unit {0}
ProgressFits AtTableSize = Unit {0}
ProgressFits (AtFirstHunk hunks) = HunksFit hunks
ProgressFits (AtLastHunk hunks) = HunksFit hunks
ProgressFits (AtSizeWord hunks done owed) = RowsFit hunks done (suc owed)
ProgressFits (AtAttributes hunks done word owed) = RowsFit hunks done (suc owed) × IsLong word × IsTrue (has_both_bits word)
ProgressFits (AtBlock o) = OpenFits o
ProgressFits (InBody o word x) = OpenFits o × IsAdmitted o word × blocks.Fits (place_of o) word x

-- Both at once: what has been read fits, and is this text.
abbrev pub NextFits : Next → Type 0
NextFits (More p) = ProgressFits p
NextFits (Finished v) = IsLoadFile v

abbrev pub Reads : Next → List (Role × ℕ) → Type 0
Reads n ls = NextFits n × (read n ≡ ls)

Reads-as : (n : Next) {ls ms : Labelled} → ls ≡ ms → Reads n ls → Reads n ms
Reads-as n e h = (h.0, h.1 ∙ e)

finished_reads : (hunks : ℕ) (finished : List HunkValue) → length finished ≡ hunks → labelled finished ≡ front hunks (table finished) finished
unfolding labelled
finished_reads hunks finished e = grind (arith, common_steps)

open_hunk_reads : (hunks : ℕ) (finished : List HunkValue) (ahead : List TableEntry) → FrontFits hunks finished ahead → Reads (open_hunk hunks finished ahead) (front hunks (table finished ++ ahead) finished)
open_hunk_reads hunks finished [] h = search (rules, finished_reads, front, append-nil, HunksFit)
open_hunk_reads hunks finished (e ∷ ahead) h = search rules

rows_read : (hunks : ℕ) (done : List TableEntry) (owed : ℕ) → RowsFit hunks done owed → Reads (rows hunks done owed) (header_so_far hunks done)
rows_read hunks done zero h = search rules
rows_read hunks done (suc owed) h = (h, refl)

-- ---- a block that is whole

-- the blocks with one more
module _ (o : HunkSoFar) (h : OpenFits o) (b : BlockValue) (fits : IsHunkBlock o.hunks (size_longs o.entry.word) b) where
  one_more_reads : blocks_labelled o.hunks (size_longs o.entry.word) false (o.blocks ++ b ∷ []) ≡ blocks_labelled o.hunks (size_longs o.entry.word) false o.blocks ++ block_labelled (place_of o) b
  one_more_reads = search (rules, blocks-more, place_in)

  still_open : (has_content : Bool) → has_content ≡ o.has_content || is_content (standing b.body) →
      refuse_standing o.has_content (standing b.body) ≡ None → is_ending (standing b.body) ≡ false →
      Reads (More (AtBlock (with_block o b has_content))) (open_so_far o ++ block_labelled (place_of o) b)
  still_open has_content e ok no_end = grind (arith, common_steps, content_in-more, front, one_more_reads, append_assoc, standings, map-more)

  now_whole : AreInOrder o.has_content (standing b.body ∷ []) →
      Reads (open_hunk o.hunks (o.finished ++ hunk o.entry (o.blocks ++ b ∷ []) ∷ []) o.ahead) (open_so_far o ++ block_labelled (place_of o) b)
  now_whole order =
      Reads-as (open_hunk o.hunks (o.finished ++ x ∷ []) o.ahead)
      (ap (λ (t : List TableEntry). front o.hunks t (o.finished ++ x ∷ [])) same_table
      ∙ ap (λ (l : Labelled). header_so_far o.hunks t ++ l) (flat_map-more (hunk_labelled o.hunks) o.finished x)
      ∙ sym (append_assoc (header_so_far o.hunks t) (flat_map (hunk_labelled o.hunks) o.finished) (hunk_labelled o.hunks x))
      ∙ ap (λ (l : Labelled). front o.hunks t o.finished ++ l) one_more_reads
      ∙ sym (append_assoc (front o.hunks t o.finished) (blocks_labelled o.hunks (size_longs o.entry.word) false o.blocks) (block_labelled (place_of o) b)))
      (open_hunk_reads o.hunks (o.finished ++ x ∷ []) o.ahead
      (record {
        hunks_fit = h.front_fits.hunks_fit;
        counts = more_owed o.finished x (length o.ahead) ∙ h.front_fits.counts;
        finished_fit = All-more (IsHunk o.hunks) o.finished x h.front_fits.finished_fit whole;
        ahead_fit = h.front_fits.ahead_fit.1;
      }))
    where
      x : HunkValue
      x = hunk o.entry (o.blocks ++ b ∷ [])

      t : List TableEntry
      t = table o.finished ++ o.entry ∷ o.ahead

      same_table : table (o.finished ++ x ∷ []) ++ o.ahead ≡ t
      same_table = ap (λ (es : List TableEntry). es ++ o.ahead) (map-more (λ (y : HunkValue). y.entry) o.finished x) ∙ append_assoc (table o.finished) (o.entry ∷ []) o.ahead

      whole : IsHunk o.hunks x
      whole = record {
        entry = h.front_fits.ahead_fit.0;
        blocks = All-more (IsHunkBlock o.hunks (size_longs o.entry.word)) o.blocks b h.blocks_fit fits;
        order = subst (λ (s : List BlockStanding). AreInOrder false s) (sym (map-more (λ (c : BlockValue). standing c.body) o.blocks b)) (h.in_order (standing b.body ∷ []) order);
      }

pub kind_admitted : (o : HunkSoFar) (word : ℕ) → IsAdmitted o word → (has_both_bits word ≡ false) × (refuse_kind o.has_content (is_advisory word) (kind word) ≡ None)
kind_admitted o word a = passed_both (has_both_bits word) reasons.BothBits (refuse_kind o.has_content (is_advisory word) (kind word)) a.1

block_fits : (o : HunkSoFar) (word : ℕ) (body : BlockBody) → IsAdmitted o word → BodyFits (place_of o) word body → IsHunkBlock o.hunks (size_longs o.entry.word) (block word body)
block_fits o word body a f = record { block = record { word = a.0; bits = (kind_admitted o word a).0; body = f.fits_word }; mode = f.of_load; fits = f.fits_hunk }

pub kind_is : (o : HunkSoFar) (word : ℕ) (k : Kind) → IsAdmitted o word → kind word ≡ k → refuse_kind o.has_content (is_advisory word) k ≡ None
kind_is o word k a e = subst (λ (x : Kind). refuse_kind o.has_content (is_advisory word) x ≡ None) e (kind_admitted o word a).1

-- A block whose word is not refused may stand here.
may_stand : (o : HunkSoFar) (word : ℕ) (body : BlockBody) → IsAdmitted o word → FitsWord word body → refuse_standing o.has_content (standing body) ≡ None
may_stand o word body a f = search rules

close_reads : (o : HunkSoFar) (word : ℕ) (body : BlockBody) → OpenFits o → IsAdmitted o word → BodyFits (place_of o) word body →
    Reads (close o (block word body)) (open_so_far o ++ block_labelled (place_of o) (block word body))
close_reads o word body h a f = search (rules, Reads, open_so_far, still_open, block_fits, or-false, may_stand, or-true, now_whole, end_stands)

after_reads : (o : HunkSoFar) (word : ℕ) (n : BlockNext) → OpenFits o → IsAdmitted o word → blocks.NextFits (place_of o) word n →
    Reads (after o word n) (open_so_far o ++ in_place (place_of o) ((parts.BlockWord, word) ∷ read_next n))
after_reads o word (Open x) h a f = ((h, a, f), refl)
after_reads o word (Whole body) h a f = close_reads o word body h a f

-- ---- every step

row_added : (hunks : ℕ) (done : List TableEntry) (e : TableEntry) (owed : ℕ) → RowsFit hunks done (suc owed) → IsTableEntry e → Reads (rows hunks (done ++ e ∷ []) owed) (header_so_far hunks done ++ entry_labelled e)
row_added hunks done e owed h fits = grind (arith, common_steps, Reads-as, flat_map-more, rows_read, more_owed)

size_word_reads : (hunks : ℕ) (done : List TableEntry) (w owed : ℕ) (b : Bool) → has_both_bits w ≡ b → RowsFit hunks done (suc owed) → IsLong w →
    Reads (sized_row hunks done w owed b) (header_so_far hunks done ++ (roles.SizeWord, w) ∷ [])
size_word_reads hunks done w owed true e h l = ((h, l, e), refl)
size_word_reads hunks done w owed false e h l = search (rules, Reads-as, header_so_far, passes_else, row_added)

attributes_read : (hunks : ℕ) (done : List TableEntry) (word w owed : ℕ) → RowsFit hunks done (suc owed) → IsLong word → has_both_bits word ≡ true → IsLong w →
    Reads (rows hunks (done ++ table_entry word w ∷ []) owed) ((header_so_far hunks done ++ (roles.SizeWord, word) ∷ []) ++ (roles.Attributes, w) ∷ [])
attributes_read hunks done word w owed h l e k = search (rules, Reads-as, header_so_far, passes_then, append_assoc, row_added)

pub zero_or_limit : (w : ℕ) → refuse roles.TableSize w ≡ None → HunksFit w
zero_or_limit w ok = search rules

first_passes : {A : Type 0} (a b c : Bool) (r s t : A) → cond a None (cond b (Some r) (cond c (Some s) (Some t))) ≡ None → a ≡ true
first_passes true b c r s t e = refl
first_passes false false true r s t e = absurd cc
first_passes _ _ _ r s t e = absurd cc

is_header_word : (w : ℕ) → refuse roles.FirstLong w ≡ None → 0x3F3 ≡ w
is_header_word w ok = sym (eqb-true w 0x3F3 (first_passes (eqb w 0x3F3) (eqb w 0x3E7) (eqb w 0x3FA) reasons.IsObject reasons.Library reasons.NotLoadFile ok))

is_zero : {A : Type 0} (w : ℕ) (r : A) → cond (eqb w 0) None (Some r) ≡ None → 0 ≡ w
is_zero w r ok = sym (eqb-true w 0 (passed_true (eqb w 0) r ok))

last_hunk_reads : (hunks w : ℕ) → HunksFit hunks → w + 1 ≡ hunks → Reads (rows hunks [] hunks) (read_progress (AtLastHunk hunks) ++ (roles.LastHunk hunks, w) ∷ [])
last_hunk_reads hunks w h e = search rules

-- A longword that is not refused leads on to what it adds to the text.
pub step_keeps : (p : Progress) (w : ℕ) → ProgressFits p → IsLong w → refuse (role_of p) w ≡ None → Reads (step_file p w) (read_progress p ++ (role_of p, w) ∷ [])
step_keeps AtFirst w h l ok = (tt, ap (λ (n : ℕ). (roles.FirstLong, n) ∷ []) (is_header_word w ok))
step_keeps AtResident w h l ok = (tt, ap (λ (n : ℕ). read_progress AtResident ++ (roles.ResidentName, n) ∷ []) (is_zero w reasons.Resident ok))
step_keeps AtTableSize w h l ok = (zero_or_limit w ok, refl)
step_keeps (AtFirstHunk hunks) w h l ok = (h, ap (λ (n : ℕ). read_progress (AtFirstHunk hunks) ++ (roles.FirstHunk, n) ∷ []) (is_zero w reasons.FirstHunk ok))
step_keeps (AtLastHunk hunks) w h l ok = last_hunk_reads hunks w h (eqb-true (w + 1) hunks (passed_true (eqb (w + 1) hunks) reasons.LastHunk ok))
step_keeps (AtSizeWord hunks done owed) w h l ok = size_word_reads hunks done w owed (has_both_bits w) refl h l
step_keeps (AtAttributes hunks done word owed) w h l ok = attributes_read hunks done word w owed h.0 h.1 h.2 l
step_keeps (AtBlock o) w h l ok = search (rules, Reads-as, open_so_far, in_place, begin_reads, after_reads, begin_fits, kind_admitted)
step_keeps (InBody o word x) w h l ok = search (rules, Reads-as, open_so_far, in_place, step_reads, alone_passes, map-more, read_inside, append_assoc, after_reads, step_fits)
