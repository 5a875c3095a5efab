-- Each loader that stands after bytes may stand so by its numbers.
use Rattle.std.proofs.Common.{◌≡◌, ℕ, ◌+◌, ◌-◌, ◌*◌, ◌%◌, ◌^◌, ◌<◌, ◌≤◌, ltb, Bool, true, false, List, [], ◌∷◌, ◌++◌, length, map, refl, sym, ap, subst, arith, inl, inr, ◌⊎◌, None, Some, if◌then◌else◌, length-append}
use Rattle.std.specs.List.{flat_map}
use Rattle.std.proofs.lemmas.Bool.{ltb-true, ltb-false}
use Rattle.std.proofs.lemmas.List.{length-map, map-append}
use Rattle.std.proofs.lemmas.List.Sums.{sum_by-cons}
use Rattle.hunk_words.specs.{Bits.{is_advisory, kind, size_longs}, Carriers.saturated, Longs.bytes_of, PendingBytes.pending_of}
use Rattle.hunk_words.specs.declared.reason.Reason.TheVariants as reasons
use Rattle.hunk_words.specs.declared.block_word.Kind.TheVariants as kinds
use Rattle.hunk_words.proofs.{LongLaws.length-bytes_of, PendingLaws.pending_few}
use Rattle.hunk_blocks.specs.Values.{BlockValue}
use Rattle.hunk_blocks.specs.BlockSteps.{ForName, ForCode, ForData, ForBss, Counted, SizedCode, SizedData, Inside, AtCount, AtSize, InPayload, AtGroup, AtTarget, InOffsets, AtEntry, InName, AtValue}
use Rattle.hunk_grammar.specs.BlockParts.{Part as parts}
use Rattle.hunk_blocks.specs.ReaderPhase.{phase_of}
use Rattle.hunk_grammar.specs.Positions as scan
use Rattle.hunk_grammar.specs.{Positions.is_done, Roles.{Role, refuse_kind}}
use Rattle.hunk_files.specs.{LoadFile.{TableEntry, HunkValue, LoadFileValue, IsLoadFile}, LoadText.{blocks_labelled, entry_labelled, header_labelled, hunk_labelled, labelled, table}}
use Rattle.hunk_files.specs.FileSteps.{HunkSoFar, Next, More, Finished, AtBlock, InBody, open_hunk, place_of}
use Rattle.hunk_files.specs.{ReaderPosition.{IsAfterHeader, block_phase, open_of, position_of}}
use Rattle.hunk_files.specs.declared.row.Row.{Row}
use Rattle.hunk_blocks.proofs.BlockProgress.{read_inside}
use Rattle.hunk_files.proofs.walk.FileProgress.{IsAdmitted, OpenFits, Reads, content_in, header_so_far, kind_is, open_so_far}
use Rattle.hunk_files.proofs.{walk.FileText.in_place, walk.HunkProgress.Fits, walk.Least.owes_least, walk.Reading.reads}
use Rattle.hunk_scatter.specs.{BodyLoaderFields.EndsWhole, BodyReader.{before, state_of}, Streaming.IsFed, declared.store.BodyState.BodyState}
use Rattle.hunk_scatter.specs.HeaderBytes.{header_words}
use Rattle.hunk_scatter.specs.declared.stream.Standing.{Standing}
use Rattle.hunk_scatter.proofs.{HeaderFronts.text_header, HeaderTexts.header_read, StreamLaws.pending_counted}
use Rattle.hunk_c.specs.Loaders.{MayOwe, MayStand, MayStandAt}

-- ---- how much was read

entries_least : (t : List TableEntry) → length t ≤ length (flat_map entry_labelled t)
entries_least [] = omega arith
entries_least (e ∷ t) = omega (arith, entries_least t, length-append (entry_labelled e) (flat_map entry_labelled t))

-- a header has been read, and of a file that is whole all of it
header_least : (o : HunkSoFar) → OpenFits o → (more : List (Role × ℕ)) → 5 + o.hunks ≤ length (open_so_far o ++ more)
header_least o f more =
    let t : List TableEntry = table o.finished ++ o.entry ∷ o.ahead in
    let entries : length t ≡ o.hunks = omega (arith, f.front_fits.counts, length-append (table o.finished) (o.entry ∷ o.ahead), length-map o.finished (λ (x : HunkValue). x.entry)) in
    let front : List (Role × ℕ) = header_so_far o.hunks t ++ flat_map (hunk_labelled o.hunks) o.finished in
    let blocks : List (Role × ℕ) = blocks_labelled o.hunks (size_longs o.entry.word) false o.blocks in
    omega (arith, entries, entries_least t, length-append (header_so_far o.hunks t) (flat_map (hunk_labelled o.hunks) o.finished), length-append front blocks, length-append (front ++ blocks) more)

opened_least : (hunks : ℕ) (t : List TableEntry) → scan.least_longs (position_of (open_hunk hunks [] t)) ≡ 3 * length t
opened_least hunks [] = refl
opened_least hunks (e ∷ t) = omega arith

file_least : (v : LoadFileValue) → IsLoadFile v → 5 + 4 * length v ≤ length (labelled v)
unfolding labelled
file_least v is =
    let t : List TableEntry = table v in
    let rest : List (Role × ℕ) = flat_map (hunk_labelled (length v)) v in
    let longs : List (Role × ℕ) → List ℕ = λ (ls : List (Role × ℕ)). map (λ (x : Role × ℕ). x.1) ls in
    let owed = owes_least (header_words t) (open_hunk (length t) [] t) (header_read t (text_header v is).0) v is (longs rest) (map-append (λ (x : Role × ℕ). x.1) (header_labelled t) rest) in
    omega (arith, owed, opened_least (length t) t, entries_least t, length-map v (λ (x : HunkValue). x.entry), length-append (header_labelled t) rest, length-map rest (λ (x : Role × ℕ). x.1))

abbrev least_longs : Next → ℕ
least_longs (More (AtBlock o)) = 5 + o.hunks
least_longs (More (InBody o word x)) = 5 + o.hunks
least_longs (Finished v) = 5 + 4 * length v
least_longs _ = 0

-- So many longwords were read at least, and they are few.
read_least : (n : Next) (ls : List (Role × ℕ)) → IsAfterHeader n → Reads n ls → (least_longs n ≤ length ls) × (least_longs n ≤ 5 + 4 * 65536)
read_least (More (AtBlock o)) ls b r = (
  omega (arith, header_least o r.0 [], ap (λ (xs : List (Role × ℕ)). length xs) r.1, length-append (open_so_far o) []),
  omega (arith, r.0.front_fits.hunks_fit.1),
)
read_least (More (InBody o word x)) ls b r = (
  omega (arith, header_least o r.0.0 (in_place (place_of o) ((parts.BlockWord, word) ∷ read_inside x)), ap (λ (xs : List (Role × ℕ)). length xs) r.1),
  omega (arith, r.0.0.front_fits.hunks_fit.1),
)
read_least (Finished v) ls b r = (omega (arith, file_least v r.0, ap (λ (xs : List (Role × ℕ)). length xs) r.1), omega (arith, r.0.most))
read_least _ ls b r = absurd cc

-- ---- what is owed

-- A content comes first, and relocations come after it.
none_before : (b : Bool) → (if b then Some reasons.SecondContent else None) ≡ None → b ≡ false
none_before true ok = absurd cc
none_before false ok = refl

content_came : (o : HunkSoFar) (word : ℕ) → IsAdmitted o word → kind word ≡ kinds.Reloc32 → o.has_content ≡ true
content_came o word a e = go o.has_content (kind_is o word kinds.Reloc32 a e)
  where
    go : (b : Bool) → refuse_kind b (is_advisory word) kinds.Reloc32 ≡ None → b ≡ true
    go true ok = refl
    go false ok = absurd cc

block_owes : (o : HunkSoFar) (blocks : List BlockValue) → o.has_content ≡ content_in false blocks → MayOwe (open_of o) (block_phase blocks)
block_owes o [] e = e
block_owes o (b ∷ blocks) e = tt

inside_owes : (o : HunkSoFar) (word : ℕ) (x : Inside) → IsAdmitted o word → Fits (place_of o) word x → MayOwe (open_of o) (phase_of x)
inside_owes o word (AtCount ForName) a f = tt
inside_owes o word (AtCount c) a f = tt
inside_owes o word (AtSize ForCode) a f = none_before o.has_content (kind_is o word kinds.Code a f.0)
inside_owes o word (AtSize ForData) a f = none_before o.has_content (kind_is o word kinds.Data a f.0)
inside_owes o word (AtSize ForBss) a f = none_before o.has_content (kind_is o word kinds.Bss a f.0)
inside_owes o word (InPayload (Counted c) done owed) a f = tt
inside_owes o word (InPayload (SizedCode top) done owed) a f = (none_before o.has_content (kind_is o word kinds.Code a f.0.0.0), omega arith, omega (arith, f.0.0.2))
inside_owes o word (InPayload (SizedData top) done owed) a f = (none_before o.has_content (kind_is o word kinds.Data a f.0.0.0), omega arith, omega (arith, f.0.0.2))
inside_owes o word (AtGroup groups) a f = content_came o word a f.1.0
inside_owes o word (AtTarget groups owed) a f = content_came o word a f.1.0.0
inside_owes o word (InOffsets groups target done owed) a f = (content_came o word a f.1.0.0, f.1.1)
inside_owes o word (AtEntry entries) a f = tt
inside_owes o word (InName entries w done owed) a f = omega (arith, f.0.1.counts)
inside_owes o word (AtValue entries w name) a f = omega arith
inside_owes o word _ a f = absurd f.1

-- ---- all of it

before_fours : (hs : List HunkValue) → before hs % 4 ≡ 0
before_fours [] = refl
before_fours (h ∷ hs) = omega (arith, before_fours hs, sum_by-cons (λ (x : HunkValue). 4 * size_longs x.entry.word) h hs)

saturated_fours : (n longs count : ℕ) → n ≡ 4 * longs + count → count < 4 → (saturated n % 4 ≡ count) ⊎ (saturated n ≡ 2 ^ 64 - 1)
saturated_fours n longs count e few = go (ltb n (2 ^ 64)) refl
  where
    go : (b : Bool) → ltb n (2 ^ 64) ≡ b → (saturated n % 4 ≡ count) ⊎ (saturated n ≡ 2 ^ 64 - 1)
    go true t = inl (omega (arith, ltb-true n (2 ^ 64) t, e, few))
    go false t = inr (omega (arith, ltb-false n (2 ^ 64) t))

module _ (rows : List Row) (memory : List ℕ) (s : Standing) (fed : List ℕ) (h : IsFed rows memory s fed) where
  length_fed : length fed ≡ 4 * length h.stands.ws + s.pending.count
  length_fed =
      let r = h.stands in
      omega (arith, ap (λ (xs : List ℕ). length xs) r.spelled, length-append (bytes_of r.ws) (pending_of s.pending), length-bytes_of r.ws, pending_counted s.pending r.few)

  -- so many bytes were fed at least
  least : 4 * least_longs h.stands.next ≤ s.fed
  least =
      let r = h.stands in
      let k = read_least r.next r.read.done r.after (reads r.read) in
      omega (arith, h.counted, length_fed, k.0, k.1, ap (λ (xs : List ℕ). length xs) r.read.all, length-map r.read.done (λ (x : Role × ℕ). x.1))

  abbrev TellsSo : BodyState → Type 0
  TellsSo x = (x.start % 4 ≡ 0) × MayStandAt x.hunk s.fed x.position × (is_done x.position ≡ true → s.pending.count ≡ 0)

  told : TellsSo s.state
  told = let r = h.stands in subst TellsSo r.state_is (go r.next r.read.done r.after (reads r.read) least r.whole)
    where
      go : (n : Next) (ls : List (Role × ℕ)) → IsAfterHeader n → Reads n ls → 4 * least_longs n ≤ s.fed → EndsWhole n (pending_of s.pending) → TellsSo (state_of n)
      go (More (AtBlock o)) ls b r m w =
          (before_fours o.finished, (record { counts = omega (arith, r.0.front_fits.counts); few = r.0.front_fits.hunks_fit.1 }, m, block_owes o o.blocks r.0.content_is), λ done. absurd cc)
      go (More (InBody o word x)) ls b r m w =
          (before_fours o.finished, (record { counts = omega (arith, r.0.0.front_fits.counts); few = r.0.0.front_fits.hunks_fit.1 }, m, inside_owes o word x r.0.1 r.0.2), λ done. absurd cc)
      go (Finished v) ls b r m w = (before_fours v, (r.0.some, r.0.most, m), λ done. omega (arith, ap (λ (xs : List ℕ). length xs) w, pending_counted s.pending h.stands.few))
      go _ ls b r m w = absurd cc

  pub may_stand : MayStand s
  may_stand = record {
    counts = record {
      few = pending_few s.pending h.stands.few;
      counted = subst (λ (n : ℕ). (n % 4 ≡ s.pending.count) ⊎ (n ≡ 2 ^ 64 - 1)) (sym h.counted) (saturated_fours (length fed) (length h.stands.ws) s.pending.count length_fed (pending_few s.pending h.stands.few));
      whole_longs = told.0;
    };
    position = told.1;
    none_pending = told.2;
  }
