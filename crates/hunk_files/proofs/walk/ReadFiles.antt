-- What was read of a load file is of each that goes on from there.
use Rattle.std.proofs.Common.{◌≡◌, ℕ, zero, suc, Bool, true, false, List, [], ◌∷◌, ◌++◌, length, refl, sym, ap, ◌∙◌, append_assoc, append-nil, arith}
use Rattle.std.proofs.lemmas.List.{length-map}
use Rattle.std.specs.List.{flat_map}
use Rattle.hunk_words.specs.{Bits.{has_both_bits, kind}, Longs.bytes_of}
use Rattle.hunk_words.proofs.LongLaws.{bytes_of-append}
use Rattle.hunk_blocks.specs.Values.{BlockBody, BlockValue, RelocGroup}
use Rattle.hunk_blocks.specs.BlockSteps.{Counted, Filling, Inside, InPayload, AtGroup, AtTarget, InOffsets, BlockNext, Open, Whole, begin_body, fill, group, relocate, step_inside}
use Rattle.hunk_blocks.proofs.Lists.{flat_map-more, map-more}
use Rattle.hunk_grammar.specs.Standings.{BlockStanding, Beside, Content, Relocating, Ending}
use Rattle.hunk_files.specs.LoadFile.{TableEntry, HunkValue, LoadFileValue, IsLoadFile, standing}
use Rattle.hunk_files.specs.LoadText.{table, text}
use Rattle.hunk_files.specs.FileSteps.{block, hunk, table_entry, HunkSoFar, Progress, AtFirstHunk, AtLastHunk, AtSizeWord, AtAttributes, AtBlock, InBody, Next, More, Finished, after, close, close_by, open_hunk, rows, sized_row, step_file, Leads}
use Rattle.hunk_files.specs.Image.{group_relocations}
use Rattle.hunk_files.specs.OpenSegment.{bytes_in, bytes_so_far, pairs_in, pairs_so_far, pairs_to}
use Rattle.hunk_files.specs.ReadFiles.{HasEntries, HasOpenBlock, HasOpenHunk, IsOf}
use Rattle.hunk_files.specs.WordsRead.{HasRead, Labelled}
use Rattle.hunk_files.proofs.walk.Reading.{file_read, rest_read}

-- ---- of a block

-- One longword adds to the content and the relocations, or to neither.
record Grows (x : Inside) (n : BlockNext) : Type 0 where
  bytes : List ℕ
  pairs : List (ℕ × ℕ)
  bytes_are : bytes_so_far n ≡ bytes_in x ++ bytes
  pairs_are : pairs_so_far n ≡ pairs_in x ++ pairs

fill_grows : (f : Filling) (done : List ℕ) (w owed : ℕ) → Grows (InPayload f done owed) (fill f (done ++ w ∷ []) owed)
fill_grows (Counted c) done w owed = record { bytes = bytes_so_far (fill (Counted c) (done ++ w ∷ []) owed); pairs = pairs_so_far (fill (Counted c) (done ++ w ∷ []) owed); bytes_are = refl; pairs_are = refl }
fill_grows f done w zero = record { bytes = bytes_of (w ∷ []); pairs = []; bytes_are = bytes_of-append done (w ∷ []); pairs_are = refl }
fill_grows f done w (suc owed) = record { bytes = bytes_of (w ∷ []); pairs = []; bytes_are = bytes_of-append done (w ∷ []); pairs_are = refl }

offsets_grow : (groups : List RelocGroup) (target : ℕ) (done : List ℕ) (w owed : ℕ) → Grows (InOffsets groups target done owed) (relocate groups target (done ++ w ∷ []) owed)
offsets_grow groups target done w owed = record { bytes = []; pairs = (w, target) ∷ []; bytes_are = none owed; pairs_are = more owed }
  where
    front : List (ℕ × ℕ)
    front = flat_map group_relocations groups

    one : front ++ pairs_to target (done ++ w ∷ []) ≡ (front ++ pairs_to target done) ++ (w, target) ∷ []
    one = ap (λ ps. front ++ ps) (map-more (λ (offset : ℕ). (offset, target)) done w) ∙ sym (append_assoc front (pairs_to target done) ((w, target) ∷ []))

    none : (n : ℕ) → bytes_so_far (relocate groups target (done ++ w ∷ []) n) ≡ []
    none zero = refl
    none (suc n) = refl

    more : (n : ℕ) → pairs_so_far (relocate groups target (done ++ w ∷ []) n) ≡ (front ++ pairs_to target done) ++ (w, target) ∷ []
    more zero = flat_map-more group_relocations groups (group target (done ++ w ∷ [])) ∙ one
    more (suc n) = one

inside_grows : (x : Inside) (w : ℕ) → Grows x (step_inside x w)
inside_grows (InPayload f done owed) w = fill_grows f done w owed
inside_grows (AtGroup groups) zero = record { bytes = []; pairs = []; bytes_are = refl; pairs_are = sym (append-nil (flat_map group_relocations groups)) }
inside_grows (AtGroup groups) (suc owed) = record { bytes = []; pairs = []; bytes_are = refl; pairs_are = sym (append-nil (flat_map group_relocations groups)) }
inside_grows (AtTarget groups owed) w = record { bytes = []; pairs = []; bytes_are = refl; pairs_are = refl }
inside_grows (InOffsets groups target done owed) w = offsets_grow groups target done w owed
inside_grows x w = record { bytes = bytes_so_far (step_inside x w); pairs = pairs_so_far (step_inside x w); bytes_are = refl; pairs_are = refl }

-- ---- of a file

module _ (v : LoadFileValue) where
  -- or all of it was
  abbrev pub IsNextOf : Next → Type 0
  IsNextOf (More p) = IsOf v p
  IsNextOf (Finished u) = u ≡ v

  -- ---- one longword less

  -- where a hunk opens
  record HasHunks (finished : List HunkValue) (ahead : List TableEntry) : Type 0 where
    more : List HunkValue
    hunks_are : v ≡ finished ++ more
    table_is : table more ≡ ahead

  before_hunk : (hunks : ℕ) (finished : List HunkValue) (ahead : List TableEntry) → IsNextOf (open_hunk hunks finished ahead) → HasHunks finished ahead
  before_hunk hunks finished [] e = record { more = []; hunks_are = sym e ∙ sym (append-nil finished); table_is = refl }
  before_hunk hunks finished (e ∷ ahead) h = record { more = hunk e h.blocks ∷ h.ahead; hunks_are = h.hunks_are; table_is = ap (λ (t : List TableEntry). e ∷ t) h.table_is }

  before_row : (hunks : ℕ) (done : List TableEntry) (owed : ℕ) → IsNextOf (rows hunks done owed) → HasEntries v done owed
  before_row hunks done zero h =
      let b = before_hunk hunks [] done h in
      record { more = []; table_is = ap table b.hunks_are ∙ b.table_is ∙ sym (append-nil done); owed_are = refl }
  before_row hunks done (suc owed) h = h

  one_entry : (done : List TableEntry) (e : TableEntry) (owed : ℕ) → HasEntries v (done ++ e ∷ []) owed → HasEntries v done (suc owed)
  one_entry done e owed h = record { more = e ∷ h.more; table_is = h.table_is ∙ append_assoc done (e ∷ []) h.more; owed_are = ap suc h.owed_are }

  before_size : (hunks : ℕ) (done : List TableEntry) (w owed : ℕ) (b : Bool) → IsNextOf (sized_row hunks done w owed b) → HasEntries v done (suc owed)
  before_size hunks done w owed true h = h
  before_size hunks done w owed false h = one_entry done (table_entry w 0) owed (before_row hunks (done ++ table_entry w 0 ∷ []) owed h)

  -- where a block is whole
  record HasBlock (o : HunkSoFar) (word : ℕ) (body : BlockBody) : Type 0 where
    blocks : List BlockValue
    ahead : LoadFileValue
    hunks_are : v ≡ o.finished ++ hunk o.entry (o.blocks ++ block word body ∷ blocks) ∷ ahead
    table_is : table ahead ≡ o.ahead

  closed : (o : HunkSoFar) (word : ℕ) (body : BlockBody) → IsNextOf (close o (block word body)) → HasBlock o word body
  closed o word body h = go (standing body) h
    where
      goes_on : (blocks : List BlockValue) (ahead : LoadFileValue) → v ≡ o.finished ++ hunk o.entry ((o.blocks ++ block word body ∷ []) ++ blocks) ∷ ahead → table ahead ≡ o.ahead → HasBlock o word body
      goes_on blocks ahead e t = record {
        blocks = blocks;
        ahead = ahead;
        hunks_are = e ∙ ap (λ bs. o.finished ++ hunk o.entry bs ∷ ahead) (append_assoc o.blocks (block word body ∷ []) blocks);
        table_is = t;
      }

      go : (s : BlockStanding) → IsNextOf (close_by o (block word body) s) → HasBlock o word body
      go Beside k = goes_on k.blocks k.ahead k.hunks_are k.table_is
      go Relocating k = goes_on k.blocks k.ahead k.hunks_are k.table_is
      go Content k = goes_on k.blocks k.ahead k.hunks_are k.table_is
      go Ending k =
          let whole : HunkValue = hunk o.entry (o.blocks ++ block word body ∷ []) in
          let b = before_hunk o.hunks (o.finished ++ whole ∷ []) o.ahead k in
          record { blocks = []; ahead = b.more; hunks_are = b.hunks_are ∙ append_assoc o.finished (whole ∷ []) b.more; table_is = b.table_is }

  before_block : (o : HunkSoFar) (word : ℕ) (n : BlockNext) → IsNextOf (after o word n) → HasOpenHunk v o
  before_block o word (Open x) h = record { blocks = block word h.body ∷ h.blocks; ahead = h.ahead; hunks_are = h.hunks_are; table_is = h.table_is }
  before_block o word (Whole body) h = let b = closed o word body h in record { blocks = block word body ∷ b.blocks; ahead = b.ahead; hunks_are = b.hunks_are; table_is = b.table_is }

  before_inside : (o : HunkSoFar) (word : ℕ) (x : Inside) (n : BlockNext) → Grows x n → IsNextOf (after o word n) → HasOpenBlock v o word x
  before_inside o word x (Open y) g h = record {
    body = h.body;
    blocks = h.blocks;
    ahead = h.ahead;
    bytes = g.bytes ++ h.bytes;
    pairs = g.pairs ++ h.pairs;
    hunks_are = h.hunks_are;
    table_is = h.table_is;
    content_is = h.content_is ∙ ap (λ (bs : List ℕ). bs ++ h.bytes) g.bytes_are ∙ append_assoc (bytes_in x) g.bytes h.bytes;
    relocations_are = h.relocations_are ∙ ap (λ ps. ps ++ h.pairs) g.pairs_are ∙ append_assoc (pairs_in x) g.pairs h.pairs;
  }
  before_inside o word x (Whole body) g h =
      let b = closed o word body h in
      record { body = body; blocks = b.blocks; ahead = b.ahead; bytes = g.bytes; pairs = g.pairs; hunks_are = b.hunks_are; table_is = b.table_is; content_is = g.bytes_are; relocations_are = g.pairs_are }

  before : (p : Progress) (w : ℕ) → IsNextOf (step_file p w) → IsOf v p
  before (AtFirstHunk hunks) w h = h
  before (AtLastHunk hunks) w h = let r = before_row hunks [] hunks h in omega (arith, r.owed_are, ap length r.table_is, length-map v (λ (x : HunkValue). x.entry))
  before (AtSizeWord hunks done owed) w h = before_size hunks done w owed (has_both_bits w) h
  before (AtAttributes hunks done word owed) w h = one_entry done (table_entry word w) owed (before_row hunks (done ++ table_entry word w ∷ []) owed h)
  before (AtBlock o) w h = before_block o w (begin_body (kind w)) h
  before (InBody o word x) w h = before_inside o word x (step_inside x w) (inside_grows x w) h
  before _ w h = tt

  leads_of : (n : Next) (ls : Labelled) → Leads n ls (Finished v) → IsNextOf n
  leads_of (Finished u) [] leads = let same : u ≡ v = cc in same
  leads_of (More p) [] leads = absurd cc
  leads_of (Finished u) (l ∷ ls) leads = absurd leads
  leads_of (More p) (l ∷ ls) leads = before p l.1 (leads_of (step_file p l.1) ls leads.1)

-- What was read is of each load file that begins with it.
pub read_of : (ws more : List ℕ) (p : Progress) (v : LoadFileValue) → HasRead ws (More p) → IsLoadFile v → text v ≡ ws ++ more → IsOf v p
read_of ws more p v h is e = let r = rest_read ws (More p) h (text v) (Finished v) (file_read v is) more e in leads_of v (More p) r.0 r.1
