-- The text of a load file leads from the start to its value.
use Rattle.std.proofs.Common.{rules, ◌≡◌, ℕ, Bool, true, false, ◌||◌, List, [], ◌∷◌, ◌++◌, length, map, refl, sym, ap, subst, append_assoc, append-nil}
use Rattle.std.proofs.lemmas.List.{length-map}
use Rattle.std.specs.List.{flat_map, AllByRecursion}
use Rattle.hunk_words.specs.Bits.{kind, size_longs}
use Rattle.hunk_blocks.specs.{Values.BlockValue, Parts.body_parts}
use Rattle.hunk_grammar.specs.BlockParts.{Part}
use Rattle.hunk_blocks.specs.BlockSteps.{BlockNext, Open, Whole, step_inside, begin_body, Follows}
use Rattle.hunk_files.specs.LoadFile.{TableEntry, HunkValue, LoadFileValue, IsTableEntry, standing, AreInOrder, IsHunkBlock, IsHunk, IsLoadFile}
use Rattle.hunk_files.specs.LoadText.{table, entry_labelled, header_labelled, block_labelled, blocks_labelled, hunk_labelled, labelled}
use Rattle.hunk_files.specs.FileSteps.{hunk, HunkSoFar, AtFirst, AtSizeWord, AtBlock, Next, More, Finished, place_of, open_hunk, rows, close_by, close, after, step_file, Leads}
use Rattle.hunk_grammar.specs.Standings.{BlockStanding, Beside, Content, Relocating, Ending, is_content}
use Rattle.hunk_grammar.specs.Roles.{Place, Role, InBlock}
use Rattle.hunk_blocks.proofs.BlockText.{body_follows}

pub Leads-append : (a b c : Next) (ls ms : List (Role × ℕ)) → Leads a ls b → Leads b ms c → Leads a (ls ++ ms) c
Leads-append a b c [] ms h k = subst (λ (x : Next). Leads x ms c) (sym h) k
Leads-append (More p) b c (l ∷ ls) ms h k = (h.0, Leads-append (step_file p l.1) b c ls ms h.1 k)
Leads-append (Finished v) b c (l ∷ ls) ms h k = absurd h

abbrev pub in_place : Place → List (Part × ℕ) → List (Role × ℕ)
in_place p ps = map (λ x. (InBlock p x.0, x.1)) ps

-- a run in a block is one in the file
pub Follows-leads : (o : HunkSoFar) (word : ℕ) (a b : BlockNext) (ps : List (Part × ℕ)) → Follows a ps b → Leads (after o word a) (in_place (place_of o) ps) (after o word b)
Follows-leads o word a b [] h = ap (λ (x : BlockNext). after o word x) h
Follows-leads o word (Open x) b (p ∷ ps) h = (ap (λ (part : Part). InBlock (place_of o) part) h.0, Follows-leads o word (step_inside x p.1) b ps h.1)
Follows-leads o word (Whole x) b (p ∷ ps) h = absurd h

pub block_leads : (hunks longs : ℕ) (o : HunkSoFar) (b : BlockValue) → IsHunkBlock hunks longs b → Leads (More (AtBlock o)) (block_labelled (place_of o) b) (close o b)
block_leads hunks longs o b h = (refl, Follows-leads o b.word (begin_body (kind b.word)) (Whole b.body) (body_parts b.body) (body_follows b.word b.body h.block.body))

-- the blocks of a hunk from an open place in it
abbrev pub standings : List BlockValue → List BlockStanding
standings bs = map (λ b. standing b.body) bs

pub no_more : (bs : List BlockValue) → standings bs ≡ [] → bs ≡ []
no_more [] e = refl
no_more (b ∷ bs) e = absurd cc

abbrev opened : ℕ → List HunkValue → TableEntry → List BlockValue → Bool → List TableEntry → HunkSoFar
opened hunks finished entry blocks has_content ahead =
    record { hunks = hunks; finished = finished; entry = entry; blocks = blocks; has_content = has_content; ahead = ahead }

module _ (hunks : ℕ) (finished : List HunkValue) (entry : TableEntry) (ahead : List TableEntry) where
  abbrev at : List BlockValue → Bool → HunkSoFar
  at blocks has_content = opened hunks finished entry blocks has_content ahead

  -- the place after a hunk of these blocks
  abbrev closed : List BlockValue → Next
  closed blocks = open_hunk hunks (finished ++ hunk entry blocks ∷ []) ahead

  abbrev labels : Bool → List BlockValue → List (Role × ℕ)
  labels has_content more = blocks_labelled hunks (size_longs entry.word) has_content more

  abbrev AreRead : List BlockValue → Type 0
  AreRead more = (has_content : Bool) (done : List BlockValue) → AreInOrder has_content (standings more) →
      Leads (More (AtBlock (at done has_content))) (labels has_content more) (closed (done ++ more))

  one_more : (has_content : Bool) (done : List BlockValue) (b : BlockValue) (more : List BlockValue) → AreInOrder has_content (standings more) → AreRead more →
      Leads (More (AtBlock (at (done ++ b ∷ []) has_content))) (labels has_content more) (closed (done ++ b ∷ more))
  one_more has_content done b more o reads =
      subst (λ (bs : List BlockValue). Leads (More (AtBlock (at (done ++ b ∷ []) has_content))) (labels has_content more) (closed bs)) (append_assoc done (b ∷ []) more) (reads has_content (done ++ b ∷ []) o)

  block_closed : (s : BlockStanding) (has_content : Bool) (done : List BlockValue) (b : BlockValue) (more : List BlockValue) → AreInOrder has_content (s ∷ standings more) → AreRead more →
      Leads (close_by (at done has_content) b s) (labels (has_content || is_content s) more) (closed (done ++ b ∷ more))
  block_closed Beside true done b more o reads = one_more true done b more o reads
  block_closed Beside false done b more o reads = one_more false done b more o reads
  block_closed Content false done b more o reads = one_more true done b more o reads
  block_closed Relocating true done b more o reads = one_more true done b more o reads
  block_closed Ending true done b [] o reads = refl
  block_closed Ending true done b (c ∷ more) o reads = absurd cc
  block_closed _ _ done b more o reads = absurd o

  pub blocks_lead : (more : List BlockValue) → AllByRecursion (IsHunkBlock hunks (size_longs entry.word)) more → AreRead more
  blocks_lead [] h has_content done o = absurd o
  blocks_lead (b ∷ more) h has_content done o =
      Leads-append (More (AtBlock (at done has_content))) (close (at done has_content) b) _ (block_labelled (place_of (at done has_content)) b) _
      (block_leads hunks (size_longs entry.word) (at done has_content) b h.0)
      (block_closed (standing b.body) has_content done b more o (λ has other order. blocks_lead more h.1 has other order))

pub hunks_lead : (hunks : ℕ) (finished more : List HunkValue) (ahead : List TableEntry) → AllByRecursion (IsHunk hunks) more →
    Leads (open_hunk hunks finished (table more ++ ahead)) (flat_map (hunk_labelled hunks) more) (open_hunk hunks (finished ++ more) ahead)
hunks_lead hunks finished [] ahead h = ap (λ (v : LoadFileValue). open_hunk hunks v ahead) (sym (append-nil finished))
hunks_lead hunks finished (x ∷ more) ahead h =
    Leads-append (open_hunk hunks finished (table (x ∷ more) ++ ahead)) (open_hunk hunks (finished ++ x ∷ []) (table more ++ ahead)) _ (hunk_labelled hunks x) _
    (blocks_lead hunks finished x.entry (table more ++ ahead) x.blocks h.0.blocks false [] h.0.order)
    (subst (λ (v : LoadFileValue). Leads (open_hunk hunks (finished ++ x ∷ []) (table more ++ ahead)) (flat_map (hunk_labelled hunks) more) (open_hunk hunks v ahead)) (append_assoc finished (x ∷ []) more) (hunks_lead hunks (finished ++ x ∷ []) more ahead h.1))

-- ---- the table

entry_leads : (hunks : ℕ) (done : List TableEntry) (e : TableEntry) (owed : ℕ) → IsTableEntry e → Leads (More (AtSizeWord hunks done owed)) (entry_labelled e) (rows hunks (done ++ e ∷ []) owed)
entry_leads hunks done e owed h = search rules

pub table_leads : (hunks : ℕ) (done more : List TableEntry) → AllByRecursion IsTableEntry more → Leads (rows hunks done (length more)) (flat_map entry_labelled more) (open_hunk hunks [] (done ++ more))
table_leads hunks done [] h = ap (λ (t : List TableEntry). open_hunk hunks [] t) (sym (append-nil done))
table_leads hunks done (e ∷ more) h =
    Leads-append (More (AtSizeWord hunks done (length more))) (rows hunks (done ++ e ∷ []) (length more)) _ (entry_labelled e) _
    (entry_leads hunks done e (length more) h.0)
    (subst (λ (t : List TableEntry). Leads (rows hunks (done ++ e ∷ []) (length more)) (flat_map entry_labelled more) (open_hunk hunks [] t)) (append_assoc done (e ∷ []) more) (table_leads hunks (done ++ e ∷ []) more h.1))

pub header_leads : (t : List TableEntry) → AllByRecursion IsTableEntry t → Leads (More AtFirst) (header_labelled t) (open_hunk (length t) [] t)
header_leads t h = (refl, (refl, (refl, (refl, (refl, table_leads (length t) [] t h)))))

pub entries_fit : (hunks : ℕ) (hs : List HunkValue) → AllByRecursion (IsHunk hunks) hs → AllByRecursion IsTableEntry (table hs)
entries_fit hunks [] h = tt
entries_fit hunks (x ∷ hs) h = (h.0.entry, entries_fit hunks hs h.1)

-- The header of a load file leads to its first hunk.
pub table_read : (v : LoadFileValue) → IsLoadFile v → Leads (More AtFirst) (header_labelled (table v)) (open_hunk (length v) [] (table v))
table_read v h = subst (λ (n : ℕ). Leads (More AtFirst) (header_labelled (table v)) (open_hunk n [] (table v))) (length-map v (λ h. h.entry)) (header_leads (table v) (entries_fit (length v) v h.each))

-- The text of a load file leads from the start to its value, each longword by its role.
pub file_leads : (v : LoadFileValue) → IsLoadFile v → Leads (More AtFirst) (labelled v) (Finished v)
unfolding labelled
file_leads v h =
    Leads-append (More AtFirst) (open_hunk (length v) [] (table v)) _ (header_labelled (table v)) _ (table_read v h)
    (subst (λ (t : List TableEntry). Leads (open_hunk (length v) [] t) (flat_map (hunk_labelled (length v)) v) (Finished v)) (append-nil (table v)) (hunks_lead (length v) [] v [] h.each))
