-- What a loader has made of a file that it has begun, by the file.
use Rattle.std.proofs.Common.{rules, ◌≡◌, ℕ, ◌*◌, ◌/◌, false, List, ◌∷◌, ◌++◌, length, sym, ap, ◌∙◌, append_assoc, append-nil}
use Rattle.hunk_words.specs.{Longs.{bytes_of, longs}, PendingBytes.pending_of}
use Rattle.hunk_blocks.specs.{BlockSteps.{Open, Whole}, Values.End}
use Rattle.hunk_blocks.proofs.Lists.{flat_map-append}
use Rattle.hunk_grammar.specs.Positions.{is_done}
use Rattle.hunk_grammar.specs.declared.file_kind.Sniff.TheVariants as sniffs
use Rattle.hunk_files.specs.{FileParts.IsPartAt, Image.{block_content, block_relocations, images}}
use Rattle.hunk_files.specs.{FileSteps.{block, hunk, AtBlock, InBody, More, Next, Progress}, LoadFile.{LoadFileValue, IsLoadFile, TableEntry}}
use Rattle.hunk_files.specs.{LoadText.text, OpenSegment.{bytes_in, open_bytes, open_pairs, pairs_in, segment_so_far}}
use Rattle.hunk_files.specs.{Machines.load_at, ReadFiles.IsOf, ReaderPosition.{IsAfterHeader, position_of}, WordsRead.HasRead, declared.row.Row.Row}
use Rattle.hunk_files.specs.declared.part.Part.TheVariants as parts
use Rattle.hunk_files.proofs.{image.FillingLaws.{contents, relocations_in}, walk.LoadPlaces.position_at, walk.ReadFiles.read_of}
use Rattle.hunk_scatter.specs.{BodyLoaderFields.IsFed, BodyReader.state_of, Rows.bases_of, SoFar.HoldsSoFar, StoreContent.{StoreHolds, zeros}}
use Rattle.hunk_scatter.specs.{declared.store.BodyState.BodyState, declared.stream.Standing.Standing}
use Rattle.hunk_scatter.proofs.{BodyFields.{gone, text_here}, Outcomes.longs_are, PartLaws.hunk_here}

-- what was read of the blocks of a hunk, and what is to come
split_at : {A : Type 0} (xs ys zs body more : List A) → ys ≡ body ++ more → xs ++ (ys ++ zs) ≡ (xs ++ body) ++ (more ++ zs)
split_at xs ys zs body more e = ap (λ us. xs ++ (us ++ zs)) e ∙ ap (λ us. xs ++ us) (append_assoc body more zs) ∙ sym (append_assoc xs body (more ++ zs))

so_far : (rows : List Row) (store : List ℕ) (state : BodyState) (v : LoadFileValue) (p : Progress) → IsAfterHeader (More p) → state_of (More p) ≡ state → StoreHolds (bases_of rows) (More p) store → IsOf v p → HoldsSoFar rows store state.hunk v
so_far rows store state v (AtBlock o) b e h k = record {
  whole = o.finished;
  hunk_open = hunk o.entry (o.blocks ++ k.blocks);
  ahead = k.ahead;
  bytes = open_bytes o (Whole End);
  more_bytes = contents k.blocks;
  pairs = open_pairs o (Whole End);
  more_pairs = relocations_in k.blocks;
  hunks_are = k.hunks_are;
  hunk_is = ap (λ (t : BodyState). t.hunk) (sym e);
  content_is = flat_map-append (λ b. block_content b.body) o.blocks k.blocks ∙ ap (λ bs. bs ++ contents k.blocks) (sym (append-nil (contents o.blocks)));
  relocations_are = flat_map-append (λ b. block_relocations b.body) o.blocks k.blocks ∙ ap (λ ps. ps ++ relocations_in k.blocks) (sym (append-nil (relocations_in o.blocks)));
  store_is = h.store_is ∙ ap (λ (t : List TableEntry). images (bases_of rows) o.finished ++ (segment_so_far (bases_of rows) o (Whole End) ++ zeros t)) (sym k.table_is);
}
so_far rows store state v (InBody o word x) b e h k = record {
  whole = o.finished;
  hunk_open = hunk o.entry (o.blocks ++ block word k.body ∷ k.blocks);
  ahead = k.ahead;
  bytes = open_bytes o (Open x);
  more_bytes = k.bytes ++ contents k.blocks;
  pairs = open_pairs o (Open x);
  more_pairs = k.pairs ++ relocations_in k.blocks;
  hunks_are = k.hunks_are;
  hunk_is = ap (λ (t : BodyState). t.hunk) (sym e);
  content_is =
      flat_map-append (λ b. block_content b.body) o.blocks (block word k.body ∷ k.blocks)
      ∙ split_at (contents o.blocks) (block_content k.body) (contents k.blocks) (bytes_in x) k.bytes k.content_is;
  relocations_are =
      flat_map-append (λ b. block_relocations b.body) o.blocks (block word k.body ∷ k.blocks)
      ∙ split_at (relocations_in o.blocks) (block_relocations k.body) (relocations_in k.blocks) (pairs_in x) k.pairs k.relocations_are;
  store_is = h.store_is ∙ ap (λ (t : List TableEntry). images (bases_of rows) o.finished ++ (segment_so_far (bases_of rows) o (Open x) ++ zeros t)) (sym k.table_is);
}
so_far rows store state v _ b e h k = absurd cc

module _ (rows : List Row) (store fed : List ℕ) (s : Standing) (h : IsFed rows store s fed) (more : is_done s.state.position ≡ false) where
  pub part_so_far : IsPartAt sniffs.Load fed (4 * (length fed / 4)) (parts.Hunk s.state.hunk)
  part_so_far = hunk_here rows store s.state (pending_of s.pending) fed h.stands more

  pub read_so_far : (p : Progress) × HasRead (longs fed) (More p) × StoreHolds (bases_of rows) (More p) store
  read_so_far = search (rules, longs_are)

  pub store_so_far : (v : LoadFileValue) (rest : List ℕ) → IsLoadFile v → bytes_of (text v) ≡ fed ++ rest → HoldsSoFar rows store s.state.hunk v
  store_so_far v rest is e =
      let g = gone rows store s fed h more in
      so_far rows store s.state v g.at g.in_body g.state_is g.holds (read_of g.ws (longs (pending_of s.pending ++ rest)) g.at v g.read is (text_here rows store s fed h more v rest is e))

-- ---- the position

state_is : (n : Next) → (state_of n).position ≡ position_of n
state_is n = search rules

pub position_so_far : (rows : List Row) (store fed : List ℕ) (s : Standing) → IsFed rows store s fed → s.state.position ≡ load_at (longs fed)
position_so_far rows store fed s h =
    let r = h.stands in
    ap (λ (t : BodyState). t.position) (sym r.state_is)
    ∙ state_is r.next
    ∙ sym (position_at r.ws r.next r.read)
    ∙ ap load_at (sym (longs_are r.ws r.next (pending_of s.pending) fed r.read r.few r.spelled))
