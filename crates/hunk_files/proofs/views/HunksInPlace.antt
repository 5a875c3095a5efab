-- The hunks of a load file, read where they lie.
use Rattle.std.proofs.Common.{◌≡◌, ℕ, ◌+◌, ◌*◌, List, [], ◌∷◌, ◌++◌, length, drop, refl, sym, ap, ap₂, subst, ◌∙◌, append_assoc, Some}
use Rattle.std.specs.List.{AllByRecursion}
use Rattle.std.proofs.lemmas.List.{drop-drop, drop_at}
use Rattle.hunk_words.specs.Longs.{longs, bytes_of, AreLongs, IsLong}
use Rattle.hunk_words.proofs.LongLaws.{bytes_of-append, length-bytes_of, longs-bytes_of}
use Rattle.hunk_blocks.specs.{Cuts.Cut, Placed.Placed, Values.BlockValue}
use Rattle.hunk_files.specs.{LoadFile.{TableEntry, HunkValue, LoadFileValue, IsHunk, declared_longs}, LoadText.table}
use Rattle.hunk_files.specs.{Fault.BeginsWithLoadFile, Hunks.{HunkAt, block_texts}, Tables.{header_text, hunk_texts}}
use Rattle.hunk_files.specs.FileSteps.{hunk as hunk_with}
use Rattle.hunk_files.specs.{Cuts.load_hunks_cut, InPlace.{BeginsWithHunks, GivesPart, blocks_in, hunks_in}}
use Rattle.hunk_files.proofs.{views.BlocksInPlace.{hunk_value, texts_longs}, cuts.LoadCuts.load_hunks_cut_is, cuts.OneReading.are_blocks}
use Rattle.hunk_files.proofs.cuts.TableReading.{hunks_follow}
use Rattle.hunk_blocks.proofs.Lists.{All-append}

hunks_longs : (most : ℕ) (hs : LoadFileValue) → AllByRecursion (IsHunk most) hs → AreLongs (hunk_texts hs)
hunks_longs most [] is = tt
hunks_longs most (h ∷ hs) is =
    All-append IsLong (block_texts h.blocks) (hunk_texts hs) (texts_longs h.blocks (are_blocks most (declared_longs h) h.blocks is.0.blocks)) (hunks_longs most hs is.1)

-- They are those that the bytes spell.
pub hunks_in_is : {entries : List TableEntry} {bytes : List ℕ} (b : BeginsWithHunks entries bytes) → hunks_in entries bytes ≡ b.hunks
hunks_in_is {entries} {bytes} b =
    let words : longs bytes ≡ hunk_texts b.hunks ++ longs b.more = ap longs b.begins ∙ longs-bytes_of (hunk_texts b.hunks) b.more (hunks_longs b.most b.hunks b.each) in
    ap₂ (λ (es : List TableEntry) (ws : List ℕ). (load_hunks_cut es ws).value) (sym b.entries_are) words
    ∙ ap (λ (c : Cut LoadFileValue). c.value) (load_hunks_cut_is b.most b.hunks (longs b.more) b.each)

-- no hunks of no entries
pub hunks_in-nil : (bytes : List ℕ) → hunks_in [] bytes ≡ []
unfolding load_hunks_cut
hunks_in-nil bytes = refl

-- ---- the first hunk, and those after it

pub record NextHunk (all : List TableEntry) (entry : TableEntry) (entries : List TableEntry) (bytes : List ℕ) (at : ℕ) : Type 0 where
  pub here : HunkAt bytes at
  pub first : (end : ℕ) → end ≡ at + 4 * length (block_texts here.blocks) → hunks_in all (drop at bytes) ≡ hunk_with entry (blocks_in (drop at bytes)) ∷ hunks_in entries (drop end bytes)
  pub left : (end : ℕ) → end ≡ at + 4 * length (block_texts here.blocks) → BeginsWithHunks entries (drop end bytes)

pub next_hunk_of : (all : List TableEntry) (entry : TableEntry) (entries : List TableEntry) (bytes : List ℕ) (at : ℕ) → all ≡ entry ∷ entries → BeginsWithHunks all (drop at bytes) → NextHunk all entry entries bytes at
next_hunk_of all entry entries bytes at one b = go b.hunks b.entries_are b.each b.begins
  where
    go : (hs : LoadFileValue) → table hs ≡ all → AllByRecursion (IsHunk b.most) hs → drop at bytes ≡ bytes_of (hunk_texts hs) ++ b.more → NextHunk all entry entries bytes at
    go [] same each begins = absurd (let e = same ∙ one in cc)
    go (h ∷ hs) same each begins =
        let e : table (h ∷ hs) ≡ entry ∷ entries = same ∙ one in
        let entry_is : h.entry ≡ entry = cc in
        let entries_are : table hs ≡ entries = cc in
        let rest : List ℕ = bytes_of (hunk_texts hs) ++ b.more in
        let stand : drop at bytes ≡ bytes_of (block_texts h.blocks) ++ rest =
        begins ∙ ap (λ (l : List ℕ). l ++ b.more) (bytes_of-append (block_texts h.blocks) (hunk_texts hs)) ∙ append_assoc (bytes_of (block_texts h.blocks)) (bytes_of (hunk_texts hs)) b.more in
        let here : HunkAt bytes at =
        record { blocks = h.blocks; is = record { blocks = are_blocks b.most (declared_longs h) h.blocks each.0.blocks; order = each.0.order }; rest = rest; text = stand } in
        let size : ℕ = 4 * length (block_texts h.blocks) in
        let after : drop (at + size) bytes ≡ rest =
        sym (drop-drop size at bytes) ∙ ap (drop size) stand ∙ drop_at (bytes_of (block_texts h.blocks)) rest size (length-bytes_of (block_texts h.blocks)) in
        let left : (end : ℕ) → end ≡ at + size → BeginsWithHunks entries (drop end bytes) =
        λ end e. record { hunks = hs; entries_are = entries_are; most = b.most; each = each.1; more = b.more; begins = ap (λ (m : ℕ). drop m bytes) e ∙ after } in
        record {
          here = here;
          left = left;
          first =
              λ end e.
              hunks_in_is (record { hunks = h ∷ hs; entries_are = same; most = b.most; each = each; more = b.more; begins = begins })
              ∙ ap₂ (λ (x : HunkValue) (xs : LoadFileValue). x ∷ xs) (λ i. hunk_with (entry_is i) (sym (hunk_value here) i)) (sym (hunks_in_is (left end e)));
        }

-- ---- as the iterator sees them

abbrev pub hunk_text : HunkValue → List ℕ
hunk_text h = block_texts h.blocks

abbrev pub seen_hunks : List TableEntry → List ℕ → ℕ → Placed LoadFileValue
seen_hunks entries bytes at = record { place = at; value = hunks_in entries (drop at bytes) }

pub hunk_gives : (all : List TableEntry) (entry : TableEntry) (entries : List TableEntry) (bytes : List ℕ) (at : ℕ) (n : NextHunk all entry entries bytes at)
    (blocks : Placed (List BlockValue)) → blocks ≡ record { place = at; value = n.here.blocks } → (end : ℕ) → end ≡ at + 4 * length (block_texts n.here.blocks) →
    GivesPart hunk_text (seen_hunks all bytes at) (Some (record { place = blocks.place; value = hunk_with entry blocks.value })) (seen_hunks entries bytes end)
hunk_gives all entry entries bytes at n blocks same end e =
    subst (λ (p : Placed (List BlockValue)). GivesPart hunk_text (seen_hunks all bytes at) (Some (record { place = p.place; value = hunk_with entry p.value })) (seen_hunks entries bytes end)) (sym same) (
      (λ i. record { place = at; value = (n.first end e ∙ ap (λ (bs : List BlockValue). hunk_with entry bs ∷ hunks_in entries (drop end bytes)) (hunk_value n.here)) i }),
      e,
    )

-- ---- all hunks of a file

module _ (bytes : List ℕ) (file : BeginsWithLoadFile bytes) where
  pub hunks_begin : BeginsWithHunks (table file.value) (drop (4 * length (header_text file.value)) bytes)
  hunks_begin = record { hunks = file.value; entries_are = refl; most = length file.value; each = file.is_load_file.each; more = file.rest; begins = hunks_follow bytes file }

  pub all_hunks : hunks_in (table file.value) (drop (4 * length (header_text file.value)) bytes) ≡ file.value
  unfolding hunks_begin
  all_hunks = hunks_in_is hunks_begin

-- ---- all hunks, as a view has them

module _ (bytes : List ℕ) (file : BeginsWithLoadFile bytes) (v : LoadFileValue) (same : file.value ≡ v) (entries : List TableEntry) (at : ℕ) (table_is : entries ≡ table v) (place : at ≡ 4 * length (header_text v)) where
  pub hunks_begin_at : BeginsWithHunks entries (drop at bytes)
  hunks_begin_at =
      subst (λ (es : List TableEntry). BeginsWithHunks es (drop at bytes)) (sym table_is)
      (subst (λ (n : ℕ). BeginsWithHunks (table v) (drop n bytes)) (sym place) (subst (λ (w : LoadFileValue). BeginsWithHunks (table w) (drop (4 * length (header_text w)) bytes)) same (hunks_begin bytes file)))

  pub all_hunks_at : hunks_in entries (drop at bytes) ≡ v
  all_hunks_at =
      ap₂ (λ (es : List TableEntry) (n : ℕ). hunks_in es (drop n bytes)) table_is place
      ∙ ap (λ (w : LoadFileValue). hunks_in (table w) (drop (4 * length (header_text w)) bytes)) (sym same)
      ∙ all_hunks bytes file ∙ same
