-- A plain spelling that is a load file comes from a wide spelling of it.
use Rattle.std.proofs.Common.{◌≡◌, ℕ, zero, suc, Bool, true, false, cond, List, [], ◌∷◌, ◌++◌, length, map, refl, sym, ap, subst, ◌∙◌, arith}
use Rattle.std.specs.{Int.{from_be_bytes, w32}, List.{flat_map, AllByRecursion}}
use Rattle.hunk_words.specs.{Bits.{has_both_bits, kind}, Longs.{IsBytes, bytes_of}}
use Rattle.hunk_blocks.specs.{Faults.words}
use Rattle.hunk_blocks.specs.Values.{BlockValue}
use Rattle.hunk_blocks.proofs.{Fronts.{All-left, All-right}}
use Rattle.hunk_grammar.specs.declared.position.OpenHunk.{OpenHunk}
use Rattle.hunk_grammar.specs.declared.position.Position.{Position}
use Rattle.hunk_grammar.specs.declared.position.Position.TheVariants as positions
use Rattle.hunk_grammar.specs.Positions.{close, open_next}
use Rattle.hunk_grammar.specs.Roles.{Role, Role as roles}
use Rattle.hunk_grammar.specs.Standings.{Content}
use Rattle.hunk_files.specs.LoadFile.{AreInOrder, HunkValue, IsHunk, IsHunkBlock, IsLoadFile, LoadFileValue, TableEntry, declared_longs, standing}
use Rattle.hunk_files.specs.LoadText.{blocks_labelled, entry_labelled, header_labelled, hunk_labelled, labelled, table, text}
use Rattle.hunk_files.specs.WordsRead.{AreAccepted, Labelled}
use Rattle.hunk_files.proofs.walk.{Accepted.labelled_accepted, Machines.load_along}
use Rattle.hunk_wide.specs.declared.spot.Spot.TheVariants.{Passing}
use Rattle.hunk_wide.specs.Counts.{BeginsWithWide, ends_in_hunks, short_in_blocks, short_in_hunks}
use Rattle.hunk_wide.specs.Plain.{plain, plain_from}
use Rattle.hunk_wide.specs.Spellings.{counted, ends_from, one_if, short_blocks_from}
use Rattle.hunk_wide.specs.Wide.{BeginsWithContent, SpellsHunks}
use Rattle.hunk_wide.proofs.{FromShort.{All-both}, Spelled.{IsContentKind}, Steps.{Along, AtBlock, along_split, at_block}}
use Rattle.hunk_wide.proofs.From.{Comes, IsInner, from_cells, back_bytes, inner_come, none_comes, two_come}
use Rattle.hunk_wide.proofs.FromWords.{AtEnd, AtNext, PutBefore}
use Rattle.hunk_wide.proofs.FromBlocks.{PutAt, blocks_come, cut, is_content_block, place_of, to}

-- ---- hunks

done_is : (hunks ahead : ℕ) → open_next hunks ahead ≡ positions.Done → ahead ≡ 0
done_is hunks zero e = refl
done_is hunks (suc ahead) e = absurd (cc e)

-- With no hunk after it nothing comes after its END.
none_after_last : (more : List ℕ) → PutAt positions.Done more → more ≡ []
none_after_last more put = go put.open_hunk put.closes put.before
  where
    go : (o : OpenHunk) → close o ≡ positions.Done → PutBefore o more → more ≡ []
    go o closes (AtEnd ahead none) = none
    go o closes (AtNext some a b c d rest split content) = absurd (omega (arith, some, done_is o.hunks o.ahead closes))

module _ (hunks : ℕ) where
  abbrev all : List HunkValue → Labelled
  all hs = flat_map (hunk_labelled hunks) hs

  record HunksCome (hs : List HunkValue) (p : Position) (input rest : List ℕ) : Type 0 where
    at_end : Bool
    front : List ℕ
    spells : SpellsHunks at_end hs front
    comes : Comes (to p) (to positions.Done) input rest front (short_in_hunks at_end hs front spells) (ends_in_hunks at_end hs front spells)
    none_after : at_end ≡ true → rest ≡ []

  -- Where END is put in before it, a hunk begins with its content.
  begins_content : (longs : ℕ) (bs : List BlockValue) (q r : Position) (ls : Labelled) (rest : List ℕ) → AllByRecursion (IsHunkBlock hunks longs) bs
      → AreInOrder false (map (λ (b : BlockValue). standing b.body) bs)
      → AreAccepted (blocks_labelled hunks longs false bs ++ ls) → Along q (blocks_labelled hunks longs false bs ++ ls) r
      → PutAt q (bytes_of (words (blocks_labelled hunks longs false bs ++ ls)) ++ rest) → BeginsWithContent bs
  unfolding bytes_of
  begins_content longs [] q r ls rest is o ok along put = absurd o
  begins_content longs (b ∷ bs) q r ls rest is o ok along put = go put.open_hunk put.closes put.before
    where
      go : (h : OpenHunk) → close h ≡ q → PutBefore h (bytes_of (words (blocks_labelled hunks longs false (b ∷ bs) ++ ls)) ++ rest) → standing b.body ≡ Content
      go h closes (AtEnd ahead none) = absurd (subst (AtBlock false) (sym closes ∙ ap (open_next h.hunks) ahead) (at_block q (place_of hunks longs false) along.0))
      go h closes (AtNext some a0 b0 c0 d0 m split content) =
          let word : from_be_bytes w32 (a0 ∷ b0 ∷ c0 ∷ d0 ∷ []) ≡ b.word = from_cells a0 b0 c0 d0 b.word m _ ok.0.0 (sym split) in
          is_content_block b.word b.body (subst (λ (n : ℕ). IsContentKind (kind n)) word content) is.0.block.body

  hunks_come : (hs : List HunkValue) (p : Position) (input rest : List ℕ) → AllByRecursion (IsHunk hunks) hs → AreAccepted (all hs) → Along p (all hs) positions.Done → IsBytes input
      → plain_from (to p) input ≡ bytes_of (words (all hs)) ++ rest → HunksCome hs p input rest
  unfolding bytes_of
  hunks_come [] p input rest is ok along bytes e = record {
    at_end = false;
    front = [];
    spells = refl;
    comes = none_comes (to p) (to positions.Done) input rest (ap to along) e;
    none_after = λ f. absurd (cc f);
  }
  hunks_come (h ∷ []) p input rest is ok along bytes e =
      let k = along_split p positions.Done (hunk_labelled hunks h) [] along in
      let b = blocks_come hunks (declared_longs h) false h.blocks p k.0 input rest is.0.blocks (All-left _ (hunk_labelled hunks h) [] ok) k.1 is.0.order bytes (e ∙ cut (hunk_labelled hunks h) [] rest) in
      record {
        at_end = b.left_out;
        front = b.front ++ [];
        spells = (b.left_out, b.front, [], refl, b.spells, (λ x. x), refl);
        comes = two_come (to p) (to k.0) (to positions.Done) input rest rest b.front [] _ 0 _ 0 b.comes (none_comes (to k.0) (to positions.Done) b.comes.back rest (ap to k.2) b.comes.gives);
        none_after = λ f. none_after_last rest (subst (λ (x : Position). PutAt x rest) k.2 (b.put f));
      }
  hunks_come (h ∷ g ∷ hs) p input rest is ok along bytes e =
      let later_labels : Labelled = all (g ∷ hs) in
      let k = along_split p positions.Done (hunk_labelled hunks h) later_labels along in
      let ok_later = All-right _ (hunk_labelled hunks h) later_labels ok in
      let b = blocks_come hunks (declared_longs h) false h.blocks p k.0 input (bytes_of (words later_labels) ++ rest) is.0.blocks (All-left _ (hunk_labelled hunks h) later_labels ok) k.1 is.0.order bytes
      (e ∙ cut (hunk_labelled hunks h) later_labels rest) in
      let later = hunks_come (g ∷ hs) k.0 b.comes.back rest is.1 ok_later k.2
      (back_bytes (to p) (to k.0) input (bytes_of (words later_labels) ++ rest) b.front (short_in_blocks b.left_out h.blocks b.front b.spells) (one_if b.left_out) b.comes bytes) b.comes.gives in
      record {
        at_end = later.at_end;
        front = b.front ++ later.front;
        spells = (b.left_out, b.front, later.front, refl, b.spells, (λ f. begins_content (declared_longs g) g.blocks k.0 positions.Done (all hs) rest is.1.0.blocks is.1.0.order ok_later k.2 (b.put f)), later.spells);
        comes = two_come (to p) (to k.0) (to positions.Done) input (bytes_of (words later_labels) ++ rest) rest b.front later.front
            (short_in_blocks b.left_out h.blocks b.front b.spells) (short_in_hunks later.at_end (g ∷ hs) later.front later.spells) (one_if b.left_out) (ends_in_hunks later.at_end (g ∷ hs) later.front later.spells)
            b.comes later.comes;
        none_after = later.none_after;
      }

-- ---- the file

entry_inner : (e : TableEntry) → AllByRecursion (λ (l : Role × ℕ). IsInner l.0) (entry_labelled e)
entry_inner e = (tt, go (has_both_bits e.word))
  where
    go : (b : Bool) → AllByRecursion (λ (l : Role × ℕ). IsInner l.0) (cond b ((roles.Attributes, e.extra) ∷ []) [])
    go true = (tt, tt)
    go false = tt

entries_inner : (es : List TableEntry) → AllByRecursion (λ (l : Role × ℕ). IsInner l.0) (flat_map entry_labelled es)
entries_inner [] = tt
entries_inner (e ∷ es) = All-both _ (entry_labelled e) (flat_map entry_labelled es) (entry_inner e) (entries_inner es)

none_short : (bytes : List ℕ) → short_blocks_from Passing bytes ≡ 0
unfolding counted
none_short bytes = refl

none_put : (bytes : List ℕ) → ends_from Passing bytes ≡ 0
unfolding counted
none_put bytes = refl

-- An input whose plain spelling begins with a load file begins with a wide spelling of it.
pub from_wide : (v : LoadFileValue) (input rest : List ℕ) → IsBytes input → IsLoadFile v → plain input ≡ bytes_of (text v) ++ rest → BeginsWithWide v input rest
unfolding labelled plain_from
from_wide v input rest bytes is e =
    let header : Labelled = header_labelled (table v) in
    let hunks : Labelled = flat_map (hunk_labelled (length v)) v in
    let k = along_split positions.FirstLong positions.Done header hunks (load_along v is) in
    let ok = labelled_accepted v is in
    let c = inner_come positions.FirstLong k.0 header input (bytes_of (words hunks) ++ rest) (tt, (tt, (tt, (tt, (tt, entries_inner (table v)))))) k.1 (All-left _ header hunks ok) (e ∙ cut header hunks rest) in
    let h = hunks_come (length v) v k.0 c.back rest is.each (All-right _ header hunks ok) k.2 (back_bytes (to positions.FirstLong) (to k.0) input (bytes_of (words hunks) ++ rest) (bytes_of (words header)) 0 0 c bytes) c.gives in
    let all_of_it = two_come (to positions.FirstLong) (to k.0) (to positions.Done) input (bytes_of (words hunks) ++ rest) rest (bytes_of (words header)) h.front
    0 (short_in_hunks h.at_end v h.front h.spells) 0 (ends_in_hunks h.at_end v h.front h.spells) c h.comes in
    record {
      at_end = h.at_end;
      front = bytes_of (words header) ++ h.front;
      split = all_of_it.split ∙ ap (λ (x : List ℕ). (bytes_of (words header) ++ h.front) ++ x) all_of_it.gives;
      wide = record { hunks = h.front; text = refl; spells = h.spells };
      none_after = h.none_after;
      short_blocks = omega (arith, all_of_it.shorts_are, none_short all_of_it.back);
      ends = omega (arith, all_of_it.ends_are, none_put all_of_it.back);
    }
