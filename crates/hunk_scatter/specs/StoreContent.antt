-- What the one store holds at any point of the body.
use Rattle.std.specs.Prelude.{◌≡◌, ℕ, ◌+◌, ◌-◌, ◌*◌, ◌≤◌, false, List, [], ◌∷◌, ◌++◌, length, take, drop, get_or, replicate}
use Rattle.std.specs.List.{flat_map, AllByRecursion}
use Rattle.std.specs.Int.{w32, to_be_bytes}
use Rattle.hunk_words.specs.Bits.{size_longs}
use Rattle.hunk_files.specs.Image.{add_at, image, images, block_content, block_relocations}
use Rattle.hunk_files.specs.LoadFile.{TableEntry, HunkValue}
use Rattle.hunk_blocks.specs.BlockSteps.{BlockNext, Open, Whole}
use Rattle.hunk_blocks.specs.Values.{End}
use Rattle.hunk_files.specs.FileSteps.{HunkSoFar, Next, More, Finished, AtBlock, InBody}
use Rattle.hunk_files.specs.OpenSegment.{segment_so_far}
use Rattle.hunk_grammar.specs.declared.phase.Phase.TheVariants as phases
use Rattle.hunk_grammar.specs.declared.position.Position.{Position}
use Rattle.hunk_grammar.specs.declared.position.Position.TheVariants as positions
use Rattle.hunk_grammar.specs.Positions.{EndsWithin}
use Rattle.hunk_scatter.specs.BodySteps.{longs_at}
use Rattle.hunk_scatter.specs.declared.store.BodyState.{BodyState}

abbrev pub zeros : List TableEntry → List ℕ
zeros table = flat_map (λ e. replicate (4 * size_longs e.word) 0) table

abbrev pub HasSizedImage : List ℕ → HunkValue → Type 0
HasSizedImage bases h = length (image bases h) ≡ 4 * size_longs h.entry.word

-- The images of the whole hunks, the open segment so far, and zero bytes.
pub record Holds (bases : List ℕ) (o : HunkSoFar) (n : BlockNext) (store : List ℕ) : Type 0 where
  pub front : AllByRecursion (HasSizedImage bases) o.finished
  pub segment : length (segment_so_far bases o n) ≡ 4 * size_longs o.entry.word
  pub unplaced : o.has_content ≡ false
      → (flat_map (λ b. block_content b.body) o.blocks ≡ []) × (flat_map (λ b. block_relocations b.body) o.blocks ≡ [])
  pub store_is : store ≡ images bases o.finished ++ (segment_so_far bases o n ++ zeros o.ahead)

abbrev pub StoreHolds : List ℕ → Next → List ℕ → Type 0
StoreHolds bases (More (AtBlock o)) store = Holds bases o (Whole End) store
StoreHolds bases (More (InBody o word x)) store = Holds bases o (Open x) store
StoreHolds bases (Finished v) store = AllByRecursion (HasSizedImage bases) v × (store ≡ images bases v)
StoreHolds bases _ store = ⊥

-- four bytes at the offset are replaced
abbrev pub put_at : List ℕ → ℕ → List ℕ → List ℕ
put_at bytes offset four = take offset bytes ++ four ++ drop (offset + 4) bytes

-- What the loader does to its store at a longword.
abbrev pub stored_in : List ℕ → ℕ → Position → ℕ → List ℕ → List ℕ
stored_in bases start (positions.Body o (phases.Content longs owed)) w store =
    put_at store (start + 4 * (longs - owed - 1)) (to_be_bytes w32 w)
stored_in bases start (positions.Body o (phases.Offset target owed)) w store =
    add_at store (start + w) (get_or bases target 0)
stored_in bases start _ w store = store

abbrev pub stored_long : List ℕ → BodyState → ℕ → List ℕ → List ℕ
stored_long bases s w store = stored_in bases s.start s.position w store

-- this many bytes at the offset are replaced
abbrev pub put_slice : List ℕ → ℕ → List ℕ → List ℕ
put_slice bytes offset part = take offset bytes ++ part ++ drop (offset + length part) bytes

-- What the loader does to its store at the bytes of longwords of a run: those of a content go to where it goes on.
abbrev pub stored_run_in : ℕ → Position → List ℕ → List ℕ → List ℕ
stored_run_in start (positions.Body o (phases.Content longs owed)) bytes store =
    put_slice store (start + 4 * (longs - owed - 1)) bytes
stored_run_in start _ bytes store = store

abbrev pub stored_run : BodyState → List ℕ → List ℕ → List ℕ
stored_run s bytes store = stored_run_in s.start s.position bytes store

-- the base is added at each offset
abbrev pub added_at_each : ℕ → ℕ → List ℕ → List ℕ → List ℕ
added_at_each start base [] store = store
added_at_each start base (w ∷ ws) store = added_at_each start base ws (add_at store (start + w) base)

-- Offsets of a list were taken, none of them refused; one at least is still owed.
abbrev pub TakesOffsetsAt : List ℕ → List ℕ → ℕ → ℕ → Position → List ℕ → List ℕ → BodyState → List ℕ → Type 0
TakesOffsetsAt sizes bases hunk start (positions.Body o (phases.Offset target owed)) ws store state2 store2 =
    (length ws ≤ owed) × AllByRecursion (EndsWithin (4 * longs_at sizes hunk)) ws
    × (state2 ≡ record { hunk = hunk; start = start; position = positions.Body o (phases.Offset target (owed - length ws)) })
    × (store2 ≡ added_at_each start (get_or bases target 0) ws store)
TakesOffsetsAt sizes bases hunk start _ ws store state2 store2 = ⊥

abbrev pub TakesOffsets : List ℕ → List ℕ → BodyState → List ℕ → List ℕ → BodyState → List ℕ → Type 0
TakesOffsets sizes bases s ws store state2 store2 =
    TakesOffsetsAt sizes bases s.hunk s.start s.position ws store state2 store2
