-- A byte that completes a longword of a run, after which others are owed.
use Rattle.std.proofs.Common.{rules, ◌≡◌, ◌<◌, ◌+◌, ◌-◌, ℕ, List, [], ◌∷◌, ◌++◌, length, Option, MatchOption, refl, sym, ap, subst, ◌∙◌, arith, length-append}
use Rattle.hunk_words.specs.{Carriers.saturated, Longs.IsBytes, PendingBytes.pending_of}
use Rattle.hunk_words.specs.declared.pending.Pending.{Pending}
use Rattle.hunk_grammar.specs.declared.phase.Phase.{Phase}
use Rattle.hunk_grammar.specs.declared.phase.Phase.TheVariants as phases
use Rattle.hunk_grammar.specs.{Positions.{pass, run}, declared.position.OpenHunk.OpenHunk, declared.position.Position.Position}
use Rattle.hunk_grammar.specs.declared.position.Position.TheVariants as positions
use Rattle.hunk_files.specs.declared.row.Row.{Row}
use Rattle.hunk_scatter.specs.{BodyLoaderFields.ReadsOn, BodySteps.{RoomFor, longs_at}, Rows.words_of, StoreContent.stored_run, Streaming.{FitsStore, IsFed}}
use Rattle.hunk_scatter.specs.declared.stream.Standing.{Standing}
use Rattle.hunk_scatter.specs.declared.store.BodyState.{BodyState}
use Rattle.hunk_scatter.proofs.{BodyFields.fed_more, OneByte.stands_as, WholeLongs.{gathered_reads, run_taken}}
use Rattle.hunk_c.specs.declared.loader.Loader.{Loader}
use Rattle.hunk_c.specs.Loaders.{IsReady, MayHavePosition, StandsAt, loader_at, open_hunk, pending_in, phase_in, refusal_in, standing_in, with_numbers}
use Rattle.hunk_c.specs.Streams.{TakesPiece}
use Rattle.hunk_c.proofs.{Numbers.stands_by, Passing.{clean_is, fits_open}, Streamed.{stands_at, stands_so}}

abbrev pub none : Pending
none = record { count = 0; first = 0; second = 0; third = 0 }

-- the longword, and the loader after it
abbrev pub four_of : Loader → ℕ → List ℕ
four_of l byte = l.first ∷ l.second ∷ l.third ∷ byte ∷ []

abbrev pub after_last : Loader → Loader
after_last l = with_numbers l (saturated (l.fed + 1)) (l.owed - 1) none (refusal_in l)

-- A longword less is owed then.
pub content_less : (o : OpenHunk) (longs owed : ℕ) → 0 < owed → pass (positions.Body o (phases.Content longs owed)) 1 ≡ positions.Body o (phases.Content longs (owed - 1))
content_less o longs owed some = search rules

pub payload_less : (o : OpenHunk) (owed : ℕ) → 0 < owed → pass (positions.Body o (phases.Payload owed)) 1 ≡ positions.Body o (phases.Payload (owed - 1))
payload_less o owed some = search rules

pub symbol_less : (o : OpenHunk) (owed : ℕ) → 0 < owed → pass (positions.Body o (phases.Symbol owed)) 1 ≡ positions.Body o (phases.Symbol (owed - 1))
symbol_less o owed some = search rules

-- The loader stands at the phase that its number tells.
pub stands_at_phase : (rows : List Row) (total : ℕ) (l : Loader) (n : ℕ) → IsReady rows total l → l.phase ≡ n →
    MatchOption (phase_in n l.part l.owed) ⊥ (λ phase. MayHavePosition l (positions.Body (open_hunk l) phase))
stands_at_phase rows total l n ready e =
    subst (λ (o : Option Phase). MatchOption o ⊥ (λ phase. MayHavePosition l (positions.Body (open_hunk l) phase))) (ap (λ (m : ℕ). phase_in m l.part l.owed) e) ready.in_body

module _ (rows : List Row) (l : Loader) (memory after : List ℕ) (byte : ℕ) (kind : ℕ → Phase) (ready : IsReady rows (length memory) l) (stands : MayHavePosition l (positions.Body (open_hunk l) (kind l.owed))) where
  abbrev position : ℕ → Position
  position owed = positions.Body (open_hunk l) (kind owed)

  abbrev from : Standing
  from = standing_in l (position l.owed)

  abbrev state : ℕ → BodyState
  state owed = record { start = l.start; hunk = l.hunk; position = position owed }

  abbrev to : Standing
  to = record { state = state (l.owed - 1); fed = saturated (l.fed + 1); pending = none }

  s : StandsAt l from
  s = stands_by l (position l.owed) stands ready.counts ready.clean

  f : FitsStore rows (length memory) from
  f = fits_open rows (length memory) l (kind l.owed) ready.lies ready.counts.few stands

  module _ (bytes : IsBytes (four_of l byte)) (three : l.pending ≡ 3) (runs : 0 < run (position l.owed)) (less : pass (position l.owed) 1 ≡ position (l.owed - 1))
      (room : RoomFor (words_of rows) (longs_at (words_of rows) l.hunk) (kind (l.owed - 1))) (stores : after ≡ stored_run (state l.owed) (four_of l byte) memory) (same : length after ≡ length memory)
      (numbered : with_numbers (loader_at from) (saturated (l.fed + 1)) (l.owed - 1) none (0, 0, 0) ≡ loader_at to) where
    numbers_are : after_last l ≡ loader_at to
    numbers_are =
        ap (with_numbers l (saturated (l.fed + 1)) (l.owed - 1) none) (clean_is l from s)
        ∙ ap (λ (x : Loader). with_numbers x (saturated (l.fed + 1)) (l.owed - 1) none (0, 0, 0)) s.numbers
        ∙ numbered

    fits_then : FitsStore rows (length memory) to
    fits_then = record {
      few = omega arith;
      in_store = λ e. let i = f.in_store refl in record { hunks = i.hunks; hunk = i.hunk; segment = i.segment; in_body = refl; targets = i.targets; room = room };
      hunks = λ e. f.hunks refl;
      whole = λ e. absurd cc;
    }

    reads : ReadsOn rows memory (state l.owed) (four_of l byte) after (state (l.owed - 1))
    reads fed r =
        stands_as rows (stored_run (state l.owed) (four_of l byte) memory) after (record { start = l.start; hunk = l.hunk; position = pass (position l.owed) 1 }) (state (l.owed - 1)) [] [] (fed ++ four_of l byte)
        stores (ap (λ (p : Position). record { start = l.start; hunk = l.hunk; position = p }) (sym less)) refl
        (run_taken rows memory (state l.owed) fed r (f.in_store refl) (four_of l byte) 4 bytes (omega arith) refl (omega arith) (omega (arith, runs)))

    gathers : pending_of (pending_in l) ++ byte ∷ [] ≡ four_of l byte
    gathers = ap (λ (n : ℕ). pending_of (record { count = n; first = l.first; second = l.second; third = l.third }) ++ byte ∷ []) three

    fed_last : (fed : List ℕ) → IsFed rows memory from fed → IsFed rows after to (fed ++ byte ∷ [])
    fed_last fed k =
        fed_more rows memory from fed k after to (byte ∷ []) same (omega (arith, k.counted, length-append fed (byte ∷ [])))
        (gathered_reads rows memory (state l.owed) (pending_of (pending_in l)) fed (byte ∷ []) (four_of l byte) k.stands gathers after (state (l.owed - 1)) reads)

    pub takes_last : TakesPiece rows l (after_last l) memory after (byte ∷ []) 1
    takes_last = record {
      from = from;
      to = to;
      stood = s;
      fits = f;
      numbers = numbers_are;
      fits_still = subst (λ (n : ℕ). FitsStore rows n to) (sym same) fits_then;
      counted = refl;
      inside = omega arith;
      all = λ less. absurd (omega (arith, less));
      not_early = λ done. absurd cc;
      takes = λ fed h. stands_so rows (after_last l) to after (fed ++ byte ∷ []) numbers_are (fed_last fed (stands_at rows l memory fed from s h));
    }
