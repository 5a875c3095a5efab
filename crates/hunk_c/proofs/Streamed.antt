-- What a loader in numbers stands for, and what it comes to at the end.
use Rattle.std.proofs.Common.{rules, ◌≡◌, ◌*◌, ◌/◌, ℕ, true, false, List, ◌++◌, length, refl, sym, ap, subst, ◌∙◌, arith, append-nil, inr}
use Rattle.hunk_words.specs.{Carriers.saturated, Longs.bytes_of}
use Rattle.hunk_words.specs.declared.reason.Reason.TheVariants as reasons
use Rattle.hunk_grammar.specs.Positions.{is_done}
use Rattle.hunk_grammar.specs.declared.position.Position.TheVariants as positions
use Rattle.hunk_files.specs.{Fault.HasFault, FileSteps.{Next, More, Finished}, Image.images}
use Rattle.hunk_files.specs.{LoadFile.{LoadFileValue, IsLoadFile}, LoadText.{table, text}}
use Rattle.hunk_files.specs.{ReaderPosition.{IsAfterHeader, table_of}, WordsRead.HasRead}
use Rattle.hunk_files.specs.declared.row.Row.{Row}
use Rattle.hunk_files.proofs.walk.Reading.{read_ended}
use Rattle.hunk_scatter.specs.{BodyLoaderFields.{StandsAfter, EndsWhole}, BodyReader.{state_at, state_of}}
use Rattle.hunk_scatter.specs.{LoaderValues.told_place, Rows.{bases_of, entries_of}, StoreContent.StoreHolds}
use Rattle.hunk_scatter.specs.{Streaming.{EndsLoading, IsFed}, declared.store.BodyState.BodyState}
use Rattle.hunk_scatter.specs.declared.stream.Standing.{Standing}
use Rattle.hunk_scatter.proofs.{BodyFields.done_if_whole, Forget.before_is}
use Rattle.hunk_c.specs.{declared.loader.Loader.Loader, Answers.done}
use Rattle.hunk_c.specs.{Loaders.{Stands, StandsAt, loader_at, unrefused}, Streams.IsStreamed}
use Rattle.hunk_c.proofs.{Loaded.{same_answer}, MayStand.may_stand, Numbers.one_standing}

-- ---- where a loader stands

-- It stands where its numbers tell.
pub stands_at : (rows : List Row) (l : Loader) (memory fed : List ℕ) (at : Standing) → StandsAt l at → Stands rows l memory fed → IsFed rows memory at fed
stands_at rows l memory fed at e h =
    subst (λ (s : Standing). IsFed rows memory s fed) (one_standing l h.at at h.numbers e.numbers (may_stand rows memory h.at fed h.is_fed) e.may_stand) h.is_fed

-- Numbers that are written for a standing are of a loader that stands so.
pub stands_so : (rows : List Row) (l : Loader) (at : Standing) (memory fed : List ℕ) → l ≡ loader_at at → IsFed rows memory at fed → Stands rows l memory fed
stands_so rows l at memory fed e h = record {
  at = at;
  numbers = ap unrefused e;
  clean = record { place = ap (λ (x : Loader). x.place) e; number = ap (λ (x : Loader). x.refused) e; hunk = ap (λ (x : Loader). x.refused_hunk) e };
  is_fed = h;
}

-- ---- the end

-- A file that was read to its end, what the memory holds then, and the numbers.
pub record IsRead (rows : List Row) (memory fed : List ℕ) (state : BodyState) : Type 0 where
  pub value : LoadFileValue
  pub is_load_file : IsLoadFile value
  pub bytes_are : fed ≡ bytes_of (text value)
  pub table_is : table value ≡ entries_of rows
  pub memory_is : memory ≡ images (bases_of rows) value
  pub state_is : state ≡ state_at value positions.Done

read_whole : (rows : List Row) (memory : List ℕ) (state : BodyState) (pending fed : List ℕ) → StandsAfter rows memory state pending fed → is_done state.position ≡ true → IsRead rows memory fed state
read_whole rows memory state pending fed r done = go r.next r.read r.after r.table_is r.state_is r.holds r.whole
  where
    go : (n : Next) → HasRead r.ws n → IsAfterHeader n → table_of n ≡ entries_of rows → state_of n ≡ state → StoreHolds (bases_of rows) n memory → EndsWhole n pending → IsRead rows memory fed state
    go (More p) read b t s h w = search rules
    go (Finished v) read b t s h w =
        let e = read_ended r.ws v read in
        record {
          value = v;
          is_load_file = e.0;
          bytes_are = r.spelled ∙ ap (λ (xs : List ℕ). bytes_of r.ws ++ xs) w ∙ append-nil (bytes_of r.ws) ∙ ap bytes_of (sym e.1);
          table_is = t;
          memory_is = h.1;
          state_is = sym s;
        }

pub streamed : (rows : List Row) (l : Loader) (memory fed : List ℕ) (at : Standing) → StandsAt l at → EndsLoading at true → Stands rows l memory fed → IsStreamed rows memory fed (done l.hunk l.fed l.start)
streamed rows l memory fed at e ends h =
    let f = stands_at rows l memory fed at e h in
    let i = ends rows memory fed f in
    let finished : is_done at.state.position ≡ true = done_if_whole _ _ _ _ f (i.value, i.file) in
    let r = read_whole rows memory at.state _ fed f.stands finished in
    record {
      value = r.value;
      is_load_file = r.is_load_file;
      bytes_are = r.bytes_are;
      table_is = r.table_is;
      memory_is = r.memory_is;
      answer_is =
          same_answer 0 _ _ _ _ _ _ (ap (λ (x : Loader). x.hunk) e.numbers ∙ ap (λ (s : BodyState). s.hunk) r.state_is) (ap (λ (x : Loader). x.fed) e.numbers ∙ f.counted ∙ ap (λ (bs : List ℕ). saturated (length bs)) r.bytes_are)
          (ap (λ (x : Loader). x.start) e.numbers ∙ ap (λ (s : BodyState). s.start) r.state_is ∙ sym (before_is r.value));
    }

pub cut_short : (rows : List Row) (l : Loader) (memory fed : List ℕ) (at : Standing) → StandsAt l at → EndsLoading at false → Stands rows l memory fed →
    (at : ℕ) × HasFault fed at reasons.Truncated × (4 * (l.fed / 4) ≡ told_place at)
cut_short rows l memory fed at e ends h =
    let f = stands_at rows l memory fed at e h in
    (4 * (length fed / 4), inr (refl, (ends rows memory fed f).1), omega (arith, f.counted, ap (λ (x : Loader). x.fed) e.numbers))
