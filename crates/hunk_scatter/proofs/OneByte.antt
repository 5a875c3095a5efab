-- Bytes of a body up to the end of a longword.
use Rattle.std.proofs.Common.{rules, ◌≡◌, ℕ, ◌+◌, ◌*◌, ◌<◌, true, false, List, [], ◌∷◌, ◌++◌, length, refl, sym, ap, ap₂, subst, ◌∙◌, append_assoc, append-nil, arith, length-append, None, Some}
use Rattle.std.proofs.lemmas.Grind.{common_steps}
use Rattle.std.specs.List.{AllByRecursion}
use Rattle.hunk_words.specs.{declared.reason.Reason.Reason, Longs.{bytes_of, longs, IsLong}}
use Rattle.hunk_files.specs.{Fault.HasRefusal, Image.{declared_bytes, images}, LoadFile.LoadFileValue}
use Rattle.hunk_files.specs.FileSteps.{Progress, Next, More, Finished, role_of, step_file}
use Rattle.hunk_files.specs.{ReaderPosition.{table_of, IsAfterHeader}, WordsRead.HasRead, declared.row.Row.Row}
use Rattle.hunk_grammar.specs.{Roles.refuse, Positions.is_done}
use Rattle.hunk_files.proofs.{walk.FileProgress.ProgressFits, walk.Reading.{reads, step_read, read_refused, read_ended}}
use Rattle.hunk_words.proofs.LongLaws.{longs-bytes_of, length-bytes_of, bytes_of-append}
use Rattle.hunk_blocks.proofs.Lists.{All-more}
use Rattle.hunk_scatter.specs.{declared.store.BodyState.BodyState, StoreContent.{StoreHolds, HasSizedImage, stored_long}}
use Rattle.hunk_scatter.specs.{BodySteps.{refusal, step_body, IsInStore}, BodyLoaderFields.{EndsWhole, StandsAfter}, LoaderValues.IsFileWithRows}
use Rattle.hunk_scatter.specs.{Rows.{entries_of, words_of, bases_of}, BodyReader.{sizes_of, state_of}}
use Rattle.hunk_scatter.proofs.{ReadWords.read_longs, Forget.{step_state, step_table, step_after, refusal_same}, Scatter.step_holds}

-- ---- room

in_store : (p : Progress) → IsAfterHeader (More p) → ProgressFits p → IsInStore (sizes_of (table_of (More p))) (declared_bytes (table_of (More p))) (state_of (More p))
in_store p b f = grind (arith, common_steps)

pub sizes_are : (rows : List Row) → sizes_of (entries_of rows) ≡ words_of rows
sizes_are [] = refl
sizes_are (r ∷ rows) = ap (λ (xs : List ℕ). r.word ∷ xs) (sizes_are rows)

-- ---- a reading

-- by other names
pub stands_as : (rows : List Row) (store store2 : List ℕ) (state state2 : BodyState) (pending pending2 fed : List ℕ) → store2 ≡ store → state2 ≡ state → pending2 ≡ pending →
    StandsAfter rows store state pending fed → StandsAfter rows store2 state2 pending2 fed
stands_as rows store store2 state state2 pending pending2 fed e f g r = search rules

-- ---- a reading that goes on

-- what was read of a reading that is not whole
pub record Going (rows : List Row) (store : List ℕ) (state : BodyState) (pending fed : List ℕ) : Type 0 where
  pub ws : List ℕ
  pub at : Progress
  pub spelled : fed ≡ bytes_of ws ++ pending
  pub few : length pending < 4
  pub read : HasRead ws (More at)
  pub in_body : IsAfterHeader (More at)
  pub table_is : table_of (More at) ≡ entries_of rows
  pub state_is : state_of (More at) ≡ state
  pub holds : StoreHolds (bases_of rows) (More at) store

pub going : (rows : List Row) (store : List ℕ) (state : BodyState) (pending fed : List ℕ) → StandsAfter rows store state pending fed → is_done state.position ≡ false → Going rows store state pending fed
going rows store state pending fed r more = search rules

module _ (rows : List Row) (store : List ℕ) (state : BodyState) (pending fed : List ℕ) (g : Going rows store state pending fed) where
  sizes_now : sizes_of (table_of (More g.at)) ≡ words_of rows
  sizes_now = ap sizes_of g.table_is ∙ sizes_are rows

  -- The state stands in the store.
  pub room : length store ≡ declared_bytes (entries_of rows) → IsInStore (words_of rows) (length store) state
  room e =
      subst (λ (s : BodyState). IsInStore (words_of rows) (length store) s) g.state_is
      (subst (λ (ss : List ℕ). IsInStore ss (length store) (state_of (More g.at))) sizes_now
      (subst (λ (n : ℕ). IsInStore (sizes_of (table_of (More g.at))) n (state_of (More g.at))) (ap declared_bytes g.table_is ∙ sym e)
      (in_store g.at g.in_body (reads g.read).0)))

  refusal_is : (w : ℕ) → refuse (role_of g.at) w ≡ refusal (words_of rows) state w
  refusal_is w = refusal_same g.at w g.in_body (reads g.read).0 ∙ ap₂ (λ (ss : List ℕ) (s : BodyState). refusal ss s w) sizes_now g.state_is

  -- Bytes that complete no longword.
  pub more_pending : (bytes : List ℕ) → length (pending ++ bytes) < 4 → StandsAfter rows store state (pending ++ bytes) (fed ++ bytes)
  more_pending bytes few = search (rules, append_assoc)

  module _ (bytes : List ℕ) (w : ℕ) (is : IsLong w) (gathers : pending ++ bytes ≡ bytes_of (w ∷ [])) where
    spells : fed ++ bytes ≡ bytes_of (g.ws ++ w ∷ [])
    spells =
        ap (λ (xs : List ℕ). xs ++ bytes) g.spelled
        ∙ append_assoc (bytes_of g.ws) pending bytes
        ∙ ap (λ (xs : List ℕ). bytes_of g.ws ++ xs) gathers
        ∙ sym (bytes_of-append g.ws (w ∷ []))

    -- Those that complete a longword that passes.
    pub more_read : refusal (words_of rows) state w ≡ None → StandsAfter rows (stored_long (bases_of rows) state w store) (step_body (words_of rows) state w) [] (fed ++ bytes)
    more_read ok =
        let pass : refuse (role_of g.at) w ≡ None = refusal_is w ∙ ok in
        record {
          few = omega arith;
          ws = g.ws ++ w ∷ [];
          next = step_file g.at w;
          spelled = spells ∙ sym (append-nil (bytes_of (g.ws ++ w ∷ [])));
          read = step_read g.ws g.at w g.read is pass;
          after = step_after g.at w g.in_body;
          table_is = step_table g.at w g.in_body ∙ g.table_is;
          state_is = step_state g.at w g.in_body (reads g.read).0 ∙ ap₂ (λ (ss : List ℕ) (s : BodyState). step_body ss s w) sizes_now g.state_is;
          holds =
              subst (λ (s : BodyState). StoreHolds (bases_of rows) (step_file g.at w) (stored_long (bases_of rows) s w store)) g.state_is
              (step_holds (bases_of rows) g.at w store (reads g.read).0 is pass g.holds);
          whole = nothing (step_file g.at w);
        }
      where
        nothing : (n : Next) → EndsWhole n []
        nothing (More p) = tt
        nothing (Finished v) = refl

    -- Those that complete a longword that is refused.
    pub refused_here : (reason : Reason) (at : ℕ) → at + 4 ≡ length fed + length bytes → refusal (words_of rows) state w ≡ Some reason → HasRefusal (fed ++ bytes) at reason
    refused_here reason at e no-pass =
        let spelled : longs (fed ++ bytes) ≡ g.ws ++ w ∷ [] =
        ap longs (spells ∙ sym (append-nil (bytes_of (g.ws ++ w ∷ []))))
        ∙ longs-bytes_of (g.ws ++ w ∷ []) [] (All-more IsLong g.ws w (read_longs g.ws (More g.at) g.read) is)
        ∙ append-nil (g.ws ++ w ∷ []) in
        let place : 4 * length g.ws ≡ at =
        omega (arith, e, ap length spells, length-append fed bytes, length-bytes_of (g.ws ++ w ∷ []), length-append g.ws (w ∷ [])) in
        subst (λ (n : ℕ). HasRefusal (fed ++ bytes) n reason) place
        (read_refused (fed ++ bytes) g.ws g.at w [] reason g.read spelled (refusal_is w ∙ no-pass))

-- ---- the end

-- A reading that is whole has a load file.
pub file_read : (rows : List Row) (store : List ℕ) (state : BodyState) (pending fed : List ℕ) → StandsAfter rows store state pending fed → is_done state.position ≡ true →
    (v : LoadFileValue) × IsFileWithRows rows fed v × AllByRecursion (HasSizedImage (bases_of rows)) v × (store ≡ images (bases_of rows) v)
file_read rows store state pending fed r done = go r.next r.read r.after r.table_is r.state_is r.holds r.whole
  where
    go : (n : Next) → HasRead r.ws n → IsAfterHeader n → table_of n ≡ entries_of rows → state_of n ≡ state → StoreHolds (bases_of rows) n store → EndsWhole n pending →
        (v : LoadFileValue) × IsFileWithRows rows fed v × AllByRecursion (HasSizedImage (bases_of rows)) v × (store ≡ images (bases_of rows) v)
    go (More p) read b t s h w = search rules
    go (Finished v) read b t s h w =
        let e = read_ended r.ws v read in (
          v,
          record {
            is_load_file = e.0;
            bytes_are = ap bytes_of e.1 ∙ sym (append-nil (bytes_of r.ws)) ∙ ap (λ (xs : List ℕ). bytes_of r.ws ++ xs) (sym w) ∙ sym r.spelled;
            table_is = t;
          },
          h.0,
          h.1,
        )
