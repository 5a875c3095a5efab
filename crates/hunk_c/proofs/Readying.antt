-- A loader that stands where a hunk is open, and its numbers.
use Rattle.std.proofs.Common.{rules, ◌≡◌, ◌==◌, ℕ, ◌+◌, ◌*◌, ◌≤◌, Bool, true, false, List, Option, None, Some, MatchOption, sym, ap, subst, ◌∙◌, true≢false, if◌then◌else◌}
use Rattle.hunk_grammar.specs.declared.phase.Phase.{Phase}
use Rattle.hunk_grammar.specs.{Positions.is_done, declared.position.OpenHunk.OpenHunk, declared.position.Position.Position}
use Rattle.hunk_grammar.specs.declared.position.Position.TheVariants as positions
use Rattle.hunk_files.specs.declared.row.Row.{Row}
use Rattle.hunk_scatter.specs.{BodySteps.{RoomIn, longs_at, targets_at}, Rows.words_of, Streaming.FitsStore}
use Rattle.hunk_scatter.specs.declared.stream.Standing.{Standing}
use Rattle.hunk_c.specs.declared.loader.Loader.{Loader}
use Rattle.hunk_c.specs.Loaders.{IsReady, LiesIn, MayHavePosition, StandsAt, body_in, hunk_of, loader_position, open_hunk, phase_in, position_numbers, standing_in, whole}
use Rattle.hunk_c.proofs.{Numbers.{counts_of, has_numbers, position_of, stands_by, told_is}, Passing.fits_open}

-- ---- from its numbers to where it stands

same_position : (p q : Position) → Some p ≡ Some q → p ≡ q
same_position p q e = cc

module _ (rows : List Row) (total : ℕ) (l : Loader) (ready : IsReady rows total l) where
  abbrev Fits : Position → Type 0
  Fits p = StandsAt l (standing_in l p) × FitsStore rows total (standing_in l p)

  fits_ready : (p : Position) → loader_position l ≡ Some p → Fits p
  fits_ready p told = go (phase_in l.phase l.part l.owed) ready.in_body
    where
      go : (q : Option Phase) → MatchOption q ⊥ (λ phase. MayHavePosition l (positions.Body (open_hunk l) phase)) → Fits p
      go None h = absurd h
      go (Some phase) h =
          let here : Position = positions.Body (open_hunk l) phase in
          subst Fits (same_position here p (sym (told_is l here h) ∙ told))
          (stands_by l here h ready.counts ready.clean, fits_open rows total l phase ready.lies ready.counts.few h)

  -- It stands at the position that they tell, and fits.
  pub stands_ready : (p : Position) (at : Standing) → loader_position l ≡ Some p → at ≡ standing_in l p → StandsAt l at × FitsStore rows total at
  stands_ready p at told same = subst (λ (s : Standing). StandsAt l s × FitsStore rows total s) (sym same) (fits_ready p told)

  -- They tell one.
  pub tells_position : loader_position l ≡ None → ⊥
  tells_position none = go (phase_in l.phase l.part l.owed) ready.in_body
    where
      go : (q : Option Phase) → MatchOption q ⊥ (λ phase. MayHavePosition l (positions.Body (open_hunk l) phase)) → ⊥
      go None h = absurd h
      go (Some phase) h = absurd (cc (told_is l (positions.Body (open_hunk l) phase) h, none))

-- ---- and back

body_of : (b : Bool) (o : OpenHunk) (q : Option Phase) (l : Loader) (p : Position) → (if b then Some positions.Done else body_in o q) ≡ Some p → is_done p ≡ false → MayHavePosition l p →
    MatchOption q ⊥ (λ phase. MayHavePosition l (positions.Body o phase))
body_of true o q l p e more h = absurd (true≢false (ap is_done (same_position positions.Done p e) ∙ more))
body_of false o None l p e more h = absurd cc
body_of false o (Some phase) l p e more h = subst (MayHavePosition l) (sym (same_position (positions.Body o phase) p e)) h

same_hunks : (p : Position) → (hunk_of p).hunks ≡ targets_at p
same_hunks p = search rules

content_room : (sizes : List ℕ) (longs : ℕ) (p : Position) → RoomIn sizes longs p → (position_numbers p).0 ≡ 7 → (position_numbers p).1 ≤ longs
content_room sizes longs p room seven = search rules

module _ (rows : List Row) (total : ℕ) (l : Loader) (at : Standing) (s : StandsAt l at) (f : FitsStore rows total at) (more : is_done at.state.position ≡ false) where
  lies : LiesIn rows total l
  lies =
      let i = f.in_store more in
      let n = has_numbers l at s.numbers in
      record {
        hunks = n.hunks ∙ same_hunks at.state.position ∙ f.hunks more;
        segment = subst (λ (x : Loader). x.start + 4 * longs_at (words_of rows) x.hunk ≤ total) (sym s.numbers) i.segment;
        content = λ seven.
            subst (λ (x : Loader). x.part ≤ longs_at (words_of rows) x.hunk) (sym s.numbers)
            (content_room (words_of rows) (longs_at (words_of rows) at.state.hunk) at.state.position i.room (sym n.phase ∙ seven));
      }

  -- Where a hunk is open, a loader that stands and fits is ready.
  pub is_ready : IsReady rows total l
  is_ready =
      let h = position_of l at s.numbers s.may_stand in
      record {
        clean = s.clean;
        counts = counts_of l at s.numbers s.may_stand;
        in_body = body_of (l.phase == whole) (open_hunk l) (phase_in l.phase l.part l.owed) l at.state.position (told_is l at.state.position h) more h;
        lies = lies;
      }
