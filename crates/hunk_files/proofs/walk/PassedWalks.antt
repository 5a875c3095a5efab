-- The walk over a load file goes on after what is passed over at once.
use Rattle.std.proofs.Common.{rules, ◌≡◌, ℕ, zero, suc, ◌+◌, ◌-◌, ◌*◌, ◌<◌, ◌≤◌, Bool, true, false, List, length, get_or, refl, sym, ap, subst, ◌∙◌, arith, Some, None, if◌then◌else◌, ltb}
use Rattle.hunk_words.specs.declared.reason.Reason.TheVariants as reasons
use Rattle.hunk_words.specs.{Longs.{IsBytes, longs}, Bits.{size_longs, has_both_bits, name_longs}}
use Rattle.hunk_grammar.specs.{BlockParts.Part as parts, PhaseSteps.part_at, declared.phase.Phase.Phase}
use Rattle.hunk_grammar.specs.declared.phase.Phase.TheVariants as phases
use Rattle.hunk_blocks.proofs.Lists.{passes_else, passes_then}
use Rattle.std.proofs.lemmas.Bool.{le-ltb, lt-ltb}
use Rattle.hunk_grammar.specs.declared.position.OpenHunk as numbers
use Rattle.hunk_grammar.specs.{declared.position.Position.Position, Positions.{role_at, EndsWithin}, Roles.{Role as roles, refuse}}
use Rattle.hunk_grammar.specs.declared.position.Position.TheVariants as positions
use Rattle.hunk_grammar.specs.Positions as scan
use Rattle.hunk_grammar.proofs.OffsetRuns.{offset_passes}
use Rattle.hunk_files.specs.{declared.load.walk.DeclaredHunk.DeclaredHunk, Entries.{entry_after, entry_at}}
use Rattle.hunk_files.specs.declared.load.passing.BlockPlace.{BlockPlace}
use Rattle.hunk_files.specs.Passing.{AreBlocks, AreGroups, AreRows, AreSymbols, BeginsBlock, EndsHunk, HasHeaderFront, IsBlock, IsFrontPassed, IsGroup, IsList, IsPassed, IsWholeBlock, after_row, after_symbol, having, opening, phase_at, position_at, no_row, one_row, no_group, one_group, no_symbol, one_symbol, content, counted, groups, symbols, of_hunk, hunk_end, no_block, one_block, nothing, passed_rows, passed_blocks, no_front, passed_front}
use Rattle.hunk_files.proofs.walk.LoadWalks.{Walks, none_left, passes, start_walk}

-- ---- a longword and its run

-- After so many longwords comes the position; no hunk opens here.
record PassesOver (here : Position) (n : ℕ) (after : Position) : Type 0 where
  goes_on : here ≡ positions.Done → ⊥
  run : scan.run here ≡ n
  passed : scan.pass here n ≡ after
  same : (all : List ℕ) (entry : DeclaredHunk) → entry_at all here entry ≡ entry

-- A longword that is not refused leads after its run.
leads : (bytes : List ℕ) → IsBytes bytes → (entry : DeclaredHunk) (at after : ℕ) (from here to : Position) →
    Walks bytes at from entry → (n : ℕ) → after ≡ at + 1 + n → after ≤ length (longs bytes) →
    (w : ℕ) → w ≡ get_or (longs bytes) at 0 → here ≡ scan.step from w → refuse (role_at entry.longs from) w ≡ None →
    PassesOver here n to → Walks bytes after to entry
leads bytes fit entry at after from here to h n ends whole w is steps ok over =
    let on = passes bytes fit at from entry h (omega (arith, ends, whole)) w is here steps ok over.goes_on in
    let end : at + (1 + n) ≡ after = omega (arith, ends) in
    subst (λ (k : ℕ). Walks bytes k to entry) end
    (subst (λ (e : DeclaredHunk). Walks bytes (at + (1 + n)) to e) (over.same (longs bytes) entry)
    (subst (λ (q : Position). Walks bytes (at + (1 + n)) q (entry_at (longs bytes) here entry)) over.passed
    (subst (λ (k : ℕ). Walks bytes (at + (1 + k)) (scan.pass here k) (entry_at (longs bytes) here entry)) over.run
    on)))

-- ---- groups

module _ (bytes : List ℕ) (fit : IsBytes bytes) (entry : DeclaredHunk) (o : numbers.OpenHunk) (target : ℕ) where
  -- an offset within the hunk leads to one fewer
  one_over : (at owed : ℕ) → Walks bytes at (positions.Body o (phases.Offset target owed)) entry → at < length (longs bytes) → EndsWithin (4 * entry.longs) (get_or (longs bytes) at 0) → Walks bytes (at + 1) (scan.owe_offsets o target owed) entry
  one_over at owed h l within =
      let w = get_or (longs bytes) at 0 in
      let next = scan.owe_offsets o target owed in
      go owed (passes bytes fit at (positions.Body o (phases.Offset target owed)) entry h l w refl next refl (offset_passes entry.longs o target owed w within) (goes_on owed))
    where
      goes_on : (k : ℕ) → scan.owe_offsets o target k ≡ positions.Done → ⊥
      goes_on zero e = cc
      goes_on (suc k) e = cc

      go : (k : ℕ) → (let p = scan.owe_offsets o target k in Walks bytes (at + (1 + scan.run p)) (scan.pass p (scan.run p)) (entry_at (longs bytes) p entry)) → Walks bytes (at + 1) (scan.owe_offsets o target k) entry
      go zero t = t
      go (suc k) t = t

  -- the offsets of a group lead to the next
  offsets_over : (owed at : ℕ) → Walks bytes at (positions.Body o (phases.Offset target owed)) entry → at + suc owed ≤ length (longs bytes) →
      ((i : ℕ) → at ≤ i → i < at + suc owed → EndsWithin (4 * entry.longs) (get_or (longs bytes) i 0)) → Walks bytes (at + suc owed) (positions.Body o phases.GroupCount) entry
  offsets_over zero at h whole inside = one_over at 0 h (omega (arith, whole)) (inside at (omega arith) (omega arith))
  offsets_over (suc owed) at h whole inside =
      let next = one_over at (suc owed) h (omega (arith, whole)) (inside at (omega arith) (omega arith)) in
      let end : at + 1 + suc owed ≡ at + suc (suc owed) = omega arith in
      subst (λ (k : ℕ). Walks bytes k (positions.Body o phases.GroupCount) entry) end
      (offsets_over owed (at + 1) next (omega (arith, whole)) (λ i from to. inside i (omega (arith, from)) (omega (arith, to))))

module _ (bytes : List ℕ) (fit : IsBytes bytes) (entry : DeclaredHunk) (o : numbers.OpenHunk) where
  count_passes : (w declared : ℕ) → 0 < w → 0 < declared → refuse (role_at declared (positions.Body o phases.GroupCount)) w ≡ None
  count_passes w declared some room = search rules

  -- A group leads to the next.
  group_over : (at after : ℕ) → Walks bytes at (positions.Body o phases.GroupCount) entry → IsGroup (longs bytes) o.hunks entry.longs at after → Walks bytes after (positions.Body o phases.GroupCount) entry
  group_over at after h g = go (get_or (longs bytes) at 0) refl g.some
    where
      go : (w : ℕ) → w ≡ get_or (longs bytes) at 0 → 0 < w → Walks bytes after (positions.Body o phases.GroupCount) entry
      go zero is some = absurd (omega (arith, some))
      go (suc w) is some =
          let end : at + 1 + 1 + suc w ≡ after = omega (arith, is, g.ends) in
          let target = get_or (longs bytes) (at + 1) 0 in
          let first = g.inside (at + 2) (omega arith) (omega (arith, is, g.ends)) in
          let counted = passes bytes fit at (positions.Body o phases.GroupCount) entry h (omega (arith, is, g.ends, g.whole)) (suc w) is (positions.Body o (phases.Target w)) refl (count_passes (suc w) entry.longs some (omega (arith, first))) (λ e. absurd cc) in
          let aimed = passes bytes fit (at + 1) (positions.Body o (phases.Target w)) entry counted (omega (arith, is, g.ends, g.whole)) target refl (positions.Body o (phases.Offset target w)) refl
          (passes_then (ltb target o.hunks) None (Some reasons.BadTarget) (lt-ltb target o.hunks g.target)) (λ e. absurd cc) in
          subst (λ (k : ℕ). Walks bytes k (positions.Body o phases.GroupCount) entry) end
          (offsets_over bytes fit entry o target w (at + 1 + 1) aimed (omega (arith, end, g.whole)) (λ i from to. g.inside i (omega (arith, from)) (omega (arith, to, end))))

  groups_over : (at end : ℕ) → Walks bytes at (positions.Body o phases.GroupCount) entry → AreGroups (longs bytes) o.hunks entry.longs at end → Walks bytes end (positions.Body o phases.GroupCount) entry
  groups_over at _ h no_group = h
  groups_over at _ h (one_group mid end before group) = group_over mid end (groups_over at mid h before) group

-- ---- symbols

-- A symbol leads to the next.
symbol_over : (bytes : List ℕ) → IsBytes bytes → (entry : DeclaredHunk) (o : numbers.OpenHunk) (at : ℕ) → Walks bytes at (positions.Body o phases.EntryWord) entry → 0 < get_or (longs bytes) at 0 → after_symbol (longs bytes) at ≤ length (longs bytes) →
    Walks bytes (after_symbol (longs bytes) at) (positions.Body o phases.EntryWord) entry
symbol_over bytes fit entry o at h some whole = go (get_or (longs bytes) at 0) refl some
  where
    go : (w : ℕ) → w ≡ get_or (longs bytes) at 0 → 0 < w → Walks bytes (after_symbol (longs bytes) at) (positions.Body o phases.EntryWord) entry
    go zero is less = absurd (omega (arith, less))
    go (suc w) is less =
        let n = name_longs (suc w) in
        let end : after_symbol (longs bytes) at ≡ at + 1 + suc n = omega (arith, ap name_longs is) in
        let none : n - n ≡ 0 = none_left n in
        let passed = ap (λ (k : ℕ). scan.owe_symbol o k) none in
        leads bytes fit entry at (after_symbol (longs bytes) at) _ (scan.owe_symbol o (suc n)) _ h (suc n) end whole
        (suc w) is refl refl (record { goes_on = λ e. absurd cc; run = refl; passed = passed; same = λ all entry. refl })

symbols_over : (bytes : List ℕ) → IsBytes bytes → (entry : DeclaredHunk) (o : numbers.OpenHunk) (at end : ℕ) → Walks bytes at (positions.Body o phases.EntryWord) entry → AreSymbols (longs bytes) at end → Walks bytes end (positions.Body o phases.EntryWord) entry
symbols_over bytes fit entry o at _ h no_symbol = h
symbols_over bytes fit entry o at _ h (one_symbol mid before some whole) = symbol_over bytes fit entry o mid (symbols_over bytes fit entry o at mid h before) some whole

-- ---- rows of the table

-- A row, after which others come, leads to the next.
row_over : (bytes : List ℕ) → IsBytes bytes → (entry : DeclaredHunk) (hunks owed at : ℕ) → Walks bytes at (positions.SizeWord hunks (suc owed)) entry → after_row (longs bytes) at ≤ length (longs bytes) → Walks bytes (after_row (longs bytes) at) (positions.SizeWord hunks owed) entry
row_over bytes fit entry hunks owed at h whole = go (has_both_bits (get_or (longs bytes) at 0)) refl
  where
    over : PassesOver (positions.SizeWord hunks owed) 0 (positions.SizeWord hunks owed)
    over = record { goes_on = λ d. absurd cc; run = refl; passed = refl; same = λ all entry. refl }

    go : (b : Bool) → has_both_bits (get_or (longs bytes) at 0) ≡ b → Walks bytes (after_row (longs bytes) at) (positions.SizeWord hunks owed) entry
    go false e =
        let w = get_or (longs bytes) at 0 in
        let end : after_row (longs bytes) at ≡ at + 1 + 0 = omega (arith, ap (λ (b : Bool). at + (if b then 2 else 1)) e) in
        let next : Bool → Position =
        λ b. if b then positions.Attributes hunks w (suc owed) else positions.SizeWord hunks owed in
        leads bytes fit entry at (after_row (longs bytes) at) _ _ _ h 0 end whole w refl (ap next (sym e)) refl over
    go true e =
        let w = get_or (longs bytes) at 0 in
        let end : after_row (longs bytes) at ≡ at + 1 + 1 + 0 =
        omega (arith, ap (λ (b : Bool). at + (if b then 2 else 1)) e) in
        let here : Position = positions.Attributes hunks w (suc owed) in
        let next : Bool → Position = λ b. if b then here else positions.SizeWord hunks owed in
        let first =
        leads bytes fit entry at (at + 1) _ here _ h 0 (omega arith) (omega (arith, end, whole)) w refl (ap next (sym e)) refl
        (record { goes_on = λ d. absurd cc; run = refl; passed = refl; same = λ all entry. refl }) in
        leads bytes fit entry (at + 1) (after_row (longs bytes) at) _ _ _ first 0 end whole (get_or (longs bytes) (at + 1) 0)
        refl refl refl over

rows_over : (bytes : List ℕ) → IsBytes bytes → (entry : DeclaredHunk) (hunks owed at : ℕ) → Walks bytes at (positions.SizeWord hunks owed) entry → (count end : ℕ) → count ≤ owed → AreRows (longs bytes) at count end → Walks bytes end (positions.SizeWord hunks (owed - count)) entry
rows_over bytes fit entry hunks owed at h _ _ few no_row = search rules
rows_over bytes fit entry hunks owed at h _ _ few (one_row count mid before whole) =
    let left : owed - count ≡ suc (owed - suc count) = omega (arith, few) in
    let here = rows_over bytes fit entry hunks owed at h count mid (omega (arith, few)) before in
    row_over bytes fit entry hunks (owed - suc count) mid (subst (λ (k : ℕ). Walks bytes mid (positions.SizeWord hunks k) entry) left here) whole

-- ---- blocks

content_passes : (o : numbers.OpenHunk) (n : ℕ) →
    PassesOver (scan.owe_content o n n) n (positions.Body (having true o) phases.BlockWord)
content_passes o zero = record { goes_on = λ e. absurd cc; run = refl; passed = refl; same = λ all entry. refl }
content_passes o (suc n) = search rules

payload_passes : (o : numbers.OpenHunk) (n : ℕ) →
    PassesOver (scan.owe_payload o n) n (positions.Body o phases.BlockWord)
payload_passes o zero = record { goes_on = λ e. absurd cc; run = refl; passed = refl; same = λ all entry. refl }
payload_passes o (suc n) = search rules

module _ (bytes : List ℕ) (fit : IsBytes bytes) (entry : DeclaredHunk) (o : numbers.OpenHunk) where
  -- The word of a block leads to the phase after it.
  word_over : (at : ℕ) (phase next : Phase) → part_at phase ≡ parts.BlockWord → Walks bytes at (positions.Body o phase) entry → BeginsBlock (longs bytes) o.has_content at next → scan.run (positions.Body o next) ≡ 0 →
      Walks bytes (at + 1) (positions.Body o next) (entry_at (longs bytes) (positions.Body o next) entry)
  word_over at phase next e h b idle = go phase e h
    where
      w : ℕ
      w = get_or (longs bytes) at 0

      on : (phase : Phase) → Walks bytes at (positions.Body o phase) entry → positions.Body o next ≡ scan.step (positions.Body o phase) (get_or (longs bytes) at 0) → refuse (role_at entry.longs (positions.Body o phase)) (get_or (longs bytes) at 0) ≡ None →
          Walks bytes (at + 1) (positions.Body o next) (entry_at (longs bytes) (positions.Body o next) entry)
      on phase h steps ok =
          let over = passes bytes fit at (positions.Body o phase) entry h b.inside (get_or (longs bytes) at 0) refl (positions.Body o next) steps ok (λ d. absurd cc) in
          let P : ℕ → Type 0 = λ n. Walks bytes (at + (1 + n)) (scan.pass (positions.Body o next) n) (entry_at (longs bytes) (positions.Body o next) entry) in
          let end : at + (1 + 0) ≡ at + 1 = omega arith in
          subst (λ (k : ℕ). Walks bytes k (positions.Body o next) (entry_at (longs bytes) (positions.Body o next) entry)) end (subst P idle over)

      go : (phase : Phase) → part_at phase ≡ parts.BlockWord → Walks bytes at (positions.Body o phase) entry → Walks bytes (at + 1) (positions.Body o next) (entry_at (longs bytes) (positions.Body o next) entry)
      go phases.FirstBlock e h = on phases.FirstBlock h (ap (scan.onward o (scan.close o)) (sym b.begins)) b.accepted
      go phases.BlockWord e h = on phases.BlockWord h (ap (scan.onward o (scan.close o)) (sym b.begins)) b.accepted
      go _ e h = absurd cc

  -- The 0 after a list leads to the next block.
  zero_over : {GoesTo : ℕ → Type 0} (after : ℕ) (phase : Phase) (l : IsList (longs bytes) GoesTo after) → Walks bytes l.end (positions.Body o phase) entry → scan.step (positions.Body o phase) 0 ≡ positions.Body o phases.BlockWord → refuse (role_at entry.longs (positions.Body o phase)) 0 ≡ None →
      Walks bytes after (positions.Body o phases.BlockWord) entry
  zero_over after phase l h steps ok =
      leads bytes fit entry l.end after _ (positions.Body o phases.BlockWord) _ h 0 (omega (arith, l.ends)) l.whole
      0 (sym l.zero_is) (sym steps) ok (record { goes_on = λ d. absurd cc; run = refl; passed = refl; same = λ all entry. refl })

  -- A block leads to the next.
  block_over : (at : ℕ) (phase : Phase) (after : ℕ) (now : Bool) → part_at phase ≡ parts.BlockWord → Walks bytes at (positions.Body o phase) entry → IsWholeBlock (longs bytes) o.hunks entry.longs at o.has_content after now → Walks bytes after (positions.Body (having now o) phases.BlockWord) entry
  block_over at phase after _ e h (content _ begun c) =
      let word = get_or (longs bytes) (at + 1) 0 in
      let size = size_longs word in
      let ok = passes_else (ltb entry.longs size) (Some reasons.ContentTooLong) None (le-ltb entry.longs size c.fits) in
      leads bytes fit entry (at + 1) after _ _ _ (word_over at phase phases.ContentSize e h begun refl)
      size c.ends c.whole word refl refl ok (content_passes o size)
  block_over at phase after _ e h (counted _ begun c) =
      let word = get_or (longs bytes) (at + 1) 0 in
      leads bytes fit entry (at + 1) after _ _ _ (word_over at phase phases.LongCount e h begun refl)
      word c.ends c.whole word refl refl refl (payload_passes o word)
  block_over at phase after _ e h (groups _ begun l) = zero_over after phases.GroupCount l (groups_over bytes fit entry o (at + 1) l.end (word_over at phase phases.GroupCount e h begun refl) l.items) refl refl
  block_over at phase after _ e h (symbols _ begun l) = zero_over after phases.EntryWord l (symbols_over bytes fit entry o (at + 1) l.end (word_over at phase phases.EntryWord e h begun refl) l.items) refl refl

-- The walk stands at the place.
abbrev StandsAt : List ℕ → BlockPlace → Type 0
StandsAt bytes p = Walks bytes p.at (position_at p) p.entry

at_word : (begun : Bool) → part_at (phase_at begun) ≡ parts.BlockWord
at_word false = refl
at_word true = refl

-- The END of a hunk leads to where the next opens, and to its entry.
end_over : (bytes : List ℕ) → IsBytes bytes → (p : BlockPlace) → StandsAt bytes p → EndsHunk (longs bytes) p.hunk.has_content p.at → 0 < p.hunk.ahead → StandsAt bytes (opening (longs bytes) p)
end_over bytes fit p h e more = go p.begun h
  where
    next : Position
    next = position_at (opening (longs bytes) p)

    opens : next ≡ scan.close p.hunk
    opens = let left : suc (p.hunk.ahead - 1) ≡ p.hunk.ahead = omega (arith, more) in ap (scan.open_next p.hunk.hunks) left

    on : (phase : Phase) → Walks bytes p.at (positions.Body p.hunk phase) p.entry → scan.close p.hunk ≡ scan.step (positions.Body p.hunk phase) (get_or (longs bytes) p.at 0) → refuse (role_at p.entry.longs (positions.Body p.hunk phase)) (get_or (longs bytes) p.at 0) ≡ None → StandsAt bytes (opening (longs bytes) p)
    on phase h steps ok = passes bytes fit p.at (positions.Body p.hunk phase) p.entry h e.inside (get_or (longs bytes) p.at 0) refl next (opens ∙ steps) ok (λ d. absurd cc)

    go : (begun : Bool) → Walks bytes p.at (positions.Body p.hunk (phase_at begun)) p.entry → StandsAt bytes (opening (longs bytes) p)
    go false h = on phases.FirstBlock h (ap (scan.onward p.hunk (scan.close p.hunk)) (sym e.ends)) e.accepted
    go true h = on phases.BlockWord h (ap (scan.onward p.hunk (scan.close p.hunk)) (sym e.ends)) e.accepted

-- Blocks lead on.
blocks_over : (bytes : List ℕ) → IsBytes bytes → (from to : BlockPlace) → StandsAt bytes from → AreBlocks (longs bytes) from to → StandsAt bytes to
blocks_over bytes fit from _ h no_block = h
blocks_over bytes fit from _ h (one_block p q before b) = go q (blocks_over bytes fit from p h before) b
  where
    go : (q : BlockPlace) → StandsAt bytes p → IsBlock (longs bytes) p q → StandsAt bytes q
    go _ s (of_hunk after now block) = block_over bytes fit p.entry p.hunk p.at (phase_at p.begun) after now (at_word p.begun) s block
    go _ s (hunk_end q e opened) = subst (StandsAt bytes) (sym opened.opens) (end_over bytes fit p s e opened.ahead)

-- ---- what is passed over

-- It leads on.
pub walk_over : (bytes : List ℕ) → IsBytes bytes → (at : ℕ) (p : Position) (entry : DeclaredHunk) (to : ℕ) (q : Position) (now : DeclaredHunk) → Walks bytes at p entry → IsPassed (longs bytes) at p entry to q now → Walks bytes to q now
walk_over bytes fit at p entry _ _ _ h nothing = h
walk_over bytes fit at p entry _ _ _ h (passed_rows hunks owed count to is few f) =
    rows_over bytes fit entry hunks owed at (subst (λ (p : Position). Walks bytes at p entry) is h) count to few f
walk_over bytes fit at p entry _ _ _ h (passed_blocks o begun to is f) =
    blocks_over bytes fit (record { at = at; hunk = o; begun = begun; entry = entry }) to (subst (λ (p : Position). Walks bytes at p entry) is h) f

-- ---- the front

-- A longword of the header leads to the next, where no hunk opens.
header_word_over : (bytes : List ℕ) → IsBytes bytes → (entry : DeclaredHunk) (at : ℕ) (from to : Position) → Walks bytes at from entry → at < length (longs bytes) → to ≡ scan.step from (get_or (longs bytes) at 0) → refuse (role_at entry.longs from) (get_or (longs bytes) at 0) ≡ None → PassesOver to 0 to → Walks bytes (at + 1) to entry
header_word_over bytes fit entry at from to h inside steps ok over =
    leads bytes fit entry at (at + 1) from to to h 0 (omega arith) (omega (arith, inside)) (get_or (longs bytes) at 0) refl steps ok over

-- The longwords before the table lead to it.
front_over : (bytes : List ℕ) → IsBytes bytes → (entry : DeclaredHunk) (hunks : ℕ) → Walks bytes 0 positions.FirstLong entry → HasHeaderFront (longs bytes) hunks → Walks bytes 5 (positions.SizeWord hunks (hunks - 1)) entry
front_over bytes fit entry hunks h f = go hunks f.hunks_are f.some f.size f.last
  where
    go : (n : ℕ) → n ≡ get_or (longs bytes) 2 0 → 0 < n → refuse roles.TableSize n ≡ None → refuse (roles.LastHunk n) (get_or (longs bytes) 4 0) ≡ None → Walks bytes 5 (positions.SizeWord n (n - 1)) entry
    go zero is some size last = absurd (omega (arith, some))
    go (suc k) is some size last =
        let names = header_word_over bytes fit entry 0 positions.FirstLong positions.ResidentName h (omega (arith, f.whole)) refl f.word (record { goes_on = λ d. absurd cc; run = refl; passed = refl; same = λ all entry. refl }) in
        let sized = header_word_over bytes fit entry 1 positions.ResidentName positions.TableSize names (omega (arith, f.whole)) refl f.names (record { goes_on = λ d. absurd cc; run = refl; passed = refl; same = λ all entry. refl }) in
        let first = header_word_over bytes fit entry 2 positions.TableSize (positions.FirstHunk (suc k)) sized (omega (arith, f.whole)) (ap (λ (n : ℕ). positions.FirstHunk n) is) (subst (λ (n : ℕ). refuse roles.TableSize n ≡ None) is size) (record { goes_on = λ d. absurd cc; run = refl; passed = refl; same = λ all entry. refl }) in
        let last_hunk = header_word_over bytes fit entry 3 (positions.FirstHunk (suc k)) (positions.LastHunk (suc k)) first (omega (arith, f.whole)) refl f.first (record { goes_on = λ d. absurd cc; run = refl; passed = refl; same = λ all entry. refl }) in
        let left : k ≡ suc k - 1 = omega arith in
        subst (λ (n : ℕ). Walks bytes 5 (positions.SizeWord (suc k) n) entry) left
        (header_word_over bytes fit entry 4 (positions.LastHunk (suc k)) (positions.SizeWord (suc k) k) last_hunk (omega (arith, f.whole)) refl last (record { goes_on = λ d. absurd cc; run = refl; passed = refl; same = λ all entry. refl }))

-- The last row leads to where the first hunk opens.
last_row_over : (bytes : List ℕ) → IsBytes bytes → (entry : DeclaredHunk) (left at : ℕ) → Walks bytes at (positions.SizeWord (suc left) 0) entry → after_row (longs bytes) at ≤ length (longs bytes) →
    Walks bytes (after_row (longs bytes) at) (scan.open_next (suc left) (suc left)) (entry_after (get_or (longs bytes) entry.next 0) entry.next)
last_row_over bytes fit entry left at h whole = go (has_both_bits (get_or (longs bytes) at 0)) refl
  where
    opens : Position
    opens = scan.open_next (suc left) (suc left)

    go : (b : Bool) → has_both_bits (get_or (longs bytes) at 0) ≡ b → Walks bytes (after_row (longs bytes) at) (scan.open_next (suc left) (suc left)) (entry_after (get_or (longs bytes) entry.next 0) entry.next)
    go false e =
        let w = get_or (longs bytes) at 0 in
        let end : at + (1 + 0) ≡ after_row (longs bytes) at = omega (arith, ap (λ (b : Bool). at + (if b then 2 else 1)) e) in
        let next : Bool → Position = λ b. if b then positions.Attributes (suc left) w 0 else opens in
        subst (λ (n : ℕ). Walks bytes n opens (entry_after (get_or (longs bytes) entry.next 0) entry.next)) end
        (passes bytes fit at (positions.SizeWord (suc left) 0) entry h (omega (arith, end, whole)) w refl opens (ap next (sym e)) refl (λ d. absurd cc))
    go true e =
        let w = get_or (longs bytes) at 0 in
        let end : at + 1 + (1 + 0) ≡ after_row (longs bytes) at = omega (arith, ap (λ (b : Bool). at + (if b then 2 else 1)) e) in
        let here : Position = positions.Attributes (suc left) w 0 in
        let next : Bool → Position = λ b. if b then here else opens in
        let extra = header_word_over bytes fit entry at (positions.SizeWord (suc left) 0) here h (omega (arith, end, whole)) (ap next (sym e)) refl (record { goes_on = λ d. absurd cc; run = refl; passed = refl; same = λ all entry. refl }) in
        subst (λ (n : ℕ). Walks bytes n opens (entry_after (get_or (longs bytes) entry.next 0) entry.next)) end
        (passes bytes fit (at + 1) here entry extra (omega (arith, end, whole)) (get_or (longs bytes) (at + 1) 0) refl opens refl refl (λ d. absurd cc))

-- The table leads to where the first hunk opens.
table_over : (bytes : List ℕ) → IsBytes bytes → (entry : DeclaredHunk) (left at end : ℕ) → Walks bytes at (positions.SizeWord (suc left) left) entry → AreRows (longs bytes) at (suc left) end →
    Walks bytes end (scan.open_next (suc left) (suc left)) (entry_after (get_or (longs bytes) entry.next 0) entry.next)
table_over bytes fit entry left at _ h (one_row _ mid before whole) =
    let none : left - left ≡ 0 = none_left left in
    let few : left ≤ left = omega arith in
    let rows = rows_over bytes fit entry (suc left) left at h left mid few before in
    last_row_over bytes fit entry left mid (subst (λ (n : ℕ). Walks bytes mid (positions.SizeWord (suc left) n) entry) none rows) whole

-- What is passed over from the start on leads on.
pub walk_front : (bytes : List ℕ) → IsBytes bytes → (at : ℕ) (p : Position) (entry : DeclaredHunk) → IsFrontPassed (longs bytes) at p entry → Walks bytes at p entry
walk_front bytes fit _ _ _ no_front = start_walk bytes
walk_front bytes fit _ _ _ (passed_front first to q entry f passed) =
    walk_over bytes fit first.at (position_at first) first.entry to q entry (subst (StandsAt bytes) (sym f.opens) (go first.hunk.hunks f.header f.table)) passed
  where
    go : (hunks : ℕ) → HasHeaderFront (longs bytes) hunks → AreRows (longs bytes) 5 hunks first.at → StandsAt bytes (record { at = first.at; hunk = record { hunks = hunks; ahead = hunks - 1; has_content = false }; begun = false; entry = entry_after (get_or (longs bytes) 5 0) 5 })
    go zero header table = absurd (omega (arith, header.some))
    go (suc left) header table =
        let ahead : left ≡ suc left - 1 = omega arith in
        let entry : DeclaredHunk = record { longs = 0; next = 5 } in
        let at_table = front_over bytes fit entry (suc left) (start_walk bytes) header in
        let here = subst (λ (n : ℕ). Walks bytes 5 (positions.SizeWord (suc left) n) entry) (sym ahead) at_table in
        let opened = table_over bytes fit entry left 5 first.at here table in
        subst (λ (n : ℕ). Walks bytes first.at (positions.Body (record { hunks = suc left; ahead = n; has_content = false }) phases.FirstBlock) (entry_after (get_or (longs bytes) 5 0) 5)) ahead opened
