-- The walk over an object file goes on after what is passed over at once.
use Rattle.std.proofs.Common.{◌≡◌, ℕ, zero, suc, ◌+◌, ◌<◌, ◌≤◌, Bool, true, false, eqb, ltb, List, length, get_or, refl, sym, ap, ap₂, subst, ◌∙◌, arith, Option, Some, None}
use Rattle.std.specs.Prelude.{IfSome}
use Rattle.std.proofs.lemmas.Bool.{eqb-true, lt-ltb}
use Rattle.hunk_words.specs.{Bits.{entry_type, has_both_bits, is_advisory, is_relocation, kind, name_longs, size_longs, unit_word}, Limits.name_limit, Longs.{IsBytes, longs}}
use Rattle.hunk_words.specs.declared.block_word.Kind.{Kind}
use Rattle.hunk_words.specs.declared.block_word.Kind.TheVariants as kinds
use Rattle.hunk_words.specs.declared.reason.Reason.{Reason}
use Rattle.hunk_words.specs.declared.reason.Reason.TheVariants as reasons
use Rattle.hunk_grammar.specs.{BlockParts.Part as parts, ExtKinds.{ext_kind, ext_shape}, Modes.{refuse_alone_kind, refuse_alone_word, refuse_shape}, Standings.{first_of, standing_of_kind}}
use Rattle.hunk_grammar.specs.declared.ext_shape.ExtShape.TheVariants as shapes
use Rattle.hunk_grammar.specs.declared.mode.Mode.TheVariants as modes
use Rattle.hunk_grammar.specs.ObjectPositions.{place_next, refuse_place, role_at, step, run, pass_run, within}
use Rattle.hunk_grammar.specs.ObjectRoles.{Within, refuse_object, refuse_object_word, refuse_unit}
use Rattle.hunk_grammar.specs.PhaseSteps as inside
use Rattle.hunk_grammar.specs.PhaseSteps.{longest_run_of, part_at, pass_longest_run_of}
use Rattle.hunk_grammar.specs.declared.phase.Phase.{Phase}
use Rattle.hunk_grammar.specs.declared.phase.Phase.TheVariants as phases
use Rattle.hunk_grammar.specs.declared.object_position.{ObjectPosition.ObjectPosition, WordPlace.WordPlace}
use Rattle.hunk_grammar.specs.declared.object_position.ObjectPosition.TheVariants as positions
use Rattle.hunk_grammar.specs.declared.object_position.WordPlace.TheVariants.{BeforeUnits, BetweenHunks, InHunk}
use Rattle.hunk_grammar.proofs.ObjectWords.{within_split, word_split}
use Rattle.hunk_blocks.proofs.Lists.{passes_else, passes_then}
use Rattle.hunk_files.specs.FileParts.{counted}
use Rattle.hunk_files.specs.ObjectPassing.{AreEntries, AreObjectGroups, AreStrides, EndsBlock, IsAfter, IsNamed, LeadsOn, LeadsTo, counts_at, no_stride, one_stride}
use Rattle.hunk_files.specs.Passing.{AreSymbols, IsContent, IsCounted, IsList, after_symbol, no_symbol, one_symbol}
use Rattle.hunk_files.specs.declared.object.passing.UnitPlace.{UnitPlace}
use Rattle.hunk_files.proofs.object_walk.ObjectWalks.{ObjectWalks, passes}

-- ---- how many there are

counted_few : (p : ObjectPosition) (n : ℕ × ℕ) → ((counted p n).0 ≤ n.0 + 1) × ((counted p n).1 ≤ n.1 + 1)
counted_few positions.UnitCount n = (omega arith, omega arith)
counted_few (positions.Word BeforeUnits) n = (omega arith, omega arith)
counted_few (positions.Word BetweenHunks) n = (omega arith, omega arith)
counted_few (positions.Word (InHunk has)) n = (omega arith, omega arith)
counted_few (positions.UnitName owed) n = (omega arith, omega arith)
counted_few (positions.Block next phase) n = (omega arith, omega arith)

module _ (ws : List ℕ) where
  pub few_over : (at : ℕ) (p : ObjectPosition) (n : ℕ × ℕ) (to : ℕ) (q : ObjectPosition) (m : ℕ × ℕ) → AreStrides ws at p n to q m → (n.0 ≤ at) × (n.1 ≤ at) → (m.0 ≤ to) × (m.1 ≤ to)
  few_over at p n _ _ _ no_stride h = h
  few_over at p n _ _ _ (one_stride to q m before ok whole) h =
      let all = few_over at p n to q m before h in
      let one = counted_few q m in
      (omega (arith, all.0, one.0), omega (arith, all.1, one.1))

  -- No more units began than longwords stand before the place, and no more parts are whole.
  pub few_units : (p q : UnitPlace) → LeadsTo ws p q → p.units ≤ p.at → p.whole ≤ p.at → q.units ≤ q.at
  few_units p q l units whole = (few_over p.at _ _ q.at _ _ l (units, whole)).0

  pub few_parts : (p q : UnitPlace) → LeadsTo ws p q → p.units ≤ p.at → p.whole ≤ p.at → q.whole ≤ q.at
  few_parts p q l units whole = (few_over p.at _ _ q.at _ _ l (units, whole)).1

  -- ---- strides

  pub goes_on : (at : ℕ) (p : ObjectPosition) (n : ℕ × ℕ) (to : ℕ) (q : ObjectPosition) (m : ℕ × ℕ) → AreStrides ws at p n to q m → at ≤ to
  goes_on at p n _ _ _ no_stride = omega arith
  goes_on at p n _ _ _ (one_stride to q m before ok whole) = omega (arith, goes_on at p n to q m before)

  ends_inside : (at : ℕ) (p : ObjectPosition) (n : ℕ × ℕ) (to : ℕ) (q : ObjectPosition) (m : ℕ × ℕ) → AreStrides ws at p n to q m → at ≤ length ws → to ≤ length ws
  ends_inside at p n _ _ _ no_stride l = l
  ends_inside at p n _ _ _ (one_stride to q m before ok whole) l = whole

  pub join : (at : ℕ) (p : ObjectPosition) (n : ℕ × ℕ) (mid : ℕ) (q : ObjectPosition) (m : ℕ × ℕ) (to : ℕ) (r : ObjectPosition) (k : ℕ × ℕ) →
      AreStrides ws at p n mid q m → AreStrides ws mid q m to r k → AreStrides ws at p n to r k
  join at p n mid q m _ _ _ f no_stride = f
  join at p n mid q m _ _ _ f (one_stride to r k g ok whole) = one_stride to r k (join at p n mid q m to r k f g) ok whole

  -- A longword that is not refused leads after its run.
  stride_over : (at : ℕ) (p : ObjectPosition) (n : ℕ × ℕ) (w : ℕ) → w ≡ get_or ws at 0 → refuse_object (role_at p) w ≡ None → (after : ℕ) → after ≡ at + 1 + run (step p w) → after ≤ length ws →
      (q : ObjectPosition) → pass_run (step p w) ≡ q → (m : ℕ × ℕ) → counted p n ≡ m → AreStrides ws at p n after q m
  stride_over at p n w is ok after ends whole q q_is m m_is =
      let v = get_or ws at 0 in
      let end : at + (1 + run (step p v)) ≡ after = omega (arith, ends, ap (λ (x : ℕ). run (step p x)) is) in
      subst (λ (k : ℕ). AreStrides ws at p n k q m) end
      (subst (λ (r : ObjectPosition). AreStrides ws at p n (at + (1 + run (step p v))) r m) (ap (λ (x : ℕ). pass_run (step p x)) (sym is) ∙ q_is)
      (subst (AreStrides ws at p n (at + (1 + run (step p v))) (pass_run (step p v))) m_is
      (one_stride at p n no_stride (ap (refuse_object (role_at p)) (sym is) ∙ ok) (omega (arith, end, whole)))))

  run_within : (next : WordPlace) (o : Option Phase) → run (within next o) ≡ longest_run_of o
  run_within next None = refl
  run_within next (Some phase) = refl

  pass_within : (next : WordPlace) (o : Option Phase) → pass_run (within next o) ≡ within next (pass_longest_run_of o)
  pass_within next None = refl
  pass_within next (Some phase) = refl

  -- So does one in a block.
  inside_over : (at : ℕ) (next : WordPlace) (n : ℕ × ℕ) (phase : Phase) (w : ℕ) → w ≡ get_or ws at 0 → refuse_object (Within (part_at phase)) w ≡ None → (o : Option Phase) → inside.step phase w ≡ o →
      (after : ℕ) → after ≡ at + 1 + longest_run_of o → after ≤ length ws → AreStrides ws at (positions.Block next phase) n after (within next (pass_longest_run_of o)) n
  inside_over at next n phase w is ok o steps after ends whole =
      let runs : run (step (positions.Block next phase) w) ≡ longest_run_of o = ap (λ (x : Option Phase). run (within next x)) steps ∙ run_within next o in
      stride_over at (positions.Block next phase) n w is ok after (omega (arith, ends, runs)) whole (within next (pass_longest_run_of o))
      (ap (λ (x : Option Phase). pass_run (within next x)) steps ∙ pass_within next o) n refl

  -- ---- the rest of a block

  pub content_ends : (longs at after : ℕ) → IsContent ws longs at after → EndsBlock ws phases.ContentSize at after
  content_ends longs at after c next n = go (size_longs (get_or ws at 0)) refl
    where
      go : (k : ℕ) → size_longs (get_or ws at 0) ≡ k → AreStrides ws at (positions.Block next phases.ContentSize) n after (positions.Word next) n
      go zero e = inside_over at next n phases.ContentSize (get_or ws at 0) refl refl None (ap (λ (k : ℕ). inside.owe_content k k) e) after (omega (arith, c.ends, e)) c.whole
      go (suc k) e = inside_over at next n phases.ContentSize (get_or ws at 0) refl refl (Some (phases.Content (suc k) k)) (ap (λ (k : ℕ). inside.owe_content k k) e) after (omega (arith, c.ends, e)) c.whole

  pub size_ends : (at : ℕ) → at < length ws → EndsBlock ws phases.BssSize at (at + 1)
  size_ends at l next n = inside_over at next n phases.BssSize (get_or ws at 0) refl refl None refl (at + 1) (omega arith) (omega (arith, l))

  pub counted_ends : (at after : ℕ) → IsCounted ws at after → EndsBlock ws phases.LongCount at after
  counted_ends at after c next n = go (get_or ws at 0) refl
    where
      go : (w : ℕ) → w ≡ get_or ws at 0 → AreStrides ws at (positions.Block next phases.LongCount) n after (positions.Word next) n
      go zero e = inside_over at next n phases.LongCount zero e refl None refl after (omega (arith, c.ends, e)) c.whole
      go (suc k) e = inside_over at next n phases.LongCount (suc k) e refl (Some (phases.Payload k)) refl after (omega (arith, c.ends, e)) c.whole

  count_passes : (w : ℕ) → w < name_limit → refuse_object (Within parts.NameCount) w ≡ None
  count_passes w l = passes_then (ltb w name_limit) None (Some reasons.NameWord) (lt-ltb w name_limit l)

  pub name_ends : (at after : ℕ) → IsNamed ws at after → EndsBlock ws phases.NameCount at after
  name_ends at after h next n = go (get_or ws at 0) refl
    where
      ok : (w : ℕ) → w ≡ get_or ws at 0 → refuse_object (Within parts.NameCount) w ≡ None
      ok w e = count_passes w (omega (arith, e, h.few))

      go : (w : ℕ) → w ≡ get_or ws at 0 → AreStrides ws at (positions.Block next phases.NameCount) n after (positions.Word next) n
      go zero e = inside_over at next n phases.NameCount zero e (ok zero e) None refl after (omega (arith, h.counted.ends, e)) h.counted.whole
      go (suc k) e = inside_over at next n phases.NameCount (suc k) e (ok (suc k) e) (Some (phases.Payload k)) refl after (omega (arith, h.counted.ends, e)) h.counted.whole

  -- ---- lists

  zero_ends : (at : ℕ) → at < length ws → get_or ws at 0 ≡ 0 → (phase : Phase) → refuse_object (Within (part_at phase)) 0 ≡ None → inside.step phase 0 ≡ None → EndsBlock ws phase at (at + 1)
  zero_ends at l zero_is phase ok steps next n = inside_over at next n phase 0 (sym zero_is) ok None steps (at + 1) (omega arith) (omega (arith, l))

  symbols_over : (at end : ℕ) → AreSymbols ws at end → (next : WordPlace) (n : ℕ × ℕ) → AreStrides ws at (positions.Block next phases.EntryWord) n end (positions.Block next phases.EntryWord) n
  symbols_over at _ no_symbol next n = no_stride
  symbols_over at _ (one_symbol mid before some whole) next n =
      join at (positions.Block next phases.EntryWord) n mid (positions.Block next phases.EntryWord) n (after_symbol ws mid) (positions.Block next phases.EntryWord) n (symbols_over at mid before next n) (go (get_or ws mid 0) refl)
    where
      go : (w : ℕ) → w ≡ get_or ws mid 0 → AreStrides ws mid (positions.Block next phases.EntryWord) n (after_symbol ws mid) (positions.Block next phases.EntryWord) n
      go zero e = absurd (omega (arith, e, some))
      go (suc k) e =
          let size = ap name_longs e in
          inside_over mid next n phases.EntryWord (suc k) e refl (Some (phases.Symbol (name_longs (suc k)))) refl (after_symbol ws mid) (omega (arith, size)) whole

  pub symbols_end : (at after : ℕ) → IsList ws (AreSymbols ws at) after → EndsBlock ws phases.EntryWord at after
  symbols_end at after l next n =
      let e : l.end + 1 ≡ after = sym l.ends in
      subst (λ (k : ℕ). AreStrides ws at (positions.Block next phases.EntryWord) n k (positions.Word next) n) e
      (join at (positions.Block next phases.EntryWord) n l.end (positions.Block next phases.EntryWord) n (l.end + 1) (positions.Word next) n (symbols_over at l.end l.items next n)
      (zero_ends l.end (omega (arith, l.ends, l.whole)) l.zero_is phases.EntryWord refl refl next n))

  -- A group leads to the next.
  pub one_group : (from at after : ℕ) → AreObjectGroups ws from at → 0 < get_or ws at 0 → after ≡ at + 2 + get_or ws at 0 → after ≤ length ws → AreObjectGroups ws from after
  one_group from at after h some ends whole next n =
      join from (positions.Block next phases.GroupCount) n at (positions.Block next phases.GroupCount) n after (positions.Block next phases.GroupCount) n (h next n) (go (get_or ws at 0) refl)
    where
      go : (w : ℕ) → w ≡ get_or ws at 0 → AreStrides ws at (positions.Block next phases.GroupCount) n after (positions.Block next phases.GroupCount) n
      go zero e = absurd (omega (arith, e, some))
      go (suc k) e =
          join at (positions.Block next phases.GroupCount) n (at + 1) (positions.Block next (phases.Target k)) n after (positions.Block next phases.GroupCount) n
          (inside_over at next n phases.GroupCount (suc k) e refl (Some (phases.Target k)) refl (at + 1) (omega arith) (omega (arith, ends, e, whole)))
          (inside_over (at + 1) next n (phases.Target k) (get_or ws (at + 1) 0) refl refl (Some (phases.Offset (get_or ws (at + 1) 0) k)) refl after (omega (arith, ends, e)) whole)

  pub groups_end : (from at : ℕ) → AreObjectGroups ws from at → at < length ws → get_or ws at 0 ≡ 0 → EndsBlock ws phases.GroupCount from (at + 1)
  groups_end from at h l e next n =
      join from (positions.Block next phases.GroupCount) n at (positions.Block next phases.GroupCount) n (at + 1) (positions.Word next) n (h next n) (zero_ends at l e phases.GroupCount refl refl next n)

  -- ---- external entries

  definition_first : ext_shape (entry_type 0) ≡ Some shapes.Definition
  unfolding ext_kind
  definition_first = refl

  ext_passes : (w : ℕ) (s : shapes.the_data) → ext_shape (entry_type w) ≡ Some s → refuse_object (Within parts.ExtWord) w ≡ None
  ext_passes w s e = within_split parts.ExtWord w ∙ ap refuse_shape e

  -- The count of the references, and these.
  references_over : (at after : ℕ) → IsCounted ws at after → (next : WordPlace) (n : ℕ × ℕ) → AreStrides ws at (positions.Block next phases.ExtCount) n after (positions.Block next phases.ExtWord) n
  references_over at after c next n = go (get_or ws at 0) refl
    where
      go : (w : ℕ) → w ≡ get_or ws at 0 → AreStrides ws at (positions.Block next phases.ExtCount) n after (positions.Block next phases.ExtWord) n
      go zero e = inside_over at next n phases.ExtCount zero e refl (Some phases.ExtWord) refl after (omega (arith, c.ends, e)) c.whole
      go (suc k) e = inside_over at next n phases.ExtCount (suc k) e refl (Some (phases.ExtRest k)) refl after (omega (arith, c.ends, e)) c.whole

  module _ (at w : ℕ) (is : w ≡ get_or ws at 0) (some : 0 < w) where
    -- what comes after the word of the entry
    shaped : (s : shapes.the_data) → ext_shape (entry_type w) ≡ Some s → inside.step phases.ExtWord w ≡ inside.owe_shaped (Some s) (name_longs w)
    shaped s e = go w some e
      where
        go : (w : ℕ) → 0 < w → ext_shape (entry_type w) ≡ Some s → inside.owe_externals w ≡ inside.owe_shaped (Some s) (name_longs w)
        go zero l e = absurd (omega (arith, l))
        go (suc k) l e = ap (λ (o : Option shapes.the_data). inside.owe_shaped o (name_longs (suc k))) e

    pub definition_over : ext_shape (entry_type w) ≡ Some shapes.Definition → (after : ℕ) → after ≡ at + 1 + name_longs w + 1 → after ≤ length ws → AreEntries ws at after
    definition_over e after ends whole next n =
        inside_over at next n phases.ExtWord w is (ext_passes _ shapes.Definition e) (Some (phases.ExtRest (name_longs w))) (shaped shapes.Definition e) after (omega (arith, ends)) whole

    -- The name, and for a common block its size.
    front_over : (s : shapes.the_data) → ext_shape (entry_type w) ≡ Some s → (longs mid : ℕ) → inside.owe_shaped (Some s) (name_longs w) ≡ inside.owe_front longs → mid ≡ at + 1 + longs → mid ≤ length ws →
        (next : WordPlace) (n : ℕ × ℕ) → AreStrides ws at (positions.Block next phases.ExtWord) n mid (positions.Block next phases.ExtCount) n
    front_over s e longs mid owes ends whole next n = go longs owes ends
      where
        go : (k : ℕ) → inside.owe_shaped (Some s) (name_longs w) ≡ inside.owe_front k → mid ≡ at + 1 + k → AreStrides ws at (positions.Block next phases.ExtWord) n mid (positions.Block next phases.ExtCount) n
        go zero o m = inside_over at next n phases.ExtWord w is (ext_passes _ s e) (Some phases.ExtCount) (shaped s e ∙ o) mid (omega (arith, m)) whole
        go (suc k) o m = inside_over at next n phases.ExtWord w is (ext_passes _ s e) (Some (phases.ExtFront k)) (shaped s e ∙ o) mid (omega (arith, m)) whole

    counted_over : (s : shapes.the_data) → ext_shape (entry_type w) ≡ Some s → (longs mid after : ℕ) → inside.owe_shaped (Some s) (name_longs w) ≡ inside.owe_front longs → mid ≡ at + 1 + longs → IsCounted ws mid after → AreEntries ws at after
    counted_over s e longs mid after owes ends c next n =
        join at (positions.Block next phases.ExtWord) n mid (positions.Block next phases.ExtCount) n after (positions.Block next phases.ExtWord) n
        (front_over s e longs mid owes ends (omega (arith, c.ends, c.whole)) next n) (references_over mid after c next n)

    pub references_entry : ext_shape (entry_type w) ≡ Some shapes.References → (after : Option ℕ) → IfSome after (IsCounted ws (at + 1 + name_longs w)) → IfSome after (AreEntries ws at)
    references_entry e None c = tt
    references_entry e (Some after) c = counted_over shapes.References e (name_longs w) _ after refl refl c

    pub common_entry : ext_shape (entry_type w) ≡ Some shapes.Common → (after : Option ℕ) → IfSome after (IsCounted ws (at + 1 + name_longs w + 1)) → IfSome after (AreEntries ws at)
    common_entry e None c = tt
    common_entry e (Some after) c = counted_over shapes.Common e (suc (name_longs w)) _ after refl (omega arith) c

  pub one_entry : (from at after : ℕ) → AreEntries ws from at → AreEntries ws at after → AreEntries ws from after
  one_entry from at after f g next n = join from (positions.Block next phases.ExtWord) n at (positions.Block next phases.ExtWord) n after (positions.Block next phases.ExtWord) n (f next n) (g next n)

  pub entries_end : (from at : ℕ) → AreEntries ws from at → at < length ws → get_or ws at 0 ≡ 0 → EndsBlock ws phases.ExtWord from (at + 1)
  entries_end from at h l e next n =
      join from (positions.Block next phases.ExtWord) n at (positions.Block next phases.ExtWord) n (at + 1) (positions.Word next) n (h next n) (zero_ends at l e phases.ExtWord (ext_passes 0 shapes.Definition definition_first) refl next n)

-- ---- block words

-- The word of a block of the one kind passes where one of the other does, and leads to the phase.
pub record StandsAs (j k : Kind) (o : Option Phase) : Type 0 where
  pub alone : (advisory : Bool) → refuse_alone_kind modes.Object advisory j ≡ None
  pub standing : standing_of_kind j ≡ standing_of_kind k
  pub begins : inside.begin j ≡ o
  pub none_run : longest_run_of o ≡ 0
  pub none_passed : pass_longest_run_of o ≡ o

pub code_stands : StandsAs kinds.Code kinds.Code (Some phases.ContentSize)
code_stands = record { alone = λ a. refl; standing = refl; begins = refl; none_run = refl; none_passed = refl }

pub data_stands : StandsAs kinds.Data kinds.Data (Some phases.ContentSize)
data_stands = record { alone = λ a. refl; standing = refl; begins = refl; none_run = refl; none_passed = refl }

pub bss_stands : StandsAs kinds.Bss kinds.Bss (Some phases.BssSize)
bss_stands = record { alone = λ a. refl; standing = refl; begins = refl; none_run = refl; none_passed = refl }

pub ext_stands : StandsAs kinds.Ext kinds.Ext (Some phases.ExtWord)
ext_stands = record { alone = λ a. refl; standing = refl; begins = refl; none_run = refl; none_passed = refl }

pub name_stands : StandsAs kinds.Name kinds.Name (Some phases.NameCount)
name_stands = record { alone = λ a. refl; standing = refl; begins = refl; none_run = refl; none_passed = refl }

pub symbol_stands : StandsAs kinds.Symbol kinds.Symbol (Some phases.EntryWord)
symbol_stands = record { alone = λ a. refl; standing = refl; begins = refl; none_run = refl; none_passed = refl }

pub debug_stands : StandsAs kinds.Debug kinds.Debug (Some phases.LongCount)
debug_stands = record { alone = λ a. refl; standing = refl; begins = refl; none_run = refl; none_passed = refl }

pub relocates : (j : Kind) → is_relocation j ≡ true → StandsAs j kinds.Reloc32 (Some phases.GroupCount)
relocates kinds.Reloc32 e = record { alone = λ a. refl; standing = refl; begins = refl; none_run = refl; none_passed = refl }
relocates kinds.Reloc16 e = record { alone = λ a. refl; standing = refl; begins = refl; none_run = refl; none_passed = refl }
relocates kinds.Reloc8 e = record { alone = λ a. refl; standing = refl; begins = refl; none_run = refl; none_passed = refl }
relocates kinds.Drel32 e = record { alone = λ a. refl; standing = refl; begins = refl; none_run = refl; none_passed = refl }
relocates kinds.Drel16 e = record { alone = λ a. refl; standing = refl; begins = refl; none_run = refl; none_passed = refl }
relocates kinds.Drel8 e = record { alone = λ a. refl; standing = refl; begins = refl; none_run = refl; none_passed = refl }
relocates kinds.RelReloc32 e = record { alone = λ a. refl; standing = refl; begins = refl; none_run = refl; none_passed = refl }
relocates kinds.AbsReloc16 e = record { alone = λ a. refl; standing = refl; begins = refl; none_run = refl; none_passed = refl }
relocates _ e = absurd cc

unit_kind : kind unit_word ≡ kinds.Unit
unfolding kind
unit_kind = refl

no_unit : (w : ℕ) (j : Kind) → kind w ≡ j → refuse_alone_kind modes.Object true j ≡ None → eqb w unit_word ≡ false
no_unit w j is alone = go (eqb w unit_word) refl
  where
    go : (b : Bool) → eqb w unit_word ≡ b → eqb w unit_word ≡ false
    go false e = e
    go true e =
        let same : j ≡ kinds.Unit = sym is ∙ ap kind (eqb-true w unit_word e) ∙ unit_kind in
        let clash : Some reasons.Misplaced ≡ None = ap (refuse_alone_kind modes.Object true) (sym same) ∙ alone in
        absurd cc

module _ (ws : List ℕ) (p q : UnitPlace) (w : ℕ) (j k : Kind) (o : Option Phase) (after : Option ℕ) (here : p.at < length ws) (is : w ≡ get_or ws p.at 0) (bits : has_both_bits w ≡ false) (kind_is : kind w ≡ j) (s : StandsAs j k o) where
  standing_is : standing_of_kind (kind w) ≡ standing_of_kind k
  standing_is = ap standing_of_kind kind_is ∙ s.standing

  apart : eqb w unit_word ≡ false
  apart = no_unit w j kind_is (s.alone true)

  alone_is : refuse_alone_word modes.Object w ≡ None
  alone_is = passes_else (has_both_bits w) (Some reasons.BothBits) (refuse_alone_kind modes.Object (is_advisory w) (kind w)) bits ∙ ap (refuse_alone_kind modes.Object (is_advisory w)) kind_is ∙ s.alone (is_advisory w)

  accepted : refuse_place p.place (standing_of_kind k) ≡ None → refuse_object_word p.place w ≡ None
  accepted allowed =
      word_split p.place w
      ∙ passes_else (eqb w unit_word) (refuse_unit p.place) (first_of (refuse_alone_word modes.Object w) (refuse_place p.place (standing_of_kind (kind w)))) apart
      ∙ ap (λ (r : Option Reason). first_of r (refuse_place p.place (standing_of_kind (kind w)))) alone_is
      ∙ ap (refuse_place p.place) standing_is
      ∙ allowed

  steps : (next : WordPlace) → next ≡ place_next p.place (standing_of_kind k) → step (positions.Word p.place) w ≡ within next o
  steps next next_is =
      passes_else (eqb w unit_word) positions.UnitCount (within (place_next p.place (standing_of_kind (kind w))) (inside.begin (kind w))) apart
      ∙ ap (λ (x : WordPlace). within x (inside.begin (kind w))) (ap (place_next p.place) standing_is ∙ sym next_is)
      ∙ ap (within next) (ap inside.begin kind_is ∙ s.begins)

  -- The word of a block that may stand at the place leads to what comes after it.
  word_over : IsAfter p k after q → AreStrides ws p.at (positions.Word p.place) (counts_at p) (p.at + 1) (within q.place o) (counts_at q)
  word_over a =
      let to = steps q.place a.next in
      let none = ap run to ∙ run_within ws q.place o ∙ s.none_run in
      stride_over ws p.at (positions.Word p.place) (counts_at p) w is (accepted a.allowed) (p.at + 1) (omega (arith, none)) (omega (arith, here)) (within q.place o)
      (ap pass_run to ∙ pass_within ws q.place o ∙ ap (within q.place) s.none_passed) (counts_at q) (sym a.counts)

leads_on : (ws : List ℕ) (p q : UnitPlace) (mid : ObjectPosition) → p.at < length ws → AreStrides ws p.at (positions.Word p.place) (counts_at p) (p.at + 1) mid (counts_at q) →
    AreStrides ws (p.at + 1) mid (counts_at q) q.at (positions.Word q.place) (counts_at q) → LeadsOn ws p q
leads_on ws p q mid here f g =
    record {
      leads = join ws p.at (positions.Word p.place) (counts_at p) (p.at + 1) mid (counts_at q) q.at (positions.Word q.place) (counts_at q) f g;
      on = omega (arith, goes_on ws (p.at + 1) mid (counts_at q) q.at (positions.Word q.place) (counts_at q) g);
      inside = ends_inside ws (p.at + 1) mid (counts_at q) q.at (positions.Word q.place) (counts_at q) g (omega (arith, here));
    }

-- A block that may stand at the place, and ends, leads on.
pub block_over : {A : Type 0} (ws : List ℕ) (p q : UnitPlace) (w : ℕ) (j k : Kind) (phase : Phase) (after : Option ℕ) (r : Option A) → p.at < length ws → w ≡ get_or ws p.at 0 → has_both_bits w ≡ false → kind w ≡ j →
    StandsAs j k (Some phase) → IfSome r (λ _. IsAfter p k after q) → IfSome after (EndsBlock ws phase (p.at + 1)) → IfSome r (λ _. LeadsOn ws p q)
block_over ws p q w j k phase after None here is bits kind_is s a ends = tt
block_over ws p q w j k phase after (Some _) here is bits kind_is s a ends =
    leads_on ws p q (positions.Block q.place phase) here (word_over ws p q w j k (Some phase) after here is bits kind_is s a)
    (subst (λ (o : Option ℕ). IfSome o (EndsBlock ws phase (p.at + 1))) a.ends ends q.place (counts_at q))

-- So does an END.
pub end_over : {A : Type 0} (ws : List ℕ) (p q : UnitPlace) (w : ℕ) (r : Option A) → p.at < length ws → w ≡ get_or ws p.at 0 → has_both_bits w ≡ false → kind w ≡ kinds.End →
    IfSome r (λ _. IsAfter p kinds.End (Some (p.at + 1)) q) → IfSome r (λ _. LeadsOn ws p q)
end_over ws p q w None here is bits kind_is a = tt
end_over ws p q w (Some _) here is bits kind_is a =
    let s : StandsAs kinds.End kinds.End None = record { alone = λ a. refl; standing = refl; begins = refl; none_run = refl; none_passed = refl } in
    let same : p.at + 1 ≡ q.at = some_is (p.at + 1) q.at a.ends in
    leads_on ws p q (positions.Word q.place) here (word_over ws p q w kinds.End kinds.End None (Some (p.at + 1)) here is bits kind_is s a)
    (subst (λ (k : ℕ). AreStrides ws (p.at + 1) (positions.Word q.place) (counts_at q) k (positions.Word q.place) (counts_at q)) same no_stride)
  where
    some_is : (a b : ℕ) → Some a ≡ Some b → a ≡ b
    some_is a b e = cc

-- So does the header of a unit.
pub header_over : (ws : List ℕ) (p q : UnitPlace) → p.at < length ws → get_or ws p.at 0 ≡ unit_word → p.place ≡ BetweenHunks → IsNamed ws (p.at + 1) q.at → q.place ≡ BetweenHunks → q.units ≡ p.units + 1 → q.whole ≡ 0 → LeadsOn ws p q
header_over ws p q here is place_is named next_is units_are whole_is = record {
  leads =
      subst (λ (x : WordPlace). AreStrides ws p.at (positions.Word x) (counts_at p) q.at (positions.Word q.place) (counts_at q)) (sym place_is)
      (subst (λ (x : WordPlace). AreStrides ws p.at (positions.Word BetweenHunks) (counts_at p) q.at (positions.Word x) (counts_at q)) (sym next_is)
      (join ws p.at (positions.Word BetweenHunks) (counts_at p) (p.at + 1) positions.UnitCount (p.units, suc p.whole) q.at (positions.Word BetweenHunks) (counts_at q)
      (stride_over ws p.at (positions.Word BetweenHunks) (counts_at p) unit_word (sym is) refl (p.at + 1) (omega arith) (omega (arith, here)) positions.UnitCount refl (p.units, suc p.whole) refl)
      (go (get_or ws (p.at + 1) 0) refl)));
  on = omega (arith, named.counted.ends);
  inside = named.counted.whole;
}
  where
    counts : (suc p.units, 0) ≡ counts_at q
    counts = let more : suc p.units ≡ q.units = omega (arith, units_are) in ap₂ (λ (n m : ℕ). (n, m)) more (sym whole_is)

    go : (w : ℕ) → w ≡ get_or ws (p.at + 1) 0 → AreStrides ws (p.at + 1) positions.UnitCount (p.units, suc p.whole) q.at (positions.Word BetweenHunks) (counts_at q)
    go zero e = stride_over ws (p.at + 1) positions.UnitCount (p.units, suc p.whole) zero e (count_passes ws zero (omega (arith, e, named.few))) q.at (omega (arith, named.counted.ends, e)) named.counted.whole (positions.Word BetweenHunks) refl (counts_at q) counts
    go (suc k) e = stride_over ws (p.at + 1) positions.UnitCount (p.units, suc p.whole) (suc k) e (count_passes ws (suc k) (omega (arith, e, named.few))) q.at (omega (arith, named.counted.ends, e)) named.counted.whole (positions.Word BetweenHunks) refl (counts_at q) counts

pub if_some : {P Q : ℕ → Type 0} → ((n : ℕ) → P n → Q n) → (o : Option ℕ) → IfSome o P → IfSome o Q
if_some f None h = tt
if_some f (Some n) h = f n h

-- ---- the walk

pub walk_over : (bytes : List ℕ) → IsBytes bytes → (at : ℕ) (p : ObjectPosition) (n : ℕ × ℕ) (to : ℕ) (q : ObjectPosition) (m : ℕ × ℕ) → ObjectWalks bytes at p n.0 n.1 → AreStrides (longs bytes) at p n to q m → ObjectWalks bytes to q m.0 m.1
walk_over bytes fit at p n _ _ _ h no_stride = h
walk_over bytes fit at p n _ _ _ h (one_stride to q m before ok whole) =
    passes bytes fit to q m.0 m.1 (walk_over bytes fit at p n to q m h before) (omega (arith, whole)) (get_or (longs bytes) to 0) refl ok
