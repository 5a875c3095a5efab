-- What has been read of a block in a hunk of a load file fits the hunk.
use Rattle.std.proofs.Common.{rules, ◌≡◌, ℕ, zero, suc, ◌+◌, ◌*◌, ◌/◌, ◌%◌, ◌^◌, ◌<◌, ◌≤◌, ltb, eqb, List, [], ◌∷◌, ◌++◌, length, refl, sym, subst, arith, None}
use Rattle.std.specs.List.{AllByRecursion}
use Rattle.std.proofs.lemmas.Bool.{ltb-true, ltb-false, eqb-false, ne_eqb}
use Rattle.hunk_words.specs.{declared.block_word.Kind.Kind, Bits.{kind, is_advisory, size_longs}, Longs.IsLong}
use Rattle.hunk_words.specs.declared.block_word.Kind.TheVariants as kinds
use Rattle.hunk_words.specs.declared.reason.Reason.TheVariants as reasons
use Rattle.hunk_blocks.specs.Values.{RelocGroup, SymbolEntry, BlockBody, FitsWord}
use Rattle.hunk_grammar.specs.BlockParts.{Part as parts}
use Rattle.hunk_blocks.specs.Modes.{IsOfLoadMode}
use Rattle.hunk_grammar.specs.Modes.{refuse_inside}
use Rattle.hunk_blocks.specs.BlockSteps.{ForName, Sizing, ForCode, ForData, ForBss, Filling, Counted, SizedCode, SizedData, Inside, AtCount, AtSize, InPayload, AtGroup, AtTarget, InOffsets, AtEntry, InName, AtValue, AtExtWord, BlockNext, Open, Whole, group, part_of, step_inside, fill, relocate, name_entry, sized_by, grouped, entered, begin_body}
use Rattle.hunk_grammar.specs.Roles.{Place, refuse_part, refuse_kind}
use Rattle.hunk_files.specs.LoadFile.{FitsGroup, FitsHunk, IsInside}
use Rattle.hunk_blocks.proofs.BlockProgress as blocks
use Rattle.hunk_blocks.proofs.Lists.{All-more, more_owed, passed_false, passed_true}

positive : (n : ℕ) → (n ≡ 0 → ⊥) → 0 < n
positive n h = omega arith

module _ (p : Place) (word : ℕ) where
  abbrev pub FillWithin : Filling → ℕ → Type 0
  FillWithin (Counted c) n = Unit {0}
  FillWithin (SizedCode top) n = n ≤ p.longs
  FillWithin (SizedData top) n = n ≤ p.longs

  abbrev pub GroupsWithin : List RelocGroup → Type 0
  GroupsWithin groups = (kind word ≡ kinds.Reloc32) × AllByRecursion (FitsGroup p.hunks p.longs) groups

  -- nothing is external in a load file
  abbrev pub Within : Inside → Type 0
  Within (AtCount c) = Unit {0}
  Within (AtSize s) = Unit {0}
  Within (InPayload f done owed) = FillWithin f (length done + suc owed)
  Within (AtGroup groups) = GroupsWithin groups
  Within (AtTarget groups owed) = GroupsWithin groups × (0 < p.longs)
  Within (InOffsets groups target done owed) = GroupsWithin groups × (target < p.hunks) × AllByRecursion (IsInside p.longs) done × (0 < p.longs)
  Within (AtEntry entries) = Unit {0}
  Within (InName entries w done owed) = Unit {0}
  Within (AtValue entries w name) = Unit {0}
  Within _ = ⊥

  abbrev pub NextWithin : BlockNext → Type 0
  NextWithin (Open x) = Within x
  NextWithin (Whole body) = IsOfLoadMode word body × FitsHunk p.hunks p.longs body

  abbrev pub Fits : Inside → Type 0
  Fits x = blocks.Fits word x × Within x

  pub record BodyFits (body : BlockBody) : Type 0 where
    pub fits_word : FitsWord word body
    pub of_load : IsOfLoadMode word body
    pub fits_hunk : FitsHunk p.hunks p.longs body

  abbrev pub NextFits : BlockNext → Type 0
  NextFits (Open x) = Fits x
  NextFits (Whole body) = BodyFits body

  both : (n : BlockNext) → blocks.NextFits word n → NextWithin n → NextFits n
  both (Open x) f h = (f, h)
  both (Whole body) f h = record { fits_word = f; of_load = h.0; fits_hunk = h.1 }

  fill_within : (f : Filling) (done : List ℕ) (owed : ℕ) → FillWithin f (length done + owed) → NextWithin (fill f done owed)
  fill_within (SizedCode top) done zero h = (tt, omega (arith, h))
  fill_within (SizedData top) done zero h = (tt, omega (arith, h))
  fill_within (Counted ForName) done zero h = (tt, tt)
  fill_within (Counted c) done zero h = (tt, tt)
  fill_within f done (suc owed) h = h

  relocate_within : (groups : List RelocGroup) (target : ℕ) (done : List ℕ) (owed : ℕ) → GroupsWithin groups → target < p.hunks → AllByRecursion (IsInside p.longs) done → 0 < p.longs → NextWithin (relocate groups target done owed)
  relocate_within groups target done zero g t o some = (g.0, All-more (FitsGroup p.hunks p.longs) groups (group target done) g.1 (t, o))
  relocate_within groups target done (suc owed) g t o some = (g, t, o, some)

  size_within : (s : Sizing) (w : ℕ) → size_longs w ≤ p.longs → NextWithin (sized_by s w)
  size_within ForCode w le = fill_within (SizedCode (w / 2 ^ 30)) [] (w % 2 ^ 30) (omega (arith, le))
  size_within ForData w le = fill_within (SizedData (w / 2 ^ 30)) [] (w % 2 ^ 30) (omega (arith, le))
  size_within ForBss w le = (tt, le)

  group_within : (groups : List RelocGroup) (w : ℕ) → GroupsWithin groups → refuse_part p parts.GroupCount w ≡ None → NextWithin (grouped groups w)
  group_within groups zero g ok = g
  group_within groups (suc owed) g ok = (g, positive p.longs (eqb-false p.longs 0 (passed_false (eqb p.longs 0) reasons.NothingToRelocate (rw (ne_eqb (suc owed) 0 (omega arith)) at ok))))

  offset_within : (w : ℕ) → refuse_part p parts.Offset w ≡ None → IsInside p.longs w
  offset_within w ok = ltb-false (4 * p.longs) (w + 4) (passed_false (ltb (4 * p.longs) (w + 4)) reasons.BadOffset ok)

  name_within : (entries : List SymbolEntry) (w : ℕ) (done : List ℕ) (owed : ℕ) → NextWithin (name_entry entries w done owed)
  name_within entries w done zero = tt
  name_within entries w done (suc owed) = tt

  entry_within : (entries : List SymbolEntry) (w : ℕ) → NextWithin (entered entries w)
  entry_within entries zero = (tt, tt)
  entry_within entries (suc w) = name_within entries (suc w) [] (suc w % 2 ^ 24)

  step_within : (x : Inside) (w : ℕ) → Within x → refuse_part p (part_of x) w ≡ None → NextWithin (step_inside x w)
  step_within (AtCount c) w h ok = fill_within (Counted c) [] w tt
  step_within (AtSize s) w h ok = size_within s w (ltb-false p.longs (size_longs w) (passed_false (ltb p.longs (size_longs w)) reasons.ContentTooLong ok))
  step_within (InPayload f done owed) w h ok = fill_within f (done ++ w ∷ []) owed (subst (λ (n : ℕ). FillWithin f n) (sym (more_owed done w owed)) h)
  step_within (AtGroup groups) w h ok = group_within groups w h ok
  step_within (AtTarget groups owed) w h ok = (h.0, ltb-true w p.hunks (passed_true (ltb w p.hunks) reasons.BadTarget ok), tt, h.1)
  step_within (InOffsets groups target done owed) w h ok =
      relocate_within groups target (done ++ w ∷ []) owed h.0 h.1 (All-more (IsInside p.longs) done w h.2 (offset_within w ok)) h.3
  step_within (AtEntry entries) w h ok = entry_within entries w
  step_within (InName entries word done owed) w h ok = name_within entries word (done ++ w ∷ []) owed
  step_within (AtValue entries word name) w h ok = tt
  step_within _ w h ok = absurd h

  -- what a load file lets pass, a block that stands alone lets pass
  pub alone_passes : (x : Inside) (w : ℕ) → Within x → refuse_part p (part_of x) w ≡ None → refuse_inside (part_of x) w ≡ None
  alone_passes (AtCount ForName) w h ok = ok
  alone_passes (AtExtWord entries) w h ok = absurd h
  alone_passes _ w h ok = refl

  -- A step at a longword that is not refused keeps what fits.
  pub step_fits : (x : Inside) (w : ℕ) → Fits x → IsLong w → refuse_part p (part_of x) w ≡ None → NextFits (step_inside x w)
  step_fits x w h l ok = both (step_inside x w) (blocks.step_fits word x w h.0 l (alone_passes x w h.1 ok)) (step_within x w h.1 ok)

-- After a block word that is not refused the block fits.
pub begin_fits : (p : Place) (word : ℕ) (k : Kind) → kind word ≡ k → refuse_kind p.has_content (is_advisory word) k ≡ None → NextFits p word (begin_body k)
begin_fits p word k e ok = search rules
