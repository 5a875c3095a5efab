-- What has been read of an object file goes on as long as no longword is refused.
use Rattle.std.proofs.Common.{◌≡◌, ℕ, zero, suc, ◌+◌, ◌^◌, ◌<◌, Bool, true, false, ◌||◌, cond, eqb, ltb, List, [], ◌∷◌, ◌++◌, length, refl, sym, ap, subst, ◌∙◌, append_assoc, append-nil, length-append, arith, Some, None}
use Rattle.std.specs.List.{flat_map}
use Rattle.std.proofs.lemmas.{Bool.{eqb-true, ltb-true}}
use Rattle.hunk_words.specs.declared.reason.Reason.TheVariants as reasons
use Rattle.hunk_words.specs.{Bits.kind, Longs.{IsLong, AreLongs}}
use Rattle.hunk_grammar.specs.declared.mode.Mode.TheVariants as modes
use Rattle.hunk_blocks.specs.{Values.{BlockValue, IsBlock, IsPayload}, Parts.block_text}
use Rattle.hunk_grammar.specs.Modes.{refuse_alone_word, refuse_inside}
use Rattle.hunk_blocks.specs.Faults.{Expects}
use Rattle.hunk_blocks.specs.BlockSteps.{Inside, BlockNext, Open, Whole, part_of, step_inside, begin_body}
use Rattle.hunk_blocks.proofs.Admitted.{block}
use Rattle.hunk_blocks.proofs.BlockOutcome.{Inner, block_is, steps_inside, begins_inside}
use Rattle.hunk_blocks.proofs.Lists.{All-more, flat_map-more, map-more, more_owed, passed_true}
use Rattle.hunk_files.specs.LoadFile.{standing, AreInOrder}
use Rattle.hunk_files.specs.ObjectFile.{ObjectHunk, UnitValue, ObjectFileValue, IsObjectFile, IsObjectHunk, IsUnit, unit_word, unit_header, unit_text, object_text}
use Rattle.hunk_grammar.specs.declared.object_position.WordPlace.{WordPlace}
use Rattle.hunk_grammar.specs.declared.object_position.WordPlace.TheVariants.{BeforeUnits, BetweenHunks, InHunk}
use Rattle.hunk_grammar.specs.ObjectRoles.{ObjectRole, WordAt, UnitCount, UnitName, Within, has_content, after_block, refuse_unit, refuse_object_word, refuse_object}
use Rattle.hunk_files.specs.ObjectFault.{objects}
use Rattle.hunk_grammar.specs.Standings.{BlockStanding, Beside, Content, Relocating, Ending, is_content, is_ending, refuse_standing, standing_of_kind, first_of}
use Rattle.hunk_files.proofs.walk.HunkFaults.{place_past, opened}
use Rattle.hunk_files.proofs.walk.HunkOrder.{Leads, first_both, leads_one, leads_more, leads_end, end_stands, standing_is}
use Rattle.hunk_files.proofs.walk.FileText.{standings}
use Rattle.hunk_files.proofs.object_walk.OneObjectFault.{ObjectState, AtWord, AtCount, InName, InBlock, place_next, in_block, after_name, reader}
use Rattle.hunk_grammar.proofs.ObjectWords.{refuse_place, within_split, word_split}
use Rattle.hunk_files.proofs.object_walk.UnitFaults.{place_after, expects_count}
use Rattle.hunk_files.proofs.cuts.UnitReading.{unit}
use Rattle.hunk_files.proofs.object_walk.ObjectProgress.{InUnit, AfterUnits, InUnitName, InUnitBlock, CountedAt, Counted, Reached, in_file, open_expects, word_expected, name_expected, standing_goes, inside_open}

-- one longword more after the blocks
read_more : (place : WordPlace) (begun whole : ℕ) (ws tail : List ℕ) (w : ℕ) → InUnit place begun whole ws tail → InUnit place begun whole (ws ++ w ∷ []) (tail ++ w ∷ [])
read_more place begun whole ws tail w h =
    record {
      units = h.units;
      unit_open = h.unit_open;
      blocks = h.blocks;
      are_units = h.are_units;
      is_unit = h.is_unit;
      are_blocks = h.are_blocks;
      leads = h.leads;
      place_is = h.place_is;
      words_are =
          ap (λ ys. ys ++ w ∷ []) h.words_are
          ∙ append_assoc (object_text h.units) (unit_text h.unit_open ++ (flat_map block_text h.blocks ++ tail)) (w ∷ [])
          ∙ ap (λ ys. object_text h.units ++ ys) (append_assoc (unit_text h.unit_open) (flat_map block_text h.blocks ++ tail) (w ∷ []) ∙ ap (λ ys. unit_text h.unit_open ++ ys) (append_assoc (flat_map block_text h.blocks) tail (w ∷ [])));
      begun_are = h.begun_are;
      whole_are = h.whole_are;
    }

units_more : (begun whole : ℕ) (ws tail : List ℕ) (w : ℕ) → AfterUnits begun whole ws tail → AfterUnits begun whole (ws ++ w ∷ []) (tail ++ w ∷ [])
units_more begun whole ws tail w h =
    record {
      units = h.units;
      are_units = h.are_units;
      words_are = ap (λ ys. ys ++ w ∷ []) h.words_are ∙ append_assoc (object_text h.units) tail (w ∷ []);
      begun_are = h.begun_are;
      none_whole = h.none_whole;
    }

-- between hunks no block is open
none_open : (bs : ObjectHunk) → place_past BetweenHunks bs ≡ BetweenHunks → bs ≡ []
none_open [] e = refl
none_open (b ∷ bs) e =
    let o = opened BetweenHunks b bs in
    let clash : InHunk o.0 ≡ BetweenHunks = sym o.1 ∙ e in
    cc

-- Up to there it is whole units.
units_read : (begun whole : ℕ) (ws : List ℕ) → (h : InUnit BetweenHunks begun whole ws []) → ws ≡ object_text (h.units ++ h.unit_open ∷ [])
units_read begun whole ws h =
    h.words_are
    ∙ ap (λ (bs : ObjectHunk). object_text h.units ++ (unit_text h.unit_open ++ (flat_map block_text bs ++ []))) (none_open h.blocks h.place_is)
    ∙ ap (λ ys. object_text h.units ++ ys) (append-nil (unit_text h.unit_open))
    ∙ sym (flat_map-more unit_text h.units h.unit_open)

-- What was read up to there is an object file.
pub whole_units : (begun whole : ℕ) (ws : List ℕ) → InUnit BetweenHunks begun whole ws [] → (o : ObjectFileValue) × IsObjectFile o × (ws ≡ object_text o)
whole_units begun whole ws h = (
  h.units ++ h.unit_open ∷ [],
  record { some = omega (arith, length-append h.units (h.unit_open ∷ [])); units = All-more IsUnit h.units h.unit_open h.are_units h.is_unit },
  units_read begun whole ws h,
)

-- a hunk is whole
hunk_closed : (place : WordPlace) (begun whole : ℕ) (ws : List ℕ) (b : BlockValue) → InUnit place begun whole ws (block_text b) → IsBlock b → refuse_standing (has_content place) (standing b.body) ≡ None → is_ending (standing b.body) ≡ true →
    InUnit BetweenHunks begun (suc whole) ws []
hunk_closed place begun whole ws b h is ok e =
    let u : UnitValue = h.unit_open in
    let hunk : ObjectHunk = h.blocks ++ b ∷ [] in
    let closed : IsObjectHunk hunk =
    record {
      blocks = All-more IsBlock h.blocks b h.are_blocks is;
      order = subst (AreInOrder false) (sym (map-more (λ c. standing c.body) h.blocks b)) (leads_end false (has_content place) (standings h.blocks) (standing b.body ∷ []) h.leads (end_stands (has_content place) (standing b.body) ok e));
    } in
    let text : unit_text (unit u.name (u.hunks ++ hunk ∷ [])) ≡ unit_text u ++ (flat_map block_text h.blocks ++ block_text b) =
    ap (λ ys. unit_header u.name ++ ys) (flat_map-more (flat_map block_text) u.hunks hunk)
    ∙ sym (append_assoc (unit_header u.name) (flat_map (flat_map block_text) u.hunks) (flat_map block_text hunk))
    ∙ ap (λ ys. unit_text u ++ ys) (flat_map-more block_text h.blocks b) in
    record {
      units = h.units;
      unit_open = unit u.name (u.hunks ++ hunk ∷ []);
      blocks = [];
      are_units = h.are_units;
      is_unit = record { name = h.is_unit.name; hunks = All-more IsObjectHunk u.hunks hunk h.is_unit.hunks closed };
      are_blocks = tt;
      leads = refl;
      place_is = refl;
      words_are = h.words_are ∙ ap (λ ys. object_text h.units ++ ys) (sym text ∙ sym (append-nil (unit_text (unit u.name (u.hunks ++ hunk ∷ [])))));
      begun_are = h.begun_are;
      whole_are = omega (arith, h.whole_are, length-append u.hunks (hunk ∷ []));
    }

place_more : (place : WordPlace) (bs : ObjectHunk) (b : BlockValue) → place_past place (bs ++ b ∷ []) ≡ after_block (place_past place bs) (standing b.body)
place_more place [] b = refl
place_more place (c ∷ bs) b = place_more (after_block place (standing c.body)) bs b

-- a block is whole, and its hunk goes on
block_closed : (place : WordPlace) (begun whole : ℕ) (ws : List ℕ) (b : BlockValue) → InUnit place begun whole ws (block_text b) → IsBlock b → refuse_standing (has_content place) (standing b.body) ≡ None → is_ending (standing b.body) ≡ false →
    InUnit (after_block place (standing b.body)) begun whole ws []
block_closed place begun whole ws b h is ok e =
    let has : Bool = has_content place in
    record {
      units = h.units;
      unit_open = h.unit_open;
      blocks = h.blocks ++ b ∷ [];
      are_units = h.are_units;
      is_unit = h.is_unit;
      are_blocks = All-more IsBlock h.blocks b h.are_blocks is;
      leads =
          subst (λ (ss : List BlockStanding). Leads false ss (has || is_content (standing b.body))) (sym (map-more (λ c. standing c.body) h.blocks b))
          (leads_more false has (has || is_content (standing b.body)) (standings h.blocks) (standing b.body ∷ []) h.leads (leads_one has (standing b.body) ok e));
      place_is = place_more BetweenHunks h.blocks b ∙ ap (λ (p : WordPlace). after_block p (standing b.body)) h.place_is;
      words_are =
          h.words_are
          ∙ ap (λ ys. object_text h.units ++ (unit_text h.unit_open ++ ys)) (sym (flat_map-more block_text h.blocks b) ∙ sym (append-nil (flat_map block_text (h.blocks ++ b ∷ []))));
      begun_are = h.begun_are;
      whole_are = h.whole_are;
    }

-- After a whole block the next block word is expected.
closed : (place : WordPlace) (begun whole : ℕ) (ws : List ℕ) (b : BlockValue) → InUnit place begun whole ws (block_text b) → IsBlock b → refuse_standing (has_content place) (standing b.body) ≡ None → Reached (AtWord (place_next place (standing b.body))) begun whole ws
closed place begun whole ws b h is ok = go (standing b.body) refl
  where
    go : (s : BlockStanding) → standing b.body ≡ s → Reached (AtWord (place_next place s)) begun whole ws
    go Ending e = hunk_closed place begun whole ws b h is ok (ap is_ending e)
    go Beside e = subst (λ (s : BlockStanding). InUnit (after_block place s) begun whole ws []) e (block_closed place begun whole ws b h is ok (ap is_ending e))
    go Content e = subst (λ (s : BlockStanding). InUnit (after_block place s) begun whole ws []) e (block_closed place begun whole ws b h is ok (ap is_ending e))
    go Relocating e = subst (λ (s : BlockStanding). InUnit (after_block place s) begun whole ws []) e (block_closed place begun whole ws b h is ok (ap is_ending e))

-- A block word and what was read after it.
in_block_so_far : (place : WordPlace) (begun whole : ℕ) (ws tail : List ℕ) (w : ℕ) (n : BlockNext) → InUnit place begun whole ws tail → Inner modes.Object n w tail → refuse_place place (standing_of_kind (kind w)) ≡ None →
    Reached (in_block (place_next place (standing_of_kind (kind w))) n) begun whole ws
in_block_so_far place begun whole ws tail w (Open x) h i ok = record { place = place; word = w; tail = tail; in_unit = h; inner = i; stands = ok; next_is = refl }
in_block_so_far place begun whole ws tail w (Whole b) h i ok =
    let is = (block_is modes.Object w b i.fits i.ok i.inside).0 in
    let same : standing b ≡ standing_of_kind (kind w) = standing_is w b i.inside in
    subst (λ (s : BlockStanding). Reached (AtWord (place_next place s)) begun whole ws) same
    (closed place begun whole ws (block w b) (subst (InUnit place begun whole ws) i.words_are h) is (ap (refuse_standing (has_content place)) same ∙ standing_goes place (standing_of_kind (kind w)) ok))

-- ---- each longword that is not refused

-- a unit begins
unit_begins : (place : WordPlace) (begun whole : ℕ) (ws : List ℕ) (w : ℕ) → CountedAt place begun whole ws → w ≡ unit_word → refuse_unit place ≡ None → AfterUnits (suc begun) 0 (ws ++ w ∷ []) (unit_word ∷ [])
unit_begins BeforeUnits begun whole ws w h e ok =
    record { units = []; are_units = tt; words_are = ap (λ ys. ys ++ w ∷ []) h.0 ∙ ap (λ (v : ℕ). v ∷ []) e; begun_are = ap suc h.1; none_whole = refl }
unit_begins BetweenHunks begun whole ws w h e ok =
    let units : ObjectFileValue = h.units ++ h.unit_open ∷ [] in
    record {
      units = units;
      are_units = All-more IsUnit h.units h.unit_open h.are_units h.is_unit;
      words_are = ap (λ ys. ys ++ w ∷ []) (units_read begun whole ws h) ∙ ap (λ (v : ℕ). object_text units ++ v ∷ []) e;
      begun_are = omega (arith, h.begun_are, length-append h.units (h.unit_open ∷ []));
      none_whole = refl;
    }
unit_begins (InHunk has) begun whole ws w h e ok = absurd cc

block_begins : (place : WordPlace) (begun whole : ℕ) (ws : List ℕ) (w : ℕ) → CountedAt place begun whole ws → IsLong w → refuse_alone_word modes.Object w ≡ None → refuse_place place (standing_of_kind (kind w)) ≡ None →
    Reached (in_block (place_next place (standing_of_kind (kind w))) (begin_body (kind w))) begun whole (ws ++ w ∷ [])
block_begins BeforeUnits begun whole ws w h l alone ok = absurd cc
block_begins BetweenHunks begun whole ws w h l alone ok =
    in_block_so_far BetweenHunks begun whole (ws ++ w ∷ []) (w ∷ []) w (begin_body (kind w)) (read_more BetweenHunks begun whole ws [] w h) (begins_inside modes.Object w l alone) ok
block_begins (InHunk has) begun whole ws w h l alone ok =
    in_block_so_far (InHunk has) begun whole (ws ++ w ∷ []) (w ∷ []) w (begin_body (kind w)) (read_more (InHunk has) begun whole ws [] w h) (begins_inside modes.Object w l alone) ok

word_goes_on : (place : WordPlace) (begun whole : ℕ) (ws : List ℕ) (w : ℕ) → CountedAt place begun whole ws → IsLong w → refuse_object_word place w ≡ None → Reached (reader.step (AtWord place) w) begun whole (ws ++ w ∷ [])
word_goes_on place begun whole ws w h l ok = go (eqb w unit_word) refl (sym (word_split place w) ∙ ok)
  where
    goes : ObjectState
    goes = in_block (place_next place (standing_of_kind (kind w))) (begin_body (kind w))

    go : (b : Bool) → eqb w unit_word ≡ b → cond b (refuse_unit place) (first_of (refuse_alone_word modes.Object w) (refuse_place place (standing_of_kind (kind w)))) ≡ None → Reached (cond b AtCount goes) begun whole (ws ++ w ∷ [])
    go true e pass = unit_begins place begun whole ws w h (eqb-true w unit_word e) pass
    go false e pass = let both = first_both (refuse_alone_word modes.Object w) (refuse_place place (standing_of_kind (kind w))) pass in block_begins place begun whole ws w h l both.0 both.1

-- after the last longword of a name
named : (begun whole : ℕ) (ws name : List ℕ) (count : ℕ) → AfterUnits begun whole ws (unit_word ∷ count ∷ name) → IsPayload (2 ^ 24) name → count ≡ length name → InUnit BetweenHunks begun (suc whole) ws []
named begun whole ws name count h fits counts =
    record {
      units = h.units;
      unit_open = unit name [];
      blocks = [];
      are_units = h.are_units;
      is_unit = record { name = fits; hunks = tt };
      are_blocks = tt;
      leads = refl;
      place_is = refl;
      words_are =
          h.words_are
          ∙ ap (λ (n : ℕ). object_text h.units ++ unit_word ∷ n ∷ name) counts
          ∙ ap (λ ys. object_text h.units ++ ys) (sym (append-nil (unit_header name)) ∙ sym (append-nil (unit_header name ++ [])));
      begun_are = h.begun_are;
      whole_are = ap suc h.none_whole;
    }

count_goes_on : (begun whole : ℕ) (ws : List ℕ) (w : ℕ) → AfterUnits begun whole ws (unit_word ∷ []) → w < 2 ^ 24 → Reached (after_name w) begun whole (ws ++ w ∷ [])
count_goes_on begun whole ws zero h few = named begun whole (ws ++ 0 ∷ []) [] 0 (units_more begun whole ws (unit_word ∷ []) 0 h) (omega arith, tt) refl
count_goes_on begun whole ws (suc owed) h few =
    record { name = []; count = suc owed; name_fits = tt; few = few; counts = omega arith; after = units_more begun whole ws (unit_word ∷ []) (suc owed) h }

name_goes_on : (owed begun whole : ℕ) (ws : List ℕ) (w : ℕ) → InUnitName owed begun whole ws → IsLong w → Reached (after_name owed) begun whole (ws ++ w ∷ [])
name_goes_on owed begun whole ws w h l = go owed h.counts
  where
    fit : AreLongs (h.name ++ w ∷ [])
    fit = All-more IsLong h.name w h.name_fits l

    after : AfterUnits begun whole (ws ++ w ∷ []) (unit_word ∷ h.count ∷ (h.name ++ w ∷ []))
    after = units_more begun whole ws (unit_word ∷ h.count ∷ h.name) w h.after

    go : (n : ℕ) → h.count ≡ length h.name + suc n → Reached (after_name n) begun whole (ws ++ w ∷ [])
    go zero e =
        let same : h.count ≡ length (h.name ++ w ∷ []) = omega (arith, e, length-append h.name (w ∷ [])) in
        named begun whole (ws ++ w ∷ []) (h.name ++ w ∷ []) h.count after (omega (arith, same, h.few), fit) same
    go (suc n) e = record { name = h.name ++ w ∷ []; count = h.count; name_fits = fit; few = h.few; counts = e ∙ sym (more_owed h.name w (suc n)); after = after }

inside_goes_on : (next : WordPlace) (x : Inside) (begun whole : ℕ) (ws : List ℕ) (w : ℕ) → InUnitBlock next x begun whole ws → IsLong w → refuse_inside (part_of x) w ≡ None → Reached (in_block next (step_inside x w)) begun whole (ws ++ w ∷ [])
inside_goes_on next x begun whole ws w h l ok =
    subst (λ (p : WordPlace). Reached (in_block p (step_inside x w)) begun whole (ws ++ w ∷ [])) h.next_is
    (in_block_so_far h.place begun whole (ws ++ w ∷ []) (h.tail ++ w ∷ []) h.word (step_inside x w) (read_more h.place begun whole ws h.tail w h.in_unit) (steps_inside modes.Object x h.word h.tail w h.inner l ok) h.stands)

-- ---- all of it

-- some longword is expected everywhere
pub never : (s : ObjectState) → reader.expects s ≡ None → ⊥
never (AtWord place) e = cc
never AtCount e = cc
never (InName owed) e = cc
never (InBlock next x) e = cc

-- Some object file begins so, and goes on as is expected.
pub counted_expects : (s : ObjectState) (begun whole : ℕ) (before : List ℕ) (role : ObjectRole) → Counted s begun whole before → reader.expects s ≡ Some role → Expects objects before role
counted_expects (AtWord place) begun whole before role h e =
    let same : WordAt place ≡ role = cc in
    subst (Expects objects before) same (word_expected place begun whole before h)
counted_expects AtCount begun whole before role h e =
    let same : UnitCount ≡ role = cc in
    subst (Expects objects before) same (in_file before (unit_word ∷ []) UnitCount h.units h.are_units h.words_are (expects_count (place_after h.units)))
counted_expects (InName owed) begun whole before role h e =
    let same : UnitName ≡ role = cc in
    let b = h.after in
    subst (Expects objects before) same (in_file before (unit_word ∷ h.count ∷ h.name) UnitName b.units b.are_units b.words_are (name_expected (place_after b.units) h.count h.name owed h.name_fits h.few h.counts))
counted_expects (InBlock next x) begun whole before role h e =
    let same : Within (part_of x) ≡ role = cc in
    subst (Expects objects before) same (open_expects begun whole before (Within (part_of x)) (inside_open next x begun whole before h))

-- A longword that is not refused keeps this.
pub counted_goes_on : (s : ObjectState) (begun whole : ℕ) (before : List ℕ) (role : ObjectRole) (w : ℕ) → Counted s begun whole before → reader.expects s ≡ Some role → IsLong w → refuse_object role w ≡ None → Reached (reader.step s w) begun whole (before ++ w ∷ [])
counted_goes_on (AtWord place) begun whole before role w h e l ok =
    let same : WordAt place ≡ role = cc in
    word_goes_on place begun whole before w h l (ap (λ (r : ObjectRole). refuse_object r w) same ∙ ok)
counted_goes_on AtCount begun whole before role w h e l ok =
    let same : UnitCount ≡ role = cc in
    count_goes_on begun whole before w h (ltb-true w (2 ^ 24) (passed_true (ltb w (2 ^ 24)) reasons.NameWord (ap (λ (r : ObjectRole). refuse_object r w) same ∙ ok)))
counted_goes_on (InName owed) begun whole before role w h e l ok = name_goes_on owed begun whole before w h l
counted_goes_on (InBlock next x) begun whole before role w h e l ok =
    let same : Within (part_of x) ≡ role = cc in
    inside_goes_on next x begun whole before w h l (sym (within_split (part_of x) w) ∙ ap (λ (r : ObjectRole). refuse_object r w) same ∙ ok)

-- ---- without the numbers

abbrev pub SoFar : ObjectState → List ℕ → Type 0
SoFar s ws = (begun : ℕ) × (whole : ℕ) × Counted s begun whole ws

pub begins : SoFar (AtWord BeforeUnits) []
begins = (0, 0, (refl, refl, refl))

pub expected : (s : ObjectState) (before : List ℕ) (role : ObjectRole) → SoFar s before → reader.expects s ≡ Some role → Expects objects before role
expected s before role h e = counted_expects s h.0 h.1 before role h.2 e

counted_of : (s : ObjectState) (begun whole : ℕ) (ws : List ℕ) → Reached s begun whole ws → SoFar s ws
counted_of (AtWord BeforeUnits) begun whole ws h = (begun, whole, h)
counted_of (AtWord BetweenHunks) begun whole ws h = (begun, suc whole, h)
counted_of (AtWord (InHunk has)) begun whole ws h = (begun, whole, h)
counted_of AtCount begun whole ws h = (suc begun, 0, h)
counted_of (InName owed) begun whole ws h = (begun, whole, h)
counted_of (InBlock next x) begun whole ws h = (begun, whole, h)

pub goes_on : (s : ObjectState) (before : List ℕ) (role : ObjectRole) (w : ℕ) → SoFar s before → reader.expects s ≡ Some role → IsLong w → refuse_object role w ≡ None → SoFar (reader.step s w) (before ++ w ∷ [])
goes_on s before role w h e l ok = counted_of (reader.step s w) h.0 h.1 (before ++ w ∷ []) (counted_goes_on s h.0 h.1 before role w h.2 e l ok)
