-- Bytes have one fault as an object file, and none where they are one.
use Rattle.std.proofs.Common.{◌≡◌, ◌≢◌, ℕ, zero, suc, ◌^◌, ◌<◌, Bool, true, false, ◌||◌, cond, eqb, ltb, List, [], ◌∷◌, ◌++◌, length, map, refl, sym, ap, subst, ◌∙◌, append-nil, arith, Option, Some, None, inl, inr}
use Rattle.std.specs.{Prelude.◌⊎◌, List.{flat_map, AllByRecursion}}
use Rattle.std.proofs.lemmas.Bool.{ne_eqb, lt-ltb}
use Rattle.hunk_words.specs.{declared.reason.Reason.Reason, Bits.kind, Longs.longs}
use Rattle.hunk_words.specs.declared.reason.Reason.TheVariants as reasons
use Rattle.hunk_grammar.specs.declared.mode.Mode.TheVariants as modes
use Rattle.hunk_blocks.specs.{Values.{BlockBody, BlockValue, IsBlock}, Parts.body_parts}
use Rattle.hunk_grammar.specs.BlockParts.{Part}
use Rattle.hunk_blocks.specs.Faults.{Expects, HasRefusal, IsFront}
use Rattle.hunk_blocks.specs.BlockSteps.{Inside, BlockNext, Open, Whole, part_of, step_inside, begin_body, Follows}
use Rattle.hunk_blocks.proofs.{Admitted.word_passes, BlockText.body_follows, FaultLaws.relabel}
use Rattle.hunk_blocks.proofs.FaultScan.{Machine, Leads, Leads-append, Passes, Reads, none_goes_on, one_fault as one_of, front_passes}
use Rattle.hunk_blocks.proofs.Lists.{All-append, passes_then, passes_else}
use Rattle.hunk_blocks.proofs.OneBlockFault.{PartsPass, body_passes, part_not_word}
use Rattle.hunk_files.specs.LoadFile.{standing, AreInOrder}
use Rattle.hunk_files.specs.ObjectFile.{ObjectHunk, UnitValue, ObjectFileValue, IsObjectFile, IsObjectHunk, IsUnit, IsNoObjectFile, unit_word}
use Rattle.hunk_grammar.specs.declared.object_position.WordPlace.{WordPlace}
use Rattle.hunk_grammar.specs.declared.object_position.WordPlace.TheVariants.{BeforeUnits, BetweenHunks, InHunk}
use Rattle.hunk_grammar.specs.ObjectRoles.{ObjectRole, WordAt, UnitCount, UnitName, Within, has_content, after_block, object_role_at, refuse_unit, refuse_object_word, refuse_object}
use Rattle.hunk_files.specs.ObjectFault.{IsInUnit, object_block_labelled, object_blocks_labelled, object_hunk_labelled, unit_header_labelled, unit_labelled, units_labelled, objects, IsTruncatedObject, HasObjectFault}
use Rattle.hunk_grammar.specs.Standings.{BlockStanding, Beside, Content, Relocating, Ending, is_content, refuse_standing, standing_of_kind, first_of}
pub use Rattle.hunk_grammar.specs.ObjectPositions.{place_next}
use Rattle.hunk_files.proofs.{walk.HunkOrder.standing_is, walk.FileText.standings}
use Rattle.hunk_grammar.proofs.ObjectWords.{refuse_place, within_role, within_split, word_split}
use Rattle.hunk_files.proofs.object_walk.UnitFaults.{units_words}
use Rattle.hunk_files.proofs.cuts.UnitReading.{no_kind, unit_kind, text_longs}

-- ---- the machine

-- What has to be known of the longwords of an object file that were read. A place is that of the next block word,
-- a number says how many longwords of the name follow the next.
pub data ObjectState : Type 0 where
  AtWord : WordPlace → ObjectState
  AtCount : ObjectState
  InName : ℕ → ObjectState
  InBlock : WordPlace → Inside → ObjectState

abbrev pub expects : ObjectState → Option ObjectRole
expects (AtWord place) = Some (WordAt place)
expects AtCount = Some UnitCount
expects (InName owed) = Some UnitName
expects (InBlock next x) = Some (Within (part_of x))

abbrev pub in_block : WordPlace → BlockNext → ObjectState
in_block next (Open x) = InBlock next x
in_block next (Whole b) = AtWord next

abbrev pub after_name : ℕ → ObjectState
after_name zero = AtWord BetweenHunks
after_name (suc owed) = InName owed

abbrev pub step : ObjectState → ℕ → ObjectState
step (AtWord place) w = cond (eqb w unit_word) AtCount (in_block (place_next place (standing_of_kind (kind w))) (begin_body (kind w)))
step AtCount w = after_name w
step (InName owed) w = after_name owed
step (InBlock next x) w = in_block next (step_inside x w)

abbrev pub reader : Machine ObjectState ObjectRole
reader = record { start = AtWord BeforeUnits; expects = expects; step = step }

-- ---- blocks

no_unit_word : (b : BlockValue) → IsBlock b → b.word ≢ unit_word
no_unit_word b is e = no_kind b.word b.body is.body (ap kind e ∙ unit_kind)

body_leads : (place next : WordPlace) (n : BlockNext) (ps : List (Part × ℕ)) (b : BlockBody) → Follows n ps (Whole b) → Leads reader (in_block next n) (relabel (object_role_at place) ps) (AtWord next)
body_leads place next n [] b h = ap (in_block next) h
body_leads place next (Open x) (p ∷ ps) b h =
    (ap (λ (r : ObjectRole). Some r) (sym (within_role place (part_of x) (part_not_word x)) ∙ ap (object_role_at place) h.0), body_leads place next (step_inside x p.1) ps b h.1)
body_leads place next (Whole c) (p ∷ ps) b h = absurd h

-- The word of a block leads into it.
pub word_steps : (place : WordPlace) (b : BlockValue) → IsBlock b → step (AtWord place) b.word ≡ in_block (place_next place (standing b.body)) (begin_body (kind b.word))
word_steps place b is =
    passes_else (eqb b.word unit_word) AtCount _ (ne_eqb b.word unit_word (no_unit_word b is))
    ∙ ap (λ (s : BlockStanding). in_block (place_next place s) (begin_body (kind b.word))) (sym (standing_is b.word b.body is.body))

block_leads : (place : WordPlace) (b : BlockValue) → IsBlock b → Leads reader (AtWord place) (object_block_labelled place b) (AtWord (place_next place (standing b.body)))
block_leads place b is =
    let next : WordPlace = place_next place (standing b.body) in
    (refl, subst (λ (s : ObjectState). Leads reader s (relabel (object_role_at place) (body_parts b.body)) (AtWord next)) (sym (word_steps place b is)) (body_leads place next (begin_body (kind b.word)) (body_parts b.body) b.body (body_follows b.word b.body is.body)))

parts_pass : (place : WordPlace) (ps : List (Part × ℕ)) → PartsPass ps → Passes reader refuse_object (relabel (object_role_at place) ps)
parts_pass place [] h = tt
parts_pass place (p ∷ ps) h = (ap (λ (r : ObjectRole). refuse_object r p.1) (within_role place p.0 h.0.0) ∙ within_split p.0 p.1 ∙ h.0.1, parts_pass place ps h.1)

word_goes : (place : WordPlace) (b : BlockValue) → IsBlock b → refuse_place place (standing b.body) ≡ None → refuse_object_word place b.word ≡ None
word_goes place b is ok =
    word_split place b.word
    ∙ passes_else (eqb b.word unit_word) (refuse_unit place) _ (ne_eqb b.word unit_word (no_unit_word b is))
    ∙ ap (λ (o : Option Reason). first_of o (refuse_place place (standing_of_kind (kind b.word)))) (word_passes modes.Object b is tt)
    ∙ ap (refuse_place place) (sym (standing_is b.word b.body is.body))
    ∙ ok

block_passes : (place : WordPlace) (b : BlockValue) → IsBlock b → refuse_place place (standing b.body) ≡ None → Passes reader refuse_object (object_block_labelled place b)
block_passes place b is ok = (word_goes place b is ok, parts_pass place (body_parts b.body) (body_passes b.word b.body is.body))

-- ---- hunks

placed : (place : WordPlace) (s : BlockStanding) → IsInUnit place → refuse_standing (has_content place) s ≡ None → refuse_place place s ≡ None
placed BeforeUnits s h ok = absurd h
placed BetweenHunks s h ok = ok
placed (InHunk has) s h ok = ok

-- what the order of the blocks says of the first
pub record Next (place : WordPlace) (s : BlockStanding) (bs : ObjectHunk) : Type 0 where
  pub stands : refuse_standing (has_content place) s ≡ None
  pub goes : ((bs ≡ []) × (place_next place s ≡ BetweenHunks)) ⊎ ((place_next place s ≡ after_block place s) × AreInOrder (has_content place || is_content s) (standings bs))

pub order_next : (place : WordPlace) (s : BlockStanding) (bs : ObjectHunk) → AreInOrder (has_content place) (s ∷ standings bs) → Next place s bs
order_next place s bs h = go (has_content place) s h refl
  where
    none : (cs : ObjectHunk) → standings cs ≡ [] → cs ≡ []
    none [] e = refl
    none (c ∷ cs) e = absurd cc

    go : (k : Bool) (t : BlockStanding) → AreInOrder k (t ∷ standings bs) → has_content place ≡ k → Next place t bs
    go true Beside h e = record { stands = ap (λ (c : Bool). refuse_standing c Beside) e; goes = inr (refl, subst (λ (c : Bool). AreInOrder (c || false) (standings bs)) (sym e) h) }
    go false Beside h e = record { stands = ap (λ (c : Bool). refuse_standing c Beside) e; goes = inr (refl, subst (λ (c : Bool). AreInOrder (c || false) (standings bs)) (sym e) h) }
    go false Content h e = record { stands = ap (λ (c : Bool). refuse_standing c Content) e; goes = inr (refl, subst (λ (c : Bool). AreInOrder (c || true) (standings bs)) (sym e) h) }
    go true Content h e = absurd h
    go true Relocating h e = record { stands = ap (λ (c : Bool). refuse_standing c Relocating) e; goes = inr (refl, subst (λ (c : Bool). AreInOrder (c || false) (standings bs)) (sym e) h) }
    go false Relocating h e = absurd h
    go true Ending h e = record { stands = ap (λ (c : Bool). refuse_standing c Ending) e; goes = inl (none bs h, refl) }
    go false Ending h e = absurd h

-- these longwords lead there, and none of them is refused
abbrev Runs : ObjectState → List (ObjectRole × ℕ) → ObjectState → Type 0
Runs s ls t = Leads reader s ls t × Passes reader refuse_object ls

runs_on : (a b c : ObjectState) (ks ls : List (ObjectRole × ℕ)) → Runs a ks b → Runs b ls c → Runs a (ks ++ ls) c
runs_on a b c ks ls h k = (Leads-append reader a b c ks ls h.0 k.0, All-append _ ks ls h.1 k.1)

blocks_run : (place : WordPlace) (bs : ObjectHunk) → IsInUnit place → AllByRecursion IsBlock bs → AreInOrder (has_content place) (standings bs) → Runs (AtWord place) (object_blocks_labelled place bs) (AtWord BetweenHunks)
blocks_run place [] h are order = absurd order
blocks_run place (b ∷ bs) h are order =
    let s : BlockStanding = standing b.body in
    let n = order_next place s bs order in
    let one : Runs (AtWord place) (object_block_labelled place b) (AtWord (place_next place s)) = (block_leads place b are.0, block_passes place b are.0 (placed place s h n.stands)) in
    elim n.goes [
      | inl last ↦ runs_on (AtWord place) (AtWord (place_next place s)) (AtWord BetweenHunks) (object_block_labelled place b) (object_blocks_labelled (after_block place s) bs) one
          (subst (λ (cs : ObjectHunk). Runs (AtWord (place_next place s)) (object_blocks_labelled (after_block place s) cs) (AtWord BetweenHunks)) (sym last.0) (ap (λ (p : WordPlace). AtWord p) last.1, tt))
      | inr more ↦ runs_on (AtWord place) (AtWord (place_next place s)) (AtWord BetweenHunks) (object_block_labelled place b) (object_blocks_labelled (after_block place s) bs) one
          (subst (λ (p : WordPlace). Runs (AtWord p) (object_blocks_labelled (after_block place s) bs) (AtWord BetweenHunks)) (sym more.0) (blocks_run (after_block place s) bs tt are.1 more.1))
    ]

hunks_run : (hs : List ObjectHunk) → AllByRecursion IsObjectHunk hs → Runs (AtWord BetweenHunks) (flat_map object_hunk_labelled hs) (AtWord BetweenHunks)
hunks_run [] h = (refl, tt)
hunks_run (x ∷ hs) h = runs_on (AtWord BetweenHunks) (AtWord BetweenHunks) (AtWord BetweenHunks) (object_hunk_labelled x) (flat_map object_hunk_labelled hs) (blocks_run BetweenHunks x tt h.0.blocks h.0.order) (hunks_run hs h.1)

-- ---- units

name_runs : (name : List ℕ) → Runs (after_name (length name)) (map (λ (w : ℕ). (UnitName, w)) name) (AtWord BetweenHunks)
name_runs [] = (refl, tt)
name_runs (w ∷ name) = let r = name_runs name in ((refl, r.0), (refl, r.1))

-- a place where a unit may begin
abbrev Begins : WordPlace → Type 0
Begins BeforeUnits = Unit {0}
Begins BetweenHunks = Unit {0}
Begins (InHunk has) = ⊥

unit_goes : (place : WordPlace) → Begins place → refuse_object_word place unit_word ≡ None
unit_goes BeforeUnits h = refl
unit_goes BetweenHunks h = refl
unit_goes (InHunk has) h = absurd h

header_runs : (place : WordPlace) (name : List ℕ) → Begins place → length name < 2 ^ 24 → Runs (AtWord place) (unit_header_labelled place name) (AtWord BetweenHunks)
header_runs place name h few =
    let r = name_runs name in
    ((refl, (refl, r.0)), (unit_goes place h, (passes_then (ltb (length name) (2 ^ 24)) None (Some reasons.NameWord) (lt-ltb (length name) (2 ^ 24) few), r.1)))

unit_runs : (place : WordPlace) (u : UnitValue) → Begins place → IsUnit u → Runs (AtWord place) (unit_labelled place u) (AtWord BetweenHunks)
unit_runs place u h is =
    runs_on (AtWord place) (AtWord BetweenHunks) (AtWord BetweenHunks) (unit_header_labelled place u.name) (flat_map object_hunk_labelled u.hunks) (header_runs place u.name h is.name.0) (hunks_run u.hunks is.hunks)

units_run : (us : ObjectFileValue) → AllByRecursion IsUnit us → Runs (AtWord BetweenHunks) (units_labelled BetweenHunks us) (AtWord BetweenHunks)
units_run [] are = (refl, tt)
units_run (u ∷ us) are =
    runs_on (AtWord BetweenHunks) (AtWord BetweenHunks) (AtWord BetweenHunks) (unit_labelled BetweenHunks u) (units_labelled BetweenHunks us) (unit_runs BetweenHunks u tt are.0) (units_run us are.1)

file_runs : (us : ObjectFileValue) → 0 < length us → AllByRecursion IsUnit us → Runs (AtWord BeforeUnits) (units_labelled BeforeUnits us) (AtWord BetweenHunks)
file_runs [] some are = absurd (omega (arith, some))
file_runs (u ∷ us) some are =
    runs_on (AtWord BeforeUnits) (AtWord BetweenHunks) (AtWord BetweenHunks) (unit_labelled BeforeUnits u) (units_labelled BetweenHunks us) (unit_runs BeforeUnits u tt are.0) (units_run us are.1)

pub object_reads : Reads objects reader
object_reads =
    record {
      end = λ us. AtWord BetweenHunks;
      leads = λ us h. (file_runs us h.0 h.1).0;
      passes = λ us h. (file_runs us h.0 h.1).1;
    }

-- The longwords of an object file lead between hunks.
pub file_leads : (o : ObjectFileValue) → IsObjectFile o → Leads reader (AtWord BeforeUnits) (units_labelled BeforeUnits o) (AtWord BetweenHunks)
file_leads o is = (file_runs o is.some is.units).0

-- ---- the laws

pub not_truncated : (bytes : List ℕ) (at : ℕ) (reason : Reason) (at2 : ℕ) → HasRefusal objects (longs bytes) at reason → IsTruncatedObject bytes at2 → ⊥
not_truncated bytes at reason at2 h k = front_passes objects reader object_reads (longs bytes) at reason h k.front

pub no_object_goes_on : (before : List ℕ) (role : ObjectRole) (word : ℕ) (reason : Reason) → Expects objects before role → refuse_object role word ≡ Some reason → IsFront objects (before ++ word ∷ []) → ⊥
no_object_goes_on = none_goes_on objects reader object_reads

pub one_fault : (bytes : List ℕ) (at at2 : ℕ) (reason reason2 : Reason) → HasObjectFault bytes at reason → HasObjectFault bytes at2 reason2 → (at ≡ at2) × (reason ≡ reason2)
one_fault bytes = one_of objects reader object_reads (longs bytes) (IsTruncatedObject bytes) (λ at t. (t.place, t.front))

pub no_object : (bytes : List ℕ) (at : ℕ) (reason : Reason) → HasObjectFault bytes at reason → IsNoObjectFile bytes
no_object bytes at reason (inr h) o is e = h.1.not_whole o is e
no_object bytes at reason (inl h) o is e =
    front_passes objects reader object_reads (longs bytes) at reason h
    (record { value = o; is = (is.some, is.units); more = []; begins = units_words BeforeUnits o ∙ sym (text_longs bytes o is.units e) ∙ sym (append-nil (longs bytes)) })
