-- The faults of a unit header, of a unit and of an object file.
use Rattle.std.proofs.Common.{◌≡◌, ℕ, ◌^◌, ◌<◌, List, [], ◌∷◌, ◌++◌, length, map, refl, sym, ap, ap₂, subst, ◌∙◌, append_assoc, append-nil, length-append, arith}
use Rattle.std.specs.List.{flat_map, AllByRecursion}
use Rattle.hunk_blocks.specs.{Values.IsPayload, Parts.block_text, Faults.{words, Expects}}
use Rattle.hunk_blocks.proofs.FaultLaws.{Embeds, embeds_same, expects_embedded, same-labels, words-append}
use Rattle.hunk_blocks.proofs.Lists.{All-append, flat_map-append}
use Rattle.hunk_files.specs.ObjectFile.{ObjectHunk, UnitValue, ObjectFileValue, IsObjectHunk, IsUnit, unit_word, unit_header, unit_text, object_text}
use Rattle.hunk_grammar.specs.declared.object_position.WordPlace.{WordPlace}
use Rattle.hunk_grammar.specs.declared.object_position.WordPlace.TheVariants.{BeforeUnits, BetweenHunks}
use Rattle.hunk_grammar.specs.ObjectRoles.{ObjectRole, WordAt, UnitCount, UnitName}
use Rattle.hunk_files.specs.ObjectFault.{unit_header_labelled, object_hunk_labelled, unit_labelled, units_labelled, blocks_from, units_from, objects}
use Rattle.hunk_files.proofs.{walk.HunkFaults.blocks_words, cuts.UnitReading.unit}

-- ---- words

names_words : (name : List ℕ) → words (map (λ (w : ℕ). (UnitName, w)) name) ≡ name
names_words [] = refl
names_words (w ∷ name) = ap (λ ws. w ∷ ws) (names_words name)

pub header_words : (place : WordPlace) (name : List ℕ) → words (unit_header_labelled place name) ≡ unit_header name
header_words place name = ap (λ ws. unit_word ∷ length name ∷ ws) (names_words name)

hunks_words : (hs : List ObjectHunk) → words (flat_map object_hunk_labelled hs) ≡ flat_map (flat_map block_text) hs
hunks_words [] = refl
hunks_words (h ∷ hs) = words-append (object_hunk_labelled h) (flat_map object_hunk_labelled hs) ∙ ap₂ (λ xs ys. xs ++ ys) (blocks_words BetweenHunks h) (hunks_words hs)

unit_words : (place : WordPlace) (u : UnitValue) → words (unit_labelled place u) ≡ unit_text u
unit_words place u = words-append (unit_header_labelled place u.name) (flat_map object_hunk_labelled u.hunks) ∙ ap₂ (λ xs ys. xs ++ ys) (header_words place u.name) (hunks_words u.hunks)

pub units_words : (place : WordPlace) (us : ObjectFileValue) → words (units_labelled place us) ≡ object_text us
units_words place [] = refl
units_words place (u ∷ us) = words-append (unit_labelled place u) (units_labelled BetweenHunks us) ∙ ap₂ (λ xs ys. xs ++ ys) (unit_words place u) (units_words BetweenHunks us)

-- ---- the header

abbrev pub one_unit : List ℕ → ObjectFileValue
one_unit name = unit name [] ∷ []

pub one_is : (name : List ℕ) → IsPayload (2 ^ 24) name → (0 < length (one_unit name)) × AllByRecursion IsUnit (one_unit name)
one_is name fits = (omega arith, (record { name = fits; hunks = tt }, tt))

no_name : IsPayload (2 ^ 24) []
no_name = (omega arith, tt)

-- a unit begins, and has a count
pub expects_unit : (place : WordPlace) → Expects (units_from place) [] (WordAt place)
expects_unit place = record { value = one_unit []; is = one_is [] no_name; done = []; word = unit_word; more = (UnitCount, 0) ∷ []; labels = refl; begins = refl }

pub expects_count : (place : WordPlace) → Expects (units_from place) (unit_word ∷ []) UnitCount
expects_count place = record { value = one_unit []; is = one_is [] no_name; done = (WordAt place, unit_word) ∷ []; word = 0; more = []; labels = refl; begins = refl }

-- ---- after hunks and units
hunk_embeds : (place : WordPlace) (u : UnitValue) → IsUnit u → Embeds (blocks_from BetweenHunks) (units_from place) (unit_labelled place u)
hunk_embeds place u is =
    record {
      into = λ h. unit u.name (u.hunks ++ h ∷ []) ∷ [];
      role = λ r. r;
      after = λ h. [];
      is = λ h k. (omega arith, (record { name = is.name; hunks = All-append IsObjectHunk u.hunks (h ∷ []) is.hunks (record { blocks = k.0; order = k.1 }, tt) }, tt));
      labels = λ h k.
          append-nil (unit_labelled place (unit u.name (u.hunks ++ h ∷ [])))
          ∙ ap (λ ls. unit_header_labelled place u.name ++ ls) (flat_map-append object_hunk_labelled u.hunks (h ∷ []))
          ∙ sym (append_assoc (unit_header_labelled place u.name) (flat_map object_hunk_labelled u.hunks) (object_hunk_labelled h ++ []))
          ∙ ap (λ ls. unit_labelled place u ++ (ls ++ [])) (sym (same-labels (object_hunk_labelled h)));
      refuses = λ r w reason h. h;
    }

-- What is expected after these hunks is expected of the units.
pub expects_hunk : (place : WordPlace) (u : UnitValue) → IsUnit u → (before : List ℕ) (role : ObjectRole) → Expects (blocks_from BetweenHunks) before role → Expects (units_from place) (unit_text u ++ before) role
unfolding hunk_embeds
expects_hunk place u is before role e =
    subst (λ ws. Expects (units_from place) (ws ++ before) role) (unit_words place u)
    (expects_embedded (blocks_from BetweenHunks) (units_from place) (unit_labelled place u) (hunk_embeds place u is) before role e)

-- where the next unit begins
abbrev pub place_after : ObjectFileValue → WordPlace
place_after [] = BeforeUnits
place_after (u ∷ us) = BetweenHunks

units-append : (place : WordPlace) (u : UnitValue) (us vs : ObjectFileValue) → units_labelled place ((u ∷ us) ++ vs) ≡ units_labelled place (u ∷ us) ++ units_labelled BetweenHunks vs
units-append place u [] vs = ap (λ ls. ls ++ units_labelled BetweenHunks vs) (sym (append-nil (unit_labelled place u)))
units-append place u (v ∷ us) vs =
    ap (λ ls. unit_labelled place u ++ ls) (units-append BetweenHunks v us vs) ∙ sym (append_assoc (unit_labelled place u) (units_labelled BetweenHunks (v ∷ us)) (units_labelled BetweenHunks vs))

units_embed : (us : ObjectFileValue) → AllByRecursion IsUnit us → Embeds (units_from (place_after us)) objects (units_labelled BeforeUnits us)
units_embed us are =
    embeds_same (units_from (place_after us)) objects (units_labelled BeforeUnits us) (λ vs. us ++ vs) (λ vs h. (omega (arith, h.0, length-append us vs), All-append IsUnit us vs are h.1)) (λ vs h. labels us vs) (λ role w reason h. h)
  where
    labels : (xs vs : ObjectFileValue) → units_labelled BeforeUnits (xs ++ vs) ≡ units_labelled BeforeUnits xs ++ units_labelled (place_after xs) vs
    labels [] vs = refl
    labels (x ∷ xs) vs = units-append BeforeUnits x xs vs

-- What is expected after these units is expected of the file.
pub expects_units : (us : ObjectFileValue) → AllByRecursion IsUnit us → (before : List ℕ) (role : ObjectRole) → Expects (units_from (place_after us)) before role → Expects objects (object_text us ++ before) role
unfolding units_embed embeds_same
expects_units us are before role e =
    subst (λ ws. Expects objects (ws ++ before) role) (units_words BeforeUnits us)
    (expects_embedded (units_from (place_after us)) objects (units_labelled BeforeUnits us) (units_embed us are) before role e)
