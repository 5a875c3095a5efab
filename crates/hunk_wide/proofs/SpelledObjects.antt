-- A wide spelling of an object file is given out as its plain text.
use Rattle.std.proofs.Common.{◌≡◌, Bool, get_or, ℕ, ◌/◌, ◌%◌, ◌^◌, false, eqb, List, [], ◌∷◌, ◌++◌, refl, sym, ap, ap₂, subst, ◌∙◌, append_assoc, append-nil, inl, inr, Some, None, arith}
use Rattle.std.specs.{Prelude.is_some, List.{flat_map, AllByRecursion}, Int.{to_be_bytes, w32}}
use Rattle.std.proofs.lemmas.Bool.{ne_eqb}
use Rattle.hunk_words.specs.declared.block_word.Kind.{Kind}
use Rattle.hunk_words.specs.declared.block_word.Kind.TheVariants as kinds
use Rattle.hunk_words.specs.declared.reason.Reason.TheVariants as reasons
use Rattle.hunk_words.specs.{Bits.{has_both_bits, kind, unit_word}, Longs.bytes_of}
use Rattle.hunk_words.proofs.LongLaws.{bytes_of-append}
use Rattle.hunk_blocks.specs.Faults.{words}
use Rattle.hunk_blocks.specs.{Parts.{block_parts, block_text, group_text, list_text}, Values.{BlockValue, IsBlock, IsGroup}}
use Rattle.hunk_blocks.proofs.{FaultLaws.{words-append, words-relabel}, Fronts.{All-left, All-right}}
use Rattle.hunk_grammar.specs.declared.phase.Phase.TheVariants as phases
use Rattle.hunk_grammar.specs.ExtKinds.{ext_kind}
use Rattle.hunk_grammar.specs.PhaseSteps as inside
use Rattle.hunk_grammar.specs.declared.object_position.ObjectPosition.{ObjectPosition}
use Rattle.hunk_grammar.specs.declared.object_position.ObjectPosition.TheVariants as places
use Rattle.hunk_grammar.specs.declared.object_position.WordPlace.{WordPlace}
use Rattle.hunk_grammar.specs.declared.object_position.WordPlace.TheVariants.{BeforeUnits, BetweenHunks}
use Rattle.hunk_grammar.specs.ObjectPositions.{place_next, step, within}
use Rattle.hunk_grammar.specs.ObjectRoles.{WordAt, after_block, object_role_at, refuse_object, refuse_object_word}
use Rattle.hunk_grammar.specs.Standings.{Relocating, standing_of_kind}
use Rattle.hunk_files.specs.{Machines.{leads_to, refuse_in_object}, LoadFile.{LoadFileValue, standing}}
use Rattle.hunk_files.specs.ObjectFile.{IsObjectFile, IsObjectHunk, IsUnit, ObjectFileValue, ObjectHunk, UnitValue, object_text, unit_header}
use Rattle.hunk_files.specs.ObjectFault.{object_block_labelled, object_blocks_labelled, object_hunk_labelled, unit_header_labelled, unit_labelled, units_labelled}
use Rattle.hunk_files.proofs.{cuts.UnitCutLaws.object_value, cuts.UnitReading.text_longs, object_walk.UnitFaults.{header_words, units_words}, walk.Machines.object_along}
use Rattle.hunk_wide.specs.declared.position.FilePosition.TheVariants as files
use Rattle.hunk_wide.specs.declared.spot.Given.{Given}
use Rattle.hunk_wide.specs.declared.spot.Given.TheVariants.{AsLong}
use Rattle.hunk_wide.specs.Longwords.{after_object_short, behind_word, given_object, given_object_kind, go_on, long_word}
use Rattle.hunk_wide.specs.Plain.{plain, plain_from}
use Rattle.hunk_wide.specs.Wide.{IsShort, IsWide}
use Rattle.hunk_wide.specs.WideObject.{IsObjectShort, IsWideObject, SpellsAll, SpellsObjectBlock, SpellsObjectHunk, SpellsUnit}
use Rattle.hunk_wide.proofs.Objects.{ArePassed, ObjectAlong, ObjectGoes, ObjectLabelled, end_stays, first_unit, object_passed, object_plain}
use Rattle.hunk_wide.proofs.{Short.{groups_fit, short_at, short_text, word_bits}, Steps.{goes_run, goes_split, groups_run, neither}}

-- ---- stretches of the text

-- The bytes are given out as these longwords, wherever these stand in an object file.
abbrev Spells : ObjectLabelled → List ℕ → Type 0
Spells ls bytes = (p q : ObjectPosition) (more : List ℕ) → ArePassed ls → ObjectAlong p ls q → ObjectGoes p ls q bytes more

two_spell : (ls ms : ObjectLabelled) (front back : List ℕ) → Spells ls front → Spells ms back → Spells (ls ++ ms) (front ++ back)
two_spell ls ms front back first second p q more ok along =
    let k = goes_split refuse_in_object refuse_object step p q ls ms along in
    ap (plain_from (go_on (files.Object p))) (append_assoc front back more)
    ∙ first p k.0 (back ++ more) (All-left _ ls ms ok) k.1
    ∙ ap (λ (x : List ℕ). bytes_of (words ls) ++ x) (second k.0 q more (All-right _ ls ms ok) k.2)
    ∙ sym (append_assoc (bytes_of (words ls)) (bytes_of (words ms)) (plain_from (go_on (files.Object q)) more))
    ∙ ap (λ (x : List ℕ). x ++ plain_from (go_on (files.Object q)) more) (sym (ap bytes_of (words-append ls ms) ∙ bytes_of-append (words ls) (words ms)))

plain_spells : (ls : ObjectLabelled) (bytes : List ℕ) → bytes ≡ bytes_of (words ls) → Spells ls bytes
plain_spells ls bytes e p q more ok along = ap (λ (x : List ℕ). plain_from (go_on (files.Object p)) (x ++ more)) e ∙ object_plain p q ls more along ok

none_spell : (bytes : List ℕ) → bytes ≡ [] → Spells [] bytes
unfolding bytes_of
none_spell bytes e = plain_spells [] bytes e

-- ---- a short block

-- the word of a block comes next
abbrev IsAtWord : ObjectPosition → Type 0
IsAtWord (places.Word place) = Unit {0}
IsAtWord _ = ⊥

short_says : (place : WordPlace) → refuse_object_word place 0x3FC ≡ Some reasons.ShortReloc
unfolding kind
short_says place = refl

-- What refuses short blocks as the word of a block does is at one.
at_word : (p : ObjectPosition) (place : WordPlace) → ((w : ℕ) → refuse_in_object (WordAt place) p w ≡ refuse_object (WordAt place) w) → IsAtWord p
at_word (places.Word q) place h = tt
at_word places.UnitCount place h = let e = h 0x3FC ∙ short_says place in absurd (cc e)
at_word (places.UnitName owed) place h = let e = h 0x3FC ∙ short_says place in absurd (cc e)
at_word (places.Block next phases.ExtWord) place h =
    absurd (neither (is_some (ext_kind (0x3FC / 2 ^ 24))) None (Some reasons.ExtKind) (Some reasons.ShortReloc) (λ e. cc) (λ e. cc) (h 0x3FC ∙ short_says place))
at_word (places.Block next _) place h = let e = h 0x3FC ∙ short_says place in absurd (cc e)

long_kind : (w : ℕ) → kind (long_word w) ≡ kinds.Reloc32
unfolding kind
long_kind w = let e : long_word w % 2 ^ 29 ≡ 0x3EC = omega arith in rw e refl

word_begins : (q : WordPlace) (w : ℕ) → step (places.Word q) (long_word w) ≡ places.Block (after_block q Relocating) phases.GroupCount
word_begins q w =
    let other : eqb (long_word w) unit_word ≡ false = ne_eqb (long_word w) unit_word (λ e. omega arith) in
    rw other (ap (λ (k : Kind). within (place_next q (standing_of_kind k)) (inside.begin k)) (long_kind w))

block_leads : (q : WordPlace) (b : BlockValue) (bytes : List ℕ) (s : IsShort b bytes) → AllByRecursion IsGroup s.groups → leads_to step (places.Word q) (block_text b) ≡ places.Word (after_block q Relocating)
block_leads q b bytes s gs =
    ap (leads_to step (places.Word q)) (short_text b bytes s)
    ∙ ap (λ (p : ObjectPosition). leads_to step p (list_text group_text s.groups)) (word_begins q s.word)
    ∙ groups_run step (places.Block (after_block q Relocating)) (places.Word (after_block q Relocating)) refl (λ n. refl) (λ n t. refl) (λ t w. refl) (λ t n w. refl) s.groups gs

is_given : (w : ℕ) → has_both_bits w ≡ false → kind w ≡ kinds.Reloc32Short → given_object w ≡ AsLong
is_given w bits h = rw bits (ap given_object_kind h)

short_goes : (p : ObjectPosition) (b : BlockValue) (bytes more : List ℕ) → IsAtWord p → IsBlock b → IsObjectShort b bytes →
    plain_from (go_on (files.Object p)) (bytes ++ more) ≡ bytes_of (block_text b) ++ plain_from (go_on (files.Object (leads_to step p (block_text b)))) more
short_goes (places.Word q) b bytes more at is s =
    let e = is_given s.short.word (word_bits b bytes s.short is.bits) s.kind_is in
    let gs = groups_fit b.word b.body s.short.groups s.short.body is.body in
    short_at (files.Object (places.Word q)) (after_object_short q) b bytes more s.short gs e (ap (λ (g : Given). behind_word g q s.short.word) e)
    ∙ ap (λ (r : ObjectPosition). bytes_of (block_text b) ++ plain_from (go_on (files.Object r)) more) (sym (block_leads q b bytes s.short gs))
short_goes places.UnitCount b bytes more at is s = absurd at
short_goes (places.UnitName owed) b bytes more at is s = absurd at
short_goes (places.Block next phase) b bytes more at is s = absurd at

-- ---- blocks, hunks, units

block_words : (place : WordPlace) (b : BlockValue) → words (object_block_labelled place b) ≡ block_text b
block_words place b = words-relabel (object_role_at place) (block_parts b)

block_spells : (place : WordPlace) (b : BlockValue) (bytes : List ℕ) → IsBlock b → SpellsObjectBlock b bytes → Spells (object_block_labelled place b) bytes
block_spells place b bytes is (inl e) = plain_spells (object_block_labelled place b) bytes (e ∙ ap bytes_of (sym (block_words place b)))
block_spells place b bytes is (inr s) = λ p q more ok along.
    short_goes p b bytes more (at_word p place along.0) is s
    ∙ ap₂ (λ (ws : List ℕ) (r : ObjectPosition). bytes_of ws ++ plain_from (go_on (files.Object r)) more) (sym (block_words place b))
    (ap (leads_to step p) (sym (block_words place b)) ∙ goes_run refuse_in_object refuse_object step p q (object_block_labelled place b) along)

blocks_spell : (place : WordPlace) (bs : ObjectHunk) (bytes : List ℕ) → AllByRecursion IsBlock bs → SpellsAll SpellsObjectBlock bs bytes → Spells (object_blocks_labelled place bs) bytes
blocks_spell place [] bytes is s = none_spell bytes s
blocks_spell place (b ∷ bs) bytes is s =
    subst (Spells (object_blocks_labelled place (b ∷ bs))) (sym s.2)
    (two_spell (object_block_labelled place b) (object_blocks_labelled (after_block place (standing b.body)) bs) s.0 s.1
    (block_spells place b s.0 is.0 s.3) (blocks_spell (after_block place (standing b.body)) bs s.1 is.1 s.4))

hunks_spell : (hs : List ObjectHunk) (bytes : List ℕ) → AllByRecursion IsObjectHunk hs → SpellsAll SpellsObjectHunk hs bytes → Spells (flat_map object_hunk_labelled hs) bytes
hunks_spell [] bytes is s = none_spell bytes s
hunks_spell (h ∷ hs) bytes is s =
    subst (Spells (flat_map object_hunk_labelled (h ∷ hs))) (sym s.2)
    (two_spell (object_hunk_labelled h) (flat_map object_hunk_labelled hs) s.0 s.1 (blocks_spell BetweenHunks h s.0 is.0.blocks s.3) (hunks_spell hs s.1 is.1 s.4))

unit_spells : (place : WordPlace) (u : UnitValue) (bytes : List ℕ) → IsUnit u → SpellsUnit u bytes → Spells (unit_labelled place u) bytes
unit_spells place u bytes is s =
    subst (Spells (unit_labelled place u)) (sym s.text)
    (two_spell (unit_header_labelled place u.name) (flat_map object_hunk_labelled u.hunks) (bytes_of (unit_header u.name)) s.hunks
    (plain_spells (unit_header_labelled place u.name) (bytes_of (unit_header u.name)) (ap bytes_of (sym (header_words place u.name))))
    (hunks_spell u.hunks s.hunks is.hunks s.spells))

units_spell : (place : WordPlace) (us : ObjectFileValue) (bytes : List ℕ) → AllByRecursion IsUnit us → SpellsAll SpellsUnit us bytes → Spells (units_labelled place us) bytes
units_spell place [] bytes is s = none_spell bytes s
units_spell place (u ∷ us) bytes is s =
    subst (Spells (units_labelled place (u ∷ us))) (sym s.2)
    (two_spell (unit_labelled place u) (units_labelled BetweenHunks us) s.0 s.1 (unit_spells place u s.0 is.0 s.3) (units_spell BetweenHunks us s.1 is.1 s.4))

-- ---- files

spelled : (o : ObjectFileValue) (bytes rest : List ℕ) → IsObjectFile o → bytes ≡ to_be_bytes w32 unit_word ++ rest → Spells (units_labelled BeforeUnits o) bytes → plain bytes ≡ bytes_of (object_text o)
spelled o bytes rest is cut s =
    let ls : ObjectLabelled = units_labelled BeforeUnits o in
    ap plain cut ∙ first_unit rest
    ∙ ap (plain_from (go_on (files.Object (places.Word BeforeUnits)))) (sym cut ∙ sym (append-nil bytes))
    ∙ s (places.Word BeforeUnits) (places.Word BetweenHunks) [] (object_passed o is) (object_along o is)
    ∙ ap (λ (x : List ℕ). bytes_of (words ls) ++ x) end_stays ∙ append-nil (bytes_of (words ls))
    ∙ ap bytes_of (units_words BeforeUnits o)

-- A plain text is its own plain spelling.
pub object_stays : (o : ObjectFileValue) → IsObjectFile o → plain (bytes_of (object_text o)) ≡ bytes_of (object_text o)
unfolding bytes_of
object_stays [] is = absurd (omega (arith, is.some))
object_stays (u ∷ us) is =
    spelled (u ∷ us) (bytes_of (object_text (u ∷ us))) _ is refl
    (plain_spells (units_labelled BeforeUnits (u ∷ us)) (bytes_of (object_text (u ∷ us))) (ap bytes_of (sym (units_words BeforeUnits (u ∷ us)))))

-- A wide spelling is given out as the text.
pub object_wide : (o : ObjectFileValue) (bytes : List ℕ) → IsObjectFile o → IsWideObject o bytes → plain bytes ≡ bytes_of (object_text o)
unfolding bytes_of
object_wide [] bytes is s = absurd (omega (arith, is.some))
object_wide (u ∷ us) bytes is s =
    spelled (u ∷ us) bytes _ is (s.2 ∙ ap (λ (x : List ℕ). x ++ s.1) s.3.text) (units_spell BeforeUnits (u ∷ us) bytes is.units s)

-- One input has one value.
pub one_object : (a b : ObjectFileValue) (bytes : List ℕ) → IsObjectFile a → IsObjectFile b → IsWideObject a bytes → IsWideObject b bytes → a ≡ b
one_object a b bytes is_a is_b wide_a wide_b =
    object_value a b is_a is_b
    (sym (text_longs (plain bytes) a is_a.units (object_wide a bytes is_a wide_a)) ∙ text_longs (plain bytes) b is_b.units (object_wide b bytes is_b wide_b))

-- No input begins with a load file and is an object file.
pub one_kind : (at_end : Bool) (v : LoadFileValue) (o : ObjectFileValue) (front rest : List ℕ) → IsWide at_end v front → IsObjectFile o → IsWideObject o (front ++ rest) → ⊥
unfolding bytes_of
one_kind at_end v [] front rest load is s = omega (arith, is.some)
one_kind at_end v (u ∷ us) front rest load is s =
    let fourth : 0xF3 ≡ 0xE7 = ap (λ (x : List ℕ). get_or x 3 0) (ap (λ (x : List ℕ). x ++ rest) (sym load.text) ∙ s.2 ∙ ap (λ (x : List ℕ). x ++ s.1) s.3.text) in
    omega (arith, fourth)
