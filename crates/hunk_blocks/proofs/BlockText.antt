-- The text of a block leads through the block, and what leads to a place in a block is the text up to there.
use Rattle.std.proofs.Common.{◌≡◌, ◌≢◌, ℕ, zero, suc, ◌+◌, ◌*◌, ◌/◌, ◌%◌, ◌^◌, ◌<◌, List, [], ◌∷◌, ◌++◌, length, refl, sym, ap, subst, append_assoc, append-nil, arith, Option, Some, None}
use Rattle.std.specs.{Prelude.IsTrue, List.{flat_map, AllByRecursion}}
use Rattle.hunk_words.specs.{declared.block_word.Kind.Kind, Bits.{is_relocation, kind}}
use Rattle.hunk_words.specs.declared.block_word.Kind.TheVariants as kinds
use Rattle.hunk_grammar.specs.{declared.ext_shape.ExtShape.ExtShape, declared.ext_shape.ExtShape.TheVariants.{Definition, References, Common}, ExtKinds.ext_shape}
use Rattle.hunk_grammar.specs.BlockParts.{Part, Part as parts}
use Rattle.hunk_blocks.specs.Parts.{each, counted, group_parts, ext_parts, ext_parts_by, symbol_parts, body_parts}
use Rattle.hunk_blocks.specs.Values.{RelocGroup, ExtEntry, SymbolEntry, FitsShape, BlockBody, Code, Data, Bss, Reloc, Ext, Symbol, Advisory, End, FitsWord, IsGroup, IsExtEntry, IsSymbolEntry, is_unknown}
use Rattle.hunk_blocks.specs.BlockSteps.{Counting, ForAdvisory, Filling, Counted, SizedCode, SizedData, AtCount, AtGroup, AtEntry, AtValue, AtExtWord, BlockNext, Open, Whole, group, entry, external, count_part, counted_body, step_inside, fill, filled_body, relocate, name_entry, entered, shaped, name_external, refer, listed, begin_body, Follows}

pub Follows-append : (a b c : BlockNext) (ps qs : List (Part × ℕ)) → Follows a ps b → Follows b qs c → Follows a (ps ++ qs) c
Follows-append a b c [] qs h k = subst (λ (x : BlockNext). Follows x qs c) (sym h) k
Follows-append (Open x) b c (p ∷ ps) qs h k = (h.0, Follows-append (step_inside x p.1) b c ps qs h.1 k)
Follows-append (Whole x) b c (p ∷ ps) qs h k = absurd h

-- the same run, along equal longwords and to an equal end
pub Follows-along : (a : BlockNext) {b c : BlockNext} {ps qs : List (Part × ℕ)} → ps ≡ qs → b ≡ c → Follows a ps b → Follows a qs c
Follows-along a {b} {c} {ps} {qs} e d h = subst (λ (x : BlockNext). Follows a qs x) d (subst (λ (l : List (Part × ℕ)). Follows a l b) e h)

pub payload_follows : (f : Filling) (done words : List ℕ) → Follows (fill f done (length words)) (each parts.Payload words) (Whole (filled_body f (done ++ words)))
payload_follows f done [] = ap (λ (ws : List ℕ). Whole (filled_body f ws)) (sym (append-nil done))
payload_follows f done (w ∷ words) =
    (refl, subst (λ (ws : List ℕ). Follows (fill f (done ++ w ∷ []) (length words)) (each parts.Payload words) (Whole (filled_body f ws))) (append_assoc done (w ∷ []) words) (payload_follows f (done ++ w ∷ []) words))

pub offsets_follow : (groups : List RelocGroup) (target : ℕ) (done words : List ℕ) →
    Follows (relocate groups target done (length words)) (each parts.Offset words) (Open (AtGroup (groups ++ group target (done ++ words) ∷ [])))
offsets_follow groups target done [] = ap (λ (ws : List ℕ). Open (AtGroup (groups ++ group target ws ∷ []))) (sym (append-nil done))
offsets_follow groups target done (w ∷ words) =
    (refl, subst (λ (ws : List ℕ). Follows (relocate groups target (done ++ w ∷ []) (length words)) (each parts.Offset words) (Open (AtGroup (groups ++ group target ws ∷ [])))) (append_assoc done (w ∷ []) words) (offsets_follow groups target (done ++ w ∷ []) words))

pub name_follows : (entries : List SymbolEntry) (word : ℕ) (done words : List ℕ) →
    Follows (name_entry entries word done (length words)) (each parts.EntryName words) (Open (AtValue entries word (done ++ words)))
name_follows entries word done [] = ap (λ (ws : List ℕ). Open (AtValue entries word ws)) (sym (append-nil done))
name_follows entries word done (w ∷ words) =
    (refl, subst (λ (ws : List ℕ). Follows (name_entry entries word (done ++ w ∷ []) (length words)) (each parts.EntryName words) (Open (AtValue entries word ws))) (append_assoc done (w ∷ []) words) (name_follows entries word (done ++ w ∷ []) words))

pub group_follows : (groups : List RelocGroup) (g : RelocGroup) → g.offsets ≢ [] → Follows (Open (AtGroup groups)) (group_parts g) (Open (AtGroup (groups ++ g ∷ [])))
group_follows groups g some = go g.target g.offsets some
  where
    go : (target : ℕ) (offsets : List ℕ) → offsets ≢ [] → Follows (Open (AtGroup groups)) (group_parts (group target offsets)) (Open (AtGroup (groups ++ group target offsets ∷ [])))
    go target [] some = absurd (some refl)
    go target (o ∷ offsets) some = (refl, (refl, offsets_follow groups target [] (o ∷ offsets)))

pub groups_follow : (groups more : List RelocGroup) → AllByRecursion IsGroup more → Follows (Open (AtGroup groups)) (flat_map group_parts more ++ (parts.GroupCount, 0) ∷ []) (Whole (Reloc (groups ++ more)))
groups_follow groups [] h = (refl, ap (λ (gs : List RelocGroup). Whole (Reloc gs)) (sym (append-nil groups)))
groups_follow groups (g ∷ more) h =
    Follows-along (Open (AtGroup groups)) (sym (append_assoc (group_parts g) (flat_map group_parts more) ((parts.GroupCount, 0) ∷ []))) (ap (λ (gs : List RelocGroup). Whole (Reloc gs)) (append_assoc groups (g ∷ []) more))
    (Follows-append (Open (AtGroup groups)) (Open (AtGroup (groups ++ g ∷ []))) _ (group_parts g) _ (group_follows groups g h.0.some) (groups_follow (groups ++ g ∷ []) more h.1))

pub entry_follows : (entries : List SymbolEntry) (s : SymbolEntry) → IsSymbolEntry s → Follows (Open (AtEntry entries)) (symbol_parts s) (Open (AtEntry (entries ++ s ∷ [])))
entry_follows entries s h = go s.word s.name s.value h.entry_word.goes_on h.entry_word.count
  where
    go : (word : ℕ) (name : List ℕ) (value : ℕ) → word ≢ 0 → length name ≡ word % 2 ^ 24 → Follows (Open (AtEntry entries)) (symbol_parts (entry word name value)) (Open (AtEntry (entries ++ entry word name value ∷ [])))
    go zero name value goes count = absurd (goes refl)
    go (suc word) name value goes count = (
      refl,
      Follows-append (entered entries (suc word)) (Open (AtValue entries (suc word) name)) _ (each parts.EntryName name) _
          (subst (λ (n : ℕ). Follows (name_entry entries (suc word) [] n) (each parts.EntryName name) (Open (AtValue entries (suc word) name))) count (name_follows entries (suc word) [] name))
          (refl, refl),
    )

pub entries_follow : (entries more : List SymbolEntry) → AllByRecursion IsSymbolEntry more → Follows (Open (AtEntry entries)) (flat_map symbol_parts more ++ (parts.EntryWord, 0) ∷ []) (Whole (Symbol (entries ++ more)))
entries_follow entries [] h = (refl, ap (λ (es : List SymbolEntry). Whole (Symbol es)) (sym (append-nil entries)))
entries_follow entries (s ∷ more) h =
    Follows-along (Open (AtEntry entries)) (sym (append_assoc (symbol_parts s) (flat_map symbol_parts more) ((parts.EntryWord, 0) ∷ []))) (ap (λ (es : List SymbolEntry). Whole (Symbol es)) (append_assoc entries (s ∷ []) more))
    (Follows-append (Open (AtEntry entries)) (Open (AtEntry (entries ++ s ∷ []))) _ (symbol_parts s) _ (entry_follows entries s h.0) (entries_follow (entries ++ s ∷ []) more h.1))

-- ---- external entries

pub ext_name_follows : (entries : List ExtEntry) (word : ℕ) (done words : List ℕ) →
    Follows (name_external entries word done (length words)) (each parts.EntryName words) (shaped (ext_shape (word / 2 ^ 24)) entries word (done ++ words))
ext_name_follows entries word done [] = ap (λ (ws : List ℕ). shaped (ext_shape (word / 2 ^ 24)) entries word ws) (sym (append-nil done))
ext_name_follows entries word done (w ∷ words) =
    (refl, subst (λ (ws : List ℕ). Follows (name_external entries word (done ++ w ∷ []) (length words)) (each parts.EntryName words) (shaped (ext_shape (word / 2 ^ 24)) entries word ws)) (append_assoc done (w ∷ []) words) (ext_name_follows entries word (done ++ w ∷ []) words))

pub ext_offsets_follow : (entries : List ExtEntry) (word : ℕ) (name : List ℕ) (value : ℕ) (done words : List ℕ) →
    Follows (refer entries word name value done (length words)) (each parts.Offset words) (Open (AtExtWord (entries ++ external word name value (done ++ words) ∷ [])))
ext_offsets_follow entries word name value done [] = ap (λ (ws : List ℕ). Open (AtExtWord (entries ++ external word name value ws ∷ []))) (sym (append-nil done))
ext_offsets_follow entries word name value done (w ∷ words) =
    (refl, subst (λ (ws : List ℕ). Follows (refer entries word name value (done ++ w ∷ []) (length words)) (each parts.Offset words) (Open (AtExtWord (entries ++ external word name value ws ∷ [])))) (append_assoc done (w ∷ []) words) (ext_offsets_follow entries word name value (done ++ w ∷ []) words))

-- what follows the name, by its shape
pub shape_follows : (s : Option ExtShape) (entries : List ExtEntry) (word : ℕ) (name : List ℕ) (value : ℕ) (offsets : List ℕ) → FitsShape s (external word name value offsets) →
    Follows (shaped s entries word name) (ext_parts_by s (external word name value offsets)) (Open (AtExtWord (entries ++ external word name value offsets ∷ [])))
shape_follows (Some Definition) entries word name value offsets h = (refl, ap (λ (os : List ℕ). Open (AtExtWord (entries ++ external word name value os ∷ []))) (sym h))
shape_follows (Some References) entries word name value offsets h =
    (refl, subst (λ (v : ℕ). Follows (refer entries word name 0 [] (length offsets)) (each parts.Offset offsets) (Open (AtExtWord (entries ++ external word name v offsets ∷ [])))) (sym h) (ext_offsets_follow entries word name 0 [] offsets))
shape_follows (Some Common) entries word name value offsets h = (refl, (refl, ext_offsets_follow entries word name value [] offsets))
shape_follows None entries word name value offsets h = absurd h

pub external_follows : (entries : List ExtEntry) (e : ExtEntry) → IsExtEntry e → Follows (Open (AtExtWord entries)) (ext_parts e) (Open (AtExtWord (entries ++ e ∷ [])))
external_follows entries e h = go e.word e.name e.value e.offsets h.entry_word.goes_on h.entry_word.count h.shape
  where
    go : (word : ℕ) (name : List ℕ) (value : ℕ) (offsets : List ℕ) → word ≢ 0 → length name ≡ word % 2 ^ 24 → FitsShape (ext_shape (word / 2 ^ 24)) (external word name value offsets) →
        Follows (Open (AtExtWord entries)) (ext_parts (external word name value offsets)) (Open (AtExtWord (entries ++ external word name value offsets ∷ [])))
    go zero name value offsets goes count fits = absurd (goes refl)
    go (suc word) name value offsets goes count fits = (
      refl,
      Follows-append (listed entries (suc word)) (shaped (ext_shape (suc word / 2 ^ 24)) entries (suc word) name) _ (each parts.EntryName name) _
          (subst (λ (n : ℕ). Follows (name_external entries (suc word) [] n) (each parts.EntryName name) (shaped (ext_shape (suc word / 2 ^ 24)) entries (suc word) name)) count (ext_name_follows entries (suc word) [] name))
          (shape_follows (ext_shape (suc word / 2 ^ 24)) entries (suc word) name value offsets fits),
    )

pub externals_follow : (entries more : List ExtEntry) → AllByRecursion IsExtEntry more → Follows (Open (AtExtWord entries)) (flat_map ext_parts more ++ (parts.ExtWord, 0) ∷ []) (Whole (Ext (entries ++ more)))
externals_follow entries [] h = (refl, ap (λ (es : List ExtEntry). Whole (Ext es)) (sym (append-nil entries)))
externals_follow entries (e ∷ more) h =
    Follows-along (Open (AtExtWord entries)) (sym (append_assoc (ext_parts e) (flat_map ext_parts more) ((parts.ExtWord, 0) ∷ []))) (ap (λ (es : List ExtEntry). Whole (Ext es)) (append_assoc entries (e ∷ []) more))
    (Follows-append (Open (AtExtWord entries)) (Open (AtExtWord (entries ++ e ∷ []))) _ (ext_parts e) _ (external_follows entries e h.0) (externals_follow (entries ++ e ∷ []) more h.1))

-- ---- every body

pub begin_relocation : (k : Kind) → IsTrue (is_relocation k) → begin_body k ≡ Open (AtGroup [])
begin_relocation kinds.Unit h = absurd cc
begin_relocation _ h = cc

pub begin_unknown : (k : Kind) → IsTrue (is_unknown k) → begin_body k ≡ Open (AtCount ForAdvisory)
begin_unknown (kinds.Unknown n) h = refl
begin_unknown kinds.Unit h = absurd cc
begin_unknown _ h = absurd cc

-- the fields of a size word
top_of_size : (top n : ℕ) → n < 2 ^ 30 → (top * 2 ^ 30 + n) / 2 ^ 30 ≡ top
top_of_size top n h = omega arith

longs_of_size : (top n : ℕ) → n < 2 ^ 30 → (top * 2 ^ 30 + n) % 2 ^ 30 ≡ n
longs_of_size top n h = omega arith

counted_follows : (k : Kind) (c : Counting) (words : List ℕ) → begin_body k ≡ Open (AtCount c) → Follows (begin_body k) (counted (count_part c) words) (Whole (counted_body c words))
counted_follows k c words e = rw e (refl, payload_follows (Counted c) [] words)

-- The text of a body leads from the block's word to the whole block.
pub body_follows : (word : ℕ) (body : BlockBody) → FitsWord word body → Follows (begin_body (kind word)) (body_parts body) (Whole body)
body_follows word (Code top words) h =
    rw h.0 (refl, rw (top_of_size top (length words) h.2.0, longs_of_size top (length words) h.2.0) (payload_follows (SizedCode top) [] words))
body_follows word (Data top words) h =
    rw h.0 (refl, rw (top_of_size top (length words) h.2.0, longs_of_size top (length words) h.2.0) (payload_follows (SizedData top) [] words))
body_follows word (Bss size) h = rw h.0 (refl, refl)
body_follows word (Reloc groups) h = rw (begin_relocation (kind word) h.0) (groups_follow [] groups h.1)
body_follows word (Ext entries) h = rw h.0 (externals_follow [] entries h.1)
body_follows word (Symbol entries) h = rw h.0 (entries_follow [] entries h.1)
body_follows word (Advisory words) h = counted_follows (kind word) ForAdvisory words (begin_unknown (kind word) h.0)
body_follows word End h = rw h
body_follows word _ h = counted_follows (kind word) _ _ (ap begin_body h.0)
