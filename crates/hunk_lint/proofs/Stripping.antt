-- A stripped file has the warnings of the file, but for those of symbols and the places.
use Rattle.std.proofs.Common.{◌≡◌, ℕ, ◌+◌, ◌*◌, ◌==◌, ◌%◌, Bool, true, false, cond, not, List, [], ◌∷◌, ◌++◌, length, map, refl, sym, subst, ap, ap₂, ◌∙◌, arith, nat_lt, Option, Some, None, get_or}
use Rattle.std.specs.Prelude.{◌&&◌}
use Rattle.std.specs.List.{count_by, filter}
use Rattle.hunk_words.specs.Bits.{memory_bits, size_longs}
use Rattle.hunk_blocks.specs.Parts.{block_text, group_text, symbol_text}
use Rattle.hunk_blocks.specs.Values.{BlockBody, BlockValue, SymbolEntry, Code, Data, Bss, Reloc, Symbol}
use Rattle.hunk_files.specs.Hunks.{block_texts}
use Rattle.hunk_files.specs.Image.{content, offsets, relocations}
use Rattle.hunk_files.specs.LoadFile.{HunkValue, LoadFileValue, declared_longs}
use Rattle.hunk_files.specs.Strip.{is_kept, strip_blocks, strip_file, strip_hunk}
use Rattle.hunk_files.specs.SumImage.{long_at}
use Rattle.hunk_files.specs.Tables.{header_text}
use Rattle.hunk_files.proofs.strip.StripLaws.{all_relocations_kept, contents_kept}
use Rattle.hunk_lint.specs.Suspicious.{ignores_memory, is_close, is_outside, least}
use Rattle.hunk_lint.specs.Stripped.{is_of_symbol, unplaced, without_symbols}
use Rattle.hunk_lint.specs.Warnings.{block_warning, block_warnings, blocks_warnings, body_warnings, content_warnings, group_warnings, hunks_warnings, in_turn, offset_warning, offset_warnings, sizes_of, symbol_warnings, symbols_warnings, told, told_of, warnings}
use Rattle.hunk_lint.specs.Facts.{HunkFacts, facts_of, is_bss}
use Rattle.hunk_lint.proofs.{Collected.bss_count, FewWarnings.first_count}
use Rattle.hunk_lint.specs.declared.warning.Warning.{Warning}
use Rattle.hunk_lint.specs.declared.warning.WarningKind.TheVariants.{InBss, MemoryIgnored, NoEntry, OddOffset, OutsideTarget, Overlap, SymbolOutside, Twice}

-- ---- lists

rest-append : (xs ys : List Warning) → without_symbols (xs ++ ys) ≡ without_symbols xs ++ without_symbols ys
rest-append [] ys = refl
rest-append (x ∷ xs) ys = go (not (is_of_symbol x.kind)) (rest-append xs ys)
  where
    go : (b : Bool) → without_symbols (xs ++ ys) ≡ without_symbols xs ++ without_symbols ys →
        map unplaced (cond b (x ∷ filter (λ w. not (is_of_symbol w.kind)) (xs ++ ys)) (filter (λ w. not (is_of_symbol w.kind)) (xs ++ ys)))
        ≡ map unplaced (cond b (x ∷ filter (λ w. not (is_of_symbol w.kind)) xs) (filter (λ w. not (is_of_symbol w.kind)) xs)) ++ without_symbols ys
    go true e = ap (λ (ws : List Warning). unplaced x ∷ ws) e
    go false e = e

-- They differ in places alone, but for warnings of symbols.
record Same (xs ys : List Warning) : Type 0 where
  is : without_symbols xs ≡ without_symbols ys

same_append : {xs ys us vs : List Warning} → Same xs us → Same ys vs → Same (xs ++ ys) (us ++ vs)
same_append {xs} {ys} {us} {vs} e f = record { is = rest-append xs ys ∙ ap₂ (λ (vs ws : List Warning). vs ++ ws) e.is f.is ∙ sym (rest-append us vs) }

same_told : (b : Bool) (w : Warning) (place : ℕ) → Same (told b w) (told b (record w { place = place }))
same_told true w place = record { is = go (not (is_of_symbol w.kind)) }
  where
    go : (b : Bool) → map unplaced (cond b (w ∷ []) []) ≡ map unplaced (cond b (record w { place = place } ∷ []) [])
    go true = refl
    go false = refl
same_told false w place = record { is = refl }

same_other : (o : Option ℕ) (f : HunkFacts) (target place next offset : ℕ) → Same (told_of o (offset_warning f target place offset Overlap)) (told_of o (offset_warning f target next offset Overlap))
same_other None f target place next offset = record { is = refl }
same_other (Some n) f target place next offset = record { is = refl }

module _ {A : Type 0} (found : ℕ → A → List Warning) (text : A → List ℕ) (each : (place next : ℕ) (x : A) → Same (found place x) (found next x)) where
  same_in_turn : (place next : ℕ) (xs : List A) → Same (in_turn found text place xs) (in_turn found text next xs)
  same_in_turn place next [] = record { is = refl }
  same_in_turn place next (x ∷ xs) = let n = 4 * length (text x) in same_append (each place next x) (same_in_turn (place + n) (next + n) xs)

-- ---- a hunk

module _ (f : HunkFacts) where
  same_offset : (target place next offset : ℕ) → Same (offset_warnings f target place offset) (offset_warnings f target next offset)
  same_offset target place next offset =
      let row = offset_warning f target place offset in
      same_append (same_append (same_append (same_append
      (same_told (offset % 2 == 1) (row OddOffset 0) next)
      (same_told (nat_lt 1 (count_by (λ o. o == offset) f.offsets)) (row Twice 0) next))
      (same_other (least (filter (is_close offset) f.offsets)) f target place next offset))
      (same_told f.is_bss (row InBss 0) next))
      (same_told (is_outside (get_or f.sizes target 0) (long_at f.content offset)) (row OutsideTarget 0) next)

  same_content : (place next word : ℕ) (is_empty : Bool) → Same (content_warnings f place word is_empty) (content_warnings f next word is_empty)
  same_content place next word is_empty =
      same_append (same_told (is_empty && f.number == 0) (block_warning f place NoEntry 0) next)
      (same_told (ignores_memory (memory_bits word) (memory_bits f.word)) (block_warning f place MemoryIgnored (memory_bits word)) next)

  no_symbol : (place : ℕ) (s : SymbolEntry) → without_symbols (symbol_warnings f place s) ≡ []
  no_symbol place s = go (is_outside (4 * size_longs f.word) s.value) (record {
    place = place;
    hunk = f.number;
    kind = SymbolOutside;
    offset = 0;
    target = f.number;
    value = s.value;
    other = 0;
  }) refl
    where
      go : (b : Bool) (w : Warning) → w.kind ≡ SymbolOutside → without_symbols (told b w) ≡ []
      go true w e = rw e refl
      go false w e = refl

  no_symbols : (place : ℕ) (es : List SymbolEntry) → without_symbols (symbols_warnings f place es) ≡ []
  no_symbols place [] = refl
  no_symbols place (s ∷ es) =
      let next = place + 4 * length (symbol_text s) in
      rest-append (symbol_warnings f place s) (symbols_warnings f next es) ∙ ap₂ (λ (vs ws : List Warning). vs ++ ws) (no_symbol place s) (no_symbols next es)

  same_body : (place next word : ℕ) (body : BlockBody) → Same (body_warnings f place word body) (body_warnings f next word body)
  same_body place next word (Code top words) = same_content place next word (length words == 0)
  same_body place next word (Data top words) = same_content place next word (length words == 0)
  same_body place next word (Bss size) = same_content place next word true
  same_body place next word (Reloc groups) =
      same_in_turn (group_warnings f) group_text
      (λ at to g. same_in_turn (offset_warnings f g.target) (λ o. o ∷ []) (same_offset g.target) (at + 8) (to + 8) g.offsets) (place + 4) (next + 4) groups
  same_body place next word (Symbol entries) = record { is = no_symbols (place + 4) entries ∙ sym (no_symbols (next + 4) entries) }
  same_body place next word _ = record { is = refl }

  dropped : (place word : ℕ) (body : BlockBody) → is_kept body ≡ false → without_symbols (body_warnings f place word body) ≡ []
  dropped place word (Symbol entries) e = no_symbols (place + 4) entries
  dropped place word (Code top words) e = absurd cc
  dropped place word (Data top words) e = absurd cc
  dropped place word (Bss size) e = absurd cc
  dropped place word (Reloc groups) e = absurd cc
  dropped place word _ e = refl

  -- The same are left of the blocks that are kept.
  same_blocks : (place next : ℕ) (bs : List BlockValue) → Same (blocks_warnings f place (strip_blocks bs)) (blocks_warnings f next bs)
  same_blocks place next [] = record { is = refl }
  same_blocks place next (b ∷ bs) = go (is_kept b.body) refl (λ at to. same_blocks at to bs)
    where
      go : (k : Bool) → is_kept b.body ≡ k → ((at to : ℕ) → Same (blocks_warnings f at (strip_blocks bs)) (blocks_warnings f to bs)) →
          Same (blocks_warnings f place (cond k (b ∷ strip_blocks bs) (strip_blocks bs))) (block_warnings f next b ++ blocks_warnings f (next + 4 * length (block_text b)) bs)
      go true e rest = let n = 4 * length (block_text b) in same_append (same_body place next b.word b.body) (rest (place + n) (next + n))
      go false e rest =
          let to = next + 4 * length (block_text b) in
          let after = blocks_warnings f to bs in
          record {
            is =
                (rest place to).is ∙ ap (λ (ws : List Warning). ws ++ without_symbols after) (sym (dropped next b.word b.body e))
                ∙ sym (rest-append (block_warnings f next b) after);
          }

-- ---- a file

bss_kept : (bs : List BlockValue) → bss_count (strip_blocks bs) ≡ bss_count bs
bss_kept [] = refl
bss_kept (b ∷ bs) = go (is_kept b.body) refl (bss_kept bs) ∙ sym (first_count b bs)
  where
    dropped_is_none : (body : BlockBody) → is_kept body ≡ false → cond {A = ℕ} (is_bss body) 1 0 ≡ 0
    dropped_is_none (Bss size) e = absurd cc
    dropped_is_none _ e = refl

    go : (k : Bool) → is_kept b.body ≡ k → bss_count (strip_blocks bs) ≡ bss_count bs → bss_count (cond k (b ∷ strip_blocks bs) (strip_blocks bs)) ≡ cond {A = ℕ} (is_bss b.body) 1 0 + bss_count bs
    go true e rest = omega (arith, first_count b (strip_blocks bs), rest)
    go false e rest = omega (arith, dropped_is_none b.body e, rest)

facts_kept : (sizes : List ℕ) (number : ℕ) (h : HunkValue) → facts_of sizes number (strip_hunk h) ≡ facts_of sizes number h
facts_kept sizes number h =
    let facts : List ℕ → List ℕ → ℕ → HunkFacts = λ bytes os bss. record { number = number; word = h.entry.word; sizes = sizes; content = bytes; offsets = os; is_bss = nat_lt 0 bss } in
    let stripped = strip_hunk h in
    let bytes : content stripped ≡ content h = cc (contents_kept (h ∷ [])) in
    let pairs : relocations stripped ≡ relocations h = cc (all_relocations_kept (h ∷ [])) in
    ap (λ (bs : List ℕ). facts bs (offsets (relocations stripped)) (bss_count stripped.blocks)) bytes
    ∙ ap (λ (ps : List (ℕ × ℕ)). facts (content h) (offsets ps) (bss_count stripped.blocks)) pairs
    ∙ ap (λ (n : ℕ). facts (content h) (offsets (relocations h)) n) (bss_kept h.blocks)

same_hunks : (sizes : List ℕ) (number place next : ℕ) (v : LoadFileValue) → Same (hunks_warnings sizes number place (strip_file v)) (hunks_warnings sizes number next v)
same_hunks sizes number place next [] = record { is = refl }
same_hunks sizes number place next (h ∷ v) =
    let here = subst (λ (f : HunkFacts). Same (blocks_warnings f place (strip_blocks h.blocks)) (blocks_warnings (facts_of sizes number h) next h.blocks)) (sym (facts_kept sizes number h))
    (same_blocks (facts_of sizes number h) place next h.blocks) in
    same_append here (same_hunks sizes (number + 1) (place + 4 * length (block_texts (strip_blocks h.blocks))) (next + 4 * length (block_texts h.blocks)) v)

sizes_kept : (v : LoadFileValue) → sizes_of (strip_file v) ≡ sizes_of v
sizes_kept [] = refl
sizes_kept (h ∷ v) = ap (λ (ns : List ℕ). 4 * declared_longs h ∷ ns) (sizes_kept v)

pub stripped_warnings : (v : LoadFileValue) → without_symbols (warnings (strip_file v)) ≡ without_symbols (warnings v)
stripped_warnings v =
    ap (λ (sizes : List ℕ). without_symbols (hunks_warnings sizes 0 (4 * length (header_text (strip_file v))) (strip_file v))) (sizes_kept v)
    ∙ (same_hunks (sizes_of v) 0 (4 * length (header_text (strip_file v))) (4 * length (header_text v)) v).is
