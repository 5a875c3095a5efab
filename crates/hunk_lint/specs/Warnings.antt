-- What is suspicious in a load file, though the format allows it.
use Rattle.std.specs.Prelude.{◌≢◌, ℕ, ◌+◌, ◌*◌, ◌%◌, ◌==◌, ◌&&◌, Bool, true, false, List, [], ◌∷◌, ◌++◌, length, map, get_or, nat_lt, Option, Some, None}
use Rattle.std.specs.List.{AllByRecursion, count_by, filter}
use Rattle.hunk_words.specs.Bits.{memory_bits, size_longs}
use Rattle.hunk_blocks.specs.Parts.{block_text, group_text, symbol_text}
use Rattle.hunk_blocks.specs.Values.{BlockBody, BlockValue, RelocGroup, SymbolEntry, Code, Data, Bss, Reloc, Symbol}
use Rattle.hunk_files.specs.Hunks.{block_texts}
use Rattle.hunk_files.specs.LoadFile.{LoadFileValue, declared_longs}
use Rattle.hunk_files.specs.SumImage.{long_at}
use Rattle.hunk_files.specs.Tables.{header_text}
use Rattle.hunk_lint.specs.Facts.{HunkFacts, facts_of}
use Rattle.hunk_lint.specs.Suspicious.{is_outside, is_close, least, ignores_memory}
use Rattle.hunk_lint.specs.declared.warning.Warning.{Warning}
use Rattle.hunk_lint.specs.declared.warning.WarningKind.{WarningKind}
use Rattle.hunk_lint.specs.declared.warning.WarningKind.TheVariants.{OddOffset, Twice, Overlap, InBss, OutsideTarget, SymbolOutside, NoEntry, MemoryIgnored}

-- ---- rows

abbrev pub told : Bool → Warning → List Warning
told true w = w ∷ []
told false w = []

abbrev pub told_of : Option ℕ → (ℕ → Warning) → List Warning
told_of None row = []
told_of (Some other) row = row other ∷ []

-- those of items whose texts stand one after the other, from this byte on
abbrev pub in_turn : {A : Type 0} → (ℕ → A → List Warning) → (A → List ℕ) → ℕ → List A → List Warning
in_turn warnings text place [] = []
in_turn warnings text place (x ∷ rest) =
    warnings place x ++ in_turn warnings text (place + 4 * length (text x)) rest

-- ---- of a hunk

-- of an offset with this target, which stands at this byte
abbrev pub offset_warning : HunkFacts → ℕ → ℕ → ℕ → WarningKind → ℕ → Warning
offset_warning f target place offset kind other = record {
  place = place;
  hunk = f.number;
  kind = kind;
  offset = offset;
  target = target;
  value = long_at f.content offset;
  other = other;
}

abbrev pub offset_warnings : HunkFacts → ℕ → ℕ → ℕ → List Warning
offset_warnings f target place offset =
    let row = offset_warning f target place offset in
    told (offset % 2 == 1) (row OddOffset 0)
    ++ told (nat_lt 1 (count_by (λ o. o == offset) f.offsets)) (row Twice 0)
    ++ told_of (least (filter (is_close offset) f.offsets)) (row Overlap)
    ++ told f.is_bss (row InBss 0)
    ++ told (is_outside (get_or f.sizes target 0) (long_at f.content offset)) (row OutsideTarget 0)

-- of the offsets of a group with this target, from this byte on
abbrev pub offsets_warnings : HunkFacts → ℕ → ℕ → List ℕ → List Warning
offsets_warnings f target = in_turn (offset_warnings f target) (λ offset. offset ∷ [])

-- of a group that begins at this byte: its offsets stand after their number and the target
abbrev pub group_warnings : HunkFacts → ℕ → RelocGroup → List Warning
group_warnings f place g = offsets_warnings f g.target (place + 8) g.offsets

abbrev pub symbol_warnings : HunkFacts → ℕ → SymbolEntry → List Warning
symbol_warnings f place e = told (is_outside (4 * size_longs f.word) e.value) (record {
  place = place;
  hunk = f.number;
  kind = SymbolOutside;
  offset = 0;
  target = f.number;
  value = e.value;
  other = 0;
})

abbrev pub block_warning : HunkFacts → ℕ → WarningKind → ℕ → Warning
block_warning f place kind value =
    record { place = place; hunk = f.number; kind = kind; offset = 0; target = 0; value = value; other = 0 }

-- of a content block with this word, which may have no longword of content
abbrev pub content_warnings : HunkFacts → ℕ → ℕ → Bool → List Warning
content_warnings f place word is_empty =
    told (is_empty && f.number == 0) (block_warning f place NoEntry 0)
    ++ told (ignores_memory (memory_bits word) (memory_bits f.word))
    (block_warning f place MemoryIgnored (memory_bits word))

abbrev pub groups_warnings : HunkFacts → ℕ → List RelocGroup → List Warning
groups_warnings f = in_turn (group_warnings f) group_text

abbrev pub symbols_warnings : HunkFacts → ℕ → List SymbolEntry → List Warning
symbols_warnings f = in_turn (symbol_warnings f) symbol_text

-- of a block that begins at this byte: its list stands after its word
abbrev pub body_warnings : HunkFacts → ℕ → ℕ → BlockBody → List Warning
body_warnings f place word (Code top words) = content_warnings f place word (length words == 0)
body_warnings f place word (Data top words) = content_warnings f place word (length words == 0)
body_warnings f place word (Bss size) = content_warnings f place word true
body_warnings f place word (Reloc groups) = groups_warnings f (place + 4) groups
body_warnings f place word (Symbol entries) = symbols_warnings f (place + 4) entries
body_warnings f place word _ = []

abbrev pub block_warnings : HunkFacts → ℕ → BlockValue → List Warning
block_warnings f place b = body_warnings f place b.word b.body

abbrev pub blocks_warnings : HunkFacts → ℕ → List BlockValue → List Warning
blocks_warnings f = in_turn (block_warnings f) block_text

-- ---- of a file

-- of the hunks from this number and this byte on, in a file whose hunks have these declared bytes
abbrev pub hunks_warnings : List ℕ → ℕ → ℕ → LoadFileValue → List Warning
hunks_warnings sizes number place [] = []
hunks_warnings sizes number place (h ∷ rest) =
    blocks_warnings (facts_of sizes number h) place h.blocks
    ++ hunks_warnings sizes (number + 1) (place + 4 * length (block_texts h.blocks)) rest

-- the declared bytes of each hunk
abbrev pub sizes_of : LoadFileValue → List ℕ
sizes_of v = map (λ h. 4 * declared_longs h) v

-- What is suspicious in a load file, in file order.
abbrev pub warnings : LoadFileValue → List Warning
warnings v = hunks_warnings (sizes_of v) 0 (4 * length (header_text v)) v

-- None of them is of this kind.
abbrev pub HasNone : WarningKind → List Warning → Type 0
HasNone kind rows = AllByRecursion (λ w. w.kind ≢ kind) rows
