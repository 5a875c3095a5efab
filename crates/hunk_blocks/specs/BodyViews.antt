-- What a body stands for whose lists are still to be read, and where they begin.
use Rattle.std.specs.Prelude.{◌≡◌, ℕ, ⊤}
use Rattle.hunk_words.specs.Longs.{longs}
use Rattle.hunk_blocks.specs.declared.body_view.BodyView.{BodyView}
use Rattle.hunk_blocks.specs.declared.body_view.BodyView.TheVariants as bodies
use Rattle.hunk_blocks.specs.Placed.{EndsItemAt}
use Rattle.hunk_blocks.specs.Parts.{group_text, ext_text, symbol_text}
use Rattle.hunk_blocks.specs.Values.{BlockBody, Name, Code, Data, Bss, Reloc, Ext, Symbol, Debug, Advisory, End}

abbrev pub viewed : BodyView → BlockBody
viewed (bodies.Name payload) = Name (longs payload)
viewed (bodies.Code top payload) = Code top (longs payload)
viewed (bodies.Data top payload) = Data top (longs payload)
viewed (bodies.Bss size) = Bss size
viewed (bodies.Reloc groups) = Reloc groups.value
viewed (bodies.Ext entries) = Ext entries.value
viewed (bodies.Symbol symbols) = Symbol symbols.value
viewed (bodies.Debug payload) = Debug (longs payload)
viewed bodies.End = End
viewed (bodies.Advisory payload) = Advisory (longs payload)

-- Its list, where it has one, begins at this byte.
abbrev pub HasListAt : ℕ → BodyView → Type 0
HasListAt place (bodies.Reloc groups) = groups.place ≡ place
HasListAt place (bodies.Ext entries) = entries.place ≡ place
HasListAt place (bodies.Symbol symbols) = symbols.place ≡ place
HasListAt place body = ⊤

-- An item of its list ends with the longword at this byte.
abbrev pub EndsListItemAt : BodyView → ℕ → Type 0
EndsListItemAt (bodies.Reloc groups) at = EndsItemAt group_text groups at
EndsListItemAt (bodies.Ext entries) at = EndsItemAt ext_text entries at
EndsListItemAt (bodies.Symbol symbols) at = EndsItemAt symbol_text symbols at
EndsListItemAt body at = ⊥
