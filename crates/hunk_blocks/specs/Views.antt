-- The block value that a block of the input stands for. Payloads and names are the longwords that their bytes spell.
use Rattle.std.specs.Prelude.{map}
use Rattle.hunk_words.specs.Longs.{longs}
use Rattle.hunk_blocks.specs.declared.groups.Group.{Group}
use Rattle.hunk_blocks.specs.declared.symbols.SymbolView.{SymbolView}
use Rattle.hunk_blocks.specs.declared.entries.Entry.{Entry}
use Rattle.hunk_blocks.specs.declared.body.Body.{Body}
use Rattle.hunk_blocks.specs.declared.body.Body.TheVariants as bodies
use Rattle.hunk_blocks.specs.Values.{RelocGroup, ExtEntry, SymbolEntry, BlockBody, Name, Code, Data, Bss, Reloc, Ext, Symbol, Debug, Advisory, End}

abbrev pub group_of : Group → RelocGroup
group_of g = record { target = g.target; offsets = g.offsets }

abbrev pub symbol_of : SymbolView → SymbolEntry
symbol_of s = record { word = s.word; name = longs s.name; value = s.value }

abbrev pub entry_of : Entry → ExtEntry
entry_of e = record { word = e.word; name = longs e.name; value = e.value; offsets = e.offsets }

abbrev pub body_of : Body → BlockBody
body_of (bodies.Name payload) = Name (longs payload)
body_of (bodies.Code top payload) = Code top (longs payload)
body_of (bodies.Data top payload) = Data top (longs payload)
body_of (bodies.Bss size) = Bss size
body_of (bodies.Reloc groups) = Reloc (map group_of groups)
body_of (bodies.Ext entries) = Ext (map entry_of entries)
body_of (bodies.Symbol symbols) = Symbol (map symbol_of symbols)
body_of (bodies.Debug payload) = Debug (longs payload)
body_of bodies.End = End
body_of (bodies.Advisory payload) = Advisory (longs payload)
