-- The names of the kinds of blocks.
use Rattle.std.specs.Prelude.{ℕ, List, Option, Some, None, codes}
use Rattle.hunk_words.specs.declared.block_word.Kind.{Kind}
use Rattle.hunk_words.specs.declared.block_word.Kind.TheVariants as kinds

-- the name of a kind of block, as `dos/doshunks.h` has it after HUNK_
abbrev pub name_of_kind : Kind → Option (List ℕ)
name_of_kind kinds.Unit = Some (codes "UNIT")
name_of_kind kinds.Name = Some (codes "NAME")
name_of_kind kinds.Code = Some (codes "CODE")
name_of_kind kinds.Data = Some (codes "DATA")
name_of_kind kinds.Bss = Some (codes "BSS")
name_of_kind kinds.Reloc32 = Some (codes "RELOC32")
name_of_kind kinds.Reloc16 = Some (codes "RELOC16")
name_of_kind kinds.Reloc8 = Some (codes "RELOC8")
name_of_kind kinds.Ext = Some (codes "EXT")
name_of_kind kinds.Symbol = Some (codes "SYMBOL")
name_of_kind kinds.Debug = Some (codes "DEBUG")
name_of_kind kinds.End = Some (codes "END")
name_of_kind kinds.Header = Some (codes "HEADER")
name_of_kind kinds.Overlay = Some (codes "OVERLAY")
name_of_kind kinds.Break = Some (codes "BREAK")
name_of_kind kinds.Drel32 = Some (codes "DREL32")
name_of_kind kinds.Drel16 = Some (codes "DREL16")
name_of_kind kinds.Drel8 = Some (codes "DREL8")
name_of_kind kinds.Lib = Some (codes "LIB")
name_of_kind kinds.Index = Some (codes "INDEX")
name_of_kind kinds.Reloc32Short = Some (codes "RELOC32SHORT")
name_of_kind kinds.RelReloc32 = Some (codes "RELRELOC32")
name_of_kind kinds.AbsReloc16 = Some (codes "ABSRELOC16")
name_of_kind (kinds.Unknown number) = None
