-- A value without its NAME, SYMBOL, DEBUG and ADVISORY blocks.
use Rattle.std.specs.Prelude.{Bool, true, false, List, map}
use Rattle.std.specs.List.{filter}
use Rattle.hunk_blocks.specs.Values.{BlockBody, Name, Symbol, Debug, Advisory, BlockValue}
use Rattle.hunk_files.specs.LoadFile.{HunkValue, LoadFileValue}
use Rattle.hunk_files.specs.ObjectFile.{UnitValue, ObjectFileValue}

abbrev pub is_kept : BlockBody → Bool
is_kept (Name words) = false
is_kept (Symbol entries) = false
is_kept (Debug words) = false
is_kept (Advisory words) = false
is_kept _ = true

abbrev pub strip_blocks : List BlockValue → List BlockValue
strip_blocks blocks = filter (λ b. is_kept b.body) blocks

abbrev pub strip_hunk : HunkValue → HunkValue
strip_hunk h = record { entry = h.entry; blocks = strip_blocks h.blocks }

abbrev pub strip_file : LoadFileValue → LoadFileValue
strip_file v = map strip_hunk v

-- A unit keeps its own name.
abbrev pub strip_unit : UnitValue → UnitValue
strip_unit u = record { name = u.name; hunks = map strip_blocks u.hunks }

abbrev pub strip_object : ObjectFileValue → ObjectFileValue
strip_object o = map strip_unit o
