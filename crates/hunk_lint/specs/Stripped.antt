-- What a stripped file still has warnings of.
use Rattle.std.specs.Prelude.{Bool, true, false, not, List, map}
use Rattle.std.specs.List.{filter}
use Rattle.hunk_lint.specs.declared.warning.Warning.{Warning}
use Rattle.hunk_lint.specs.declared.warning.WarningKind.{WarningKind}
use Rattle.hunk_lint.specs.declared.warning.WarningKind.TheVariants.{SymbolOutside}

abbrev pub is_of_symbol : WarningKind → Bool
is_of_symbol SymbolOutside = true
is_of_symbol _ = false

abbrev pub unplaced : Warning → Warning
unplaced w = record w { place = 0 }

-- the warnings but for those of symbols, without their places
abbrev pub without_symbols : List Warning → List Warning
without_symbols rows = map unplaced (filter (λ w. not (is_of_symbol w.kind)) rows)
