-- The types of EXT entries have one byte.
use Rattle.std.proofs.Common.{◌≡◌, ◌≤◌, ℕ, None, arith}
use Rattle.std.proofs.lemmas.Bool.Decides.{nat_tests}
use Rattle.hunk_grammar.specs.ExtKinds.{ext_kind, ext_shape}

-- A larger number is no type.
pub large_type : (n : ℕ) → 256 ≤ n → ext_shape n ≡ None
unfolding ext_kind
large_type n h = grind (arith, nat_tests)
