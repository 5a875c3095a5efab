-- The units among items: the hunks of each are ahead of it, up to the next.
use Rattle.std.proofs.Common.{◌≡◌, ℕ, ◌+◌, ◌*◌, ◌<◌, ◌≤◌, ◌^◌, List, [], ◌∷◌, ◌++◌, length, refl, sym, subst, append_assoc, length-append, arith}
use Rattle.std.specs.Prelude.{⊤}
use Rattle.std.specs.List.{AllByRecursion, flat_map}
use Rattle.hunk_blocks.specs.Values.{BlockValue}
use Rattle.hunk_files.specs.Hunks.{block_texts}
use Rattle.hunk_files.specs.Items.{ItemValue, UnitItem, HunkItem, BlockItem, blocks_items, hunks_items, units_items}
use Rattle.hunk_files.specs.ObjectFile.{IsObjectHunk, IsUnit, ObjectFileValue, ObjectHunk, object_text, unit_header, unit_text}
use Rattle.hunk_files.proofs.views.HunkBlocks.{some_text}

abbrev pub hunks_ahead : List ItemValue → ℕ
hunks_ahead [] = 0
hunks_ahead (UnitItem number u ∷ rest) = 0
hunks_ahead (HunkItem unit number h ∷ rest) = 1 + hunks_ahead rest
hunks_ahead (BlockItem unit hunk b ∷ rest) = hunks_ahead rest

-- so it is of each unit, and a u64 counts them
abbrev pub AreAhead : List ItemValue → Type 0
AreAhead [] = ⊤
AreAhead (UnitItem number u ∷ rest) = (hunks_ahead rest ≡ length u.hunks) × (length u.hunks < 2 ^ 64) × AreAhead rest
AreAhead (HunkItem unit number h ∷ rest) = AreAhead rest
AreAhead (BlockItem unit hunk b ∷ rest) = AreAhead rest

blocks_ahead : (unit hunk : ℕ) (bs : List BlockValue) (rest : List ItemValue) → AreAhead rest →
    AreAhead (blocks_items unit hunk bs ++ rest) × (hunks_ahead (blocks_items unit hunk bs ++ rest) ≡ hunks_ahead rest)
blocks_ahead unit hunk [] rest are = (are, refl)
blocks_ahead unit hunk (b ∷ bs) rest are = blocks_ahead unit hunk bs rest are

unit_ahead : (unit number : ℕ) (hs : List ObjectHunk) (rest : List ItemValue) → AreAhead rest →
    AreAhead (hunks_items unit number hs ++ rest) × (hunks_ahead (hunks_items unit number hs ++ rest) ≡ length hs + hunks_ahead rest)
unit_ahead unit number [] rest are = (are, omega arith)
unit_ahead unit number (h ∷ hs) rest are =
    let others = hunks_items unit (number + 1) hs in
    let after = unit_ahead unit (number + 1) hs rest are in
    let here = blocks_ahead unit number h (others ++ rest) after.0 in
    subst (λ (items : List ItemValue). AreAhead items × (1 + hunks_ahead items ≡ length (h ∷ hs) + hunks_ahead rest)) (sym (append_assoc (blocks_items unit number h) others rest))
    (here.0, omega (arith, here.1, after.1))

few_hunks : (hs : List ObjectHunk) → AllByRecursion IsObjectHunk hs → length hs ≤ length (flat_map block_texts hs)
few_hunks [] are = omega arith
few_hunks (h ∷ hs) are = omega (arith, some_text h are.0, few_hunks hs are.1, length-append (block_texts h) (flat_map block_texts hs))

pub units_ahead : (number : ℕ) (us : ObjectFileValue) → AllByRecursion IsUnit us → 4 * length (object_text us) < 2 ^ 64 → AreAhead (units_items number us) × (hunks_ahead (units_items number us) ≡ 0)
units_ahead number [] are size = (tt, refl)
units_ahead number (u ∷ us) are size =
    let text = length-append (unit_text u) (object_text us) in
    let own = length-append (unit_header u.name) (flat_map block_texts u.hunks) in
    let rest = units_ahead (number + 1) us are.1 (omega (arith, size, text)) in
    let hunks = unit_ahead number 0 u.hunks (units_items (number + 1) us) rest.0 in
    ((omega (arith, hunks.1, rest.1), omega (arith, size, text, own, few_hunks u.hunks are.0.hunks), hunks.0), refl)
