-- What is passed over at once goes on, or stays.
use Rattle.std.proofs.Common.{◌≡◌, ℕ, ◌+◌, ◌<◌, ◌≤◌, Bool, List, length, ap, arith}
use Rattle.hunk_grammar.specs.declared.position.Position.{Position}
use Rattle.hunk_files.specs.declared.load.passing.BlockPlace.{BlockPlace}
use Rattle.hunk_files.specs.declared.load.walk.DeclaredHunk.{DeclaredHunk}
use Rattle.hunk_files.specs.Passing.{AreBlocks, AreGroups, AreRows, AreSymbols, IsBlock, IsPassed, IsWholeBlock, no_row, one_row, no_group, one_group, no_symbol, one_symbol, content, counted, groups, symbols, of_hunk, hunk_end, no_block, one_block, nothing, passed_rows, passed_blocks}

module _ (ws : List ℕ) where
  rows_on : (from count at : ℕ) → AreRows ws from count at → from ≤ at
  rows_on from _ _ no_row = omega arith
  rows_on from _ _ (one_row count at before whole) = omega (arith, rows_on from count at before)

  groups_on : (hunks declared from at : ℕ) → AreGroups ws hunks declared from at → from ≤ at
  groups_on hunks declared from _ no_group = omega arith
  groups_on hunks declared from _ (one_group at after before group) = omega (arith, groups_on hunks declared from at before, group.ends)

  symbols_on : (from at : ℕ) → AreSymbols ws from at → from ≤ at
  symbols_on from _ no_symbol = omega arith
  symbols_on from _ (one_symbol at before some whole) = omega (arith, symbols_on from at before)

  -- A block ends after its word, and in the bytes.
  pub block_on : (hunks declared at : ℕ) (has : Bool) (after : ℕ) (now : Bool) → IsWholeBlock ws hunks declared at has after now → (at < after) × (after ≤ length ws)
  block_on hunks declared at has _ _ (content after begun c) = (omega (arith, c.ends), c.whole)
  block_on hunks declared at has _ _ (counted after begun c) = (omega (arith, c.ends), c.whole)
  block_on hunks declared at has _ _ (groups after begun l) = (omega (arith, groups_on hunks declared (at + 1) l.end l.items, l.ends), l.whole)
  block_on hunks declared at has _ _ (symbols after begun l) = (omega (arith, symbols_on (at + 1) l.end l.items, l.ends), l.whole)

  -- So it does where the next hunk opens after it.
  pub place_on : (p q : BlockPlace) → IsBlock ws p q → (p.at < q.at) × (q.at ≤ length ws)
  place_on p _ (of_hunk after now b) = block_on p.hunk.hunks p.entry.longs p.at p.hunk.has_content after now b
  place_on p q (hunk_end _ e o) =
      let at : q.at ≡ p.at + 1 = ap (λ (q : BlockPlace). q.at) o.opens in
      (omega (arith, at), omega (arith, at, e.inside))

  blocks_on : (from to : BlockPlace) → AreBlocks ws from to → from.at ≤ to.at
  blocks_on from _ no_block = omega arith
  blocks_on from _ (one_block p q before b) = omega (arith, blocks_on from p before, (place_on p q b).0)

  pub passed_on : (from : ℕ) (p : Position) (entry : DeclaredHunk) (end : ℕ) (q : Position) (now : DeclaredHunk) → IsPassed ws from p entry end q now → from ≤ end
  passed_on from p entry _ _ _ nothing = omega arith
  passed_on from p entry _ _ _ (passed_rows hunks owed count end is few f) = rows_on from count end f
  passed_on from p entry _ _ _ (passed_blocks o begun to is f) = blocks_on (record { at = from; hunk = o; begun = begun; entry = entry }) to f
