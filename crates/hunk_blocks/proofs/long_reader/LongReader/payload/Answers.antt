use Rattle.std.proofs.Common.{◌≡◌, ◌+◌, ◌*◌, ◌≤◌, ◌++◌, length, drop, ap, subst, length-append, arith}
use Rattle.std.proofs.lemmas.List.{length-drop}
use Rattle.hunk_words.specs.Longs.{longs}
use Rattle.hunk_words.proofs.LongLaws.{length-longs}
use Rattle.hunk_blocks.specs.Reading.{Unread, Reads}
use Rattle.hunk_blocks.proofs.Fronts.{longs-cut}
use Rattle.hunk_blocks.proofs.long_reader.LongReader.payload.Goals as goal

pub slice_bounds-words-end : goal.slice_bounds-words-end
slice_bounds-words-end c =
    omega (arith, c.requires, ap (λ u. length u.rest) c.self.view_is, length-longs (drop c.self.inside.at c.self.inside.bytes.now), length-drop c.self.inside.at c.self.inside.bytes.now)

-- the cut in two
module _ (c : goal.After-of) where
  end : c.self.inside.at + 4 * c.args.count ≤ length c.self.inside.bytes.now
  end = omega (arith, c.requires, ap (λ u. length u.rest) c.self.view_is, length-longs (drop c.self.inside.at c.self.inside.bytes.now), length-drop c.self.inside.at c.self.inside.bytes.now)

  parts : longs (drop c.self.inside.at c.self.inside.bytes.now) ≡ longs c.of.result ++ longs (drop (c.self.inside.at + 4 * c.args.count) c.self.inside.bytes.now)
  parts = longs-cut c.self.inside.bytes.now c.of.result c.self.inside.at c.args.count c.of.ensures

  many : length (longs c.of.result) ≡ c.args.count
  many = omega (
    arith,
    end,
    ap length parts,
    length-append (longs c.of.result) (longs (drop (c.self.inside.at + 4 * c.args.count) c.self.inside.bytes.now)),
    length-longs (drop c.self.inside.at c.self.inside.bytes.now),
    length-drop c.self.inside.at c.self.inside.bytes.now,
    length-longs (drop (c.self.inside.at + 4 * c.args.count) c.self.inside.bytes.now),
    length-drop (c.self.inside.at + 4 * c.args.count) c.self.inside.bytes.now,
  )

pub invariant_of-self : goal.invariant_of-self
invariant_of-self c = end c

pub returns-clause-read : goal.returns-clause-read
returns-clause-read c =
    subst (λ (u : Unread). Reads u (record { rest = longs (drop (c.self.inside.at + 4 * c.args.count) c.self.inside.bytes.now); place = c.self.inside.at + 4 * c.args.count }) (longs c.of.result)) c.self.view_is
    (record { front = parts c; further = omega (arith, many c) })

pub returns-clause-count : goal.returns-clause-count
returns-clause-count c = many c
