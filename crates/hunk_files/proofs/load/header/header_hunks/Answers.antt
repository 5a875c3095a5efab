use Rattle.std.proofs.Common.{◌≡◌, ℕ, zero, suc, ◌<◌, ap, arith, sym, ◌∙◌, None}
use Rattle.hunk_words.proofs.LongLaws.{length-longs}
use Rattle.hunk_grammar.specs.Roles.{Role as roles, refuse}
use Rattle.hunk_files.proofs.load.header.header_hunks.Goals as goal

-- A table has rows.
some_hunks : (hunks : ℕ) → refuse roles.TableSize hunks ≡ None → 0 < hunks
some_hunks zero e = absurd cc
some_hunks (suc n) e = omega arith

pub returns : goal.returns
returns c =
    let hunks = c.word_at-hunks.result in
    let size : refuse roles.TableSize hunks ≡ None = sym c.refuse-3.ensures ∙ c.in_default-refuse-2.is in
    record {
      whole = omega (arith, c.if-bytes-le-TABLE_AT.false, length-longs c.args.bytes.now);
      hunks_are = c.word_at-hunks.ensures;
      some = some_hunks hunks size;
      word = ap (refuse roles.FirstLong) (sym c.word_at.ensures) ∙ sym c.refuse.ensures ∙ c.in_default.is;
      names = ap (refuse roles.ResidentName) (sym c.word_at-2.ensures) ∙ sym c.refuse-2.ensures ∙ c.in_default-refuse.is;
      size = size;
      first = ap (refuse roles.FirstHunk) (sym c.word_at-3.ensures) ∙ sym c.refuse-4.ensures ∙ c.in_default-refuse-3.is;
      last = ap (refuse (roles.LastHunk hunks)) (sym c.word_at-4.ensures) ∙ sym c.refuse-5.ensures ∙ c.in_default-refuse-4.is;
    }
