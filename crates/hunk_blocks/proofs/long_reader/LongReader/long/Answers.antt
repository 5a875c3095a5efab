use Rattle.std.proofs.Common.{◌<◌, ◌∷◌, length, ◌+◌, ap, subst, sym, ◌∙◌}
use Rattle.hunk_blocks.proofs.Fronts.{longs-after, longs-first}
use Rattle.hunk_blocks.proofs.long_reader.LongReader.long.Goals as goal

pub returns : goal.returns
returns c = record {
  front =
      ap (λ u. u.rest) (sym c.self.view_is)
      ∙ longs-first c.self.inside.bytes.now c.self.inside.at c.word_at-word.result (subst (λ u. 0 < length u.rest) (sym c.self.view_is) c.requires) c.word_at-word.ensures
      ∙ ap (λ xs. c.word_at-word.result ∷ xs) (sym (longs-after c.self.inside.bytes.now c.self.inside.at 1));
  further = ap (λ u. u.place + 4) c.self.view_is;
}
