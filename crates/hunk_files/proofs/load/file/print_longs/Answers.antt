use Rattle.std.proofs.Common.{◌≡◌, ◌∙◌, ◌++◌, ℕ, List, [], ◌∷◌, refl, ap, arith}
use Rattle.std.specs.List.{flat_map}
use Rattle.hunk_words.specs.Longs.{bytes_of}
use Rattle.hunk_blocks.proofs.ListWriting.{texts_shown}
use Rattle.hunk_files.proofs.load.file.print_longs.Goals as goal

each_long : (ws : List ℕ) → flat_map (λ w. w ∷ []) ws ≡ ws
each_long [] = refl
each_long (w ∷ ws) = ap (λ (l : List ℕ). w ∷ l) (each_long ws)

pub returns : goal.returns
returns g c = (
  c.putting.invariant.0,
  texts_shown (λ (w : ℕ). w ∷ []) c.args.longs.now c.putting.long-index _ _ (omega (arith, c.putting-test.false)) c.putting.invariant.1
      ∙ ap (λ (l : List ℕ). c.args.page.now.text ++ bytes_of l) (each_long c.args.longs.now),
)
