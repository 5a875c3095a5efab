-- The longwords that were read, and those of a load text, are below 2 ^ 32.
use Rattle.std.proofs.Common.{ℕ, List, [], ◌∷◌, subst}
use Rattle.hunk_words.specs.Longs.{AreLongs}
use Rattle.hunk_blocks.specs.Faults.{words}
use Rattle.hunk_files.specs.{LoadFile.{LoadFileValue, IsLoadFile}, LoadText.{labelled, text}, FileSteps.Next, WordsRead.{Labelled, AreAccepted, HasRead}}
use Rattle.hunk_files.proofs.walk.Accepted.{labelled_accepted}

pub accepted_longs : (done : Labelled) → AreAccepted done → AreLongs (words done)
accepted_longs [] h = tt
accepted_longs (l ∷ done) h = (h.0.0, accepted_longs done h.1)

pub read_longs : (ws : List ℕ) (n : Next) → HasRead ws n → AreLongs ws
read_longs ws n h = subst AreLongs h.all (accepted_longs h.done h.accepted)

pub text_longs : (v : LoadFileValue) → IsLoadFile v → AreLongs (text v)
text_longs v is = accepted_longs (labelled v) (labelled_accepted v is)
