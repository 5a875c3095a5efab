-- Bytes that come one after another make longwords, however they were cut.
use Rattle.std.proofs.Common.{◌≡◌, ℕ, ◌<◌, List, [], ◌∷◌, ◌++◌, Some, length, ap, ◌∙◌, append_assoc, append-nil}
use Rattle.hunk_words.specs.Longs.{longs, bytes_of, AreLongs, Gathers}
use Rattle.hunk_words.proofs.LongLaws.{bytes_of-append, longs-bytes_of, longs-few}

-- bytes that complete a longword
pub gathers-word : (front pending piece after words : List ℕ) (word : ℕ) → front ≡ bytes_of words ++ pending
    → Gathers (pending ++ piece) after (Some word) → front ++ piece ≡ bytes_of (words ++ word ∷ []) ++ after
gathers-word front pending piece after words word e (spelled, none) =
    rw (e, none, bytes_of-append words (word ∷ []), append-nil) (append_assoc (bytes_of words) pending piece ∙ ap (λ l. bytes_of words ++ l) spelled)

-- with fewer than four bytes pending, the longwords given are all that the bytes spell
pub gathered-all : (front pending words : List ℕ) → AreLongs words → length pending < 4 → front ≡ bytes_of words ++ pending → longs front ≡ words
gathered-all front pending words fit few e = ap longs e ∙ longs-bytes_of words pending fit ∙ ap (λ l. words ++ l) (longs-few pending few) ∙ append-nil words
