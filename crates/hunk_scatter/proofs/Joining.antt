-- The segments of a store, one right after the other.
use Rattle.std.proofs.Common.{◌≡◌, ℕ, ◌*◌, List, [], ◌∷◌, ◌++◌, length, take, drop, sym, ap, ◌∙◌, arith, length-drop}
use Rattle.std.proofs.lemmas.Grind.{common_steps}
use Rattle.std.proofs.lemmas.List.{take-append-drop}
use Rattle.hunk_words.specs.Bits.{size_longs}
use Rattle.hunk_files.specs.{Image.declared_bytes, declared.row.Row.Row, Tables.row_entry}
use Rattle.hunk_scatter.specs.{LoaderValues.{segments_in, joined}, Rows.{entries_of, words_of}}
use Rattle.hunk_scatter.proofs.DeclaredBytes.{declared-cons}

empty : (store : List ℕ) → length store ≡ 0 → store ≡ []
empty store h = grind (arith, common_steps)

-- Together they are the store.
pub joined_cut : (rows : List Row) (store : List ℕ) → length store ≡ declared_bytes (entries_of rows) → joined (segments_in (words_of rows) store) ≡ store
joined_cut [] store h = sym (empty store h)
joined_cut (r ∷ rows) store h =
    let size = 4 * size_longs r.word in
    ap (λ (xs : List ℕ). take size store ++ xs)
    (joined_cut rows (drop size store) (omega (arith, h, length-drop size store, declared-cons (row_entry r) (entries_of rows))))
    ∙ take-append-drop size store
