-- After the header the body's loader stands at its first hunk, with a store of zero bytes.
use Rattle.std.proofs.Common.{rules, ◌≡◌, ◌≢◌, ℕ, zero, suc, ◌+◌, List, [], ◌∷◌, ◌++◌, length, replicate, refl, ap, ◌∙◌, arith}
use Rattle.std.proofs.lemmas.{List.Sums.sum_by-cons, List.{length-map, length-replicate}}
use Rattle.hunk_words.specs.{Carriers.saturated, Longs.bytes_of, PendingBytes.pending_of}
use Rattle.hunk_files.specs.{Image.declared_bytes, LoadFile.TableEntry, FileSteps.open_hunk, WordsRead.HasRead, declared.row.Row.Row}
use Rattle.hunk_grammar.specs.Positions.{open_next}
use Rattle.hunk_scatter.specs.{BodyReader.state_at, StoreContent.zeros, BodyLoaderFields.{IsFed, StandsAfter}}
use Rattle.hunk_scatter.specs.{declared.stream.Standing.Standing, Rows.entries_of, HeaderLoaderFields.DeclaredInvariant}
use Rattle.hunk_scatter.proofs.{HeaderTexts.header_read, Scatter.start_holds}

replicate-both : (m n : ℕ) → replicate {A = ℕ} (m + n) 0 ≡ replicate m 0 ++ replicate n 0
replicate-both zero n = let e : zero + n ≡ n = omega arith in ap (λ (k : ℕ). replicate k 0) e
replicate-both (suc m) n = let e : suc m + n ≡ suc (m + n) = omega arith in ap (λ (k : ℕ). replicate k 0) e ∙ ap (λ (xs : List ℕ). 0 ∷ xs) (replicate-both m n)

pub zeros_are : (table : List TableEntry) → replicate (declared_bytes table) 0 ≡ zeros table
zeros_are [] = refl
zeros_are (e ∷ table) = search (rules, sum_by-cons, replicate-both, zeros_are table)

pub start_reading : (rows : List Row) (ws fed : List ℕ) → rows ≢ [] → fed ≡ bytes_of ws → HasRead ws (open_hunk (length (entries_of rows)) [] (entries_of rows)) →
    StandsAfter rows (zeros (entries_of rows)) (state_at [] (open_next (length (entries_of rows)) (length (entries_of rows)))) [] fed
start_reading rows ws fed some e read = search (rules, start_holds)

-- A table that was read, with its hunks placed and a store of zero bytes: numbers after its header.
pub placed_loading : (old rows : List Row) (total budget count : ℕ) (fed store : List ℕ) (s : Standing) → DeclaredInvariant old total budget count fed → entries_of rows ≡ entries_of old → store ≡ replicate total 0 →
    s.state ≡ state_at [] (open_next (length (entries_of rows)) (length (entries_of rows))) → s.fed ≡ saturated (length fed) → pending_of s.pending ≡ [] → IsFed rows store s fed
placed_loading old rows total budget count fed store s h same zero_bytes state_is fed_is none =
    search (rules, length-map, length-replicate, zeros_are, start_reading, header_read)
