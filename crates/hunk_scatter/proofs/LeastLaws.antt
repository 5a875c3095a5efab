-- What a position says of the longwords still to come, by the texts.
use Rattle.std.proofs.Common.{◌≡◌, ℕ, ◌≤◌, true, false, List, [], ◌++◌, length, sym, ap, subst, ◌∙◌, arith}
use Rattle.hunk_grammar.specs.Positions.{is_after_header, least_longs}
use Rattle.hunk_files.specs.{LoadFile.{LoadFileValue, IsLoadFile, TableEntry}, LoadText.text, FileSteps.{Finished, Next, open_hunk}, Machines.load_at}
use Rattle.hunk_files.specs.{ReaderPosition.position_of, WordsRead.HasRead}
use Rattle.hunk_files.proofs.{walk.Least.owes_least, walk.LoadPlaces.position_at, walk.Reading.{file_read, front_read}}
use Rattle.hunk_scatter.specs.HeaderBytes.{IsHeaderTable, header_words}
use Rattle.hunk_scatter.proofs.{FileLeast.file_ends, HeaderLeast.{header_ends, header_owes, least_is}, HeaderTexts.header_read}

-- ---- of a file

module _ (v : LoadFileValue) (ws more : List ℕ) (is : IsLoadFile v) (e : text v ≡ ws ++ more) where
  file_front : (n : Next) × HasRead ws n
  file_front = front_read ws more (Finished v) (subst (λ (xs : List ℕ). HasRead xs (Finished v)) e (file_read v is))

  pub file_least : least_longs (load_at ws) ≤ length more
  file_least = let f = file_front in omega (arith, owes_least ws f.0 f.1 v is more e, ap least_longs (position_at ws f.0 f.1))

  pub file_reached : is_after_header (load_at ws) ≡ true → (u : LoadFileValue) × (rest : List ℕ) × IsLoadFile u × (text u ≡ ws ++ rest) × (length rest ≡ least_longs (load_at ws))
  file_reached b =
      let f = file_front in
      let at = sym (position_at ws f.0 f.1) in
      let x = file_ends ws f.0 f.1 (ap is_after_header at ∙ b) in
      (x.value, x.more, x.is_load_file, x.begins, x.count ∙ ap least_longs at)

-- ---- of a header

module _ (t : List TableEntry) (ws more : List ℕ) (is : IsHeaderTable t) (e : header_words t ≡ ws ++ more) (within : is_after_header (load_at ws) ≡ false) where
  abbrev last : Next
  last = open_hunk (length t) [] t

  header_front : (n : Next) × HasRead ws n
  header_front = front_read ws more last (subst (λ (xs : List ℕ). HasRead xs last) e (header_read t is))

  pub header_least_is : least_longs (load_at ws) ≤ length more
  header_least_is =
      let f = header_front in
      let at = position_at ws f.0 f.1 in
      omega (arith, header_owes f.0 ws f.1 t is more e, least_is f.0 (ap is_after_header (sym at) ∙ within), ap least_longs at)

  pub header_reached : (u : List TableEntry) × (rest : List ℕ) × IsHeaderTable u × (header_words u ≡ ws ++ rest) × (length rest ≡ least_longs (load_at ws))
  header_reached =
      let f = header_front in
      let at = sym (position_at ws f.0 f.1) in
      let here : is_after_header (position_of f.0) ≡ false = ap is_after_header at ∙ within in
      let x = header_ends f.0 ws f.1 (λ b. let clash : false ≡ true = sym here ∙ b in absurd cc) in
      (x.table, x.more, x.is_table, x.begins, x.count ∙ least_is f.0 here ∙ ap least_longs at)
