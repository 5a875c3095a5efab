use Rattle.std.proofs.Common.{ℕ, List, ◌≡◌, ◌-◌, length, take, drop, get_or, sym, ap, ap₂, subst, ◌∙◌, arith}
use Rattle.std.proofs.lemmas.List.{length-map, take_rest}
use Rattle.hunk_words.specs.Longs.{longs}
use Rattle.hunk_words.proofs.PartLaws.{longs-drop}
use Rattle.hunk_files.specs.{LoadFile.{HunkValue, LoadFileValue}, LoadText.table, InPlace.BeginsWithTable}
use Rattle.hunk_files.specs.Cuts.{table_cut}
use Rattle.hunk_files.proofs.{cuts.LoadCuts.{load_value, table_begins, table_value}, cuts.TableReading.size_is}
use Rattle.hunk_files.proofs.load.view.LoadView.table.Goals as goal

pub slice_bounds-result-count : goal.slice_bounds-result-count
slice_bounds-result-count c = omega (arith, (size_is c.self.inside.bytes.now c.self.invariant.file).1)

pub slice_bounds-result-start : goal.slice_bounds-result-start
slice_bounds-result-start c = omega (arith, (size_is c.self.inside.bytes.now c.self.invariant.file).1)

-- the longwords of the table
words : (bytes : List ℕ) → longs (take (length bytes - 20) (drop 20 bytes)) ≡ drop 5 (longs bytes)
words bytes = ap longs (take_rest bytes 20) ∙ longs-drop bytes 5 20 (omega arith)

-- the number of hunks, as the header has it
count : (c : goal.After-hunks) → c.hunks.result ≡ get_or (longs c.self.inside.bytes.now) 2 0
count c =
    let file = c.self.invariant.file in
    c.hunks.ensures.value ∙ ap (λ (v : LoadFileValue). length v) (sym c.self.view_is ∙ load_value c.self.inside.bytes.now file)
    ∙ sym (length-map file.value (λ (h : HunkValue). h.entry)) ∙ sym (size_is c.self.inside.bytes.now file).0

pub invariant_of-result : goal.invariant_of-result
invariant_of-result c =
    let bytes = c.self.inside.bytes.now in
    let P : ℕ → Type 0 = λ n. BeginsWithTable n (longs (take (length bytes - 20) (drop 20 bytes))) in
    subst P (sym (count c)) (subst (BeginsWithTable (get_or (longs bytes) 2 0)) (sym (words bytes)) (table_begins bytes c.self.invariant.file))

pub returns-clause-value : goal.returns-clause-value
returns-clause-value c =
    let bytes = c.self.inside.bytes.now in
    ap₂ (λ (n : ℕ) (ws : List ℕ). (table_cut n ws).value) (count c) (words bytes) ∙ table_value bytes c.self.invariant.file
    ∙ ap (λ (v : LoadFileValue). table v) (sym (load_value bytes c.self.invariant.file) ∙ c.self.view_is)
