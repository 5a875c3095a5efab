-- How many bytes a table can declare.
use Rattle.std.proofs.Common.{◌≡◌, ℕ, ◌^◌, ◌-◌, ◌≤◌, List, [], ◌∷◌, length, ◌++◌, sym, ap, subst, ◌∙◌, arith, ◌⊎◌, inl, inr}
use Rattle.std.specs.List.{flat_map}
use Rattle.std.proofs.lemmas.List.{map-append}
use Rattle.hunk_grammar.specs.Roles.{Role, Role as roles}
use Rattle.hunk_blocks.specs.Faults.{words}
use Rattle.hunk_files.specs.{Fault.Expects, FileSteps.open_hunk, Image.declared_bytes, LoadFile.{TableEntry, LoadFileValue}}
use Rattle.hunk_files.specs.LoadText.{labelled, header_labelled, hunk_labelled, table}
use Rattle.hunk_scatter.specs.{HeaderBytes.{IsHeaderTable, header_words, entries_so_far}, HeaderFaults.ExceedsBudget}
use Rattle.hunk_scatter.proofs.{After.{table_after, no_size_word}, DeclaredBytes.declared_limit}
use Rattle.hunk_scatter.proofs.{HeaderFronts.{text_header, header_within}, HeaderTexts.header_read, ListCuts.fronts}

abbrev hunk_words_of : LoadFileValue → List ℕ
hunk_words_of v = words (flat_map (hunk_labelled (length v)) v)

header_first : (v : LoadFileValue) → words (labelled v) ≡ header_words (table v) ++ hunk_words_of v
unfolding labelled
header_first v = map-append (λ (l : Role × ℕ). l.1) (header_labelled (table v)) (flat_map (hunk_labelled (length v)) v)

-- The entries before a size word declare at most 2 ^ 48 bytes.
pub total_limit : (before : List ℕ) → Expects before roles.SizeWord → declared_bytes (entries_so_far before) ≤ 2 ^ 48
total_limit before e =
    let t = table e.value in
    let spelled : before ++ e.word ∷ words e.more ≡ header_words t ++ hunk_words_of e.value =
    ap (λ (xs : List ℕ). xs ++ e.word ∷ words e.more) (sym e.begins)
    ∙ sym (map-append (λ (l : Role × ℕ). l.1) e.done ((roles.SizeWord, e.word) ∷ e.more))
    ∙ ap words (sym e.labels)
    ∙ header_first e.value in
    go t (text_header e.value e.is).0 (fronts before e.word (words e.more) (header_words t) (hunk_words_of e.value) spelled)
  where
    go : (t : List TableEntry) → IsHeaderTable t → ((m : List ℕ) × (header_words t ≡ before ++ e.word ∷ m)) ⊎ ((m : List ℕ) × (before ≡ header_words t ++ m)) → declared_bytes (entries_so_far before) ≤ 2 ^ 48
    go t is (inl (m, d)) = omega (arith, header_within t is before m e.word d e, declared_limit t, is.most)
    go t is (inr (m, d)) = absurd (no_size_word (header_words t) m (open_hunk (length t) [] t) (header_read t is) (table_after t is) (subst (λ (xs : List ℕ). Expects xs roles.SizeWord) d e))

-- No table passes the greatest budget.
pub never_passes : (bytes : List ℕ) (at : ℕ) → ExceedsBudget (2 ^ 64 - 1) bytes at → ⊥
never_passes bytes at p = omega (arith, p.passes, total_limit p.before p.expects)
