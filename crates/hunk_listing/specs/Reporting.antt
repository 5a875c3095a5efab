-- Findings that are reported one by one.
use Rattle.std.specs.Prelude.{◌≡◌, ◌<◌, ◌+◌, ◌^◌, ℕ, List, [], ◌++◌, length}
use Rattle.std.specs.List.{flat_map}
use Rattle.std.proofs.Common.{refl, sym, ap, ◌∙◌, append-nil, append_assoc, arith, length-append}
use Rattle.std.proofs.lemmas.Grind.{flat_map-append}
use Rattle.hunk_words.specs.Prints.{Printing, Prints}
use Rattle.hunk_files.specs.declared.object.check.Finding.{Finding}
use Rattle.hunk_listing.specs.ReportLines.{finding_line}

-- Their lines were printed, and they were counted, as far as 64 bits go.
abbrev pub Reports : {W : Type 0} → Printing W → Printing W → ℕ → ℕ → List Finding → Type 0
Reports old new m n found = Prints old new (flat_map finding_line found) × (m + length found < 2 ^ 64 → n ≡ m + length found)

pub reports_none : {W : Type 0} (page : Printing W) (n : ℕ) → Reports page page n n []
reports_none page n = ((refl, sym (append-nil page.text)), λ few. omega arith)

pub reports_more : {W : Type 0} (a b c : Printing W) (m n k : ℕ) (xs ys : List Finding) → Reports a b m n xs → Reports b c n k ys → Reports a c m k (xs ++ ys)
reports_more a b c m n k xs ys first next = (
  (
    next.0.0 ∙ first.0.0,
    next.0.1
        ∙ ap (λ (text : List ℕ). text ++ flat_map finding_line ys) first.0.1
        ∙ append_assoc a.text (flat_map finding_line xs) (flat_map finding_line ys)
        ∙ ap (λ (text : List ℕ). a.text ++ text) (sym (flat_map-append finding_line xs ys)),
  ),
  λ few.
      let sum = length-append xs ys in
      let here = first.1 (omega (arith, few, sum)) in
      omega (arith, sum, here, next.1 (omega (arith, few, sum, here))),
)
