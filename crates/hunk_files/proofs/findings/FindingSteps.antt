-- Findings that are looked for one by one.
use Rattle.std.proofs.Common.{◌≡◌, ℕ, ◌+◌, true, false, List, [], ◌∷◌, ◌++◌, refl, sym, ap, subst, ◌∙◌, append_assoc, Option, Some, unwrap_or, arith}
use Rattle.std.specs.List.{fold}
use Rattle.hunk_blocks.specs.Values.{BlockBody, BlockValue, Code, Data, Bss, End, content_bytes}
use Rattle.hunk_grammar.specs.Standings.{BlockStanding}
use Rattle.hunk_files.specs.{LoadFile.{standing, AreInOrder}, ObjectFile.ObjectHunk}
use Rattle.hunk_files.specs.Findings.{content_size, hunk_bytes}
use Rattle.hunk_files.proofs.walk.FileText.{standings}

-- ---- what is taken one after the other, by a relation that joins

-- some were taken, and with the rest they are all
abbrev pub TakenUpTo : {S X : Type 0} → (S → List X → S → Type 0) → S → S → List X → List X → Type 0
TakenUpTo {X = X} Takes a b rest all = (done : List X) × Takes a done b × (done ++ rest ≡ all)

module _ {S X : Type 0} (Takes : S → List X → S → Type 0) (more : (a b c : S) (xs ys : List X) → Takes a xs b → Takes b ys c → Takes a (xs ++ ys) c) where
  pub taken_on : (a b c : S) (here rest left all : List X) → left ≡ here ++ rest → TakenUpTo Takes a b left all → Takes b here c → TakenUpTo Takes a c rest all
  taken_on a b c here rest left all e t h =
      (t.0 ++ here, more a b c t.0 here t.1 h, append_assoc t.0 here rest ∙ ap (λ (xs : List X). t.0 ++ xs) (sym e) ∙ t.2)

-- ---- the bytes of a hunk are those of its content block

abbrev bytes_from : ℕ → ObjectHunk → ℕ
bytes_from n h = fold (λ a b. a + content_size b.body) n h

nothing_after : (h : ObjectHunk) (n : ℕ) → standings h ≡ [] → bytes_from n h ≡ n
nothing_after [] n e = refl
nothing_after (b ∷ h) n e = absurd cc

-- what stands after the content block has no content
no_more_content : (h : ObjectHunk) (n : ℕ) → AreInOrder true (standings h) → bytes_from n h ≡ n
no_more_content [] n o = absurd o
no_more_content (b ∷ h) n o = after b.body (no_more_content h) o
  where
    after : (body : BlockBody) → ((m : ℕ) → AreInOrder true (standings h) → bytes_from m h ≡ m) → AreInOrder true (standing body ∷ standings h) → bytes_from (n + content_size body) h ≡ n
    after (Code top ws) more p = absurd p
    after (Data top ws) more p = absurd p
    after (Bss size) more p = absurd p
    after End more p = omega (arith, nothing_after h (n + 0) p)
    after _ more p = omega (arith, more (n + 0) p)

after_content : (body : BlockBody) (n : ℕ) (rest : List BlockStanding) → content_bytes body ≡ Some n → AreInOrder false (standing body ∷ rest) → AreInOrder true rest
after_content (Code top ws) n rest e o = o
after_content (Data top ws) n rest e o = o
after_content (Bss size) n rest e o = o
after_content _ n rest e o = absurd cc

-- Of the blocks of the hunk these are left; the content block is among them.
abbrev pub ContentLeft : ObjectHunk → List BlockValue → Type 0
ContentLeft h left = AreInOrder false (standings left) × (hunk_bytes left ≡ hunk_bytes h)

module _ (h left rest : ObjectHunk) (b : BlockValue) (found : Option ℕ) (first : left ≡ b ∷ rest) (is : found ≡ content_bytes b.body) (c : ContentLeft h left) where
  in_order : AreInOrder false (standings (b ∷ rest))
  in_order = subst (λ (bs : ObjectHunk). AreInOrder false (standings bs)) first c.0

  bytes_are : hunk_bytes (b ∷ rest) ≡ hunk_bytes h
  bytes_are = ap hunk_bytes (sym first) ∙ c.1

  pub content_found : (n : ℕ) → found ≡ Some n → n ≡ hunk_bytes h
  content_found n e =
      let here : content_bytes b.body ≡ Some n = sym is ∙ e in
      let size : content_size b.body ≡ n = ap (λ (o : Option ℕ). unwrap_or o 0) here in
      let all : hunk_bytes (b ∷ rest) ≡ 0 + content_size b.body = no_more_content rest (0 + content_size b.body) (after_content b.body n (standings rest) here in_order) in
      omega (arith, size, all, bytes_are)
