-- Faults of what stands after longwords that were read.
use Rattle.std.proofs.Common.{◌≡◌, ℕ, List, [], ◌∷◌, ◌++◌, map, refl, sym, ap, ◌∙◌, append_assoc, append-nil, Some}
use Rattle.std.proofs.lemmas.List.{map-append}
use Rattle.hunk_words.specs.declared.reason.Reason.{Reason}
use Rattle.hunk_blocks.specs.Faults.{Grammar, words, Expects}

abbrev pub relabel : {R S : Type 0} → (R → S) → List (R × ℕ) → List (S × ℕ)
relabel role ls = map (λ l. (role l.0, l.1)) ls

pub words-relabel : {R S : Type 0} (role : R → S) (ls : List (R × ℕ)) → words (relabel role ls) ≡ words ls
words-relabel role [] = refl
words-relabel role (l ∷ ls) = ap (λ ws. l.1 ∷ ws) (words-relabel role ls)

pub words-append : {R : Type 0} (ks ls : List (R × ℕ)) → words (ks ++ ls) ≡ words ks ++ words ls
words-append ks ls = map-append (λ l. l.1) ks ls

-- The texts of one grammar stand in those of another, after these longwords.
pub record Embeds {A B R S : Type 0} (g : Grammar A R) (h : Grammar B S) (front : List (S × ℕ)) : Type 0 where
  pub into : A → B
  pub role : R → S
  pub after : A → List (S × ℕ)
  pub is : (a : A) → g.Is a → h.Is (into a)
  pub labels : (a : A) → g.Is a → h.labelled (into a) ≡ front ++ (relabel role (g.labelled a) ++ after a)
  pub refuses : (r : R) (w : ℕ) (reason : Reason) → g.refuse r w ≡ Some reason → h.refuse (role r) w ≡ Some reason

module _ {A B R S : Type 0} (g : Grammar A R) (h : Grammar B S) (front : List (S × ℕ)) (m : Embeds g h front) where
  pub expects_embedded : (before : List ℕ) (role : R) → Expects g before role → Expects h (words front ++ before) (m.role role)
  expects_embedded before role e =
      record {
        value = m.into e.value;
        is = m.is e.value e.is;
        done = front ++ relabel m.role e.done;
        word = e.word;
        more = relabel m.role e.more ++ m.after e.value;
        labels =
            m.labels e.value e.is
            ∙ ap (λ ls. front ++ (relabel m.role ls ++ m.after e.value)) e.labels
            ∙ ap (λ ls. front ++ (ls ++ m.after e.value)) (map-append (λ l. (m.role l.0, l.1)) e.done ((role, e.word) ∷ e.more))
            ∙ ap (λ ls. front ++ ls) (append_assoc (relabel m.role e.done) ((m.role role, e.word) ∷ relabel m.role e.more) (m.after e.value))
            ∙ sym (append_assoc front (relabel m.role e.done) ((m.role role, e.word) ∷ (relabel m.role e.more ++ m.after e.value)));
        begins = words-append front (relabel m.role e.done) ∙ ap (λ ws. words front ++ ws) (words-relabel m.role e.done ∙ e.begins);
      }

-- ---- of one grammar with the same roles
pub same-labels : {R : Type 0} (ls : List (R × ℕ)) → relabel (λ r. r) ls ≡ ls
same-labels [] = refl
same-labels (l ∷ ls) = ap (λ ms. l ∷ ms) (same-labels ls)

unfoldable pub embeds_same : {A B R : Type 0} (g : Grammar A R) (h : Grammar B R) (front : List (R × ℕ)) (into : A → B) → ((a : A) → g.Is a → h.Is (into a)) → ((a : A) → g.Is a → h.labelled (into a) ≡ front ++ g.labelled a) →
    ((r : R) (w : ℕ) (reason : Reason) → g.refuse r w ≡ Some reason → h.refuse r w ≡ Some reason) → Embeds g h front
embeds_same g h front into is labels refuses =
    record {
      into = into;
      role = λ r. r;
      after = λ a. [];
      is = is;
      labels = λ a k. labels a k ∙ ap (λ ls. front ++ ls) (sym (append-nil (relabel (λ r. r) (g.labelled a)) ∙ same-labels (g.labelled a)));
      refuses = refuses;
    }
