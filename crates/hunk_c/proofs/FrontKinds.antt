-- The front of a load file or of an object file is the front of the bytes, by their first longword.
use Rattle.std.proofs.Common.{◌≡◌, ℕ, zero, suc, List, [], ◌∷◌, take, sym, ap, ◌∙◌, Option, Some, None, inl, inr}
use Rattle.std.specs.Prelude.{◌⊎◌, IfNone, IfSome}
use Rattle.hunk_words.specs.{Bits.{header_word, unit_word}, Longs.longs}
use Rattle.hunk_grammar.specs.FileKind.{sniffed}
use Rattle.hunk_grammar.specs.declared.file_kind.Sniff.{Sniff}
use Rattle.hunk_grammar.specs.declared.file_kind.Sniff.TheVariants.{Library, Load, Object, Other}
use Rattle.hunk_c.specs.FrontPlaces.{IsFrontOf}
use Rattle.hunk_c.specs.Fronts.{EndsBetweenBlocks, HasNoFront, HasNoFrontWhere, InLoadText, InObjectText}
use Rattle.hunk_c.specs.declared.front.Front.{Front}
use Rattle.hunk_c.proofs.{LoadFronts.load_begins, ObjectFronts.object_begins}

begins : (n : ℕ) (ws : List ℕ) (x : ℕ) (xs : List ℕ) → take n ws ≡ x ∷ xs → (ys : List ℕ) × (ws ≡ x ∷ ys)
begins zero ws x xs e = absurd cc
begins (suc n) [] x xs e = absurd cc
begins (suc n) (w ∷ ws) x xs e = let same : w ≡ x = cc in (ws, ap (λ (y : ℕ). y ∷ ws) same)

-- what the first longwords announce, all do
load_sniffed : (n : ℕ) (ws : List ℕ) → InLoadText (take n ws) → sniffed ws ≡ Load
load_sniffed n ws i = let b = load_begins (take n ws) i in let all = begins n ws header_word b.0 b.1 in ap sniffed all.1

object_sniffed : (n : ℕ) (ws : List ℕ) → InObjectText (take n ws) → sniffed ws ≡ Object
object_sniffed n ws i = let b = object_begins (take n ws) i in let all = begins n ws unit_word b.0 b.1 in ap sniffed all.1

-- ---- object files

module _ (bytes : List ℕ) (kind : Sniff) (e : kind ≡ sniffed (longs bytes)) (is : kind ≡ Object) where
  no_load : (n : ℕ) → InLoadText (take n (longs bytes)) → ⊥
  no_load n i = let clash : Object ≡ Load = sym is ∙ e ∙ load_sniffed n (longs bytes) i in cc

  pub object_found : (o : Option Front) → IfSome o (IsFrontOf InObjectText bytes) → IfSome o (IsFrontOf EndsBetweenBlocks bytes)
  object_found None h = h
  object_found (Some front) h = record {
    is_front = record {
      inside = h.is_front.inside;
      ends = inr h.is_front.ends;
      last = λ m l k x. elim x [ inl i ↦ no_load m i | inr i ↦ h.is_front.last m l k i ];
    };
    file = h.file;
    closed = h.closed;
    hunks_are = h.hunks_are;
    bytes_are = h.bytes_are;
  }

  pub object_none : (o : Option Front) → IfNone o (HasNoFrontWhere InObjectText (longs bytes)) → IfNone o (HasNoFront (longs bytes))
  object_none None h = λ m k x. elim x [ inl i ↦ no_load m i | inr i ↦ h m k i ]
  object_none (Some front) h = h

-- ---- all others

module _ (bytes : List ℕ) (kind : Sniff) (e : kind ≡ sniffed (longs bytes)) (is : (kind ≡ Load) ⊎ ((kind ≡ Library) ⊎ (kind ≡ Other))) where
  no_object : (n : ℕ) → InObjectText (take n (longs bytes)) → ⊥
  no_object n i = elim is [
    | inl k ↦ apart Load k (λ c. cc)
    | inr (inl k) ↦ apart Library k (λ c. cc)
    | inr (inr k) ↦ apart Other k (λ c. cc)
  ]
    where
      apart : (found : Sniff) → kind ≡ found → (found ≡ Object → ⊥) → ⊥
      apart found k none = none (sym k ∙ e ∙ object_sniffed n (longs bytes) i)

  pub load_found : (o : Option Front) → IfSome o (IsFrontOf InLoadText bytes) → IfSome o (IsFrontOf EndsBetweenBlocks bytes)
  load_found None h = h
  load_found (Some front) h = record {
    is_front = record {
      inside = h.is_front.inside;
      ends = inl h.is_front.ends;
      last = λ m l k x. elim x [ inl i ↦ h.is_front.last m l k i | inr i ↦ no_object m i ];
    };
    file = h.file;
    closed = h.closed;
    hunks_are = h.hunks_are;
    bytes_are = h.bytes_are;
  }

  pub load_none : (o : Option Front) → IfNone o (HasNoFrontWhere InLoadText (longs bytes)) → IfNone o (HasNoFront (longs bytes))
  load_none None h = λ m k x. elim x [ inl i ↦ h m k i | inr i ↦ no_object m i ]
  load_none (Some front) h = h
