-- What a load comes to, by its stages.
use Rattle.std.proofs.Common.{rules, ◌≡◌, ℕ, ◌-◌, ◌^◌, ◌≤◌, List, ◌++◌, length, take, drop, sym, ap, ap₂, ◌∙◌, arith, inl, inr}
use Rattle.std.proofs.lemmas.List.{length-map, length-take-le}
use Rattle.hunk_words.specs.{Longs.bytes_of, declared.fault.Fault.Fault, declared.reason.Reason.Reason}
use Rattle.hunk_words.specs.declared.reason.Reason.TheVariants as reasons
use Rattle.hunk_files.specs.Fault.{BeginsWithLoadFile, HasFault, HasRefusal}
use Rattle.hunk_files.specs.{Image.{declared_bytes, images}, LoadFile.{TableEntry, HunkValue}, LoadText.{table, text}}
use Rattle.hunk_scatter.specs.HeaderBytes.{BeginsWithHeader}
use Rattle.hunk_scatter.specs.HeaderSizes.{HasHeaderInFront, HasHeaderSize, RefusesHeader}
use Rattle.hunk_scatter.specs.Placing.{Placing, HasBases, IsFirstUnplaced}
use Rattle.hunk_scatter.specs.declared.header_state.HeaderSize.{HeaderSize}
use Rattle.hunk_scatter.proofs.TableLimit.{never_passes}
use Rattle.hunk_c.specs.{declared.answer.Answer.Answer, Answers.{refused, done}}
use Rattle.hunk_c.specs.Loads.{AreBasesOf, IsLoadedInto, IsNotLoaded, HasNoFile, HasNoBase}
use Rattle.hunk_c.proofs.Succeeding.{file_header, same_header}

-- ---- answers

pub same_answer : (number h k p q m n : ℕ) → h ≡ k → p ≡ q → m ≡ n →
    ◌≡◌ {A = Answer} (record { number = number; hunk = h; place = p; count = m }) (record { number = number; hunk = k; place = q; count = n })
same_answer number h k p q m n e f g = λ i. record { number = number; hunk = e i; place = f i; count = g i }

-- ---- refusals

no_reason : (bytes : List ℕ) (at : ℕ) (reason : Reason) → HasRefusal bytes at reason → reason ≡ reasons.Budget → ⊥
no_reason bytes at reason h e = search rules

-- No header is in front, and the file has that fault.
pub header_fault : (bytes : List ℕ) (f : Fault) → RefusesHeader (2 ^ 64 - 1) bytes f → (HasHeaderInFront bytes → f.reason ≡ reasons.Budget) → HasFault bytes f.place f.reason × (HasHeaderInFront bytes → ⊥)
header_fault bytes f (inl h) k = (inl h, λ b. no_reason bytes f.place f.reason h (k b))
header_fault bytes f (inr (inl (b, p))) k = absurd (never_passes bytes f.place p)
header_fault bytes f (inr (inr (c, cut, keeps))) k = (inr (c, cut), λ b. both (k b))
  where
    both : f.reason ≡ reasons.Budget → ⊥
    both h = cc

pub no_header : (base : Placing) (room : ℕ) (bytes : List ℕ) (answer : Answer) (f : Fault) → RefusesHeader (2 ^ 64 - 1) bytes f → (HasHeaderInFront bytes → f.reason ≡ reasons.Budget) → answer ≡ refused f → IsNotLoaded base room bytes answer
no_header base room bytes answer f h k e = let none = header_fault bytes f h k in HasNoFile f none.0 (λ t b. absurd (none.1 (t, b))) e

-- A hunk has no base.
pub no_base_for : (base : Placing) (room : ℕ) (bytes : List ℕ) (answer : Answer) (size : HeaderSize) (s : HasHeaderSize (2 ^ 64 - 1) bytes size) (hunk : ℕ) → size.declared ≤ room → IsFirstUnplaced base s.table hunk →
    answer ≡ refused (record { place = size.bytes; reason = reasons.NoBase hunk }) → IsNotLoaded base room bytes answer
no_base_for base room bytes answer size s hunk fits u e =
    HasNoBase s.table hunk s.header (omega (arith, fits, s.declared_are)) u (e ∙ ap (λ (n : ℕ). refused (record { place = n; reason = reasons.NoBase hunk })) s.bytes_are)

-- Each hunk has one.
pub have_bases : (base : Placing) (bytes bases : List ℕ) → AreBasesOf base bytes bases → (t : List TableEntry) → BeginsWithHeader bytes t → HasBases base t
have_bases base bytes bases are t h i inside = let each = (are t h).each i inside in cc

-- ---- the file after a header that was read

-- its numbers are those of the header
pub record HasNumbers (size : HeaderSize) (bytes : List ℕ) (file : BeginsWithLoadFile bytes) : Type 0 where
  pub hunks_are : size.hunks ≡ length file.value
  pub declared_are : size.declared ≡ declared_bytes (table file.value)

pub has_numbers : (bytes : List ℕ) (size : HeaderSize) → HasHeaderSize (2 ^ 64 - 1) bytes size → (file : BeginsWithLoadFile bytes) → HasNumbers size bytes file
has_numbers bytes size s file =
    let same = same_header bytes s.table (table file.value) s.header (file_header bytes file) in
    record {
      hunks_are = s.hunks_are ∙ ap (λ (t : List TableEntry). length t) same ∙ length-map file.value (λ (h : HunkValue). h.entry);
      declared_are = s.declared_are ∙ ap declared_bytes same;
    }

module _ (base : Placing) (bases bytes old : List ℕ) (size : HeaderSize) (s : HasHeaderSize (2 ^ 64 - 1) bytes size) (fits : size.declared ≤ length old) (are : AreBasesOf base bytes bases) (answer : Answer) where
  pub loaded : (file : BeginsWithLoadFile bytes) (front : List ℕ) (read : ℕ) → front ≡ images bases file.value → read ≤ length bytes → take read bytes ≡ bytes_of (text file.value) → answer ≡ done size.hunks read size.declared →
      IsLoadedInto base bytes old (front ++ drop size.declared old) answer
  loaded file front read images_are inside text_is e =
      let numbers = has_numbers bytes size s file in
      record {
        value = file.value;
        is_load_file = file.is_load_file;
        rest = file.rest;
        split = file.split;
        bases = bases;
        are_bases = are (table file.value) (file_header bytes file);
        fits = omega (arith, fits, numbers.declared_are);
        memory = ap₂ (λ (xs : List ℕ) (n : ℕ). xs ++ drop n old) images_are numbers.declared_are;
        answer_is = e ∙ same_answer 0 _ _ _ _ _ _ numbers.hunks_are (sym (length-take-le read bytes inside) ∙ ap (λ (l : List ℕ). length l) text_is) numbers.declared_are;
      }

  pub not_whole : (f : Fault) → HasFault bytes f.place f.reason → answer ≡ refused f → IsNotLoaded base (length old) bytes answer
  not_whole f h e =
      HasNoFile f h (λ t k. (omega (arith, fits, s.declared_are, ap declared_bytes (same_header bytes s.table t s.header k)), have_bases base bytes bases are t k)) e
