-- What follows from how a load ends.
use Rattle.std.proofs.Common.{rules, ◌≡◌, ℕ, ◌≤◌, List, [], ◌++◌, length, refl, sym, ap, subst, ◌∙◌, append-nil, arith, Some, None, ◌⊎◌, inl, inr}
use Rattle.std.specs.{Prelude.{IsTrue, IsSome}, Io.KnownBytes.Consumes}
use Rattle.hunk_words.specs.{Carriers.Supply, Longs.bytes_of, declared.fault.Fault.Fault, declared.reason.Reason.Reason}
use Rattle.hunk_words.specs.declared.reason.Reason.TheVariants as reasons
use Rattle.hunk_files.specs.{Fault.HasRefusal, Image.declared_bytes, LoadFile.{TableEntry, LoadFileValue, IsLoadFile}, LoadText.text}
use Rattle.hunk_scatter.specs.{LoaderReasons.{is_of_header, is_of_body}, HeaderBytes.{IsHeaderTable, header_bytes, IsHeaderFront}}
use Rattle.hunk_scatter.specs.{HeaderFaults.{ExceedsBudget, IsHeaderFaultBy}, Placing.{Placing, HasBases, IsUnplacedFor}, declared.loading.Limits.Limits}
use Rattle.hunk_scatter.specs.LoadOutcomes.{Gives, KeepsRest, IsNotPlaced, IsHeaderWithin, IsLoadFaultBy, IsLoadFault, GoesPastNoFile, StopsShort, KeepsToHeader, LoadStop, InHeader, Between, InBody}
use Rattle.hunk_scatter.proofs.{Feeding.fronts_of, HeaderFronts.table_within}

-- ---- what is read

keeps_rest : (given ys whole rest : List ℕ) → ((m : List ℕ) → given ≡ whole ++ m → m ≡ []) → whole ++ rest ≡ given ++ ys → (front : List ℕ) × (ys ≡ front ++ rest)
keeps_rest given ys whole rest none e = go (fronts_of given ys whole rest (sym e))
  where
    go : ((m : List ℕ) × (given ≡ whole ++ m) × (m ++ ys ≡ rest)) ⊎ ((m : List ℕ) × (whole ≡ given ++ m) × (ys ≡ m ++ rest)) → (front : List ℕ) × (ys ≡ front ++ rest)
    go (inl (m, p, q)) = ([], ap (λ (xs : List ℕ). xs ++ ys) (sym (none m p)) ∙ q)
    go (inr (m, p, q)) = (m, q)

-- what a source had is what it gave and what is left
pub record IsSplit (old new : Supply) (input given : List ℕ) : Type 0 where
  pub rest : List ℕ
  pub left_is : new.left ≡ Some rest
  pub split : input ≡ given ++ rest

pub split_of : (old new : Supply) (input given : List ℕ) → old.left ≡ Some input → Consumes old.left new.left given → IsSplit old new input given
split_of old new input given e c = search rules

keeps_after : (old new : Supply) (given whole rest : List ℕ) → Consumes old.left new.left given → ((m : List ℕ) → given ≡ whole ++ m → m ≡ []) → old.left ≡ Some (whole ++ rest) → KeepsRest new rest
keeps_after old new given whole rest c none e =
    let s = split_of old new (whole ++ rest) given e c in
    let k = keeps_rest given s.rest whole rest none s.split in
    (k.0, s.left_is ∙ ap (λ (xs : List ℕ). Some xs) k.1)

pub keeps_file : (old new : Supply) (limit : ℕ) (given : List ℕ) → Gives old new limit given → GoesPastNoFile given → (v : LoadFileValue) (rest : List ℕ) → IsLoadFile v → old.left ≡ Some (bytes_of (text v) ++ rest) → KeepsRest new rest
keeps_file old new limit given g w v rest is e = keeps_after old new given (bytes_of (text v)) rest g.consumed (λ m d. w v m is d) e

pub keeps_header : (base : Placing) (budget : ℕ) (old new : Supply) (limit : ℕ) (given : List ℕ) → Gives old new limit given → KeepsToHeader base budget given →
    (t : List TableEntry) (rest : List ℕ) → IsHeaderTable t → old.left ≡ Some (header_bytes t ++ rest) → IsNotPlaced base budget t → KeepsRest new rest
keeps_header base budget old new limit given g k t rest is e n = keeps_after old new given (header_bytes t) rest g.consumed (λ m d. go m (k t m is d) n) e
  where
    go : (m : List ℕ) → (m ≡ []) ⊎ ((declared_bytes t ≤ budget) × HasBases base t) → IsNotPlaced base budget t → m ≡ []
    go m (inl d) x = d
    go m (inr h) (inl less) = absurd (let le = h.0 in omega (arith, le, less))
    go m (inr h) (inr (hunk, inside, none)) = let some : IsSome {T = ℕ} None = subst IsSome none (h.1 hunk inside) in absurd cc

-- ---- the answers

module _ (base : Placing) (limits : Limits) (now : Supply) (given : List ℕ) (at : ℕ) where
  by_header : (r : Reason) → IsTrue (is_of_header r) → IsHeaderFaultBy r limits.budget given at → (r ≡ reasons.OutOfMemory → IsHeaderFront given) → IsLoadFaultBy r base limits now given at
  by_header reasons.Budget o h m = h
  by_header reasons.OutOfMemory o h m = (m refl, inl h)
  by_header reasons.FileLimit o h m = absurd cc
  by_header reasons.Read o h m = absurd cc
  by_header reasons.Truncated o h m = absurd cc
  by_header (reasons.NoBase i) o h m = absurd cc
  by_header reasons.ExtKind o h m = absurd cc
  by_header reasons.Advisory o h m = absurd cc
  by_header _ o h m = (h, refl)

  by_body : (r : Reason) → IsTrue (is_of_body r) → HasRefusal given at r → IsLoadFaultBy r base limits now given at
  by_body reasons.Budget o h = absurd cc
  by_body reasons.OutOfMemory o h = absurd cc
  by_body reasons.FileLimit o h = absurd cc
  by_body reasons.Read o h = absurd cc
  by_body reasons.Truncated o h = absurd cc
  by_body (reasons.NoBase i) o h = absurd cc
  by_body reasons.ExtKind o h = absurd cc
  by_body reasons.Advisory o h = absurd cc
  by_body _ o h = (h, refl)

  between : (r : Reason) (t : List TableEntry) → IsHeaderWithin limits.budget given t → IsUnplacedFor base t r → at ≡ length given → IsLoadFaultBy r base limits now given at
  between (reasons.NoBase hunk) t h u p = (t, h, u, p)
  between reasons.OutOfMemory t h u p = (record { table = t; is_table = h.is_table; more = []; fits = sym h.header ∙ sym (append-nil given) }, inr (t, h, u, p))
  between _ t h u p = absurd u

short_fault : (base : Placing) (limits : Limits) (now : Supply) (given : List ℕ) (f : Fault) → StopsShort limits.file_bytes now given f → ((at : ℕ) → ExceedsBudget limits.budget given at → ⊥) →
    IsLoadFault base limits now given f
short_fault base limits now given f s n = search rules

header_within_of : (budget : ℕ) (t : List TableEntry) (header more given : List ℕ) → IsHeaderWithin budget header t → given ≡ header ++ more → (at : ℕ) → ExceedsBudget budget given at → ⊥
header_within_of budget t header more given h e at p = table_within t h.is_table budget given more h.within (e ∙ ap (λ (xs : List ℕ). xs ++ more) h.header) at p

-- Each answer is as its reason says.
pub stop_is : (base : Placing) (limits : Limits) (now : Supply) (given : List ℕ) (f : Fault) → LoadStop base limits now given f → IsLoadFault base limits now given f
stop_is base limits now given f (InHeader (inl s)) = by_header base limits now given f.place f.reason s.own_reasons s.fault s.begins
stop_is base limits now given f (InHeader (inr (s, n))) = short_fault base limits now given f s n
stop_is base limits now given f (Between t h u p) = between base limits now given f.place f.reason t h u p
stop_is base limits now given f (InBody t header more h e (inl s)) = by_body base limits now given f.place f.reason s.own_reasons s.refusal
stop_is base limits now given f (InBody t header more h e (inr s)) = short_fault base limits now given f s (header_within_of limits.budget t header more given h e)
