-- How far the longwords of a file are read: to its end, or to its fault.
use Rattle.std.proofs.Common.{◌≡◌, ℕ, suc, ◌+◌, ◌-◌, ◌/◌, ◌<◌, ◌≤◌, List, [], ◌∷◌, ◌++◌, length, take, refl, sym, ap, subst, ◌∙◌, append_assoc, append-nil, length-append, arith, inl, inr}
use Rattle.std.proofs.lemmas.List.{length-take-le, take_all, take_at}
use Rattle.hunk_words.specs.{declared.reason.Reason.Reason, Longs.longs}
use Rattle.hunk_words.proofs.LongLaws.{length-bytes_of, length-longs}
use Rattle.hunk_blocks.specs.Faults.{Expects, Grammar, HasRefusal, IsFront, words}
use Rattle.hunk_blocks.proofs.{FaultLaws.words-append, FaultScan.{Machine, Reads, front_passes}, Lists.not_nil}
use Rattle.hunk_files.specs.Fault.{BeginsWithLoadFile, HasFault, HasLoadText, load_files}
use Rattle.hunk_files.specs.LoadText.{text}
use Rattle.hunk_files.specs.ObjectFault.{HasObjectFault, objects}
use Rattle.hunk_files.specs.ObjectFile.{ObjectFileValue, IsObjectFile, object_text}
use Rattle.hunk_words.specs.Longs.{bytes_of}
use Rattle.hunk_files.proofs.{cuts.LoadCuts.begins, cuts.UnitReading.text_longs}
use Rattle.hunk_files.proofs.walk.Scan.{begun_longs, load_reader, load_reads, one_value}
use Rattle.hunk_files.proofs.object_walk.{OneObjectFault.{object_reads, reader}, UnitFaults.units_words}
use Rattle.hunk_grammar.specs.declared.object_position.WordPlace.TheVariants.{BeforeUnits}
use Rattle.hunk_c.specs.FrontPlaces.{ReadsUpTo}

take-append-add : (xs ys : List ℕ) (n : ℕ) → take (length xs + n) (xs ++ ys) ≡ xs ++ take n ys
take-append-add [] ys n = let e : 0 + n ≡ n = omega arith in ap (λ (k : ℕ). take k ys) e
take-append-add (x ∷ xs) ys n =
    let e : suc (length xs) + n ≡ suc (length xs + n) = omega arith in
    ap (λ (k : ℕ). take k (x ∷ (xs ++ ys))) e ∙ ap (λ (l : List ℕ). x ∷ l) (take-append-add xs ys n)

-- some text is longer than what it goes on from
longer : {Value Role : Type 0} (g : Grammar Value Role) (ws : List ℕ) (role : Role) → (e : Expects g ws role) → words (g.labelled e.value) ≡ ws ++ e.word ∷ words e.more
longer g ws role e = ap words e.labels ∙ words-append e.done ((role, e.word) ∷ e.more) ∙ ap (λ (xs : List ℕ). xs ++ e.word ∷ words e.more) e.begins

pub front_of : {Value Role : Type 0} (g : Grammar Value Role) (ws : List ℕ) (role : Role) → Expects g ws role → IsFront g ws
front_of g ws role e = record { value = e.value; is = e.is; more = e.word ∷ words e.more; begins = longer g ws role e }

-- Longwords up to one that is refused are read up to there.
module _ {Value State Role : Type 0} (g : Grammar Value Role) (m : Machine State Role) (r : Reads g m) (ws : List ℕ) (at : ℕ) (reason : Reason) (h : HasRefusal g ws at reason) where
  before : ℕ
  before = length h.before

  beyond : (k : ℕ) → before < k → k ≤ length ws → HasRefusal g (take k ws) at reason
  unfolding before
  beyond k l inside =
      let more : ℕ = k - (before + 1) in
      let sum : k ≡ before + suc more = omega (arith, l) in
      record {
        before = h.before;
        word = h.word;
        after = take more h.after;
        role = h.role;
        split = ap (λ (n : ℕ). take n ws) sum ∙ ap (take (before + suc more)) h.split ∙ take-append-add h.before (h.word ∷ h.after) (suc more);
        place = h.place;
        expects = h.expects;
        refuses = h.refuses;
      }

  pub refused_reads : ReadsUpTo g ws (at / 4)
  unfolding before
  refused_reads =
      let here : at / 4 ≡ before = omega (arith, h.place) in
      let size = ap length h.split ∙ length-append h.before (h.word ∷ h.after) in
      subst (ReadsUpTo g ws) (sym here)
      (record {
        inside = omega (arith, size);
        front = subst (IsFront g) (sym (ap (take before) h.split ∙ take_at h.before (h.word ∷ h.after) before refl)) (front_of g h.before h.role h.expects);
        stops = λ k role l inside e. front_passes g m r (take k ws) at reason (beyond k l inside) (front_of g (take k ws) role e);
      })

-- Longwords that a text begins with are read to their end.
pub all_reads : {Value Role : Type 0} (g : Grammar Value Role) (ws : List ℕ) → IsFront g ws → ReadsUpTo g ws (length ws)
all_reads g ws f =
    record {
      inside = omega arith;
      front = subst (IsFront g) (sym (take_all (length ws) ws (omega arith))) f;
      stops = λ k role l inside e. absurd (omega (arith, l, inside));
    }

-- ---- load files

pub fault_reads : (bytes : List ℕ) (at : ℕ) (reason : Reason) → HasFault bytes at reason → ReadsUpTo load_files (longs bytes) (at / 4)
fault_reads bytes at reason (inl h) = refused_reads load_files load_reader load_reads (longs bytes) at reason h
fault_reads bytes at reason (inr h) =
    let here : at / 4 ≡ length (longs bytes) = omega (arith, h.1.place) in
    subst (ReadsUpTo load_files (longs bytes)) (sym here) (all_reads load_files (longs bytes) h.1.front)

file_reads : (bytes : List ℕ) (b : BeginsWithLoadFile bytes) → ReadsUpTo load_files (longs bytes) (length (text b.value))
file_reads bytes b =
    let v = b.value in
    let split = begun_longs bytes b in
    let n : ℕ = length (text v) in
    record {
      inside = omega (arith, ap length split, length-append (text v) (longs b.rest));
      front = record { value = v; is = b.is_load_file; more = []; begins = sym (ap (take n) split ∙ take_at (text v) (longs b.rest) n refl) ∙ sym (append-nil (take n (longs bytes))) };
      stops = λ k role l inside e.
          let more : ℕ = k - n in
          let sum : k ≡ n + more = omega (arith, l) in
          let cut : take k (longs bytes) ≡ text v ++ take more (longs b.rest) = ap (λ (j : ℕ). take j (longs bytes)) sum ∙ ap (take (n + more)) split ∙ take-append-add (text v) (longs b.rest) more in
          let all = longer load_files (take k (longs bytes)) role e in
          let rest : List ℕ = take more (longs b.rest) ++ e.word ∷ words e.more in
          let whole : text v ++ rest ≡ text e.value = sym (append_assoc (text v) (take more (longs b.rest)) (e.word ∷ words e.more)) ∙ ap (λ (xs : List ℕ). xs ++ e.word ∷ words e.more) (sym cut) ∙ sym all in
          not_nil (take more (longs b.rest)) e.word (words e.more) (one_value v e.value rest b.is_load_file e.is whole).1;
    }

pub text_reads : (bytes : List ℕ) (size : ℕ) → HasLoadText bytes size → ReadsUpTo load_files (longs bytes) (size / 4)
text_reads bytes size h =
    let here : size / 4 ≡ length (text h.value) = omega (arith, ap length h.text_is, length-bytes_of (text h.value), length-take-le size bytes h.whole) in
    subst (ReadsUpTo load_files (longs bytes)) (sym here) (file_reads bytes (begins bytes size h))

-- ---- object files

pub object_fault_reads : (bytes : List ℕ) (at : ℕ) (reason : Reason) → HasObjectFault bytes at reason → ReadsUpTo objects (longs bytes) (at / 4)
object_fault_reads bytes at reason (inl h) = refused_reads objects reader object_reads (longs bytes) at reason h
object_fault_reads bytes at reason (inr h) =
    let here : at / 4 ≡ length (longs bytes) = omega (arith, h.1.place) in
    subst (ReadsUpTo objects (longs bytes)) (sym here) (all_reads objects (longs bytes) h.1.front)

pub object_text_reads : (bytes : List ℕ) (o : ObjectFileValue) → IsObjectFile o → bytes ≡ bytes_of (object_text o) → ReadsUpTo objects (longs bytes) (length bytes / 4)
object_text_reads bytes o is e =
    let begins = units_words BeforeUnits o ∙ sym (text_longs bytes o is.units e) ∙ sym (append-nil (longs bytes)) in
    subst (ReadsUpTo objects (longs bytes)) (length-longs bytes)
    (all_reads objects (longs bytes) (record { value = o; is = (is.some, is.units); more = []; begins = begins }))
