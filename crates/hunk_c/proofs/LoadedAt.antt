-- What a load comes to where each hunk has its own place, by its stages.
use Rattle.std.proofs.Common.{◌≡◌, ℕ, ◌-◌, ◌^◌, ◌≤◌, List, length, take, sym, ap, subst, ◌∙◌, inl, inr}
use Rattle.std.proofs.lemmas.List.{length-take-le}
use Rattle.hunk_words.specs.{Longs.bytes_of, declared.fault.Fault.Fault}
use Rattle.hunk_words.specs.declared.reason.Reason.TheVariants as reasons
use Rattle.hunk_files.specs.Fault.{BeginsWithLoadFile, HasFault}
use Rattle.hunk_files.specs.{LoadText.{table, text}}
use Rattle.hunk_files.proofs.walk.Scan.{no_fault}
use Rattle.hunk_scatter.specs.HeaderSizes.{HasHeaderInFront, HasHeaderSize, RefusesHeader}
use Rattle.hunk_scatter.specs.Placing.{Placing, HasBases, IsFirstUnplaced}
use Rattle.hunk_scatter.specs.declared.header_state.HeaderSize.{HeaderSize}
use Rattle.hunk_c.specs.{declared.answer.Answer.Answer, Answers.{refused, done}, Loads.AreBasesOf}
use Rattle.hunk_c.specs.LoadsAt.{HasHunks, IsLoadedAt, IsNotLoadedAt, LoadsAt, LoadsWhatIsPlaced, HasNoFileAt, HasNoBaseAt}
use Rattle.hunk_c.proofs.Loaded.{has_numbers, have_bases, header_fault, same_answer}
use Rattle.hunk_c.proofs.Succeeding.{file_header, same_header}

module _ (base : Placing) (bytes : List ℕ) (answer : Answer) where
  pub no_header_at : (f : Fault) → RefusesHeader (2 ^ 64 - 1) bytes f → (HasHeaderInFront bytes → f.reason ≡ reasons.Budget) → answer ≡ refused f → IsNotLoadedAt base bytes answer
  no_header_at f h k e = let none = header_fault bytes f h k in HasNoFileAt f none.0 (λ t b. absurd (none.1 (t, b))) e

  pub not_whole_at : (bases : List ℕ) → AreBasesOf base bytes bases → (f : Fault) → HasFault bytes f.place f.reason → answer ≡ refused f → IsNotLoadedAt base bytes answer
  not_whole_at bases are f h e = HasNoFileAt f h (have_bases base bytes bases are) e

  none_else_at : IsNotLoadedAt base bytes answer → (file : BeginsWithLoadFile bytes) → HasBases base (table file.value) → ⊥
  none_else_at (HasNoFileAt f h k e) file has = no_fault bytes f.place f.reason file h
  none_else_at (HasNoBaseAt t hunk h u e) file has =
      let placed : HasBases base t = subst (HasBases base) (same_header bytes _ t (file_header bytes file) h) has in
      let some = placed hunk u.inside in
      let none = u.none in
      absurd cc

  module _ (size : HeaderSize) (s : HasHeaderSize (2 ^ 64 - 1) bytes size) where
    pub no_base_at : (hunk : ℕ) → IsFirstUnplaced base s.table hunk → answer ≡ refused (record { place = size.bytes; reason = reasons.NoBase hunk }) → IsNotLoadedAt base bytes answer
    no_base_at hunk u e = HasNoBaseAt s.table hunk s.header u (e ∙ ap (λ (n : ℕ). refused (record { place = n; reason = reasons.NoBase hunk })) s.bytes_are)

    pub loaded_at : (start : ℕ) (old new bases : List ℕ) → AreBasesOf base bytes bases → (file : BeginsWithLoadFile bytes) → HasHunks start bases file.value old new →
        (read : ℕ) → read ≤ length bytes → take read bytes ≡ bytes_of (text file.value) → answer ≡ done size.hunks read size.declared → IsLoadedAt base start bytes old new answer
    loaded_at start old new bases are file has read inside text_is e =
        let numbers = has_numbers bytes size s file in
        record {
          value = file.value;
          is_load_file = file.is_load_file;
          rest = file.rest;
          split = file.split;
          bases = bases;
          are_bases = are (table file.value) (file_header bytes file);
          memory = has;
          answer_is = e ∙ same_answer 0 _ _ _ _ _ _ numbers.hunks_are (sym (length-take-le read bytes inside) ∙ ap (λ (l : List ℕ). length l) text_is) numbers.declared_are;
        }

-- So much of what a load comes to.
pub what_is_placed : (base : Placing) (start : ℕ) (bytes old new : List ℕ) (answer : Answer) → LoadsAt base start bytes old new answer → LoadsWhatIsPlaced base bytes answer
what_is_placed base start bytes old new answer (inl l) file has = ap (λ (a : Answer). a.number) l.answer_is
what_is_placed base start bytes old new answer (inr (n, same)) file has = absurd (none_else_at base bytes answer n file has)
