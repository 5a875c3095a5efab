-- A loader that has refused a piece answers its refusal again.
use Rattle.std.proofs.Common.{◌≡◌, ◌==◌, ◌||◌, ℕ, List, IsTrue, refl, sym, subst, ◌∙◌}
use Rattle.hunk_words.specs.Reasons.{number_of}
use Rattle.hunk_words.specs.declared.fault.Fault.{Fault}
use Rattle.hunk_files.specs.declared.row.Row.{Row}
use Rattle.hunk_scatter.specs.LoaderReasons.{between}
use Rattle.hunk_c.specs.Answers.{refused}
use Rattle.hunk_c.specs.Loaders.{HasRefusedPiece, Stands, TellsAgain, TellsFault, TellsNone, TellsRefusal, TellsStrange, refusing}
use Rattle.hunk_c.specs.Streams.{Ends, HadRefused, HasNoEnd, HasNoWant, HasRefused, HasTaken, HasWant, Feeds, IsCutShort, IsStrange, IsWhole, RefusesPiece, StaysRefused, Wants}
use Rattle.hunk_c.specs.declared.answer.Answer.{Answer}
use Rattle.hunk_c.specs.declared.loader.Loader.{Loader}

pub has_refused : (rows : List Row) (old : Loader) (memory fed piece : List ℕ) (f : Fault) → Stands rows old memory fed → RefusesPiece rows old memory piece f
    → HasRefusedPiece (refusing old f) f
has_refused rows old memory fed piece f stood r = record {
  rows = rows;
  old = old;
  memory = memory;
  fed = fed;
  piece = piece;
  stood = stood;
  refuses = r.refuses fed stood;
  as_it_stood = refl;
  tells = record { place = refl; number = refl; hunk = refl; own_reason = r.own_reason; whole_longs = r.whole_longs };
}

-- ---- a refusal is told by one answer

not_clean : (l : Loader) (f : Fault) → TellsFault l f → TellsNone l → ⊥
not_clean l f t none =
    let zero : number_of f.reason ≡ 0 = sym t.number ∙ none.number in
    cc (subst (λ (n : ℕ). IsTrue (n == 3 || n == 9 || between 11 24 n)) zero t.own_reason)

one_told : (l : Loader) (f g : Fault) → TellsFault l f → TellsFault l g → refused g ≡ refused f
one_told l f g t u =
    λ i. record { number = (sym u.number ∙ t.number) i; hunk = (sym u.hunk ∙ t.hunk) i; place = (sym u.place ∙ t.place) i; count = 0 }

again : (l : Loader) (f : Fault) → HasRefusedPiece l f → (a : Answer) → TellsAgain l a → a ≡ refused f
again l f r a (TellsRefusal at g h e) = e ∙ one_told l f g r.tells h.tells
again l f r a (TellsStrange h e) = absurd (h.has_refused f r)

not_standing : (l : Loader) (f : Fault) → HasRefusedPiece l f → TellsNone l → ⊥
not_standing l f r none = not_clean l f r.tells none

-- ---- what later calls answer

pub feed_again : (l : Loader) (f : Fault) → HasRefusedPiece l f → (rows : List Row) (new : Loader) (memory after piece : List ℕ) (a : Answer)
    → Feeds rows l new memory after piece a → StaysRefused l new memory after f a
feed_again l f r rows new memory after piece a (HasTaken n h e) = absurd (not_standing l f r h.stood.clean)
feed_again l f r rows new memory after piece a (HasRefused g h n e) = absurd (not_standing l f r h.stood.clean)
feed_again l f r rows new memory after piece a (HadRefused h n m) = record { again = again l f r a h; same_loader = n; same_memory = m }
feed_again l f r rows new memory after piece a (IsStrange at s h n e) = absurd (not_standing l f r s.clean)

pub end_again : (l : Loader) (f : Fault) → HasRefusedPiece l f → (a : Answer) → Ends l a → a ≡ refused f
end_again l f r a (IsWhole at h e w) = absurd (not_standing l f r h.clean)
end_again l f r a (IsCutShort at h w e) = absurd (not_standing l f r h.clean)
end_again l f r a (HasNoEnd h) = again l f r a h

pub want_again : (l : Loader) (f : Fault) → HasRefusedPiece l f → (a : Answer) → Wants l a → a ≡ refused f
want_again l f r a (HasWant at owed h w e) = absurd (not_standing l f r h.clean)
want_again l f r a (HasNoWant h) = again l f r a h
