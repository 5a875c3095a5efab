-- What calls answer, over all of them.
use Rattle.std.proofs.Common.{◌≡◌, ◌≤◌, ℕ, List, length, IsTrue, Result, ap, refl, sym, subst, arith, inl, inr}
use Rattle.hunk_words.specs.{Meanings.meaning_of, Reasons.{name_of, number_of}}
use Rattle.hunk_words.specs.declared.fault.Fault.{Fault}
use Rattle.hunk_words.specs.declared.reason.Reason.{Reason}
use Rattle.hunk_words.specs.declared.reason.Reason.TheVariants as reasons
use Rattle.hunk_files.specs.Fault.{HasFault, is_word_refusal}
use Rattle.hunk_files.specs.HunkFile.{IsRefusal}
use Rattle.hunk_files.specs.ObjectFile.{is_object_refusal}
use Rattle.hunk_files.specs.declared.hunk_file.HunkFile.{HunkFile}
use Rattle.hunk_files.specs.declared.row.Row.{Row}
use Rattle.hunk_files.proofs.{object_walk.ObjectRefusals.fault_other, walk.Refusals.refusal_of_word}
use Rattle.hunk_grammar.specs.declared.file_kind.Sniff.{Sniff}
use Rattle.hunk_grammar.specs.declared.file_kind.Sniff.TheVariants as sniffs
use Rattle.hunk_grammar.specs.declared.position.Position.{Position}
use Rattle.hunk_grammar.specs.declared.position.Position.TheVariants as positions
use Rattle.hunk_parts.specs.Builds as builds
use Rattle.hunk_parts.specs.Builds.{Builds}
use Rattle.hunk_parts.specs.declared.part_row.PartRow.{PartRow}
use Rattle.hunk_parts.specs.declared.row_fault.{BuiltSize.BuiltSize, NotBuilt.NotBuilt, RowRefusal.RowRefusal}
use Rattle.hunk_parts.specs.declared.row_fault.RowRefusal.TheVariants as why
use Rattle.hunk_parts.proofs.RowReasons.{IsOfRows, fault_of_rows, is_of_text}
use Rattle.hunk_scatter.specs.declared.stream.Standing.{Standing}
use Rattle.hunk_scatter.specs.{HeaderSizes.RefusesHeader, LoaderReasons.is_of_body, Placing.Placing}
use Rattle.hunk_c.specs.Answers.{is_answered, strange}
use Rattle.hunk_c.specs.Building.{Answers, built_answer, refusal_number}
use Rattle.hunk_c.specs.Loaders.{TellsAgain, TellsRefusal, TellsStrange, MayStand, MayStandAt, no_loader, loader_at, unrefused}
use Rattle.hunk_c.specs.Loads as loads
use Rattle.hunk_c.specs.Loads.{Loads, IsNotLoaded}
use Rattle.hunk_c.specs.LoadsAt.{LoadsAt, IsNotLoadedAt, HasNoFileAt, HasNoBaseAt}
use Rattle.hunk_c.specs.Names.{IsMeaningOf, IsNameOf, Means, Names, PutsText, HasText, HasNoText, OfReason, OfNoRoom, OfStrange, OfNone, MeansReason, MeansNoRoom, MeansStrange, MeansNothing}
use Rattle.hunk_c.specs.Fronts.{Fronts, HasNone, IsMade, LacksRoom}
use Rattle.hunk_c.specs.Plains as plains
use Rattle.hunk_c.specs.Plains.{Plains}
use Rattle.hunk_c.specs.Rows as lists
use Rattle.hunk_c.specs.Rows.{Lists}
use Rattle.hunk_c.specs.Streams.{Begins, HasBegun, LacksRoom, FitsNot, Ends, IsWhole, IsCutShort, HasNoEnd, Feeds, HasTaken, HasRefused, HadRefused, IsStrange, Wants, HasWant, HasNoWant}
use Rattle.hunk_c.specs.Tables as tables
use Rattle.hunk_c.specs.Tables.{Tables}
use Rattle.hunk_c.specs.declared.answer.Answer.{Answer}
use Rattle.hunk_c.specs.declared.loader.Loader.{Loader}
use Rattle.hunk_c.specs.Warnings.{Warns, LacksWorkRoom, ListsWarnings, warning_rows}
use Rattle.hunk_c.specs.declared.table.TableRow.{TableRow}
use Rattle.hunk_c.specs.declared.warnings.WarningRow.{WarningRow}

abbrev Told : Answer → Type 0
Told a = IsTrue (is_answered a.number)

told_by : (a b : Answer) → a ≡ b → Told b → Told a
told_by a b e h = subst Told (sym e) h

-- ---- reasons

of_word : (r : Reason) → IsTrue (is_word_refusal r) → IsTrue (is_answered (number_of r))
of_word reasons.Advisory h = absurd cc
of_word reasons.FileLimit h = absurd cc
of_word reasons.Read h = absurd cc
of_word reasons.OutOfMemory h = absurd cc
of_word _ h = refl

of_object : (r : Reason) → IsTrue (is_object_refusal r) → (r ≡ reasons.OutOfMemory → ⊥) → IsTrue (is_answered (number_of r))
of_object reasons.Advisory h other = absurd cc
of_object reasons.FileLimit h other = absurd cc
of_object reasons.Read h other = absurd cc
of_object reasons.OutOfMemory h other = absurd (other refl)
of_object _ h other = refl

of_body : (r : Reason) → IsTrue (is_of_body r) → IsTrue (is_answered (number_of r))
of_body reasons.Advisory h = absurd cc
of_body reasons.FileLimit h = absurd cc
of_body reasons.Read h = absurd cc
of_body reasons.OutOfMemory h = absurd cc
of_body _ h = refl

of_text : (r : Reason) → IsTrue (is_of_text r) → IsTrue (is_answered (number_of r))
of_text reasons.Advisory h = absurd cc
of_text reasons.FileLimit h = absurd cc
of_text reasons.Read h = absurd cc
of_text reasons.OutOfMemory h = absurd cc
of_text _ h = refl

of_rows : (r : RowRefusal) → IsOfRows r → IsTrue (is_answered (refusal_number r))
of_rows why.Strange h = refl
of_rows (why.Refused reason) h = of_text reason h

of_load : (bytes : List ℕ) (at : ℕ) (r : Reason) → HasFault bytes at r → IsTrue (is_answered (number_of r))
of_load bytes at r (inl h) = of_word r (refusal_of_word bytes at r h)
of_load bytes at r (inr h) = subst (λ (x : Reason). IsTrue (is_answered (number_of x))) (sym h.0) refl

of_refusal : (kind : Sniff) (bytes : List ℕ) (f : Fault) → IsRefusal kind bytes f → IsTrue (is_answered (number_of f.reason))
of_refusal sniffs.Object bytes f h = of_object f.reason h.1 (fault_other bytes f.place f.reason h.0)
of_refusal _ bytes f h = of_load bytes f.place f.reason h.0

of_header : (budget : ℕ) (bytes : List ℕ) (f : Fault) → RefusesHeader budget bytes f → IsTrue (is_answered (number_of f.reason))
of_header budget bytes f (inl h) = of_word f.reason (refusal_of_word bytes f.place f.reason h)
of_header budget bytes f (inr (inl h)) = subst (λ (x : Reason). IsTrue (is_answered (number_of x))) (sym h.0) refl
of_header budget bytes f (inr (inr h)) = subst (λ (x : Reason). IsTrue (is_answered (number_of x))) (sym h.0) refl

-- ---- calls

pub table_told : (budget : ℕ) (bytes : List ℕ) (old new : List TableRow) (a : Answer) → Tables budget bytes old new a → Told a
table_told budget bytes old new a (tables.HasTable t h b l n e) = told_by a _ e refl
table_told budget bytes old new a (tables.HasNoRows t h b l n e) = told_by a _ e refl
table_told budget bytes old new a (tables.HasNoTable f owed h k o n e) = told_by a _ e (of_header budget bytes f h)

not_loaded : (base : Placing) (room : ℕ) (bytes : List ℕ) (a : Answer) → IsNotLoaded base room bytes a → Told a
not_loaded base room bytes a (loads.HasNoFile f h k e) = told_by a _ e (of_load bytes f.place f.reason h)
not_loaded base room bytes a (loads.HasNoRoom t h l e) = told_by a _ e refl
not_loaded base room bytes a (loads.HasNoBase t hunk h l u e) = told_by a _ e refl

pub load_told : (base : Placing) (bytes old new : List ℕ) (a : Answer) → Loads base bytes old new a → Told a
load_told base bytes old new a (inl h) = told_by a _ h.answer_is refl
load_told base bytes old new a (inr h) = not_loaded base (length old) bytes a h.0

not_loaded_at : (base : Placing) (bytes : List ℕ) (a : Answer) → IsNotLoadedAt base bytes a → Told a
not_loaded_at base bytes a (HasNoFileAt f h k e) = told_by a _ e (of_load bytes f.place f.reason h)
not_loaded_at base bytes a (HasNoBaseAt t hunk h u e) = told_by a _ e refl

pub load_at_told : (base : Placing) (start : ℕ) (bytes old new : List ℕ) (a : Answer) → LoadsAt base start bytes old new a → Told a
load_at_told base start bytes old new a (inl h) = told_by a _ h.answer_is refl
load_at_told base start bytes old new a (inr h) = not_loaded_at base bytes a h.0

pub begin_told : (rows : List Row) (header : ℕ) (new : Loader) (memory after : List ℕ) (a : Answer) → Begins rows header new memory after a → Told a
begin_told rows header new memory after a (HasBegun s h z r e) = told_by a _ e refl
begin_told rows header new memory after a (LacksRoom bytes s l n m e) = told_by a _ e refl
begin_told rows header new memory after a (FitsNot s n m e) = told_by a _ e refl

again_told : (l : Loader) (a : Answer) → TellsAgain l a → Told a
again_told l a (TellsRefusal at f h e) = told_by a _ e (of_body f.reason h.tells.own_reason)
again_told l a (TellsStrange h e) = told_by a _ e refl

pub feed_told : (rows : List Row) (old new : Loader) (memory after piece : List ℕ) (a : Answer) → Feeds rows old new memory after piece a → Told a
feed_told rows old new memory after piece a (HasTaken n h e) = told_by a _ e refl
feed_told rows old new memory after piece a (HasRefused f h n e) = told_by a _ e (of_body f.reason h.own_reason)
feed_told rows old new memory after piece a (HadRefused h n m) = again_told old a h
feed_told rows old new memory after piece a (IsStrange at s h n e) = told_by a _ e refl

pub end_told : (l : Loader) (a : Answer) → Ends l a → Told a
end_told l a (IsWhole at h e w) = told_by a _ e refl
end_told l a (IsCutShort at h w e) = told_by a _ e refl
end_told l a (HasNoEnd h) = again_told l a h

pub want_told : (l : Loader) (a : Answer) → Wants l a → Told a
want_told l a (HasWant at owed h w e) = told_by a _ e refl
want_told l a (HasNoWant h) = again_told l a h

pub list_told : {A : Type 0} (rows : HunkFile → List A) (count : ℕ → ℕ) (bytes : List ℕ) (old new : List A) (a : Answer) → Lists rows count bytes old new a → Told a
list_told rows count bytes old new a (lists.HasRows file is fits n e) = told_by a _ e refl
list_told rows count bytes old new a (lists.HasNoRoom file is less n e) = told_by a _ e refl
list_told rows count bytes old new a (lists.HasNoFile f h n e) = told_by a _ e (of_refusal _ bytes f h.0)

pub warnings_told : (bytes : List ℕ) (room : ℕ) (old new : List WarningRow) (a : Answer) → Warns bytes room old new a → Told a
warnings_told bytes room old new a (LacksWorkRoom file is less n e) = told_by a _ e refl
warnings_told bytes room old new a (ListsWarnings l) = list_told warning_rows (λ n. n) bytes old new a l

pub plain_told : (bytes old new : List ℕ) (a : Answer) → Plains bytes old new a → Told a
plain_told bytes old new a (plains.IsWritten fits n e) = told_by a _ e refl
plain_told bytes old new a (plains.HasNoRoom less n e) = told_by a _ e refl

pub front_told : (bytes old new : List ℕ) (a : Answer) → Fronts bytes old new a → Told a
front_told bytes old new a (IsMade n file f c fits same e) = told_by a _ e refl
front_told bytes old new a (LacksRoom n file f c less same e) = told_by a _ e refl
front_told bytes old new a (HasNone none same e) = told_by a _ e refl

pub words_told : (words old new : List ℕ) (a : Answer) → PutsText words old new a → Told a
words_told words old new a (HasText fits n e) = told_by a _ e refl
words_told words old new a (HasNoText less n e) = told_by a _ e refl

-- ---- building

abbrev BuildTold : Result BuiltSize NotBuilt → Type 0
BuildTold r = Told (built_answer r)

module _ (bytes : List ℕ) (rows : List PartRow) (old new : List ℕ) where
  result_told : (r : Result BuiltSize NotBuilt) → Builds bytes rows old new r → BuildTold r
  result_told r (builds.IsBuilt file is fits same e) = subst BuildTold (sym e) refl
  result_told r (builds.LacksRoom file is less same e) = subst BuildTold (sym e) refl
  result_told r (builds.IsRefused f first none same e) =
      let told : IsTrue (is_answered (refusal_number f.refusal)) = of_rows f.refusal (fault_of_rows bytes rows f first) in
      subst BuildTold (sym e) told

  pub build_told : (a : Answer) → Answers bytes rows old new a → Told a
  build_told a h = told_by a _ h.is (result_told h.result h.builds)

-- ---- words

words_counted : (words old new : List ℕ) (a : Answer) → PutsText words old new a → a.count ≡ length words
words_counted words old new a (HasText fits n e) = ap (λ (x : Answer). x.count) e
words_counted words old new a (HasNoText less n e) = ap (λ (x : Answer). x.count) e

short_name : (r : Reason) → length (name_of r) ≤ 17
short_name reasons.NotLoadFile = omega arith
short_name _ = omega arith

pub name_short : (number : ℕ) (name : List ℕ) → IsNameOf number name → length name ≤ 17
name_short number name (OfReason r n e) = omega (arith, ap (λ (xs : List ℕ). length xs) e, short_name r)
name_short number name (OfNoRoom n e) = omega (arith, ap (λ (xs : List ℕ). length xs) e)
name_short number name (OfStrange n e) = omega (arith, ap (λ (xs : List ℕ). length xs) e)
name_short number name (OfNone n e) = omega (arith, ap (λ (xs : List ℕ). length xs) e)

short_meaning : (r : Reason) → length (meaning_of r) ≤ 75
short_meaning reasons.NotLoadFile = omega arith
short_meaning _ = omega arith

pub meaning_short : (number : ℕ) (words : List ℕ) → IsMeaningOf number words → length words ≤ 75
meaning_short number words (MeansReason r n e) = omega (arith, ap (λ (xs : List ℕ). length xs) e, short_meaning r)
meaning_short number words (MeansNoRoom n e) = omega (arith, ap (λ (xs : List ℕ). length xs) e)
meaning_short number words (MeansStrange n e) = omega (arith, ap (λ (xs : List ℕ). length xs) e)
meaning_short number words (MeansNothing n e) = omega (arith, ap (λ (xs : List ℕ). length xs) e)

pub names_short : (number : ℕ) (old new : List ℕ) (a : Answer) → Names number old new a → a.count ≤ 17
names_short number old new a h = omega (arith, words_counted h.0 old new a h.2, name_short number h.0 h.1)

pub meanings_short : (number : ℕ) (old new : List ℕ) (a : Answer) → Means number old new a → a.count ≤ 75
meanings_short number old new a h = omega (arith, words_counted h.0 old new a h.2, meaning_short number h.0 h.1)

-- ---- no loader

none_standing : (at : Standing) → unrefused no_loader ≡ loader_at at → MayStand at → ⊥
none_standing at e m = go at.state.position m.position
  where
    none : at.fed ≡ 0
    none = sym (ap (λ (x : Loader). x.fed) e)

    go : (p : Position) → MayStandAt at.state.hunk at.fed p → ⊥
    go (positions.Body o phase) h = omega (arith, h.1, none)
    go positions.Done h = omega (arith, h.2, none)
    go _ h = absurd h

again_strange : (a : Answer) → TellsAgain no_loader a → a ≡ strange
again_strange a (TellsRefusal at f h e) = absurd (none_standing at h.numbers h.may_stand)
again_strange a (TellsStrange h e) = e

pub feed_strange : (rows : List Row) (new : Loader) (memory after piece : List ℕ) (a : Answer) → Feeds rows no_loader new memory after piece a → a ≡ strange
feed_strange rows new memory after piece a (HasTaken n h e) = absurd (none_standing h.from h.stood.numbers h.stood.may_stand)
feed_strange rows new memory after piece a (HasRefused f h n e) = absurd (none_standing h.from h.stood.numbers h.stood.may_stand)
feed_strange rows new memory after piece a (HadRefused h n m) = again_strange a h
feed_strange rows new memory after piece a (IsStrange at s h n e) = e

pub end_strange : (a : Answer) → Ends no_loader a → a ≡ strange
end_strange a (IsWhole at h e w) = absurd (none_standing at h.numbers h.may_stand)
end_strange a (IsCutShort at h w e) = absurd (none_standing at h.numbers h.may_stand)
end_strange a (HasNoEnd h) = again_strange a h

pub want_strange : (a : Answer) → Wants no_loader a → a ≡ strange
want_strange a (HasWant at owed h w e) = absurd (none_standing at h.numbers h.may_stand)
want_strange a (HasNoWant h) = again_strange a h
