-- Longwords are read up to the end of a load file, to the first that is refused, or to their end.
use Rattle.std.proofs.Common.{◌≡◌, ℕ, ◌*◌, List, [], ◌∷◌, ◌++◌, length, refl, sym, ap, ap₂, subst, ◌∙◌, append_assoc, append-nil, Option, Some, None, ◌⊎◌, inl, inr}
use Rattle.std.specs.List.{AllByRecursion}
use Rattle.std.proofs.lemmas.List.{map-append}
use Rattle.hunk_words.specs.declared.reason.Reason.TheVariants as reasons
use Rattle.hunk_words.specs.{declared.reason.Reason.Reason, Longs.{longs, bytes_of, IsLong, AreLongs, IsBytes}}
use Rattle.hunk_files.specs.{LoadFile.{LoadFileValue, IsLoadFile}, LoadText.{text, labelled}}
use Rattle.hunk_files.specs.Fault.{Expects, HasRefusal, BeginsWithLoadFile, IsTruncated, HasFault, IsCompleted, completing, load_files}
use Rattle.hunk_files.specs.FileSteps.{Progress, AtFirst, Next, More, Finished, role_of, step_file, Leads}
use Rattle.hunk_files.specs.WordsRead.{HasRead, Labelled, IsAccepted, AreAccepted}
use Rattle.hunk_grammar.specs.Roles.{Role, refuse}
use Rattle.hunk_blocks.proofs.FaultScan.{Machine, Leads as LeadsOf, Reads as ReadsOf, one_fault as one_of, front_passes, whole_passes, ends_together}
use Rattle.hunk_blocks.proofs.{Outcomes.{Keeps, state_after, front, judged, expected_role}, Fronts.All-left, Lists.not_nil}
use Rattle.hunk_blocks.specs.Faults.{IsFront, words}
use Rattle.hunk_files.proofs.{walk.FileText.file_leads, walk.FileProgress.{Reads, step_keeps}, walk.Runs.{Leads-split, Leads-keeps, reads, start_read, step_read}}
use Rattle.hunk_files.proofs.{walk.Accepted.labelled_accepted, walk.Completion.{IsOwed, completes}}
use Rattle.hunk_words.proofs.LongLaws.{longs-bytes_of, bytes_of-append, spelled, longs_fit}

-- ---- a place in a load text

pub record IsReached (done : Labelled) (role : Role) (p : Progress) : Type 0 where
  pub leads : Leads (More AtFirst) done (More p)
  pub role_is : role_of p ≡ role
  pub reads : Reads (More p) done
  pub accepted : AreAccepted done

pub place_in : (v : LoadFileValue) → IsLoadFile v → (done : Labelled) (l : Role × ℕ) (more : Labelled) → labelled v ≡ done ++ l ∷ more → (p : Progress) × IsReached done l.0 p
place_in v h done l more e = go cut.0 cut.1 cut.2
  where
    cut : (b : Next) × Leads (More AtFirst) done b × Leads b (l ∷ more) (Finished v)
    cut = Leads-split (More AtFirst) (Finished v) done (l ∷ more) (subst (λ (ls : Labelled). Leads (More AtFirst) ls (Finished v)) e (file_leads v h))

    ok : AreAccepted done
    ok = All-left IsAccepted done (l ∷ more) (subst AreAccepted e (labelled_accepted v h))

    go : (b : Next) → Leads (More AtFirst) done b → Leads b (l ∷ more) (Finished v) → (p : Progress) × IsReached done l.0 p
    go (More p) a c = (p, record { leads = a; role_is = c.0; reads = Leads-keeps (More AtFirst) (More p) [] done (tt, refl) ok a; accepted = ok })
    go (Finished x) a c = absurd c

pub expected_place : (before : List ℕ) (role : Role) → (e : Expects before role) → (p : Progress) × IsReached e.done role p
expected_place before role e = place_in e.value e.is e.done (role, e.word) e.more e.labels

-- What was read so far is the front of a load text, which goes on by this role, and as it is completed.
pub record IsBegun (done : Labelled) (p : Progress) : Type 0 where
  pub value : LoadFileValue
  pub is_load_file : IsLoadFile value
  pub word : ℕ
  pub more : Labelled
  pub labels : labelled value ≡ done ++ (role_of p, word) ∷ more
  pub owed : AllByRecursion IsOwed ((role_of p, word) ∷ more)

accepted_of : (ls : Labelled) → AllByRecursion IsOwed ls → AreAccepted ls
accepted_of [] h = tt
accepted_of (l ∷ ls) h = (h.0.0, accepted_of ls h.1)

-- a run to the end ends in a load file of this text
ends_in : (n : Next) (done labels : Labelled) (v : LoadFileValue) → Reads n done → AllByRecursion IsOwed labels → Leads n labels (Finished v) → IsLoadFile v × (labelled v ≡ done ++ labels)
ends_in n done labels v h ok leads = Leads-keeps n (Finished v) done labels h (accepted_of labels ok) leads

front_by : (p : Progress) (done : Labelled) (v : LoadFileValue) → Reads (More p) done → (ls : Labelled) → Leads (More p) ls (Finished v) → AllByRecursion IsOwed ls → IsBegun done p
front_by p done v h [] leads ok = absurd cc
front_by p done v h (l ∷ ls) leads ok =
    let e : (l.0, l.1) ≡ (role_of p, l.1) = λ i. (sym leads.0 i, l.1) in
    let kept = ends_in (More p) done (l ∷ ls) v h ok leads in
    record {
      value = v;
      is_load_file = kept.0;
      word = l.1;
      more = ls;
      labels = kept.1 ∙ ap (λ (x : Role × ℕ). done ++ x ∷ ls) e;
      owed = (subst IsOwed e ok.0, ok.1);
    }

pub front_of : (p : Progress) (done : Labelled) → Reads (More p) done → IsBegun done p
front_of p done h = let c = completes (More p) h.0 in front_by p done c.value h c.labels c.leads c.accepted

pub expects_of : (p : Progress) (done : Labelled) → Reads (More p) done → Expects (words done) (role_of p)
expects_of p done h =
    let f = front_of p done h in
    record { value = f.value; is = f.is_load_file; done = done; word = f.word; more = f.more; labels = f.labels; begins = refl }

-- ---- the texts

pub text_fits : (ls : Labelled) → AreAccepted ls → AreLongs (words ls)
text_fits [] h = tt
text_fits (l ∷ ls) h = (h.0.0, text_fits ls h.1)

-- The longwords of bytes that begin with a load file.
pub begun_longs : (bytes : List ℕ) (h : BeginsWithLoadFile bytes) → longs bytes ≡ text h.value ++ longs h.rest
begun_longs bytes h = ap longs h.split ∙ longs-bytes_of (text h.value) h.rest (text_fits (labelled h.value) (labelled_accepted h.value h.is_load_file))

-- longwords cut in two cut their labels
pub record WordsSplit (ls : Labelled) (xs ys : List ℕ) : Type 0 where
  pub front : Labelled
  pub back : Labelled
  pub split : ls ≡ front ++ back
  pub front_words : words front ≡ xs
  pub back_words : words back ≡ ys

pub words_split : (ls : Labelled) (xs ys : List ℕ) → words ls ≡ xs ++ ys → WordsSplit ls xs ys
words_split ls [] ys e = record { front = []; back = ls; split = refl; front_words = refl; back_words = e }
words_split [] (x ∷ xs) ys e = absurd cc
words_split (l ∷ ls) (x ∷ xs) ys e =
    let head : l.1 ≡ x = cc in
    let tail : words ls ≡ xs ++ ys = cc in
    let r = words_split ls xs ys tail in
    record {
      front = l ∷ r.front;
      back = r.back;
      split = ap (λ (ms : Labelled). l ∷ ms) r.split;
      front_words = ap₂ (λ (w : ℕ) (ws : List ℕ). w ∷ ws) head r.front_words;
      back_words = r.back_words;
    }

-- ---- the laws

completing_of : (ls : Labelled) → AllByRecursion IsOwed ls → AllByRecursion (λ l. l.1 ≡ completing l.0) ls
completing_of [] h = tt
completing_of (l ∷ ls) h = (h.0.1, completing_of ls h.1)

-- An accepted longword goes on to a load text.
pub completed : (before : List ℕ) (role : Role) (word : ℕ) → Expects before role → IsLong word → refuse role word ≡ None → IsCompleted (before ++ word ∷ [])
completed before role word e l ok =
    let place = expected_place before role e in
    let p = place.0 in
    let r = place.1 in
    let k = step_keeps p word r.reads.0 l (ap (λ (x : Role). refuse x word) r.role_is ∙ ok) in
    let done : Labelled = e.done ++ (role_of p, word) ∷ [] in
    let kept : Reads (step_file p word) done = (k.0, k.1 ∙ ap (λ (ls : Labelled). ls ++ (role_of p, word) ∷ []) r.reads.1) in
    let c = completes (step_file p word) kept.0 in
    let end = ends_in (step_file p word) done c.labels c.value kept c.accepted c.leads in
    record {
      value = c.value;
      is_load_file = end.0;
      done = done;
      more = c.labels;
      labels = end.1;
      begins = map-append (λ (x : Role × ℕ). x.1) e.done ((role_of p, word) ∷ []) ∙ ap (λ (ws : List ℕ). ws ++ word ∷ []) e.begins;
      completes = completing_of c.labels c.accepted;
    }

refusals_none : (ls : Labelled) → AreAccepted ls → AllByRecursion (λ l. refuse l.0 l.1 ≡ None) ls
refusals_none [] h = tt
refusals_none (l ∷ ls) h = (h.0.1, refusals_none ls h.1)

-- No longword of a load text is refused.
pub none_refused : (v : LoadFileValue) → IsLoadFile v → AllByRecursion (λ l. refuse l.0 l.1 ≡ None) (labelled v)
none_refused v h = refusals_none (labelled v) (labelled_accepted v h)

-- ---- the machine of load files

abbrev expects : Next → Option Role
expects (More p) = Some (role_of p)
expects (Finished v) = None

-- nothing is read after the end
abbrev next : Next → ℕ → Next
next (More p) w = step_file p w
next (Finished v) w = Finished v

abbrev pub load_reader : Machine Next Role
load_reader = record { start = More AtFirst; expects = expects; step = next }

leads_to : (n end : Next) (ls : Labelled) → Leads n ls end → LeadsOf load_reader n ls end
leads_to n end [] h = h
leads_to (More p) end (l ∷ ls) h = (ap (λ (r : Role). Some r) h.0, leads_to (step_file p l.1) end ls h.1)
leads_to (Finished v) end (l ∷ ls) h = absurd h

load_leads : (v : LoadFileValue) → IsLoadFile v → LeadsOf load_reader (More AtFirst) (labelled v) (Finished v)
load_leads v h = leads_to (More AtFirst) (Finished v) (labelled v) (file_leads v h)

pub load_reads : ReadsOf load_files load_reader
load_reads = record { end = λ v. Finished v; leads = load_leads; passes = none_refused }

-- One text has one value, whatever follows it, and none begins another.
pub one_front : (a b : LoadFileValue) (xs ys : List ℕ) → IsLoadFile a → IsLoadFile b → text a ++ xs ≡ text b ++ ys → (a ≡ b) × (xs ≡ ys)
one_front a b xs ys h k e =
    let end = ends_together load_reader (More AtFirst) (Finished a) (Finished b) (labelled a) (labelled b) xs ys (load_leads a h) (load_leads b k) refl refl e in
    (cc end.0, end.1)

pub one_value : (a b : LoadFileValue) (more : List ℕ) → IsLoadFile a → IsLoadFile b → text a ++ more ≡ text b → (a ≡ b) × (more ≡ [])
one_value a b more h k e = one_front a b more [] h k (e ∙ sym (append-nil (text b)))

-- Two places after the same longwords are one.
pub one_role : (before : List ℕ) (r s : Role) → Expects before r → Expects before s → r ≡ s
one_role before r s e f =
    let same : Some r ≡ Some s = sym (expected_role load_files load_reader load_reads before r e) ∙ expected_role load_files load_reader load_reads before s f in
    cc

unfoldable pub keeps : Keeps load_files load_reader
keeps = record { SoFar = λ n ws. HasRead ws n; begins = start_read; expects = expected; goes_on = go; ends = ended }
  where
    expected : (s : Next) (before : List ℕ) (role : Role) → HasRead before s → expects s ≡ Some role → Expects before role
    expected (More p) before role h e =
        let same : role_of p ≡ role = cc in
        subst (λ (r : Role). Expects before r) same (subst (λ (ws : List ℕ). Expects ws (role_of p)) h.all (expects_of p h.done (reads h)))
    expected (Finished v) before role h e = absurd cc

    go : (s : Next) (before : List ℕ) (role : Role) (w : ℕ) → HasRead before s → expects s ≡ Some role → IsLong w → refuse role w ≡ None → HasRead (before ++ w ∷ []) (next s w)
    go (More p) before role w h e l ok = let same : role_of p ≡ role = cc in step_read before p w h l (ap (λ (r : Role). refuse r w) same ∙ ok)
    go (Finished v) before role w h e l ok = absurd cc

    ended : (s : Next) (before : List ℕ) → HasRead before s → expects s ≡ None → (v : LoadFileValue) × IsLoadFile v × (words (labelled v) ≡ before)
    ended (More p) before h e = absurd cc
    ended (Finished v) before h e = (v, (reads h).0, ap words (reads h).1 ∙ h.all)

-- Some load text begins with what was read.
pub read_front : (ws : List ℕ) (n : Next) → HasRead ws n → IsFront load_files ws
unfolding keeps
read_front ws n h = front load_files load_reader keeps n ws h

-- ---- one of the three holds

-- Where all longwords were read and none ends a file, the input is too short.
pub truncated_of : (bytes : List ℕ) (p : Progress) → HasRead (longs bytes) (More p) → IsTruncated bytes (4 * length (longs bytes))
truncated_of bytes p h =
    let f = front_of p h.done (reads h) in
    let more : List ℕ = f.word ∷ words f.more in
    let begins : text f.value ≡ longs bytes ++ more = ap words f.labels ∙ map-append (λ (x : Role × ℕ). x.1) h.done ((role_of p, f.word) ∷ f.more) ∙ ap (λ (ws : List ℕ). ws ++ more) h.all in
    record {
      place = refl;
      not_whole = λ b.
          let whole = one_value b.value f.value (longs b.rest ++ more) b.is_load_file f.is_load_file (sym (append_assoc (text b.value) (longs b.rest) more) ∙ ap (λ (ws : List ℕ). ws ++ more) (sym (begun_longs bytes b)) ∙ sym begins) in
          not_nil (longs b.rest) f.word (words f.more) whole.1;
      front = record { value = f.value; is = f.is_load_file; more = more; begins = begins };
    }

-- a load text stands in front of the longwords
pub begins_with : (bytes : List ℕ) → IsBytes bytes → (v : LoadFileValue) → IsLoadFile v → (rest : List ℕ) → longs bytes ≡ text v ++ rest → BeginsWithLoadFile bytes
begins_with bytes fit v is rest e =
    let b = spelled bytes fit in
    record {
      value = v;
      is_load_file = is;
      rest = bytes_of rest ++ b.over;
      split = b.split ∙ ap (λ (ws : List ℕ). bytes_of ws ++ b.over) e ∙ ap (λ (bs : List ℕ). bs ++ b.over) (bytes_of-append (text v) rest) ∙ append_assoc (bytes_of (text v)) (bytes_of rest) b.over;
    }

-- Bytes begin with a load file or have a fault.
pub some_outcome : (bytes : List ℕ) → IsBytes bytes → BeginsWithLoadFile bytes ⊎ ((at : ℕ) × (reason : Reason) × HasFault bytes at reason)
unfolding keeps
some_outcome bytes fit = elim (judged load_files load_reader keeps (longs bytes) (longs_fit bytes fit)) [
  | inl h ↦ inl (begins_with bytes fit h.value h.is h.rest h.split)
  | inr (inl h) ↦ inr (h.at, h.reason, inl h.refusal)
  | inr (inr h) ↦ all_read (state_after load_reader (More AtFirst) (longs bytes)) h
]
  where
    all_read : (n : Next) → HasRead (longs bytes) n → BeginsWithLoadFile bytes ⊎ ((at : ℕ) × (reason : Reason) × HasFault bytes at reason)
    all_read (More p) h = inr (4 * length (longs bytes), reasons.Truncated, inr (refl, truncated_of bytes p h))
    all_read (Finished v) h = inl (begins_with bytes fit v (reads h).0 [] (sym h.all ∙ sym (ap words (reads h).1) ∙ sym (append-nil (text v))))

-- A longword is refused, or the input is too short: not both.
pub not_truncated : (bytes : List ℕ) (at : ℕ) (reason : Reason) (at' : ℕ) → HasRefusal bytes at reason → IsTruncated bytes at' → ⊥
not_truncated bytes at reason at' h t = front_passes load_files load_reader load_reads (longs bytes) at reason h t.front

-- They have one fault.
pub one_fault : (bytes : List ℕ) (at : ℕ) (reason : Reason) (at' : ℕ) (reason' : Reason) → HasFault bytes at reason → HasFault bytes at' reason' → (at ≡ at') × (reason ≡ reason')
one_fault bytes at reason at' reason' = one_of load_files load_reader load_reads (longs bytes) (IsTruncated bytes) (λ n t. (t.place, t.front)) at at' reason reason'

-- And none where they begin with a load file.
pub no_fault : (bytes : List ℕ) (at : ℕ) (reason : Reason) → BeginsWithLoadFile bytes → HasFault bytes at reason → ⊥
unfolding load_reads
no_fault bytes at reason h (inl k) = whole_passes load_files load_reader load_reads h.value h.is_load_file refl (longs bytes) (longs h.rest) at reason (begun_longs bytes h) k
no_fault bytes at reason h (inr k) = k.1.not_whole h
