-- What a reader that takes longwords one by one has to know, in a few lemmas.
use Rattle.std.proofs.Common.{rules, ◌≡◌, ℕ, ◌*◌, List, [], ◌∷◌, ◌++◌, length, refl, sym, ap, subst, ◌∙◌, Some, None}
use Rattle.hunk_words.specs.{declared.reason.Reason.Reason, Longs.{longs}}
use Rattle.hunk_blocks.specs.Faults.{words}
use Rattle.hunk_files.specs.{LoadFile.{LoadFileValue, IsLoadFile}, LoadText.{text, labelled}}
use Rattle.hunk_files.specs.Fault.{Expects, HasRefusal}
use Rattle.hunk_files.specs.FileSteps.{Progress, AtFirst, Next, More, Finished, role_of, Leads}
use Rattle.hunk_files.specs.WordsRead.{HasRead, Labelled, IsAccepted, AreAccepted}
use Rattle.hunk_grammar.specs.Roles.{refuse}
use Rattle.hunk_files.proofs.walk.FileText.{file_leads}
pub use Rattle.hunk_files.proofs.walk.Runs.{reads, start_read, step_read}
use Rattle.hunk_files.proofs.{walk.Runs.{Leads-split, Leads-same}, walk.Accepted.labelled_accepted}
use Rattle.hunk_files.proofs.walk.Scan.{words_split, expects_of}
use Rattle.hunk_blocks.proofs.{Fronts.{All-left, All-right}}

-- The longwords alone determine where they lead.
pub one_place : (ws : List ℕ) (n m : Next) → HasRead ws n → HasRead ws m → n ≡ m
one_place ws n m h k = (Leads-same (More AtFirst) n m h.done k.done h.leads k.leads (h.all ∙ sym k.all)).1

-- A longword that is refused here is the fault.
pub read_refused : (bytes ws : List ℕ) (p : Progress) (w : ℕ) (after : List ℕ) (reason : Reason) → HasRead ws (More p) → longs bytes ≡ ws ++ w ∷ after → refuse (role_of p) w ≡ Some reason →
    HasRefusal bytes (4 * length ws) reason
read_refused bytes ws p w after reason h e no-pass =
    record {
      before = ws;
      word = w;
      after = after;
      role = role_of p;
      split = e;
      place = refl;
      expects = subst (λ (xs : List ℕ). Expects xs (role_of p)) h.all (expects_of p h.done (reads h));
      refuses = no-pass;
    }

-- At the end there is a load file of this text.
pub read_ended : (ws : List ℕ) (v : LoadFileValue) → HasRead ws (Finished v) → IsLoadFile v × (text v ≡ ws)
read_ended ws v h = ((reads h).0, ap words (reads h).1 ∙ h.all)

-- what follows of longwords that were read further than these
module _ (ws : List ℕ) (n : Next) (h : HasRead ws n) (all : List ℕ) (last : Next) (k : HasRead all last) (more : List ℕ) (e : all ≡ ws ++ more) where
  pub rest_read : (ls : Labelled) × Leads n ls last × AreAccepted ls × (words ls ≡ more)
  rest_read =
      let s = words_split k.done ws more (k.all ∙ e) in
      let cut = Leads-split (More AtFirst) last s.front s.back (subst (λ (ls : Labelled). Leads (More AtFirst) ls last) s.split k.leads) in
      let same = Leads-same (More AtFirst) cut.0 n s.front h.done cut.1 h.leads (s.front_words ∙ sym h.all) in (
        s.back,
        subst (λ (m : Next). Leads m s.back last) same.1 cut.2,
        All-right IsAccepted s.front s.back (subst AreAccepted s.split k.accepted),
        s.back_words,
      )

-- A front of what was read was read.
pub front_read : (ws more : List ℕ) (last : Next) → HasRead (ws ++ more) last → (n : Next) × HasRead ws n
front_read ws more last h =
    let s = words_split h.done ws more h.all in
    let cut = Leads-split (More AtFirst) last s.front s.back (subst (λ (ls : Labelled). Leads (More AtFirst) ls last) s.split h.leads) in
    (cut.0, record { done = s.front; leads = cut.1; accepted = All-left IsAccepted s.front s.back (subst AreAccepted s.split h.accepted); all = s.front_words })

-- A load text is read to its end.
pub file_read : (v : LoadFileValue) → IsLoadFile v → HasRead (text v) (Finished v)
file_read v is = record { done = labelled v; leads = file_leads v is; accepted = labelled_accepted v is; all = refl }

first_passes : (p : Progress) (ls : Labelled) (v : LoadFileValue) (w : ℕ) (more : List ℕ) → Leads (More p) ls (Finished v) → AreAccepted ls → words ls ≡ w ∷ more → refuse (role_of p) w ≡ None
first_passes p [] v w more leads ok e = absurd cc
first_passes p (l ∷ ls) v w more leads ok e = search rules

-- No longword of a load text that goes on from here is refused.
pub read_passes : (ws : List ℕ) (p : Progress) → HasRead ws (More p) → (v : LoadFileValue) → IsLoadFile v → (w : ℕ) (more : List ℕ) → text v ≡ ws ++ w ∷ more → refuse (role_of p) w ≡ None
read_passes ws p h v is w more e =
    let r = rest_read ws (More p) h (text v) (Finished v) (file_read v is) (w ∷ more) e in
    first_passes p r.0 v w more r.1 r.2 r.3
