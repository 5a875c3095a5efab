-- Runs of the reader: cut in two, determined by their longwords, and keeping what fits.
use Rattle.std.proofs.Common.{◌≡◌, ℕ, List, [], ◌∷◌, ◌++◌, refl, sym, ap, ap₂, subst, ◌∙◌, append_assoc, append-nil, None}
use Rattle.std.proofs.lemmas.List.{map-append}
use Rattle.hunk_words.specs.Longs.{IsLong}
use Rattle.hunk_grammar.specs.Roles.{Role, refuse}
use Rattle.hunk_blocks.proofs.Lists.{All-append}
use Rattle.hunk_blocks.specs.Faults.{words}
use Rattle.hunk_files.specs.WordsRead.{HasRead, Labelled, IsAccepted, AreAccepted}
use Rattle.hunk_files.specs.FileSteps.{Progress, AtFirst, Next, More, Finished, role_of, step_file, Leads}
use Rattle.hunk_files.proofs.{walk.FileText.Leads-append, walk.FileProgress.{Reads, step_keeps}}

pub Leads-split : (a c : Next) (ls ms : Labelled) → Leads a (ls ++ ms) c → (b : Next) × Leads a ls b × Leads b ms c
Leads-split a c [] ms h = (a, refl, h)
Leads-split (More p) c (l ∷ ls) ms h =
    let rest = Leads-split (step_file p l.1) c ls ms h.1 in
    (rest.0, (h.0, rest.1), rest.2)
Leads-split (Finished v) c (l ∷ ls) ms h = absurd h

-- The longwords alone determine the roles and the end.
pub Leads-same : (a b c : Next) (ls ms : Labelled) → Leads a ls b → Leads a ms c → words ls ≡ words ms → (ls ≡ ms) × (b ≡ c)
Leads-same a b c [] [] h k e = (refl, sym h ∙ k)
Leads-same a b c [] (m ∷ ms) h k e = absurd cc
Leads-same a b c (l ∷ ls) [] h k e = absurd cc
Leads-same (Finished v) b c (l ∷ ls) (m ∷ ms) h k e = absurd h
Leads-same (More p) b c (l ∷ ls) (m ∷ ms) h k e =
    let head : l.1 ≡ m.1 = cc in
    let tail : words ls ≡ words ms = cc in
    let rest = Leads-same (step_file p l.1) b c ls ms h.1 (subst (λ (w : ℕ). Leads (step_file p w) ms c) (sym head) k.1) tail in
    (ap₂ (λ (x : Role × ℕ) (xs : Labelled). x ∷ xs) (λ i. ((sym h.0 ∙ k.0) i, head i)) rest.0, rest.1)

-- A run over longwords that pass keeps what fits, and adds them to the text.
pub Leads-keeps : (a b : Next) (before ls : Labelled) → Reads a before → AreAccepted ls → Leads a ls b → Reads b (before ++ ls)
Leads-keeps a b before [] h ok leads = subst (λ (x : Next). Reads x (before ++ [])) leads (h.0, h.1 ∙ sym (append-nil before))
Leads-keeps (Finished v) b before (l ∷ ls) h ok leads = absurd leads
Leads-keeps (More p) b before (l ∷ ls) h ok leads =
    let role : role_of p ≡ l.0 = leads.0 in
    let one = step_keeps p l.1 h.0 ok.0.0 (subst (λ (r : Role). refuse r l.1 ≡ None) (sym role) ok.0.1) in
    subst (λ (ms : Labelled). Reads b ms) (append_assoc before (l ∷ []) ls)
    (Leads-keeps (step_file p l.1) b (before ++ l ∷ []) ls
    (one.0, one.1 ∙ ap₂ (λ (ms : Labelled) (r : Role). ms ++ (r, l.1) ∷ []) h.1 role)
    ok.1 leads.1)

-- ---- what was read

-- What was read fits, and is the text so far.
pub reads : {ws : List ℕ} {n : Next} (h : HasRead ws n) → Reads n h.done
reads {ws} {n} h = Leads-keeps (More AtFirst) n [] h.done (tt, refl) h.accepted h.leads

pub start_read : HasRead [] (More AtFirst)
start_read = record { done = []; leads = refl; accepted = tt; all = refl }

-- One more longword is read.
pub step_read : (ws : List ℕ) (p : Progress) (w : ℕ) → HasRead ws (More p) → IsLong w → refuse (role_of p) w ≡ None → HasRead (ws ++ w ∷ []) (step_file p w)
step_read ws p w h l ok =
    record {
      done = h.done ++ (role_of p, w) ∷ [];
      leads = Leads-append (More AtFirst) (More p) (step_file p w) h.done ((role_of p, w) ∷ []) h.leads (refl, refl);
      accepted = All-append IsAccepted h.done ((role_of p, w) ∷ []) h.accepted ((l, ok), tt);
      all = map-append (λ (x : Role × ℕ). x.1) h.done ((role_of p, w) ∷ []) ∙ ap (λ (xs : List ℕ). xs ++ w ∷ []) h.all;
    }
