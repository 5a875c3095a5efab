-- Where longwords alone determine their roles, the first that is refused is one.
use Rattle.std.proofs.Common.{rules, ◌≡◌, ℕ, ◌+◌, ◌*◌, List, [], ◌∷◌, ◌++◌, length, refl, sym, ap, subst, ◌∙◌, Option, Some, None, ◌⊎◌, inl, inr}
use Rattle.std.specs.List.{AllByRecursion}
use Rattle.hunk_words.specs.declared.reason.Reason.{Reason}
use Rattle.hunk_words.specs.declared.reason.Reason.TheVariants as reasons
use Rattle.hunk_blocks.specs.Faults.{Grammar, words, Expects, HasRefusal, IsFront}

-- What is expected in a state, and where a longword leads from it.
pub record Machine (State Role : Type 0) : Type 0 where
  pub start : State
  pub expects : State → Option Role
  pub step : State → ℕ → State

module _ {State Role : Type 0} (m : Machine State Role) where
  -- From one state these longwords, each with the role that is expected, lead to another.
  abbrev pub Leads : State → List (Role × ℕ) → State → Type 0
  Leads s [] t = s ≡ t
  Leads s (l ∷ ls) t = (m.expects s ≡ Some l.0) × Leads (m.step s l.1) ls t

  pub Leads-append : (a b c : State) (ks ls : List (Role × ℕ)) → Leads a ks b → Leads b ls c → Leads a (ks ++ ls) c
  Leads-append a b c [] ls h k = subst (λ (x : State). Leads x ls c) (sym h) k
  Leads-append a b c (l ∷ ks) ls h k = (h.0, Leads-append (m.step a l.1) b c ks ls h.1 k)

  -- Two runs from one state, along the same longwords, that end where nothing is expected end together.
  pub ends_together : (s t u : State) (ks ls : List (Role × ℕ)) (xs ys : List ℕ) → Leads s ks t → Leads s ls u → m.expects t ≡ None → m.expects u ≡ None → words ks ++ xs ≡ words ls ++ ys → (t ≡ u) × (xs ≡ ys)
  ends_together s t u [] [] xs ys h k a b e = (sym h ∙ k, e)
  ends_together s t u [] (l ∷ ls) xs ys h k a b e = let clash : None ≡ Some l.0 = sym (ap m.expects h ∙ a) ∙ k.0 in absurd cc
  ends_together s t u (l ∷ ks) [] xs ys h k a b e = let clash : None ≡ Some l.0 = sym (ap m.expects k ∙ b) ∙ h.0 in absurd cc
  ends_together s t u (d ∷ ks) (l ∷ ls) xs ys h k a b e =
      let head : d.1 ≡ l.1 = cc in
      let tail : words ks ++ xs ≡ words ls ++ ys = cc in
      ends_together (m.step s d.1) t u ks ls xs ys h.1 (subst (λ (w : ℕ). Leads (m.step s w) ls u) (sym head) k.1) a b tail

module _ {State Role : Type 0} (m : Machine State Role) (refuse : Role → ℕ → Option Reason) where
  abbrev pub Passes : List (Role × ℕ) → Type 0
  Passes ls = AllByRecursion (λ l. refuse l.0 l.1 ≡ None) ls

  abbrev by_test : Option Reason → ℕ → Option (ℕ × Reason) → Option (ℕ × Reason)
  by_test (Some reason) at next = Some (at, reason)
  by_test None at next = next

  abbrev by_role : Option Role → ℕ → ℕ → Option (ℕ × Reason) → Option (ℕ × Reason)
  by_role (Some role) w at next = by_test (refuse role w) at next
  by_role None w at next = None

  -- The first longword that is refused, and its byte. Nothing is, where none is expected.
  first_refused : State → ℕ → List ℕ → Option (ℕ × Reason)
  first_refused s at [] = None
  first_refused s at (w ∷ ws) = by_role (m.expects s) w at (first_refused (m.step s w) (at + 4) ws)

  passed : (role : Role) (w at : ℕ) (o : Option Role) (next : Option (ℕ × Reason)) → o ≡ Some role → refuse role w ≡ None → by_role o w at next ≡ next
  passed role w at o next e ok = ap (λ (x : Option Role). by_role x w at next) e ∙ ap (λ (x : Option Reason). by_test x at next) ok

  scan_refused : (s t : State) (done : List (Role × ℕ)) (role : Role) (v w : ℕ) (more : List (Role × ℕ)) (after : List ℕ) (at : ℕ) (reason : Reason) → Leads m s (done ++ (role, v) ∷ more) t → Passes (done ++ (role, v) ∷ more) → refuse role w ≡ Some reason →
      first_refused s at (words done ++ w ∷ after) ≡ Some (at + 4 * length (words done), reason)
  unfolding first_refused
  scan_refused s t [] role v w more after at reason leads ok bad = search rules
  scan_refused s t (d ∷ done) role v w more after at reason leads ok bad =
      search (rules, scan_refused (m.step s d.1) t done role v w more after (at + 4) reason leads.1 ok.1 bad)

  -- Nothing of what a text begins with is refused.
  scan_front : (s t : State) (ls : List (Role × ℕ)) (ws more : List ℕ) (at : ℕ) → Leads m s ls t → Passes ls → words ls ≡ ws ++ more → first_refused s at ws ≡ None
  unfolding first_refused
  scan_front s t ls [] more at leads ok e = refl
  scan_front s t [] (w ∷ ws) more at leads ok e = absurd cc
  scan_front s t (l ∷ ls) (w ∷ ws) more at leads ok e =
      let same : l.1 ≡ w = cc in
      let tail : words ls ≡ ws ++ more = cc in
      passed l.0 w at (m.expects s) (first_refused (m.step s w) (at + 4) ws) leads.0 (ap (refuse l.0) (sym same) ∙ ok.0)
      ∙ scan_front (m.step s w) t ls ws more (at + 4) (subst (λ (x : ℕ). Leads m (m.step s x) ls t) same leads.1) ok.1 tail

  -- Nor of what has a text in front, after which nothing is expected.
  scan_whole : (s t : State) (ls : List (Role × ℕ)) (ws : List ℕ) (at : ℕ) → Leads m s ls t → Passes ls → m.expects t ≡ None → first_refused s at (words ls ++ ws) ≡ None
  unfolding first_refused
  scan_whole s t [] [] at leads ok end = refl
  scan_whole s t [] (w ∷ ws) at leads ok end = ap (λ (x : Option Role). by_role x w at (first_refused (m.step s w) (at + 4) ws)) (ap m.expects leads ∙ end)
  scan_whole s t (l ∷ ls) ws at leads ok end = passed l.0 l.1 at (m.expects s) (first_refused (m.step s l.1) (at + 4) (words ls ++ ws)) leads.0 ok.0 ∙ scan_whole (m.step s l.1) t ls ws (at + 4) leads.1 ok.1 end

-- The machine reads the texts of the grammar, and no longword of them is refused.
pub record Reads {Value State Role : Type 0} (g : Grammar Value Role) (m : Machine State Role) : Type 0 where
  pub end : Value → State
  pub leads : (v : Value) → g.Is v → Leads m m.start (g.labelled v) (end v)
  pub passes : (v : Value) → g.Is v → Passes m g.refuse (g.labelled v)

module _ {Value State Role : Type 0} (g : Grammar Value Role) (m : Machine State Role) (r : Reads g m) where
  refused_is : (ws : List ℕ) (at : ℕ) (reason : Reason) → HasRefusal g ws at reason → first_refused m g.refuse m.start 0 ws ≡ Some (at, reason)
  refused_is ws at reason h = search (rules, scan_refused)

  -- One longword is the first that is refused.
  pub one_refusal : (ws : List ℕ) (at at2 : ℕ) (reason reason2 : Reason) → HasRefusal g ws at reason → HasRefusal g ws at2 reason2 → (at ≡ at2) × (reason ≡ reason2)
  one_refusal ws at at2 reason reason2 h k =
      let both : ◌≡◌ {A = Option (ℕ × Reason)} (Some (at, reason)) (Some (at2, reason2)) = sym (refused_is ws at reason h) ∙ refused_is ws at2 reason2 k in
      let same : ◌≡◌ {A = ℕ × Reason} (at, reason) (at2, reason2) = cc in
      (ap (λ p. p.0) same, ap (λ p. p.1) same)

  -- and none of what a text begins with
  pub front_passes : (ws : List ℕ) (at : ℕ) (reason : Reason) → HasRefusal g ws at reason → IsFront g ws → ⊥
  front_passes ws at reason h f =
      let some = refused_is ws at reason h in
      let none = scan_front m g.refuse m.start (r.end f.value) (g.labelled f.value) ws f.more 0 (r.leads f.value f.is) (r.passes f.value f.is) f.begins in
      let clash : ◌≡◌ {A = Option (ℕ × Reason)} None (Some (at, reason)) = sym none ∙ some in
      cc

  -- so no text goes on with a longword that is refused
  pub none_goes_on : (before : List ℕ) (role : Role) (word : ℕ) (reason : Reason) → Expects g before role → g.refuse role word ≡ Some reason → IsFront g (before ++ word ∷ []) → ⊥
  none_goes_on before role word reason e bad =
      front_passes (before ++ word ∷ []) (4 * length before) reason
      (record { before = before; word = word; after = []; role = role; split = refl; place = refl; expects = e; refuses = bad })

  -- Where an input ends too soon, a text begins with all its longwords.
  module _ (ws : List ℕ) (IsShort : ℕ → Type 0) (short : (at : ℕ) → IsShort at → (at ≡ 4 * length ws) × IsFront g ws) where
    abbrev IsFault : ℕ → Reason → Type 0
    IsFault at reason = HasRefusal g ws at reason ⊎ ((reason ≡ reasons.Truncated) × IsShort at)

    pub one_fault : (at at2 : ℕ) (reason reason2 : Reason) → IsFault at reason → IsFault at2 reason2 → (at ≡ at2) × (reason ≡ reason2)
    one_fault at at2 reason reason2 (inl h) (inl k) = one_refusal ws at at2 reason reason2 h k
    one_fault at at2 reason reason2 (inl h) (inr k) = absurd (front_passes ws at reason h (short at2 k.1).1)
    one_fault at at2 reason reason2 (inr h) (inl k) = absurd (front_passes ws at2 reason2 k (short at h.1).1)
    one_fault at at2 reason reason2 (inr h) (inr k) = ((short at h.1).0 ∙ sym (short at2 k.1).0, h.0 ∙ sym k.0)

  -- nor of what has a text in front, after which nothing is expected
  pub whole_passes : (v : Value) → g.Is v → m.expects (r.end v) ≡ None → (ws rest : List ℕ) (at : ℕ) (reason : Reason) → ws ≡ words (g.labelled v) ++ rest → HasRefusal g ws at reason → ⊥
  whole_passes v is end ws rest at reason e h =
      let some = refused_is ws at reason h in
      let none = ap (first_refused m g.refuse m.start 0) e ∙ scan_whole m g.refuse m.start (r.end v) (g.labelled v) rest 0 (r.leads v is) (r.passes v is) end in
      let clash : ◌≡◌ {A = Option (ℕ × Reason)} None (Some (at, reason)) = sym none ∙ some in
      cc
