-- Longwords are read up to the end of a text, to the first that is refused, or to their end.
use Rattle.std.proofs.Common.{rules, ◌≡◌, ℕ, ◌*◌, List, [], ◌∷◌, ◌++◌, length, refl, sym, ap, subst, ◌∙◌, append_assoc, append-nil, Option, Some, None, ◌⊎◌, inl, inr}
use Rattle.hunk_words.specs.{declared.reason.Reason.Reason, Longs.{IsLong, AreLongs}}
use Rattle.hunk_blocks.specs.Faults.{Grammar, words, Expects, HasRefusal, IsFront}
use Rattle.hunk_blocks.proofs.{FaultLaws.words-append, FaultScan.{Machine, Leads, Passes, Reads}}

-- What is known of the longwords that led to a state: some text begins with them and goes on as is expected, and a
-- longword that is not refused keeps this.
pub record Keeps {Value State Role : Type 0} (g : Grammar Value Role) (m : Machine State Role) : Type 1 where
  pub SoFar : State → List ℕ → Type 0
  pub begins : SoFar m.start []
  pub expects : (s : State) (before : List ℕ) (role : Role) → SoFar s before → m.expects s ≡ Some role → Expects g before role
  pub goes_on : (s : State) (before : List ℕ) (role : Role) (w : ℕ) → SoFar s before → m.expects s ≡ Some role → IsLong w → g.refuse role w ≡ None → SoFar (m.step s w) (before ++ w ∷ [])
  pub ends : (s : State) (before : List ℕ) → SoFar s before → m.expects s ≡ None → (v : Value) × g.Is v × (words (g.labelled v) ≡ before)

module _ {State Role : Type 0} (m : Machine State Role) where
  -- where longwords lead
  abbrev pub state_after : State → List ℕ → State
  state_after s [] = s
  state_after s (w ∷ ws) = state_after (m.step s w) ws

  pub leads_state : (s t : State) (ls : List (Role × ℕ)) → Leads m s ls t → state_after s (words ls) ≡ t
  leads_state s t [] h = h
  leads_state s t (l ∷ ls) h = leads_state (m.step s l.1) t ls h.1

  cut : (s t : State) (ks ls : List (Role × ℕ)) → Leads m s (ks ++ ls) t → (x : State) × Leads m s ks x × Leads m x ls t
  cut s t [] ls h = (s, refl, h)
  cut s t (l ∷ ks) ls h = let c = cut (m.step s l.1) t ks ls h.1 in (c.0, (h.0, c.1), c.2)

module _ {Value State Role : Type 0} (g : Grammar Value Role) (m : Machine State Role) (r : Reads g m) where
  -- What a text has after these longwords is what the machine expects there.
  pub expected_role : (before : List ℕ) (role : Role) → Expects g before role → m.expects (state_after m m.start before) ≡ Some role
  expected_role before role e = search (rules, cut, leads_state)

module _ {Value State Role : Type 0} (g : Grammar Value Role) (m : Machine State Role) (k : Keeps g m) where
  -- Some text begins with what was read.
  pub front : (s : State) (ws : List ℕ) → k.SoFar s ws → IsFront g ws
  front s ws h = by_role (m.expects s) refl
    where
      by_role : (o : Option Role) → m.expects s ≡ o → IsFront g ws
      by_role (Some role) e =
          let x = k.expects s ws role h e in
          record { value = x.value; is = x.is; more = x.word ∷ words x.more; begins = ap words x.labels ∙ words-append x.done ((role, x.word) ∷ x.more) ∙ ap (λ ys. ys ++ x.word ∷ words x.more) x.begins }
      by_role None e = let v = k.ends s ws h e in record { value = v.0; is = v.1; more = []; begins = v.2 ∙ sym (append-nil ws) }

  -- ---- one of three

  -- a text in front, after which nothing is expected
  pub record Ends (ws : List ℕ) : Type 0 where
    pub state : State
    pub stops : m.expects state ≡ None
    pub value : Value
    pub is : g.Is value
    pub rest : List ℕ
    pub split : ws ≡ words (g.labelled value) ++ rest

  pub record IsRefused (ws : List ℕ) : Type 0 where
    pub at : ℕ
    pub reason : Reason
    pub refusal : HasRefusal g ws at reason

  -- all were read, to this state
  abbrev pub Judged : State → List ℕ → Type 0
  Judged s ws = Ends ws ⊎ (IsRefused ws ⊎ k.SoFar s ws)

  judged_word : (s : State) (before : List ℕ) (w : ℕ) (ws : List ℕ) → k.SoFar s before → IsLong w → ((t : State) (done : List ℕ) → k.SoFar t done → Judged (state_after m t ws) (done ++ ws)) → Judged (state_after m s (w ∷ ws)) (before ++ w ∷ ws)
  judged_word s before w ws h l rest = by_role (m.expects s) refl
    where
      by_test : (role : Role) → m.expects s ≡ Some role → (o : Option Reason) → g.refuse role w ≡ o → Judged (state_after m s (w ∷ ws)) (before ++ w ∷ ws)
      by_test role e (Some reason) r =
          inr (inl (record {
            at = 4 * length before;
            reason = reason;
            refusal = record { before = before; word = w; after = ws; role = role; split = refl; place = refl; expects = k.expects s before role h e; refuses = r };
          }))
      by_test role e None r =
          subst (Judged (state_after m (m.step s w) ws)) (append_assoc before (w ∷ []) ws) (rest (m.step s w) (before ++ w ∷ []) (k.goes_on s before role w h e l r))

      by_role : (o : Option Role) → m.expects s ≡ o → Judged (state_after m s (w ∷ ws)) (before ++ w ∷ ws)
      by_role (Some role) e = by_test role e (g.refuse role w) refl
      by_role None e = let v = k.ends s before h e in inl (record { state = s; stops = e; value = v.0; is = v.1; rest = w ∷ ws; split = ap (λ ys. ys ++ w ∷ ws) (sym v.2) })

  judged_from : (s : State) (before ws : List ℕ) → k.SoFar s before → AreLongs ws → Judged (state_after m s ws) (before ++ ws)
  judged_from s before [] h l = inr (inr (subst (k.SoFar s) (sym (append-nil before)) h))
  judged_from s before (w ∷ ws) h l = judged_word s before w ws h l.0 (λ t done d. judged_from t done ws d l.1)

  pub judged : (ws : List ℕ) → AreLongs ws → Judged (state_after m m.start ws) ws
  judged ws l = judged_from m.start [] ws k.begins l

  -- ---- an accepted longword goes on

  kept : (s t : State) (before : List ℕ) (ls : List (Role × ℕ)) → k.SoFar s before → Leads m s ls t → Passes m g.refuse ls → AreLongs (words ls) → k.SoFar t (before ++ words ls)
  kept s t before [] h leads ok l = subst (λ (x : State). k.SoFar x (before ++ [])) leads (subst (k.SoFar s) (sym (append-nil before)) h)
  kept s t before (x ∷ ls) h leads ok l =
      subst (k.SoFar t) (append_assoc before (x.1 ∷ []) (words ls)) (kept (m.step s x.1) t (before ++ x.1 ∷ []) ls (k.goes_on s before x.0 x.1 h leads.0 l.0 ok.0) leads.1 ok.1 l.1)

  left_passes : (ks ls : List (Role × ℕ)) → Passes m g.refuse (ks ++ ls) → Passes m g.refuse ks
  left_passes [] ls h = tt
  left_passes (l ∷ ks) ls h = (h.0, left_passes ks ls h.1)

  left_longs : (ks ls : List (Role × ℕ)) → AreLongs (words (ks ++ ls)) → AreLongs (words ks)
  left_longs [] ls h = tt
  left_longs (l ∷ ks) ls h = (h.0, left_longs ks ls h.1)

  pub completed : Reads g m → ((v : Value) → g.Is v → AreLongs (words (g.labelled v))) → (before : List ℕ) (role : Role) (w : ℕ) → Expects g before role → IsLong w → g.refuse role w ≡ None → IsFront g (before ++ w ∷ [])
  completed r longs before role w e l ok =
      let c = cut m m.start (r.end e.value) e.done ((role, e.word) ∷ e.more) (subst (λ ls. Leads m m.start ls (r.end e.value)) e.labels (r.leads e.value e.is)) in
      let passes = left_passes e.done ((role, e.word) ∷ e.more) (subst (Passes m g.refuse) e.labels (r.passes e.value e.is)) in
      let fit = left_longs e.done ((role, e.word) ∷ e.more) (subst (λ ls. AreLongs (words ls)) e.labels (longs e.value e.is)) in
      let h = subst (k.SoFar c.0) e.begins (kept m.start c.0 [] e.done k.begins c.1 passes fit) in
      front (m.step c.0 w) (before ++ w ∷ []) (k.goes_on c.0 before role w h c.2.0 l ok)
