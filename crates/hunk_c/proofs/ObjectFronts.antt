-- The front of an object file ends at the last place between two blocks or hunks, and is closed there.
use Rattle.std.proofs.Common.{◌≡◌, ℕ, ◌*◌, ◌≤◌, true, false, List, [], ◌∷◌, ◌++◌, ◌/◌, length, take, drop, refl, sym, ap, subst, ◌∙◌, append_assoc, append-nil, take-append-drop, take-take, length-take-le, arith, Some, None, inl, inr}
use Rattle.std.proofs.lemmas.{Bool.cases_lt, List.take_all}
use Rattle.hunk_words.specs.{Bits.{bss_word, end_word, kind, unit_word}, Longs.{AreLongs, IsBytes, IsLong, bytes_of, longs}}
use Rattle.hunk_words.proofs.LongLaws.{bytes_of-append, length-longs}
use Rattle.hunk_grammar.specs.ObjectRoles.{ObjectRole, Within, WordAt}
use Rattle.hunk_grammar.specs.declared.object_position.WordPlace.{WordPlace}
use Rattle.hunk_grammar.specs.declared.object_position.WordPlace.TheVariants.{BeforeUnits, BetweenHunks, InHunk}
use Rattle.hunk_blocks.specs.{BlockSteps.{AtSize, ForBss, part_of}, Faults.words}
use Rattle.hunk_blocks.proofs.{Decoding.front_bytes, Fronts.All-left, Outcomes.{expected_role, state_after}}
use Rattle.hunk_files.specs.{Machines.object_at, ObjectFault.{IsInUnit, objects, units_labelled}}
use Rattle.hunk_files.specs.ObjectFile.{IsObjectFile, ObjectFileValue, object_text}
use Rattle.hunk_files.specs.declared.hunk_file.HunkFile.TheVariants as files
use Rattle.hunk_files.proofs.cuts.UnitReading.{object_longs}
use Rattle.hunk_files.proofs.object_walk.ObjectGoesOn.{SoFar, expected, goes_on, whole_units}
use Rattle.hunk_files.proofs.object_walk.{ObjectOutcome.leads_there, ObjectPlaces.{object_read, position_from}, ObjectWalks.position_of}
use Rattle.hunk_files.proofs.object_walk.OneObjectFault.{AtCount, AtWord, InBlock, InName, ObjectState, object_reads, reader}
use Rattle.hunk_files.proofs.object_walk.UnitFaults.{units_words}
use Rattle.hunk_c.specs.FrontPlaces.{FindsNone, IsFrontOf, IsLast, ReadsUpTo, find_place, front_at, place_between}
use Rattle.hunk_c.specs.Fronts.{HasNoFrontWhere, InObjectText, IsFrontWhere, ObjectIsClosed, hunk_end, open_at}
use Rattle.hunk_c.proofs.{LastPlaces.last_here, ReadLongwords.object_text_reads}

-- ---- where the word of a block or a unit is expected

after : List ℕ → ObjectState
after ws = state_after reader reader.start ws

place_is : (ws : List ℕ) → object_at ws ≡ position_of (after ws)
unfolding after
place_is ws = position_from reader.start ws

between_place : (s : ObjectState) (place : WordPlace) → place_between (position_of s) ≡ Some place → (s ≡ AtWord place) × IsInUnit place
between_place (AtWord BeforeUnits) place e = absurd cc
between_place (AtWord BetweenHunks) place e = let same : BetweenHunks ≡ place = cc in (ap AtWord same, subst IsInUnit same tt)
between_place (AtWord (InHunk has)) place e = let same : InHunk has ≡ place = cc in (ap AtWord same, subst IsInUnit same tt)
between_place AtCount place e = absurd cc
between_place (InName owed) place e = absurd cc
between_place (InBlock next x) place e = absurd cc

found_in_unit : (place : WordPlace) → IsInUnit place → place_between (position_of (AtWord place)) ≡ Some place
found_in_unit BeforeUnits h = absurd h
found_in_unit BetweenHunks h = refl
found_in_unit (InHunk has) h = refl

found_there : (ws : List ℕ) (i : InObjectText ws) → place_between (object_at ws) ≡ Some i.place
unfolding after
found_there ws i =
    let at = expected_role objects reader object_reads ws (WordAt i.place) i.expects in
    ap place_between (place_is ws) ∙ ap (λ (s : ObjectState). place_between (position_of s)) (word_at (after ws) i.place at) ∙ found_in_unit i.place i.in_unit
  where
    word_at : (s : ObjectState) (place : WordPlace) → reader.expects s ≡ Some (WordAt place) → s ≡ AtWord place
    word_at (AtWord other) place e = let same : other ≡ place = cc in ap AtWord same
    word_at AtCount place e = absurd cc
    word_at (InName owed) place e = absurd cc
    word_at (InBlock next x) place e = absurd cc

module _ (ws : List ℕ) (end : ℕ) (r : ReadsUpTo objects ws end) where
  -- The longwords up to the end were read.
  read_to : (n : ℕ) → n ≤ end → SoFar (after (take n ws)) (take n ws)
  unfolding after
  read_to n l =
      let f = r.front in
      let more : List ℕ = drop n (take end ws) ++ f.more in
      let front : take end ws ≡ take n ws ++ drop n (take end ws) = sym (take-append-drop n (take end ws)) ∙ ap (λ (xs : List ℕ). xs ++ drop n (take end ws)) (take-take n end ws l) in
      let all = f.begins ∙ ap (λ (xs : List ℕ). xs ++ f.more) front ∙ append_assoc (take n ws) (drop n (take end ws)) f.more in
      let longs_fit = subst AreLongs (sym (units_words BeforeUnits f.value) ∙ all) (object_longs f.value f.is.1) in
      object_read (take n ws) (All-left IsLong (take n ws) more longs_fit) (record { value = f.value; is = f.is; more = more; begins = all })

  none_there : (m : ℕ) → (m ≤ end → find_place ws m ≡ None) → m ≤ length ws → InObjectText (take m ws) → ⊥
  none_there m none inside i = elim (cases_lt end m) [
    | inl k ↦ r.stops m (WordAt i.place) k inside i.expects
    | inr k ↦ let clash : None ≡ Some i.place = sym (none k) ∙ found_there (take m ws) i in absurd cc
  ]

  pub no_front : FindsNone (find_place ws) end → HasNoFrontWhere InObjectText ws
  no_front none m inside i = none_there m (none m) inside i

  module _ (n : ℕ) (place : WordPlace) (l : IsLast (find_place ws) end n place) where
    stands : (after (take n ws) ≡ AtWord place) × IsInUnit place
    stands = between_place (after (take n ws)) place (ap place_between (sym (place_is (take n ws))) ∙ l.found)

    pub read_there : SoFar (AtWord place) (take n ws)
    read_there = subst (λ (s : ObjectState). SoFar s (take n ws)) stands.0 (read_to n l.inside)

    pub in_text : InObjectText (take n ws)
    in_text = record { place = place; in_unit = stands.1; expects = expected (AtWord place) (take n ws) (WordAt place) read_there refl }

    pub is_front : IsFrontWhere InObjectText ws n
    is_front = record { inside = omega (arith, l.inside, r.inside); ends = in_text; last = λ m k inside i. none_there m (l.none_after m k) inside i }

-- ---- it is closed

end_read : (ws : List ℕ) → SoFar (AtWord (InHunk true)) ws → SoFar (AtWord BetweenHunks) (ws ++ end_word ∷ [])
unfolding kind
end_read ws h = goes_on (AtWord (InHunk true)) ws (WordAt (InHunk true)) end_word h refl (omega arith) refl

bss_read : (ws : List ℕ) → SoFar (AtWord (InHunk false)) ws → SoFar (AtWord (InHunk true)) ((ws ++ bss_word ∷ []) ++ 0 ∷ [])
unfolding kind
bss_read ws h =
    let begun = goes_on (AtWord (InHunk false)) ws (WordAt (InHunk false)) bss_word h refl (omega arith) refl in
    goes_on (InBlock (InHunk true) (AtSize ForBss)) (ws ++ bss_word ∷ []) (Within (part_of (AtSize ForBss))) 0 begun refl (omega arith) refl

record IsClosedText (ws : List ℕ) (place : WordPlace) : Type 0 where
  value : ObjectFileValue
  is_object_file : IsObjectFile value
  text_is : object_text value ≡ ws ++ hunk_end (open_at place)

closed_by : (ws more : List ℕ) (place : WordPlace) → more ≡ ws ++ hunk_end (open_at place) → SoFar (AtWord BetweenHunks) more → IsClosedText ws place
closed_by ws more place e h = let o = whole_units h.0 h.1 more h.2 in record { value = o.0; is_object_file = o.1; text_is = sym o.2 ∙ e }

closed_text : (ws : List ℕ) (place : WordPlace) → IsInUnit place → SoFar (AtWord place) ws → IsClosedText ws place
closed_text ws BeforeUnits i h = absurd i
closed_text ws BetweenHunks i h = closed_by ws ws BetweenHunks (sym (append-nil ws)) h
closed_text ws (InHunk true) i h = closed_by ws (ws ++ end_word ∷ []) (InHunk true) refl (end_read ws h)
closed_text ws (InHunk false) i h =
    closed_by ws (((ws ++ bss_word ∷ []) ++ 0 ∷ []) ++ end_word ∷ []) (InHunk false)
    (ap (λ (xs : List ℕ). xs ++ end_word ∷ []) (append_assoc ws (bss_word ∷ []) (0 ∷ [])) ∙ append_assoc ws (bss_word ∷ 0 ∷ []) (end_word ∷ []))
    (end_read _ (bss_read ws h))

-- ---- all of it

pub object_front : (bytes : List ℕ) → IsBytes bytes → (end : ℕ) → ReadsUpTo objects (longs bytes) end → (n : ℕ) (place : WordPlace) → IsLast (find_place (longs bytes)) end n place →
    IsFrontOf InObjectText bytes (front_at n place)
unfolding in_text
object_front bytes fit end r n place l =
    let ws : List ℕ = longs bytes in
    let front = is_front ws end r n place l in
    let i = in_text ws end r n place l in
    let c = closed_text (take n ws) place i.in_unit (read_there ws end r n place l) in
    let size = length-take-le n ws front.inside in
    let begins = (front_bytes bytes (take n ws) (drop n ws) fit (sym (take-append-drop n ws))).0 in
    record {
      is_front = front;
      file = files.Object c.value;
      closed = ObjectIsClosed c.value c.is_object_file refl i c.text_is;
      hunks_are = refl;
      bytes_are =
          ap bytes_of (c.text_is ∙ ap (λ (xs : List ℕ). take n ws ++ xs) (sym (append-nil (hunk_end (open_at place)))))
          ∙ bytes_of-append (take n ws) (hunk_end (open_at place) ++ [])
          ∙ ap (λ (bs : List ℕ). bs ++ bytes_of (hunk_end (open_at place) ++ [])) (sym begins ∙ ap (λ (k : ℕ). take (4 * k) bytes) size);
    }

-- The front of a whole file is all of it.
pub whole_front : (bytes : List ℕ) → IsBytes bytes → (o : ObjectFileValue) → IsObjectFile o → bytes ≡ bytes_of (object_text o) → IsFrontOf InObjectText bytes (front_at (length bytes / 4) BetweenHunks)
unfolding after
whole_front bytes fit o is e =
    let ws : List ℕ = longs bytes in
    let n : ℕ = length bytes / 4 in
    let all : take n ws ≡ ws = take_all n ws (omega (arith, length-longs bytes)) in
    let found : find_place ws n ≡ Some BetweenHunks = ap (λ (xs : List ℕ). place_between (object_at xs)) all ∙ ap place_between (place_is ws ∙ ap position_of (leads_there bytes o is e)) in
    object_front bytes fit n (object_text_reads bytes o is e) n BetweenHunks (last_here (find_place ws) n BetweenHunks found)

-- ---- the first longword

-- It begins with the word of a unit.
pub object_begins : (ws : List ℕ) → InObjectText ws → (xs : List ℕ) × (ws ≡ unit_word ∷ xs)
object_begins ws i = go i.expects.value i.expects.done i.expects.labels i.expects.begins
  where
    place_of : {a b : WordPlace} → WordAt a ≡ WordAt b → a ≡ b
    place_of e = cc

    go : (o : ObjectFileValue) (done : List (ObjectRole × ℕ)) → units_labelled BeforeUnits o ≡ done ++ (WordAt i.place, i.expects.word) ∷ i.expects.more → words done ≡ ws → (xs : List ℕ) × (ws ≡ unit_word ∷ xs)
    go [] [] e b = absurd cc
    go [] (d ∷ done) e b = absurd cc
    go (u ∷ us) [] e b =
        let same : (WordAt BeforeUnits, unit_word) ≡ (WordAt i.place, i.expects.word) = cc in
        let role : WordAt BeforeUnits ≡ WordAt i.place = ap (λ (l : ObjectRole × ℕ). l.0) same in
        absurd (subst IsInUnit (sym (place_of role)) i.in_unit)
    go (u ∷ us) (d ∷ done) e b = let same : d.1 ≡ unit_word = cc in (words done, sym b ∙ ap (λ (w : ℕ). w ∷ words done) same)
