-- Longwords of a content, a payload, a name or a list of offsets at once.
use Rattle.std.proofs.Common.{rules, ◌≡◌, ℕ, zero, suc, ◌+◌, ◌-◌, ◌*◌, ◌/◌, ◌%◌, ◌<◌, ◌≤◌, false, get_or, None, List, [], ◌∷◌, ◌++◌, length, take, drop, refl, sym, ap, subst, ◌∙◌, append_assoc, append-nil, arith, length-append, length-take}
use Rattle.std.proofs.lemmas.Grind.{common_steps}
use Rattle.std.proofs.Math.Seq.{drop-append-add}
use Rattle.std.specs.{Int.{w32, to_be_bytes}, List.AllByRecursion}
use Rattle.std.proofs.lemmas.List.{take_at, drop-drop, take-append-drop}
use Rattle.hunk_words.specs.Longs.{bytes_of, longs, IsBytes, AreLongs, IsLong}
use Rattle.hunk_words.proofs.{LongLaws.{bytes_of-cons, bytes_of-nil, bytes_of-one, length-bytes_of, length-longs, spelled, longs_fit}, PartLaws.longs-take}
use Rattle.hunk_files.specs.declared.row.Row.{Row}
use Rattle.hunk_grammar.specs.{declared.position.OpenHunk.OpenHunk, declared.position.Position.Position}
use Rattle.hunk_grammar.specs.Positions.{onward, is_done, run, pass, owe_content, owe_payload, owe_symbol, EndsWithin}
use Rattle.hunk_grammar.specs.declared.phase.Phase.TheVariants as phases
use Rattle.hunk_grammar.specs.declared.position.Position.TheVariants as positions
use Rattle.hunk_grammar.specs.PhaseSteps as inside
use Rattle.hunk_scatter.specs.{declared.store.BodyState.BodyState, BodyLoaderFields.StandsAfter, BodySteps.{longs_at, pass_body, IsInStore, refusal, step_body}}
use Rattle.hunk_scatter.specs.{Rows.{words_of, bases_of}, StoreContent.{put_at, put_slice, stored_run_in, stored_run, added_at_each, TakesOffsets, stored_in}}
use Rattle.hunk_scatter.proofs.{OneByte.{going, more_read}, StoredBytes.length-put}

-- ---- the store

put_none : (bytes : List ℕ) (at : ℕ) → bytes ≡ put_slice bytes at []
put_none bytes at = grind (arith, common_steps)

put_more : (bytes : List ℕ) (at : ℕ) (four xs : List ℕ) → length four ≡ 4 → at + 4 ≤ length bytes → put_slice (put_at bytes at four) (at + 4) xs ≡ put_slice bytes at (four ++ xs)
put_more bytes at four xs l fits = search (rules, length-append, length-take, drop-append-add, drop-drop, take_at, append_assoc)

-- a content goes on after its next longword
put_long : (store : List ℕ) (at next w : ℕ) (ws : List ℕ) → next ≡ at + 4 → at + 4 ≤ length store →
    put_slice (put_at store at (to_be_bytes w32 w)) next (bytes_of ws) ≡ put_slice store at (bytes_of (w ∷ ws))
put_long store at next w ws e fits = search (rules, put_more, bytes_of-one, bytes_of-cons)

-- ---- the state

-- the reading after this many bytes more
abbrev Read : List Row → List ℕ → BodyState → List ℕ → List ℕ → Type 0
Read rows store s fed ws = StandsAfter rows store s [] (fed ++ bytes_of ws)

module _ (rows : List Row) (hunk start : ℕ) where
  abbrev at : Position → BodyState
  at p = record { hunk = hunk; start = start; position = p }

  abbrev stored_at : Position → ℕ → List ℕ → List ℕ
  stored_at p w store = stored_in (bases_of rows) start p w store

  read_none : (store : List ℕ) (s : BodyState) (fed : List ℕ) → StandsAfter rows store s [] fed → Read rows store s fed []
  read_none store s fed r = subst (λ (bs : List ℕ). StandsAfter rows store s [] bs) (sym (append-nil fed) ∙ ap (λ (xs : List ℕ). fed ++ xs) (sym bytes_of-nil)) r

  read_more : (store : List ℕ) (s : BodyState) (fed : List ℕ) (w : ℕ) (ws : List ℕ) → Read rows store s (fed ++ bytes_of (w ∷ [])) ws → Read rows store s fed (w ∷ ws)
  read_more store s fed w ws r = search (rules, append_assoc, bytes_of-cons)

  module _ (Good : ℕ → Type 0) (Room : ℕ → List ℕ → Type 0) (pos : ℕ → Position) (made : ℕ → List ℕ → List ℕ → List ℕ) where
    -- Longwords of a list, by the number that is owed: each that is good leads to one fewer, and this many make this of the store.
    record Owing : Type 0 where
      goes_on : (n : ℕ) → is_done (pos (suc n)) ≡ false
      passes : (n w : ℕ) → Good w → refusal (words_of rows) (at (pos (suc n))) w ≡ None
      moves : (n w : ℕ) → step_body (words_of rows) (at (pos (suc n))) w ≡ at (pos n)
      room : (n w : ℕ) (store : List ℕ) → Room (suc n) store → Room n (stored_at (pos (suc n)) w store)
      none : (n : ℕ) (store : List ℕ) → made n [] store ≡ store
      more : (n w : ℕ) (ws store : List ℕ) → Room (suc n) store → made n ws (stored_at (pos (suc n)) w store) ≡ made (suc n) (w ∷ ws) store

    list_read : Owing → (store fed : List ℕ) (n left : ℕ) (ws : List ℕ) → AreLongs ws → AllByRecursion Good ws → Room n store →
        StandsAfter rows store (at (pos n)) [] fed → length ws + left ≡ n → Read rows (made n ws store) (at (pos left)) fed ws
    list_read o store fed n left [] l g room r e =
        let same : n ≡ left = omega (arith, e) in
        subst (λ (k : ℕ). Read rows (made n [] store) (at (pos k)) fed []) same
        (subst (λ (xs : List ℕ). Read rows xs (at (pos n)) fed []) (sym (o.none n store)) (read_none store (at (pos n)) fed r))
    list_read o store fed zero left (w ∷ ws) l g room r e = absurd (omega (arith, e))
    list_read o store fed (suc n) left (w ∷ ws) l g room r e =
        let now : List ℕ = stored_at (pos (suc n)) w store in
        let g1 = going rows store (at (pos (suc n))) [] fed r (o.goes_on n) in
        let next = more_read rows store (at (pos (suc n))) [] fed g1 (bytes_of (w ∷ [])) w l.0 refl (o.passes n w g.0) in
        subst (λ (xs : List ℕ). Read rows xs (at (pos left)) fed (w ∷ ws)) (o.more n w ws store room)
        (read_more (made n ws now) (at (pos left)) fed w ws
        (list_read o now (fed ++ bytes_of (w ∷ [])) n left ws l.1 g.1 (o.room n w store room)
        (subst (λ (s : BodyState). StandsAfter rows now s [] (fed ++ bytes_of (w ∷ []))) (o.moves n w) next) (omega (arith, e))))

  content_owing : (o : OpenHunk) (all : ℕ) →
      Owing IsLong (λ n store. (n ≤ all) × (start + 4 * all ≤ length store)) (owe_content o all)
      (λ n ws store. put_slice store (start + 4 * (all - n)) (bytes_of ws))
  content_owing o all = search (rules, length-put, bytes_of-nil, put_none, put_long, at)

  payload_owing : (o : OpenHunk) → Owing IsLong (λ n store. Unit {0}) (owe_payload o) (λ n ws store. store)
  payload_owing o = search rules

  symbol_owing : (o : OpenHunk) → Owing IsLong (λ n store. Unit {0}) (owe_symbol o) (λ n ws store. store)
  symbol_owing o = search rules

  front_owing : (o : OpenHunk) → Owing IsLong (λ n store. Unit {0}) (λ n. onward o (positions.Body o phases.BlockWord) (inside.owe_front n)) (λ n ws store. store)
  front_owing o = search rules

  rest_owing : (o : OpenHunk) → Owing IsLong (λ n store. Unit {0}) (λ n. onward o (positions.Body o phases.BlockWord) (inside.owe_rest n)) (λ n ws store. store)
  rest_owing o = search rules

  -- one offset at least is still owed
  offsets_owing : (o : OpenHunk) (target : ℕ) →
      Owing (EndsWithin (4 * longs_at (words_of rows) hunk)) (λ n store. Unit {0}) (λ n. positions.Body o (phases.Offset target n))
      (λ n ws store. added_at_each start (get_or (bases_of rows) target 0) ws store)
  offsets_owing o target = search rules

run_read : (rows : List Row) (hunk start : ℕ) (p : Position) (store fed ws : List ℕ) → AreLongs ws → StandsAfter rows store (record { hunk = hunk; start = start; position = p }) [] fed →
    IsInStore (words_of rows) (length store) (record { hunk = hunk; start = start; position = p }) → 0 < length ws → length ws ≤ run p →
    Read rows (stored_run_in start p (bytes_of ws) store) (record { hunk = hunk; start = start; position = pass p (length ws) }) fed ws
run_read rows hunk start p store fed [] l r i some fits = absurd (omega (arith, some))
run_read rows hunk start (positions.Body o (phases.Content all owed)) store fed (w ∷ ws) l r i some fits =
    let here : all - suc owed ≡ all - owed - 1 = omega arith in
    let after : BodyState = record { hunk = hunk; start = start; position = owe_content o all (owed - length ws) } in
    subst (λ (k : ℕ). Read rows (put_slice store (start + 4 * k) (bytes_of (w ∷ ws))) after fed (w ∷ ws)) here
    (list_read rows hunk start _ _ _ _ (content_owing rows hunk start o all) store fed (suc owed) (owed - length ws) (w ∷ ws) l l
    (omega (arith, i.room.0), omega (arith, i.segment, i.room.1)) r (omega (arith, fits)))
run_read rows hunk start (positions.Body o (phases.Payload owed)) store fed (w ∷ ws) l r i some fits =
    list_read rows hunk start _ _ _ _ (payload_owing rows hunk start o) store fed (suc owed) (owed - length ws) (w ∷ ws) l l tt r (omega (arith, fits))
run_read rows hunk start (positions.Body o (phases.Symbol owed)) store fed (w ∷ ws) l r i some fits =
    list_read rows hunk start _ _ _ _ (symbol_owing rows hunk start o) store fed (suc owed) (owed - length ws) (w ∷ ws) l l tt r (omega (arith, fits))
run_read rows hunk start (positions.Body o (phases.ExtFront owed)) store fed (w ∷ ws) l r i some fits =
    list_read rows hunk start _ _ _ _ (front_owing rows hunk start o) store fed (suc owed) (owed - length ws) (w ∷ ws) l l tt r (omega (arith, fits))
run_read rows hunk start (positions.Body o (phases.ExtRest owed)) store fed (w ∷ ws) l r i some fits =
    list_read rows hunk start _ _ _ _ (rest_owing rows hunk start o) store fed (suc owed) (owed - length ws) (w ∷ ws) l l tt r (omega (arith, fits))
run_read rows hunk start _ store fed (w ∷ ws) l r i some fits = absurd (omega (arith, fits))

-- ---- bytes

pub none_over : (over : List ℕ) → length over ≡ 0 → over ≡ []
none_over over e = grind (arith, common_steps)

-- bytes in fours are those of their longwords
pub fours_are : (bytes : List ℕ) → IsBytes bytes → length bytes % 4 ≡ 0 → bytes ≡ bytes_of (longs bytes)
fours_are bytes are fours =
    let s = spelled bytes are in
    let none : length s.over ≡ 0 = omega (arith, fours, s.few, ap length s.split, length-append (bytes_of (longs bytes)) s.over, length-bytes_of (longs bytes)) in
    s.split ∙ ap (λ (xs : List ℕ). bytes_of (longs bytes) ++ xs) (none_over s.over none) ∙ append-nil (bytes_of (longs bytes))

-- What was read goes on after the bytes of a run.
pub read_run : (rows : List Row) (store : List ℕ) (state : BodyState) (fed bytes : List ℕ) (n : ℕ) → StandsAfter rows store state [] fed → IsInStore (words_of rows) (length store) state →
    length bytes ≡ n → IsBytes bytes → n % 4 ≡ 0 → 0 < n → n ≤ 4 * run state.position → StandsAfter rows (stored_run state bytes store) (pass_body state (n / 4)) [] (fed ++ bytes)
read_run rows store state fed bytes n r i long are fours some fits =
    let same : bytes ≡ bytes_of (longs bytes) = fours_are bytes are (omega (arith, long, fours)) in
    let count : length (longs bytes) ≡ n / 4 = omega (arith, length-longs bytes, long) in
    subst (λ (bs : List ℕ). StandsAfter rows (stored_run state bs store) (pass_body state (n / 4)) [] (fed ++ bs)) (sym same)
    (subst (λ (k : ℕ). StandsAfter rows (stored_run state (bytes_of (longs bytes)) store) (pass_body state k) [] (fed ++ bytes_of (longs bytes))) count
    (run_read rows state.hunk state.start state.position store fed (longs bytes) (longs_fit bytes are) r i (omega (arith, count, some, fours)) (omega (arith, count, fits, fours))))

front_bytes : (xs ys : List ℕ) → IsBytes (xs ++ ys) → IsBytes xs
front_bytes [] ys h i = omega arith
front_bytes (x ∷ xs) ys h zero = h 0
front_bytes (x ∷ xs) ys h (suc i) = front_bytes xs ys (λ k. h (suc k)) i

pub take_bytes : (bytes : List ℕ) (n : ℕ) → IsBytes bytes → IsBytes (take n bytes)
take_bytes bytes n are = front_bytes (take n bytes) (drop n bytes) (subst IsBytes (sym (take-append-drop n bytes)) are)

-- What was read goes on after this many offsets of a list.
pub read_offsets : (rows : List Row) (store store2 : List ℕ) (state state2 : BodyState) (fed piece : List ℕ) (n : ℕ) → StandsAfter rows store state [] fed → IsBytes piece → 4 * n ≤ length piece →
    TakesOffsets (words_of rows) (bases_of rows) state (take n (longs piece)) store state2 store2 → StandsAfter rows store2 state2 [] (fed ++ take (4 * n) piece)
read_offsets rows store store2 state state2 fed piece n r are fits t =
    let bytes : List ℕ = take (4 * n) piece in
    let ws : List ℕ = take n (longs piece) in
    let long : length bytes ≡ 4 * n = omega (arith, length-take (4 * n) piece, fits) in
    let spells : longs bytes ≡ ws = longs-take piece n (4 * n) refl in
    let same : bytes ≡ bytes_of ws = fours_are bytes (take_bytes piece (4 * n) are) (omega (arith, long)) ∙ ap bytes_of spells in
    subst (λ (bs : List ℕ). StandsAfter rows store2 state2 [] (fed ++ bs)) (sym same)
    (go state.position r (subst AreLongs spells (longs_fit bytes (take_bytes piece (4 * n) are))) t)
  where
    go : (p : Position) → StandsAfter rows store (record { hunk = state.hunk; start = state.start; position = p }) [] fed → AreLongs (take n (longs piece)) →
        TakesOffsets (words_of rows) (bases_of rows) (record { hunk = state.hunk; start = state.start; position = p }) (take n (longs piece)) store state2 store2 →
        Read rows store2 state2 fed (take n (longs piece))
    go (positions.Body o (phases.Offset target owed)) q l k =
        subst (λ (s : BodyState). Read rows store2 s fed (take n (longs piece))) (sym k.2)
        (subst (λ (xs : List ℕ). Read rows xs (record { hunk = state.hunk; start = state.start; position = positions.Body o (phases.Offset target (owed - length (take n (longs piece)))) }) fed (take n (longs piece))) (sym k.3)
        (list_read rows state.hunk state.start _ _ _ _ (offsets_owing rows state.hunk state.start o target) store fed owed _ (take n (longs piece))
        l k.1 tt q (omega (arith, k.0))))
    go _ q l k = absurd k

-- The state after this many offsets.
pub offsets_taken : (sizes bases : List ℕ) (hunk start : ℕ) (p : Position) (o : OpenHunk) (target owed limit base left : ℕ) (ws store store2 : List ℕ) → positions.Body o (phases.Offset target owed) ≡ p →
    length ws ≤ owed → AllByRecursion (EndsWithin limit) ws → limit ≡ 4 * longs_at sizes hunk → base ≡ get_or bases target 0 → left ≡ owed - length ws → store2 ≡ added_at_each start base ws store →
    TakesOffsets sizes bases (record { hunk = hunk; start = start; position = p }) ws store (record { hunk = hunk; start = start; position = positions.Body o (phases.Offset target left) }) store2
offsets_taken sizes bases hunk start p o target owed limit base left ws store store2 is fits all e f g d = search rules
