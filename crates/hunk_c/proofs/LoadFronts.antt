-- The front of a load file ends at the last place between two blocks, and is closed there.
use Rattle.std.proofs.Common.{rules, ◌≡◌, ℕ, suc, ◌+◌, ◌*◌, ◌<◌, ◌≤◌, Bool, true, false, List, [], ◌∷◌, ◌++◌, length, take, drop, refl, sym, ap, subst, ◌∙◌, append_assoc, length-append, take-append-drop, take-take, length-take-le, arith, Option, Some, None, inl, inr}
use Rattle.std.proofs.lemmas.Bool.{cases_lt, le-ltb}
use Rattle.hunk_words.specs.{Bits.{bss_word, end_word, header_word, kind}, Longs.{IsBytes, IsLong, bytes_of, longs}}
use Rattle.hunk_words.specs.declared.reason.Reason.TheVariants as reasons
use Rattle.hunk_words.proofs.LongLaws.{bytes_of-append}
use Rattle.hunk_grammar.specs.BlockParts.{Part as parts}
use Rattle.hunk_grammar.specs.Roles.{InBlock, Place, refuse}
use Rattle.hunk_grammar.specs.declared.ext_shape.ExtShape.{ExtShape}
use Rattle.hunk_grammar.specs.declared.ext_shape.ExtShape.TheVariants.{Definition, References, Common}
use Rattle.hunk_grammar.specs.{ExtKinds.ext_shape}
use Rattle.hunk_grammar.specs.declared.position.OpenHunk.{OpenHunk}
use Rattle.hunk_grammar.specs.declared.position.Position.TheVariants as positions
use Rattle.hunk_blocks.specs.{Faults.{words}, ReaderPhase.{front_phase, phase_of}, Values.{BlockValue, Bss, End}}
use Rattle.hunk_words.specs.Bits.{entry_type}
use Rattle.hunk_blocks.specs.BlockSteps.{AtSize, ForBss, ForCode, ForData, ForName, AtCount, Counted, InExtName, InPayload, Inside, SizedCode, SizedData}
use Rattle.hunk_blocks.proofs.{Lists.{All-append, passes_else, passes_then}, OneBlockFault.part_not_word}
use Rattle.hunk_files.specs.Fault.{Expects, load_files}
use Rattle.hunk_files.specs.FileSteps.{AtBlock, AtFirst, Finished, HunkSoFar, InBody, Leads, More, Next, Progress, block, hunk, open_hunk, place_of, role_of, step_file, with_block}
use Rattle.hunk_files.specs.LoadFile.{HunkValue, IsLoadFile, LoadFileValue, TableEntry}
use Rattle.hunk_files.specs.{LoadText.text, Machines.load_at, ReaderPosition.{open_of, position_of}}
use Rattle.hunk_files.specs.WordsRead.{AreAccepted, HasRead, IsAccepted, Labelled}
use Rattle.hunk_files.specs.declared.hunk_file.HunkFile.TheVariants as files
use Rattle.hunk_files.proofs.walk.{FileText.Leads-append, LoadPlaces.position_at, Reading.{file_read, front_read, read_ended, reads}, Scan.{expected_place, expects_of}, SpelledText.words_are}
use Rattle.hunk_blocks.proofs.Decoding.{front_bytes}
use Rattle.std.proofs.lemmas.List.{map-append}
use Rattle.hunk_c.specs.FrontPlaces.{FindsNone, IsFrontOf, IsLast, ReadsUpTo, find_hunk, hunk_between}
use Rattle.hunk_c.specs.Fronts.{HasNoFrontWhere, InLoadText, IsFrontWhere, LoadIsClosed, empty_hunks, hunk_end}

-- ---- where a block word is expected

-- within a block nothing is between blocks
shape_inside : (o : OpenHunk) (shape : Option ExtShape) (owed : ℕ) → hunk_between (positions.Body o (front_phase shape owed)) ≡ None
shape_inside o (Some Definition) owed = refl
shape_inside o (Some References) owed = refl
shape_inside o (Some Common) owed = refl
shape_inside o None owed = refl

pub none_inside : (o : OpenHunk) (x : Inside) → hunk_between (positions.Body o (phase_of x)) ≡ None
none_inside o (AtCount ForName) = refl
none_inside o (AtCount c) = refl
none_inside o (AtSize ForCode) = refl
none_inside o (AtSize ForData) = refl
none_inside o (AtSize ForBss) = refl
none_inside o (InPayload (Counted c) done owed) = refl
none_inside o (InPayload (SizedCode top) done owed) = refl
none_inside o (InPayload (SizedData top) done owed) = refl
none_inside o (InExtName es word done owed) = shape_inside o (ext_shape (entry_type word)) owed
none_inside o x = refl

-- it is what the position says
between_is : (o : HunkSoFar) → hunk_between (position_of (More (AtBlock o))) ≡ Some (open_of o)
between_is o = go o.blocks refl
  where
    go : (bs : List BlockValue) → o.blocks ≡ bs → hunk_between (position_of (More (AtBlock o))) ≡ Some (open_of o)
    go [] e = search rules
    go (b ∷ bs) e = search rules

record IsBetween (n : Next) (h : OpenHunk) : Type 0 where
  so_far : HunkSoFar
  next_is : n ≡ More (AtBlock so_far)
  hunk_is : open_of so_far ≡ h

between_next : (n : Next) (h : OpenHunk) → hunk_between (position_of n) ≡ Some h → IsBetween n h
between_next (More (AtBlock o)) h e = let same : Some (open_of o) ≡ Some h = sym (between_is o) ∙ e in record { so_far = o; next_is = refl; hunk_is = cc }
between_next (More (InBody o word x)) h e = let clash : None ≡ Some h = sym (none_inside (open_of o) x) ∙ e in absurd cc
between_next (More AtFirst) h e = absurd cc
between_next (More p) h e = absurd cc
between_next (Finished v) h e = absurd cc

word_next : (p : Progress) (place : Place) → role_of p ≡ InBlock place parts.BlockWord → (o : HunkSoFar) × (p ≡ AtBlock o)
word_next (AtBlock o) place e = (o, refl)
word_next (InBody o word x) place e = absurd (part_not_word x cc)
word_next p place e = absurd cc

-- ---- what was read

-- a load text goes on there from longwords that were read
module _ (ws : List ℕ) (o : HunkSoFar) (h : HasRead ws (More (AtBlock o))) where
  pub in_text : InLoadText ws
  in_text = record { place = place_of o; expects = subst (λ (xs : List ℕ). Expects xs (role_of (AtBlock o))) h.all (expects_of (AtBlock o) h.done (reads h)) }

  pub found_there : hunk_between (load_at ws) ≡ Some (open_of o)
  found_there = ap hunk_between (position_at ws (More (AtBlock o)) h) ∙ between_is o

-- They were read where a text expects a block word after them.
pub read_before : (ws : List ℕ) → InLoadText ws → (o : HunkSoFar) × HasRead ws (More (AtBlock o))
read_before ws i =
    let e = expected_place ws (InBlock i.place parts.BlockWord) i.expects in
    let w = word_next e.0 i.place e.1.role_is in
    (w.0, subst (λ (p : Progress). HasRead ws (More p)) w.1 (record { done = i.expects.done; leads = e.1.leads; accepted = e.1.accepted; all = i.expects.begins }))

module _ (ws : List ℕ) (end : ℕ) (r : ReadsUpTo load_files ws end) where
  -- So were all up to the end.
  read_to : (n : ℕ) → n ≤ end → (next : Next) × HasRead (take n ws) next
  read_to n l =
      let f = r.front in
      let front : take end ws ≡ take n ws ++ drop n (take end ws) = sym (take-append-drop n (take end ws)) ∙ ap (λ (xs : List ℕ). xs ++ drop n (take end ws)) (take-take n end ws l) in
      let all : text f.value ≡ take n ws ++ (drop n (take end ws) ++ f.more) = f.begins ∙ ap (λ (xs : List ℕ). xs ++ f.more) front ∙ append_assoc (take n ws) (drop n (take end ws)) f.more in
      front_read (take n ws) (drop n (take end ws) ++ f.more) (Finished f.value) (subst (λ (xs : List ℕ). HasRead xs (Finished f.value)) all (file_read f.value f.is))

  -- and where nothing is found, no block word is expected
  none_there : (m : ℕ) → (m ≤ end → find_hunk ws m ≡ None) → m ≤ length ws → InLoadText (take m ws) → ⊥
  none_there m none inside i = elim (cases_lt end m) [
    | inl k ↦ r.stops m (InBlock i.place parts.BlockWord) k inside i.expects
    | inr k ↦ let b = read_before (take m ws) i in let clash : None ≡ Some (open_of b.0) = sym (none k) ∙ found_there (take m ws) b.0 b.1 in absurd cc
  ]

  pub no_front : FindsNone (find_hunk ws) end → HasNoFrontWhere InLoadText ws
  no_front none m inside i = none_there m (none m) inside i

  module _ (n : ℕ) (h : OpenHunk) (l : IsLast (find_hunk ws) end n h) where
    pub open_there : (o : HunkSoFar) × HasRead (take n ws) (More (AtBlock o)) × (open_of o ≡ h)
    open_there =
        let f = read_to n l.inside in
        let b = between_next f.0 h (ap hunk_between (sym (position_at (take n ws) f.0 f.1)) ∙ l.found) in
        (b.so_far, subst (λ (x : Next). HasRead (take n ws) x) b.next_is f.1, b.hunk_is)

    pub is_front : IsFrontWhere InLoadText ws n
    is_front =
        record {
          inside = omega (arith, l.inside, r.inside);
          ends = in_text (take n ws) open_there.0 open_there.1;
          last = λ m k inside i. none_there m (l.none_after m k) inside i;
        }

-- ---- it is closed

-- Longwords lead from there to the end of a load file of so many hunks, and none is refused.
record Closes (n : Next) (ws : List ℕ) (hunks : ℕ) : Type 0 where
  value : LoadFileValue
  labels : Labelled
  leads : Leads n labels (Finished value)
  accepted : AreAccepted labels
  words_are : words labels ≡ ws
  count : length value ≡ hunks

on_word : (p : Progress) (w : ℕ) (ws : List ℕ) (hunks : ℕ) → IsLong w → refuse (role_of p) w ≡ None → Closes (step_file p w) ws hunks → Closes (More p) (w ∷ ws) hunks
on_word p w ws hunks l ok c =
    record { value = c.value; labels = (role_of p, w) ∷ c.labels; leads = (refl, c.leads); accepted = ((l, ok), c.accepted); words_are = ap (λ (xs : List ℕ). w ∷ xs) c.words_are; count = c.count }

end_closes : (o : HunkSoFar) (ws : List ℕ) (hunks : ℕ) → o.has_content ≡ true → Closes (open_hunk o.hunks (o.finished ++ hunk o.entry (o.blocks ++ block end_word End ∷ []) ∷ []) o.ahead) ws hunks → Closes (More (AtBlock o)) (end_word ∷ ws) hunks
unfolding kind
end_closes o ws hunks e c = on_word (AtBlock o) end_word ws hunks (omega arith) (passes_then o.has_content None (Some reasons.NoContent) e) c

bss_closes : (o : HunkSoFar) (ws : List ℕ) (hunks : ℕ) → o.has_content ≡ false →
    Closes (open_hunk o.hunks (o.finished ++ hunk o.entry ((o.blocks ++ block bss_word (Bss 0) ∷ []) ++ block end_word End ∷ []) ∷ []) o.ahead) ws hunks → Closes (More (AtBlock o)) (bss_word ∷ 0 ∷ end_word ∷ ws) hunks
unfolding kind
bss_closes o ws hunks e c =
    on_word (AtBlock o) bss_word (0 ∷ end_word ∷ ws) hunks (omega arith) (passes_else o.has_content (Some reasons.SecondContent) None e)
    (on_word (InBody o bss_word (AtSize ForBss)) 0 (end_word ∷ ws) hunks (omega arith) (passes_else _ (Some reasons.ContentTooLong) None (le-ltb (place_of o).longs 0 (omega arith)))
    (end_closes (with_block o (block bss_word (Bss 0)) true) ws hunks refl c))

hunks_close : (hunks : ℕ) (finished : List HunkValue) (ahead : List TableEntry) → Closes (open_hunk hunks finished ahead) (empty_hunks (length ahead)) (length finished + length ahead)
hunks_close hunks finished [] = record { value = finished; labels = []; leads = refl; accepted = tt; words_are = refl; count = omega arith }
hunks_close hunks finished (e ∷ ahead) =
    let one : HunkValue = hunk e (block bss_word (Bss 0) ∷ block end_word End ∷ []) in
    let sum : length (finished ++ one ∷ []) + length ahead ≡ length finished + length (e ∷ ahead) = omega (arith, length-append finished (one ∷ [])) in
    bss_closes (record { hunks = hunks; finished = finished; entry = e; blocks = []; has_content = false; ahead = ahead }) (empty_hunks (length ahead)) (length finished + length (e ∷ ahead)) refl
    (subst (Closes (open_hunk hunks (finished ++ one ∷ []) ahead) (empty_hunks (length ahead))) sum (hunks_close hunks (finished ++ one ∷ []) ahead))

open_closes : (o : HunkSoFar) → Closes (More (AtBlock o)) (hunk_end (Some o.has_content) ++ empty_hunks (length o.ahead)) (suc (length o.finished) + length o.ahead)
open_closes o = go o.has_content refl
  where
    sum : (x : HunkValue) → length (o.finished ++ x ∷ []) + length o.ahead ≡ suc (length o.finished) + length o.ahead
    sum x = omega (arith, length-append o.finished (x ∷ []))

    go : (b : Bool) → o.has_content ≡ b → Closes (More (AtBlock o)) (hunk_end (Some b) ++ empty_hunks (length o.ahead)) (suc (length o.finished) + length o.ahead)
    go true e = end_closes o (empty_hunks (length o.ahead)) _ e (subst (Closes _ (empty_hunks (length o.ahead))) (sum _) (hunks_close o.hunks _ o.ahead))
    go false e = bss_closes o (empty_hunks (length o.ahead)) _ e (subst (Closes _ (empty_hunks (length o.ahead))) (sum _) (hunks_close o.hunks _ o.ahead))

-- What was read, and then what closes it, is the text of a load file.
record IsClosedText (ws : List ℕ) (o : HunkSoFar) : Type 0 where
  value : LoadFileValue
  is_load_file : IsLoadFile value
  text_is : text value ≡ ws ++ (hunk_end (Some o.has_content) ++ empty_hunks (length o.ahead))
  count : length value ≡ o.hunks
  some : length o.ahead < length value

closed_text : (ws : List ℕ) (o : HunkSoFar) → HasRead ws (More (AtBlock o)) → IsClosedText ws o
closed_text ws o h =
    let c = open_closes o in
    let more : List ℕ = hunk_end (Some o.has_content) ++ empty_hunks (length o.ahead) in
    let all : HasRead (ws ++ more) (Finished c.value) =
    record {
      done = h.done ++ c.labels;
      leads = Leads-append (More AtFirst) (More (AtBlock o)) (Finished c.value) h.done c.labels h.leads c.leads;
      accepted = All-append IsAccepted h.done c.labels h.accepted c.accepted;
      all = map-append (λ l. l.1) h.done c.labels ∙ ap (λ (xs : List ℕ). xs ++ words c.labels) h.all ∙ ap (λ (xs : List ℕ). ws ++ xs) c.words_are;
    } in
    let whole = read_ended (ws ++ more) c.value all in
    record { value = c.value; is_load_file = whole.0; text_is = whole.1; count = omega (arith, c.count, (reads h).0.front_fits.counts); some = omega (arith, c.count) }

-- ---- all of it

pub load_front : (bytes : List ℕ) → IsBytes bytes → (end : ℕ) → ReadsUpTo load_files (longs bytes) end → (n : ℕ) (h : OpenHunk) → IsLast (find_hunk (longs bytes)) end n h →
    IsFrontOf InLoadText bytes (record { longs = n; hunks = h.hunks; open_hunk = Some h.has_content; left = h.ahead })
unfolding in_text open_there
load_front bytes fit end r n h l =
    let ws : List ℕ = longs bytes in
    let front = is_front ws end r n h l in
    let there = open_there ws end r n h l in
    let o = there.0 in
    let c = closed_text (take n ws) o there.1 in
    let more : List ℕ = hunk_end (Some o.has_content) ++ empty_hunks (length o.ahead) in
    let same : more ≡ hunk_end (Some h.has_content) ++ empty_hunks h.ahead = ap (λ (x : OpenHunk). hunk_end (Some x.has_content) ++ empty_hunks x.ahead) there.2 in
    let size = length-take-le n ws front.inside in
    let begins = (front_bytes bytes (take n ws) (drop n ws) fit (sym (take-append-drop n ws))).0 in
    record {
      is_front = front;
      file = files.Load c.value 0;
      closed = LoadIsClosed c.value c.is_load_file refl (in_text (take n ws) o there.1) (length o.ahead) (omega (arith, c.some)) c.text_is;
      hunks_are = sym (ap (λ (x : OpenHunk). x.hunks) there.2) ∙ sym c.count;
      bytes_are =
          ap bytes_of (c.text_is ∙ ap (λ (xs : List ℕ). take n ws ++ xs) same)
          ∙ bytes_of-append (take n ws) (hunk_end (Some h.has_content) ++ empty_hunks h.ahead)
          ∙ ap (λ (bs : List ℕ). bs ++ bytes_of (hunk_end (Some h.has_content) ++ empty_hunks h.ahead)) (sym begins ∙ ap (λ (k : ℕ). take (4 * k) bytes) size);
    }

-- It begins with the word of a header.
pub load_begins : (ws : List ℕ) → InLoadText ws → (xs : List ℕ) × (ws ≡ header_word ∷ xs)
load_begins ws i = let b = read_before ws i in (_, sym (words_are ws (AtBlock b.0) b.1))
