-- What is known where a loader of a body stands after bytes.
use Rattle.std.proofs.Common.{rules, ◌≡◌, ℕ, ◌+◌, ◌*◌, ◌/◌, ◌≤◌, ◌<◌, Bool, true, false, List, [], ◌∷◌, ◌++◌, length, map, take, drop, refl, sym, ap, ap₂, subst, ◌∙◌, append_assoc, append-nil, arith, length-append, is_some, Option, None}
use Rattle.std.proofs.lemmas.Grind.{common_steps}
use Rattle.std.specs.List.{AllByRecursion}
use Rattle.std.proofs.lemmas.List.{map-append, take_at, drop_at}
use Rattle.hunk_words.specs.{declared.fault.Fault.Fault, Carriers.saturated, Longs.{bytes_of, longs, AreLongs}, PendingBytes.pending_of}
use Rattle.hunk_blocks.specs.Faults.{words}
use Rattle.hunk_grammar.specs.declared.phase.Phase.{Phase}
use Rattle.hunk_files.specs.{Fault.IsTruncated, Image.{image, images}, LoadFile.{HunkValue, LoadFileValue, IsLoadFile}}
use Rattle.hunk_files.specs.{LoadText.{text, table}, FileSteps.{Progress, Next, More, Finished, Leads}}
use Rattle.hunk_files.specs.{WordsRead.{HasRead, Labelled}, declared.row.Row.Row, ReaderPosition.{position_of, IsAfterHeader}}
use Rattle.hunk_grammar.specs.{Roles.Role, declared.position.OpenHunk.OpenHunk, declared.position.Position.Position, Positions.{is_done, least_longs}}
use Rattle.hunk_scatter.specs.{LoadOutcomes.GoesPastNoFile, Owing.{BytesToCome, FileOwes, run_of}}
use Rattle.hunk_scatter.specs.{declared.store.BodyState.BodyState, StoreContent.HasSizedImage, BodyLoaderFields.{IsFed, StandsAfter}}
use Rattle.hunk_scatter.specs.{declared.stream.Standing.Standing, LoaderValues.{IsWholeFile, IsImageOf, HasNoRefusal, segments_in}}
use Rattle.hunk_scatter.specs.{BodyReader.{sizes_of, state_of}, BodySteps.IsInStore, Rows.{words_of, bases_of}}
use Rattle.hunk_scatter.proofs.{Owed.{to_come, to_come_least}, FileLeast.file_ends}
use Rattle.hunk_scatter.proofs.{Outcomes.{longs_are, read_clean, read_truncated}, ReadWords.{read_longs, text_longs}}
use Rattle.hunk_scatter.proofs.{Runs.none_over, OneByte.{Going, going, room, file_read, sizes_are}}
use Rattle.hunk_words.proofs.LongLaws.{longs-bytes_of, longs-few, length-bytes_of}
use Rattle.hunk_files.proofs.{walk.Least.owes_least, walk.Reading.{rest_read, file_read as text_read}}
use Rattle.hunk_grammar.specs.declared.position.Position.TheVariants as positions

-- ---- words

-- a Vec whose elements were written through a slice
pub written : {A : Type 0} (items new : List A) (len : ℕ) → len ≡ length items → length new ≡ length items → take len (new ++ drop (length new) items) ≡ new
written {A} items new len e d = grind (arith, common_steps)

pub none_of : (o : Option Fault) → is_some o ≡ false → o ≡ None
none_of o e = search rules

-- A load text that another begins with is that one.
none_after : (u v : LoadFileValue) → IsLoadFile u → IsLoadFile v → (more : List ℕ) → text u ≡ text v ++ more → more ≡ []
none_after u v is in_front more e =
    let r = rest_read (text v) (Finished v) (text_read v in_front) (text u) (Finished u) (text_read u is) more e in
    go r.0 r.1 r.3
  where
    go : (ls : Labelled) → Leads (Finished v) ls (Finished u) → words ls ≡ more → more ≡ []
    go [] leads same = sym same
    go (l ∷ ls) leads same = absurd leads

cut_images : (bases : List ℕ) (v : List HunkValue) → AllByRecursion (HasSizedImage bases) v → segments_in (sizes_of (table v)) (images bases v) ≡ map (image bases) v
cut_images bases [] h = refl
cut_images bases (x ∷ v) h = search (rules, take_at, drop_at, cut_images bases v h.1)

state_position : (p : Progress) → IsAfterHeader (More p) → least_longs (state_of (More p)).position ≡ least_longs (position_of (More p))
state_position p b = search rules

longs_left : (xs ys : List ℕ) → AreLongs (xs ++ ys) → AreLongs xs
longs_left [] ys h = tt
longs_left (x ∷ xs) ys h = (h.0, longs_left xs ys h.1)

words_same : (ws pending fed : List ℕ) → fed ≡ bytes_of ws ++ pending → length pending < 4 → AreLongs ws → (p : ℕ) (h : BytesToCome fed p) → (words h.done ≡ ws) × (length h.pending ≡ length pending)
words_same ws pending fed e few are p h =
    let split : text h.value ≡ words h.done ++ words h.more = ap words h.labels ∙ map-append (λ (x : Role × ℕ). x.1) h.done h.more in
    let fits : AreLongs (words h.done) = longs_left (words h.done) (words h.more) (subst AreLongs split (text_longs h.value h.is_load_file)) in
    let one : longs fed ≡ words h.done =
    ap longs h.spelled ∙ longs-bytes_of (words h.done) h.pending fits ∙ ap (λ (xs : List ℕ). words h.done ++ xs) (longs-few h.pending h.few) ∙ append-nil (words h.done) in
    let two : longs fed ≡ ws =
    ap longs e ∙ longs-bytes_of ws pending are ∙ ap (λ (xs : List ℕ). ws ++ xs) (longs-few pending few) ∙ append-nil ws in
    let same : words h.done ≡ ws = sym one ∙ two in (
      same,
      omega (
        arith,
        ap length same,
        ap length h.spelled,
        ap length e,
        length-append (bytes_of (words h.done)) h.pending,
        length-append (bytes_of ws) pending,
        length-bytes_of (words h.done),
        length-bytes_of ws,
      ),
    )

done_least : (p : Position) → is_done p ≡ true → least_longs p ≡ 0
done_least p e = search rules

-- ---- a loader after bytes

module _ (rows : List Row) (store : List ℕ) (s : Standing) (fed : List ℕ) (h : IsFed rows store s fed) where
  abbrev pending : List ℕ
  pending = pending_of s.pending

  -- Numbers and a store after more bytes.
  pub fed_more : (store2 : List ℕ) (to : Standing) (bytes : List ℕ) → length store2 ≡ length store → to.fed ≡ saturated (length (fed ++ bytes)) →
      StandsAfter rows store2 to.state (pending_of to.pending) (fed ++ bytes) → IsFed rows store2 to (fed ++ bytes)
  fed_more store2 to bytes same count r = search rules

  pub whole_file : is_done s.state.position ≡ true → IsWholeFile rows fed
  whole_file done = let e = file_read rows store s.state pending fed h.stands done in (e.0, e.1)

  pub image_of : is_done s.state.position ≡ true → IsImageOf rows fed (segments_in (words_of rows) store)
  image_of done =
      let e = file_read rows store s.state pending fed h.stands done in
      record {
        value = e.0;
        file = e.1;
        images_are =
            ap₂ segments_in (sym (ap sizes_of e.1.table_is ∙ sizes_are rows)) e.3
            ∙ cut_images (bases_of rows) e.0 e.2;
      }

  pub fed_clean : HasNoRefusal fed
  fed_clean = let r = h.stands in read_clean r.ws r.next pending fed r.read r.few r.spelled

  -- After a header a hunk is open, or the file is whole.
  pub done_unless_open : ((hunk : OpenHunk) (phase : Phase) → s.state.position ≡ positions.Body hunk phase → ⊥) → is_done s.state.position ≡ true
  done_unless_open closed = search rules

  -- At the end nothing is to come.
  pub none_to_come : is_done s.state.position ≡ true → (p : ℕ) → BytesToCome fed p → p ≡ 0
  none_to_come done p t = let r = h.stands in go r.next r.read r.after r.state_is (words_same r.ws pending fed r.spelled r.few (read_longs r.ws r.next r.read) p t)
    where
      go : (n : Next) → HasRead h.stands.ws n → IsAfterHeader n → state_of n ≡ s.state → (words t.done ≡ h.stands.ws) × (length t.pending ≡ length pending) → p ≡ 0
      go (More q) read b e w = search rules
      go (Finished v) read b e w =
          let none_left : run_of t.more ≡ 0 = to_come h.stands.ws (Finished v) read t.value t.is_load_file t.done t.more t.labels w.0 in
          omega (arith, t.count, none_left)

  module _ (more : is_done s.state.position ≡ false) where
    pub gone : Going rows store s.state pending fed
    gone = going rows store s.state pending fed h.stands more

    pub in_room : IsInStore (words_of rows) (length store) s.state
    in_room = room rows store s.state pending fed gone h.size

    pub fed_truncated : IsTruncated fed (4 * (length fed / 4))
    fed_truncated = read_truncated gone.ws gone.at pending fed gone.read gone.few gone.spelled

    here : least_longs (position_of (More gone.at)) ≡ least_longs s.state.position
    here = sym (state_position gone.at gone.in_body) ∙ ap (λ (x : BodyState). least_longs x.position) gone.state_is

    whole_here : (v : LoadFileValue) (rest : List ℕ) → bytes_of (text v) ≡ fed ++ rest → bytes_of (text v) ≡ bytes_of gone.ws ++ (pending ++ rest)
    whole_here v rest e = e ∙ ap (λ (xs : List ℕ). xs ++ rest) gone.spelled ∙ append_assoc (bytes_of gone.ws) pending rest

    -- A load text that begins with what was fed begins with what was read.
    pub text_here : (v : LoadFileValue) (rest : List ℕ) → IsLoadFile v → bytes_of (text v) ≡ fed ++ rest → text v ≡ gone.ws ++ longs (pending ++ rest)
    text_here v rest is e =
        sym (append-nil (text v))
        ∙ sym (longs-bytes_of (text v) [] (text_longs v is))
        ∙ ap longs (append-nil (bytes_of (text v)) ∙ whole_here v rest e)
        ∙ longs-bytes_of gone.ws (pending ++ rest) (read_longs gone.ws (More gone.at) gone.read)

    -- No load text that begins with what was fed ends in fewer bytes.
    pub owes_bytes : (v : LoadFileValue) (rest : List ℕ) → IsLoadFile v → bytes_of (text v) ≡ fed ++ rest → 4 * least_longs s.state.position ≤ length pending + length rest
    owes_bytes v rest is e =
        let whole = whole_here v rest e in
        let d = text_here v rest is e in
        let owed : least_longs (position_of (More gone.at)) ≤ length (longs (pending ++ rest)) = owes_least gone.ws (More gone.at) gone.read v is (longs (pending ++ rest)) d in
        let bytes : 4 * length (longs (pending ++ rest)) ≡ length pending + length rest =
        omega (arith, ap length d, ap length whole, length-append gone.ws (longs (pending ++ rest)), length-bytes_of (text v), length-bytes_of gone.ws, length-append (bytes_of gone.ws) (pending ++ rest), length-append pending rest) in
        omega (arith, owed, here, bytes)

    -- What is to come of a list is owed.
    pub to_come_owed : (p : ℕ) → BytesToCome fed p → p + length pending ≤ 4 * least_longs s.state.position
    to_come_owed p t =
        let w = words_same gone.ws pending fed gone.spelled gone.few (read_longs gone.ws (More gone.at) gone.read) p t in
        let most : run_of t.more ≤ least_longs (position_of (More gone.at)) = to_come_least gone.ws gone.at gone.read t.value t.is_load_file t.done t.more t.labels w.0 in
        omega (arith, t.count, w.1, most, here)

  -- No byte is fed after a load text.
  pub fed_within : GoesPastNoFile fed
  fed_within v more is e = go (is_done s.state.position) refl
    where
      go : (b : Bool) → is_done s.state.position ≡ b → more ≡ []
      go false on = absurd ((fed_truncated on).not_whole (record { value = v; is_load_file = is; rest = more; split = e }))
      go true done =
          let w = whole_file done in
          let same : text w.0 ≡ text v ++ longs more =
          sym (append-nil (text w.0))
          ∙ sym (longs-bytes_of (text w.0) [] (text_longs w.0 w.1.is_load_file))
          ∙ ap longs (append-nil (bytes_of (text w.0)) ∙ w.1.bytes_are ∙ e)
          ∙ longs-bytes_of (text v) more (text_longs v is) in
          let over : longs more ≡ [] = none_after w.0 v w.1.is_load_file is (longs more) same in
          none_over more
          (omega (
            arith,
            ap length (w.1.bytes_are ∙ e),
            length-append (bytes_of (text v)) more,
            length-bytes_of (text w.0),
            length-bytes_of (text v),
            ap length same,
            length-append (text v) (longs more),
            ap length over,
          ))

  pub not_whole : is_done s.state.position ≡ false → IsWholeFile rows fed → ⊥
  not_whole more w =
      (fed_truncated more).not_whole (record { value = w.0; is_load_file = w.1.is_load_file; rest = []; split = sym w.1.bytes_are ∙ sym (append-nil (bytes_of (text w.0))) })

  pub done_if_whole : IsWholeFile rows fed → is_done s.state.position ≡ true
  done_if_whole w = search (rules, not_whole)

  at_least : (n : Next) → IsAfterHeader n → state_of n ≡ s.state → least_longs (position_of n) ≡ least_longs s.state.position
  at_least n b e = search rules

  -- What is owed of the file.
  module _ (owed : ℕ) (is : owed + length pending ≡ 4 * least_longs s.state.position) where
    owes_least_bytes : (v : LoadFileValue) (rest : List ℕ) → IsLoadFile v → bytes_of (text v) ≡ fed ++ rest → owed ≤ length rest
    owes_least_bytes v rest is_file e = go (is_done s.state.position) refl
      where
        go : (b : Bool) → is_done s.state.position ≡ b → owed ≤ length rest
        go false more = omega (arith, is, owes_bytes more v rest is_file e)
        go true done = omega (arith, is, done_least s.state.position done)

    pub owes_file : FileOwes fed owed
    owes_file =
        let r = h.stands in
        let e = file_ends r.ws r.next r.read r.after in
        record {
          least = owes_least_bytes;
          value = e.value;
          is_load_file = e.is_load_file;
          more = e.more;
          begins = e.begins ∙ ap (λ (ws : List ℕ). ws ++ e.more) (sym (longs_are r.ws r.next pending fed r.read r.few r.spelled));
          ends =
              omega (
                arith,
                is,
                e.count,
                at_least r.next r.after r.state_is,
                r.few,
                ap length r.spelled,
                length-append (bytes_of r.ws) pending,
                length-bytes_of r.ws,
              );
        }
