-- Where longwords stand in the text of a load file: in its header, or in a hunk.
use Rattle.std.proofs.Common.{◌≡◌, ℕ, suc, List, [], ◌∷◌, ◌++◌, length, refl, sym, ap, ap₂, subst, ◌∙◌, append_assoc, append-nil, length-append, arith, true, ◌⊎◌, inl, inr}
use Rattle.std.specs.List.{flat_map}
use Rattle.std.proofs.lemmas.List.{map-append}
use Rattle.hunk_blocks.specs.Faults.{words}
use Rattle.hunk_blocks.proofs.{Fronts.All-left, Lists.{flat_map-append, flat_map-more}}
use Rattle.hunk_grammar.specs.Roles.{Role}
use Rattle.hunk_files.specs.LoadFile.{TableEntry, HunkValue, LoadFileValue, IsHunk, IsLoadFile}
use Rattle.hunk_files.specs.LoadText.{header_labelled, hunk_labelled, labelled, table, text}
use Rattle.hunk_files.specs.{Hunks.block_texts, Tables.{header_text, hunk_texts}}
use Rattle.hunk_files.specs.FileParts.{IsInLoadHeader, IsInLoadHunk, IsLoadPart, of_header, of_hunk}
use Rattle.hunk_files.specs.FileSteps.{Progress, AtFirst, Next, More, Finished, open_hunk, role_of, Leads}
use Rattle.hunk_files.specs.ReaderPosition.{opened}
use Rattle.hunk_files.specs.WordsRead.{HasRead, Labelled, IsAccepted, AreAccepted}
use Rattle.hunk_files.specs.declared.part.Part.{Part}
use Rattle.hunk_files.specs.declared.part.Part.TheVariants as parts
use Rattle.hunk_files.proofs.{walk.Accepted.labelled_accepted, walk.FileText.{Leads-append, hunks_lead, table_read}}
use Rattle.hunk_files.proofs.parts.LoadParts.{opened_part, part_of, part_opened}
use Rattle.hunk_files.proofs.parts.OpenedHunks.{is_between, leads_count, leads_open, leads_some, opened_count, opens_between, opens_count}
use Rattle.hunk_files.proofs.walk.Reading.{front_read, one_place, reads, rest_read}
use Rattle.hunk_files.proofs.{walk.Scan.front_of, cuts.TableReading.{all_words, text_is}}

-- ---- longwords cut in two

-- in the first of two lists, or after it
cut_two : (xs ys done : List ℕ) (w : ℕ) (more : List ℕ) → xs ++ ys ≡ done ++ w ∷ more → ((rest : List ℕ) × (xs ≡ done ++ w ∷ rest)) ⊎ ((front : List ℕ) × (done ≡ xs ++ front) × (ys ≡ front ++ w ∷ more))
cut_two [] ys done w more e = inr (done, refl, e)
cut_two (x ∷ xs) ys [] w more e = let head : x ≡ w = cc in inl (xs, ap (λ y. y ∷ xs) head)
cut_two (x ∷ xs) ys (d ∷ done) w more e =
    let head : x ≡ d = cc in
    let tail : xs ++ ys ≡ done ++ w ∷ more = cc in
    elim (cut_two xs ys done w more tail) [
      | inl r ↦ inl (r.0, ap₂ (λ y zs. y ∷ zs) head r.1)
      | inr r ↦ inr (r.0, ap₂ (λ y zs. y ∷ zs) (sym head) r.1, r.2)
    ]

-- a longword of texts that stand one after the other
pub record InItem {A : Type 0} (text : A → List ℕ) (items : List A) (done : List ℕ) (w : ℕ) : Type 0 where
  pub before : List A
  pub item : A
  pub after : List A
  pub front : List ℕ
  pub rest : List ℕ
  pub items_are : items ≡ before ++ item ∷ after
  pub done_is : done ≡ flat_map text before ++ front
  pub item_is : text item ≡ front ++ w ∷ rest

in_item : {A : Type 0} (text : A → List ℕ) (items : List A) (done : List ℕ) (w : ℕ) (more : List ℕ) → flat_map text items ≡ done ++ w ∷ more → InItem text items done w
in_item text [] [] w more e = absurd cc
in_item text [] (d ∷ done) w more e = absurd cc
in_item text (x ∷ items) done w more e = elim (cut_two (text x) (flat_map text items) done w more e) [
  | inl r ↦ record { before = []; item = x; after = items; front = done; rest = r.0; items_are = refl; done_is = refl; item_is = r.1 }
  | inr r ↦ in_rest r.0 r.1 (in_item text items r.0 w more r.2)
]
  where
    in_rest : (front : List ℕ) → done ≡ text x ++ front → InItem text items front w → InItem text (x ∷ items) done w
    in_rest front e i = record {
      before = x ∷ i.before;
      item = i.item;
      after = i.after;
      front = i.front;
      rest = i.rest;
      items_are = ap (λ ys. x ∷ ys) i.items_are;
      done_is = e ∙ ap (λ ws. text x ++ ws) i.done_is ∙ sym (append_assoc (text x) (flat_map text i.before) i.front);
      item_is = i.item_is;
    }

-- ---- what is read of a text

-- The header and whole hunks lead to the next hunk.
pub hunks_read : (whole ahead : List HunkValue) → IsLoadFile (whole ++ ahead) → HasRead (header_text (whole ++ ahead) ++ hunk_texts whole) (open_hunk (length (whole ++ ahead)) whole (table ahead))
unfolding labelled
hunks_read whole ahead is =
    let v : LoadFileValue = whole ++ ahead in
    let n : ℕ = length v in
    let header : Labelled = header_labelled (table v) in
    let front : Labelled = flat_map (hunk_labelled n) whole in
    let back : Labelled = flat_map (hunk_labelled n) ahead in
    let split : labelled v ≡ (header ++ front) ++ back = ap (λ (l : Labelled). header ++ l) (flat_map-append (hunk_labelled n) whole ahead) ∙ sym (append_assoc header front back) in
    record {
      done = header ++ front;
      leads =
          Leads-append (More AtFirst) (open_hunk n [] (table v)) (open_hunk n whole (table ahead)) header front (table_read v is)
          (subst (λ (t : List TableEntry). Leads (open_hunk n [] t) front (open_hunk n whole (table ahead))) (sym (map-append (λ (h : HunkValue). h.entry) whole ahead))
          (hunks_lead n [] whole (table ahead) (All-left (IsHunk n) whole ahead is.each)));
      accepted = All-left IsAccepted (header ++ front) back (subst AreAccepted split (labelled_accepted v is));
      all = map-append (λ (l : Role × ℕ). l.1) header front ∙ ap (λ (ws : List ℕ). header_text v ++ ws) (all_words n whole);
    }

-- What was read up to a longword of what was read.
record IsReadTo (before : List ℕ) (last : Next) : Type 0 where
  progress : Progress
  read : HasRead before (More progress)
  label : Role × ℕ
  rest : Labelled
  leads : Leads (More progress) (label ∷ rest) last

read_to : (before : List ℕ) (w : ℕ) (more : List ℕ) (last : Next) → HasRead (before ++ w ∷ more) last → IsReadTo before last
read_to before w more last h =
    let f = front_read before (w ∷ more) last h in
    let r = rest_read before f.0 f.1 (before ++ w ∷ more) last h (w ∷ more) refl in
    go f.0 f.1 r.0 r.1 r.3
  where
    go : (n : Next) → HasRead before n → (ls : Labelled) → Leads n ls last → words ls ≡ w ∷ more → IsReadTo before last
    go (More p) k (l ∷ ls) leads e = record { progress = p; read = k; label = l; rest = ls; leads = leads }
    go (Finished v) k (l ∷ ls) leads e = absurd leads
    go (More p) k [] leads e = absurd cc
    go (Finished v) k [] leads e = absurd cc

-- ---- in the header

pub header_place : (before : List ℕ) → IsInLoadHeader before → (p : Progress) × HasRead before (More p) × (length (opened p) ≡ 0)
header_place before h =
    let n : Next = open_hunk (length h.value) [] (table h.value) in
    let r = read_to before h.next h.more n (subst (λ (ws : List ℕ). HasRead ws n) (append-nil (header_text h.value) ∙ h.split) (hunks_read [] h.value h.is_load_file)) in
    let few = leads_open r.progress n r.label r.rest (opens_between (length h.value) [] (table h.value)) r.leads in
    (r.progress, r.read, omega (arith, few, opens_count (length h.value) [] (table h.value)))

-- ---- in a hunk

module _ (before : List ℕ) (hunk : ℕ) (h : IsInLoadHunk before hunk) where
  abbrev file : LoadFileValue
  file = h.whole ++ h.hunk_open ∷ h.ahead

  -- where the hunk opens
  abbrev here : Next
  here = open_hunk (length file) h.whole (table (h.hunk_open ∷ h.ahead))

  -- and after it
  abbrev with_open : List HunkValue
  with_open = h.whole ++ h.hunk_open ∷ []

  abbrev in_rest : Next
  in_rest = open_hunk (length (with_open ++ h.ahead)) with_open (table h.ahead)

  same_file : with_open ++ h.ahead ≡ file
  same_file = append_assoc h.whole (h.hunk_open ∷ []) h.ahead

  read_after : HasRead (before ++ h.next ∷ h.more) in_rest
  read_after =
      subst (λ (ws : List ℕ). HasRead ws in_rest)
      (ap (λ (v : LoadFileValue). header_text v ++ hunk_texts with_open) same_file
      ∙ ap (λ (ws : List ℕ). header_text file ++ ws)
      (flat_map-more (λ (x : HunkValue). block_texts x.blocks) h.whole h.hunk_open
      ∙ ap (λ (ws : List ℕ). hunk_texts h.whole ++ ws) h.goes_on
      ∙ sym (append_assoc (hunk_texts h.whole) h.front (h.next ∷ h.more)))
      ∙ sym (append_assoc (header_text file) (hunk_texts h.whole ++ h.front) (h.next ∷ h.more))
      ∙ ap (λ (ws : List ℕ). ws ++ h.next ∷ h.more) (sym h.split))
      (hunks_read with_open h.ahead (subst IsLoadFile (sym same_file) h.is_load_file))

  pub hunk_place : (p : Progress) × HasRead before (More p) × (length (opened p) ≡ suc hunk)
  hunk_place =
      let r = read_to before h.next h.more in_rest read_after in
      let most = leads_open r.progress in_rest r.label r.rest (opens_between (length (with_open ++ h.ahead)) with_open (table h.ahead)) r.leads in
      let open_read = hunks_read h.whole (h.hunk_open ∷ h.ahead) h.is_load_file in
      let front = rest_read (header_text file ++ hunk_texts h.whole) here open_read before (More r.progress) r.read h.front (h.split ∙ sym (append_assoc (header_text file) (hunk_texts h.whole) h.front)) in
      let least = leads_count here (More r.progress) front.0 front.1 in (
        r.progress,
        r.read,
        omega (
          arith,
          most,
          least,
          h.hunk_is,
          opens_count (length file) h.whole (table (h.hunk_open ∷ h.ahead)),
          opens_count (length (with_open ++ h.ahead)) with_open (table h.ahead),
          length-append h.whole (h.hunk_open ∷ []),
        ),
      )

  -- Where the reader stands between hunks, the hunk has not begun.
  pub opens_here : (p : Progress) → HasRead before (More p) → is_between (More p) ≡ true → h.front ≡ []
  opens_here p read b =
      let place = hunk_place in
      let same : More place.0 ≡ More p = one_place before (More place.0) (More p) place.1 read in
      let open_read = hunks_read h.whole (h.hunk_open ∷ h.ahead) h.is_load_file in
      let front = rest_read (header_text file ++ hunk_texts h.whole) here open_read before (More p) read h.front (h.split ∙ sym (append_assoc (header_text file) (hunk_texts h.whole) h.front)) in
      go front.0 front.1 front.3 (omega (arith, ap opened_count same, place.2))
    where
      go : (ls : Labelled) → Leads here ls (More p) → words ls ≡ h.front → opened_count (More p) ≡ suc hunk → h.front ≡ []
      go [] leads e count = sym e
      go (l ∷ ls) leads e count =
          absurd (omega (arith, leads_some here (More p) (l ∷ ls) b leads, count, h.hunk_is, opens_count (length file) h.whole (table (h.hunk_open ∷ h.ahead))))

-- ---- the part

pub part_place : (before : List ℕ) (part : Part) → IsLoadPart before part → (p : Progress) × HasRead before (More p) × (part ≡ part_of p)
part_place before _ (of_header h) = let p = header_place before h in (p.0, p.1, ap part_opened (sym p.2) ∙ sym (opened_part p.0))
part_place before _ (of_hunk hunk h) = let p = hunk_place before hunk h in (p.0, p.1, ap part_opened (sym p.2) ∙ sym (opened_part p.0))

-- A longword of a load file is of its header, or of a hunk.
abbrev pub IsInHunks : LoadFileValue → List ℕ → ℕ → Type 0
IsInHunks v front w = InItem (λ (h : HunkValue). block_texts h.blocks) v front w

pub in_text : (v : LoadFileValue) (before : List ℕ) (w : ℕ) (more : List ℕ) → text v ≡ before ++ w ∷ more →
    ((rest : List ℕ) × (header_text v ≡ before ++ w ∷ rest)) ⊎ ((front : List ℕ) × (before ≡ header_text v ++ front) × IsInHunks v front w)
in_text v before w more e = elim (cut_two (header_text v) (hunk_texts v) before w more (sym (text_is v) ∙ e)) [
  | inl r ↦ inl r
  | inr r ↦ inr (r.0, r.1, in_item (λ (h : HunkValue). block_texts h.blocks) v r.0 w more r.2)
]

module _ (v : LoadFileValue) (is : IsLoadFile v) (before : List ℕ) (w : ℕ) where
  pub in_header : (rest : List ℕ) → header_text v ≡ before ++ w ∷ rest → IsInLoadHeader before
  in_header rest e = record { value = v; is_load_file = is; next = w; more = rest; split = e }

  abbrev pub in_hunk : (front : List ℕ) → before ≡ header_text v ++ front → (i : IsInHunks v front w) → IsInLoadHunk before (length i.before)
  in_hunk front e i = record {
    whole = i.before;
    hunk_open = i.item;
    ahead = i.after;
    front = i.front;
    next = w;
    more = i.rest;
    is_load_file = subst IsLoadFile i.items_are is;
    split = e ∙ ap₂ (λ (u : LoadFileValue) (ws : List ℕ). header_text u ++ ws) i.items_are i.done_is;
    goes_on = i.item_is;
    hunk_is = refl;
  }

-- It is of some part.
pub some_part : (v : LoadFileValue) → IsLoadFile v → (before : List ℕ) (w : ℕ) (more : List ℕ) → text v ≡ before ++ w ∷ more → (part : Part) × IsLoadPart before part
some_part v is before w more e = elim (in_text v before w more e) [
  | inl r ↦ (parts.Header, of_header (in_header v is before w r.0 r.1))
  | inr r ↦ (parts.Hunk (length r.2.before), of_hunk _ (in_hunk v is before w r.0 r.1 r.2))
]

-- What was read is of the part that the reader tells.
pub read_part : (ws : List ℕ) (p : Progress) → HasRead ws (More p) → IsLoadPart ws (part_of p)
read_part ws p h =
    let f = front_of p h.done (reads h) in
    let text_is : text f.value ≡ ws ++ f.word ∷ words f.more = ap words f.labels ∙ map-append (λ (x : Role × ℕ). x.1) h.done ((role_of p, f.word) ∷ f.more) ∙ ap (λ (xs : List ℕ). xs ++ f.word ∷ words f.more) h.all in
    let s = some_part f.value f.is_load_file ws f.word (words f.more) text_is in
    let q = part_place ws s.0 s.1 in
    let same : More q.0 ≡ More p = one_place ws (More q.0) (More p) q.1 h in
    let progress : q.0 ≡ p = cc in
    subst (IsLoadPart ws) (q.2 ∙ ap part_of progress) s.1

-- It is one alone.
pub one_part : (ws : List ℕ) (a b : Part) → IsLoadPart ws a → IsLoadPart ws b → a ≡ b
one_part ws a b h k =
    let p = part_place ws a h in
    let q = part_place ws b k in
    let same : More p.0 ≡ More q.0 = one_place ws (More p.0) (More q.0) p.1 q.1 in
    let progress : p.0 ≡ q.0 = cc in
    p.2 ∙ ap part_of progress ∙ sym q.2
