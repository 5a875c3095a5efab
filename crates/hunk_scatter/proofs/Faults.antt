-- Faults of bytes that go on.
use Rattle.std.proofs.Common.{rules, ◌≡◌, ℕ, ◌+◌, ◌-◌, ◌/◌, ◌^◌, ◌<◌, ◌≤◌, List, [], ◌∷◌, ◌++◌, length, take, drop, length-append, length-drop, arith, refl, sym, ap, subst, ◌∙◌, append_assoc, append-nil, take-append-drop, ◌⊎◌, inl, inr}
use Rattle.std.proofs.Math.Seq.{take-add}
use Rattle.std.proofs.lemmas.List.{take-append-le, take_rest}
use Rattle.hunk_words.specs.{declared.fault.Fault.Fault, declared.reason.Reason.Reason, Longs.{longs, bytes_of}}
use Rattle.hunk_words.proofs.LongLaws.{length-longs}
use Rattle.hunk_grammar.specs.declared.file_kind.Sniff.{Sniff}
use Rattle.hunk_files.specs.{Fault.HasRefusal, FileParts.{IsPartAfter, IsPartAt}, LoadText.text, declared.part.Part.Part}
use Rattle.hunk_files.proofs.walk.Scan.{no_fault}
use Rattle.hunk_scatter.specs.LoaderValues.{HasNoRefusal, IsBodyRefusal, MayGoOnInFile}
use Rattle.hunk_scatter.proofs.ListCuts.{fronts}

pub longs-more : (bytes more : List ℕ) → (rest : List ℕ) × (longs (bytes ++ more) ≡ longs bytes ++ rest)
longs-more [] more = (longs more, refl)
longs-more (a ∷ []) more = (longs (a ∷ more), refl)
longs-more (a ∷ b ∷ []) more = (longs (a ∷ b ∷ more), refl)
longs-more (a ∷ b ∷ c ∷ []) more = (longs (a ∷ b ∷ c ∷ more), refl)
longs-more (a ∷ b ∷ c ∷ d ∷ bytes) more = search (rules, longs-more bytes more)

-- A refusal stays one as bytes follow.
pub refusal_more : (bytes more : List ℕ) (at : ℕ) (reason : Reason) → HasRefusal bytes at reason → HasRefusal (bytes ++ more) at reason
refusal_more bytes more at reason h =
    let r = longs-more bytes more in
    record {
      before = h.before;
      word = h.word;
      after = h.after ++ r.0;
      role = h.role;
      split = r.1 ∙ ap (λ (xs : List ℕ). xs ++ r.0) h.split ∙ append_assoc h.before (h.word ∷ h.after) r.0;
      place = h.place;
      expects = h.expects;
      refuses = h.refuses;
    }

-- Bytes that go on to a load file, or begin with one, have no refusal.
pub no_refusal_on : (bytes : List ℕ) (at : ℕ) (reason : Reason) → MayGoOnInFile bytes → HasRefusal bytes at reason → ⊥
no_refusal_on bytes at reason m h = go m.fits
  where
    go : (bytes_of (text m.value) ≡ bytes ++ m.more) ⊎ (bytes ≡ bytes_of (text m.value) ++ m.more) → ⊥
    go (inl e) =
        no_fault (bytes ++ m.more) at reason (record { value = m.value; is_load_file = m.is_load_file; rest = []; split = sym e ∙ sym (append-nil (bytes_of (text m.value))) })
        (inl (refusal_more bytes m.more at reason h))
    go (inr e) = no_fault bytes at reason (record { value = m.value; is_load_file = m.is_load_file; rest = m.more; split = e }) (inl h)

-- Its place is told as it is, where the bytes are fewer than 2^64.
pub told_at : (bytes : List ℕ) (f : Fault) → length bytes < 2 ^ 64 → (r : IsBodyRefusal bytes f) → r.0 ≡ f.place
told_at bytes f few (at, h, told) =
    let inside : at < length bytes = omega (arith, h.place, ap length h.split, length-append h.before (h.word ∷ h.after), length-longs bytes) in
    omega (arith, few, inside, told)

pub refusal_told : (bytes : List ℕ) (f : Fault) → length bytes < 2 ^ 64 → IsBodyRefusal bytes f → HasRefusal bytes f.place f.reason
refusal_told bytes f few r = subst (λ (n : ℕ). HasRefusal bytes n f.reason) (told_at bytes f few r) r.1

-- A refusal within the front of a piece is one of the piece.
pub refusal_front : (fed piece : List ℕ) (n at : ℕ) (reason : Reason) → HasRefusal (fed ++ take n piece) at reason → HasRefusal (fed ++ piece) at reason
refusal_front fed piece n at reason h =
    subst (λ (bs : List ℕ). HasRefusal bs at reason) (append_assoc fed (take n piece) (drop n piece) ∙ ap (λ (xs : List ℕ). fed ++ xs) (take-append-drop n piece))
    (refusal_more (fed ++ take n piece) (drop n piece) at reason h)

-- The longword that is refused ends in the bytes.
pub refusal_ends : (bytes : List ℕ) (at : ℕ) (reason : Reason) → HasRefusal bytes at reason → at + 4 ≤ length bytes
refusal_ends bytes at reason h = omega (arith, h.place, ap length h.split, length-append h.before (h.word ∷ h.after), length-longs bytes)

-- A refusal is one of the front that its longword ends in.
pub refusal_within : (bytes rest : List ℕ) (at : ℕ) (reason : Reason) → HasRefusal (bytes ++ rest) at reason → at + 4 ≤ length bytes → HasRefusal bytes at reason
refusal_within bytes rest at reason h inside = go (fronts h.before h.word h.after (longs bytes) r.0 (sym h.split ∙ r.1))
  where
    r : (more : List ℕ) × (longs (bytes ++ rest) ≡ longs bytes ++ more)
    r = longs-more bytes rest

    go : ((m : List ℕ) × (longs bytes ≡ h.before ++ h.word ∷ m)) ⊎ ((m : List ℕ) × (h.before ≡ longs bytes ++ m)) → HasRefusal bytes at reason
    go (inl (m, e)) = record {
      before = h.before;
      word = h.word;
      after = m;
      role = h.role;
      split = e;
      place = h.place;
      expects = h.expects;
      refuses = h.refuses;
    }
    go (inr (m, e)) = absurd (omega (arith, inside, h.place, ap length e, length-append (longs bytes) m, length-longs bytes))

-- Where none of what was fed is refused, the longword ends in the piece.
pub refusal_after : (fed piece : List ℕ) (at : ℕ) (reason : Reason) → HasNoRefusal fed → HasRefusal (fed ++ piece) at reason → length fed < at + 4
refusal_after fed piece at reason clean h = omega (arith, not_before)
  where
    not_before : at + 4 ≤ length fed → ⊥
    not_before le = clean at reason (refusal_within fed piece at reason h le)

-- The part that a longword is of goes by the longwords before it.
pub part_within : (kind : Sniff) (bytes rest : List ℕ) (place : ℕ) (part : Part) → IsPartAt kind (bytes ++ rest) place part → place ≤ length bytes → IsPartAt kind bytes place part
part_within kind bytes rest place part h inside =
    let r = longs-more bytes rest in
    let same : take (place / 4) (longs (bytes ++ rest)) ≡ take (place / 4) (longs bytes) =
    ap (λ (xs : List ℕ). take (place / 4) xs) r.1 ∙ take-append-le (place / 4) (longs bytes) r.0 (omega (arith, inside, length-longs bytes)) in
    subst (λ (ws : List ℕ). IsPartAfter kind ws part) same h

-- So much of a piece, and so much of its rest.
pub fed_on : (fed piece front after : List ℕ) (n m : ℕ) → front ≡ fed ++ take n piece → after ≡ front ++ take m (take (length piece - n) (drop n piece)) → after ≡ fed ++ take (n + m) piece
fed_on fed piece front after n m e d = search (rules, take_rest, append_assoc, take-add)

-- A part of the rest of a piece ends within it.
pub rest_within : (piece : List ℕ) (n m : ℕ) → n ≤ length piece → m ≤ length (take (length piece - n) (drop n piece)) → n + m ≤ length piece
rest_within piece n m le more = omega (arith, le, more, ap length (take_rest piece n), length-drop n piece)
