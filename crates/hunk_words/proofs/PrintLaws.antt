-- How what is printed follows what was printed.
use Rattle.std.proofs.Common.{◌≡◌, ℕ, ◌+◌, Bool, true, false, List, [], ◌++◌, Option, length, refl, sym, ap, subst, ◌∙◌, append_assoc, append-nil, length-append, arith}
use Rattle.std.specs.{Prelude.{Result, Ok, Err, IfErr, IsErr, OnErr, OnOk, is_err}, Io.KnownBytes.Appends}
use Rattle.std.proofs.lemmas.List.{take_all}
use Rattle.hunk_words.specs.{Carriers.{Outlet, Writing, saturated}, declared.long_writer.WriteFault.WriteFault}
use Rattle.hunk_words.specs.{Prints.{Printing, Sends, SendsBy}, Puts.{Puts, PutsBefore, PutsText}}
use Rattle.hunk_words.proofs.PutLaws.{puts_front, puts_more_after, puts_part}

-- all of the front has gone out
puts_all : (a b : Option (List ℕ)) (m n : ℕ) (front : List ℕ) → n ≡ m + length front → Appends a b front → Puts a b m n front
puts_all a b m n front rose gone =
    record { count = length front; fits = omega arith; rose = rose; gone = subst (Appends a b) (sym (take_all (length front) front (omega arith))) gone }

-- what is put after a front goes on
puts_after : (a b c : Option (List ℕ)) (m n o : ℕ) (bytes rest : List ℕ) → PutsBefore a b m n bytes rest → Puts b c n o rest → Puts a c m o bytes
puts_after a b c m n o bytes rest (front, split, rose, gone) more =
    subst (Puts a c m o) (sym split) (puts_more_after a b c m n o front rest (puts_all a b m n front rose gone) rose more)

module _ {W : Type 0} (outlet : W → Outlet) (first : Writing W) where
  -- more bytes are held
  pub holds_more : (out : Writing W) (text held bytes whole page : List ℕ) → Sends outlet first out text held → whole ≡ text ++ bytes → page ≡ held ++ bytes → Sends outlet first out whole page
  holds_more out text held bytes whole page sends is page_is = record { sends = go out.stopped sends.sends; stays = sends.stays }
    where
      go : (stopped : Bool) → SendsBy stopped (outlet first.sink) (outlet out.sink) first.written out.written text held → SendsBy stopped (outlet first.sink) (outlet out.sink) first.written out.written whole page
      go false ((front, split, rose, gone), same) =
          ((front, is ∙ ap (λ xs. xs ++ bytes) split ∙ append_assoc front held bytes ∙ ap (λ xs. front ++ xs) (sym page_is), rose, gone), same)
      go true (few, puts) = (
        omega (arith, few, ap length is, ap length page_is, length-append text bytes, length-append held bytes),
        subst (Puts (outlet first.sink).taken (outlet out.sink).taken first.written out.written) (sym is)
            (puts_part (outlet first.sink).taken (outlet out.sink).taken first.written out.written text bytes puts),
      )

  -- what is held is put
  module _ {T : Type 0} (old new : Writing W) (r : Result T WriteFault) (text held : List ℕ) (sends : Sends outlet first old text held)
      (puts : PutsText outlet old new held r) where
    Sent : Bool → Type 0
    Sent stopped = SendsBy stopped (outlet first.sink) (outlet new.sink) first.written new.written text []

    put_open : (s : Result T WriteFault) → r ≡ s → SendsBy false (outlet first.sink) (outlet old.sink) first.written old.written text held → Sent (is_err s)
    unfolding Sent
    put_open (Ok x) is (before, same) =
        let all : new.written ≡ old.written + length held = subst (λ (s : Result T WriteFault). OnOk s (new.written ≡ old.written + length held)) is puts.all in
        let sent = puts_after _ _ _ _ _ _ text held before puts.puts in
        let rose : new.written ≡ first.written + length text = omega (arith, all, before.2, ap length before.1, length-append before.0 held) in (
          (text, sym (append-nil text), rose, subst (Appends (outlet first.sink).taken (outlet new.sink).taken) (take_all sent.count text (omega (arith, rose, sent.rose))) sent.gone),
          subst (λ (s : Result T WriteFault). OnOk s ((outlet new.sink).failed ≡ (outlet old.sink).failed)) is puts.no_failure ∙ same,
        )
    put_open (Err e) is (before, same) = (omega arith, puts_after _ _ _ _ _ _ text held before puts.puts)

    -- one that had stopped at first is as it was
    stayed : first.stopped ≡ true → IsErr r × (new ≡ first)
    stayed stopped =
        let same = sends.stays stopped in
        let stay = puts.stays (ap (λ (w : Writing W). w.stopped) same ∙ stopped) in (stay.0, stay.1 ∙ same)

    pub put_held : Sends outlet first new text []
    unfolding Sent
    put_held = record { sends = go old.stopped refl sends.sends; stays = λ stopped. (stayed stopped).1 }
      where
        go : (stopped : Bool) → old.stopped ≡ stopped → SendsBy stopped (outlet first.sink) (outlet old.sink) first.written old.written text held →
            SendsBy new.stopped (outlet first.sink) (outlet new.sink) first.written new.written text []
        go false open_ before = subst Sent (sym puts.stops) (put_open r refl before)
        go true stopped (few, sent) =
            subst (λ (w : Writing W). SendsBy w.stopped (outlet first.sink) (outlet w.sink) first.written w.written text []) (sym (puts.stays stopped).1)
            (subst (λ (b : Bool). SendsBy b (outlet first.sink) (outlet old.sink) first.written old.written text []) (sym stopped) (omega arith, sent))

    -- so all of the text was put, or its first bytes
    pub puts_since : PutsText outlet first new text r
    unfolding Sent
    puts_since = go r refl
      where
        sent : (s : Result T WriteFault) → r ≡ s → Sent (is_err s)
        sent s is = subst Sent (puts.stops ∙ ap is_err is) put_held.sends

        stay : (s : Result T WriteFault) → r ≡ s → first.stopped ≡ true → IsErr s × (new ≡ first)
        stay s is = subst (λ (t : Result T WriteFault). first.stopped ≡ true → IsErr t × (new ≡ first)) is stayed

        go : (s : Result T WriteFault) → r ≡ s → PutsText outlet first new text s
        go (Ok x) is =
            let all = sent (Ok x) is in
            record {
              puts = puts_front _ _ _ _ text [] all.0;
              all = omega (arith, all.0.2, ap length all.0.1, length-append all.0.0 []);
              counted = tt;
              broken = tt;
              stops = puts.stops ∙ ap is_err is;
              no_failure = all.1;
              stays = stay (Ok x) is;
            }
        go (Err e) is = record {
          puts = (sent (Err e) is).1;
          all = tt;
          counted = subst (λ (s : Result T WriteFault). IfErr s (λ fault. fault.written ≡ saturated new.written)) is puts.counted;
          broken = subst (λ (s : Result T WriteFault). OnErr s ((outlet new.sink).failed ≡ true)) is puts.broken;
          stops = puts.stops ∙ ap is_err is;
          no_failure = tt;
          stays = stay (Err e) is;
        }

-- the same, as a printer's callers see it
pub flushed : {W T : Type 0} (outlet : W → Outlet) (p q : Printing W) (old new : Writing W) (r : Result T WriteFault) (held : List ℕ) → p ≡ q →
    Sends outlet p.origin.writer old p.text held → PutsText outlet old new held r → PutsText outlet q.origin.writer new q.text r
flushed {W} outlet p q old new r held is sends puts =
    subst (λ (v : Printing W). PutsText outlet v.origin.writer new v.text r) is (puts_since outlet p.origin.writer old new r p.text held sends puts)
