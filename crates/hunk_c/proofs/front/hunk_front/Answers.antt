use Rattle.std.proofs.Common.{◌≡◌, ◌+◌, ◌*◌, ◌++◌, ℕ, List, drop, length, refl, sym, take, ap, ap₂, ◌∙◌, arith}
use Rattle.hunk_words.proofs.LongLaws.{length-longs}
use Rattle.hunk_files.specs.HunkFile.{file_bytes}
use Rattle.hunk_c.specs.FrontPlaces.{closed_bytes}
use Rattle.hunk_c.specs.Fronts.{IsMade, LacksRoom}
use Rattle.hunk_c.specs.declared.answer.Answer.{Answer}
use Rattle.hunk_c.proofs.{FrontText.{front_begins, front_size}, Loaded.same_answer}
use Rattle.hunk_c.proofs.front.hunk_front.Goals as goal

pub overflow_mul-read : goal.overflow_mul-read
overflow_mul-read c = omega (arith, c.in-Some.ensures.found.is_front.inside, length-longs c.args.bytes.now)

pub overflow_add-size : goal.overflow_add-size
overflow_add-size c = omega (arith, c.in-Some.ensures.found.is_front.inside, length-longs c.args.bytes.now, c.closing_size.ensures.bound)

pub returns-then-size-text : goal.returns-then-size-text
returns-then-size-text c =
    let front = c.in-Some.front in
    let f = c.in-Some.ensures.found in
    let size : 4 * front.longs + c.closing_size.result ≡ length (file_bytes f.file) = front_size c.args.bytes.now front f _ c.closing_size.ensures.value in
    record {
      outcome =
          LacksRoom front.longs f.file f.is_front f.closed (omega (arith, c.if-size-text.true, size)) refl
          (c.no_room.ensures ∙ same_answer _ _ _ _ _ _ _ f.hunks_are refl size);
      begins = λ ok. let clash : 32 ≡ 0 = sym (ap (λ (a : Answer). a.number) c.no_room.ensures) ∙ ok in absurd cc;
    }

pub write_closed-count-requires-clause-inside : goal.write_closed-count-requires-clause-inside
write_closed-count-requires-clause-inside c = omega (arith, c.in-Some.ensures.found.is_front.inside, length-longs c.args.bytes.now)

pub write_closed-count-requires-clause-room : goal.write_closed-count-requires-clause-room
write_closed-count-requires-clause-room c =
    let f = c.in-Some.ensures.found in
    omega (arith, ap (λ (xs : List ℕ). length xs) f.bytes_are, front_size c.args.bytes.now c.in-Some.front f _ c.closing_size.ensures.value, c.if-size-text.false)

pub returns : goal.returns
returns c =
    let front = c.in-Some.front in
    let f = c.in-Some.ensures.found in
    let size : 4 * front.longs + c.closing_size.result ≡ length (file_bytes f.file) = front_size c.args.bytes.now front f _ c.closing_size.ensures.value in
    record {
      outcome =
          IsMade front.longs f.file f.is_front f.closed (omega (arith, c.if-size-text.false, size))
          (c.write_closed-count.ensures.text ∙ ap (λ (n : ℕ). closed_bytes c.args.bytes.now front ++ drop n c.args.text.now) c.write_closed-count.ensures.count ∙ ap (λ (xs : List ℕ). xs ++ drop (length xs) c.args.text.now) (sym f.bytes_are))
          (c.done-2.ensures ∙ same_answer _ _ _ _ _ _ _ f.hunks_are refl (c.write_closed-count.ensures.count ∙ sym (ap (λ (xs : List ℕ). length xs) f.bytes_are)));
      begins = λ ok.
          ap₂ (λ (n : ℕ) (xs : List ℕ). take n xs) (ap (λ (a : Answer). a.place) c.done-2.ensures) c.write_closed-count.ensures.text
          ∙ front_begins c.args.bytes.now front f (drop c.write_closed-count.result c.args.text.now)
          ∙ ap (λ (n : ℕ). take n c.args.bytes.now) (sym (ap (λ (a : Answer). a.place) c.done-2.ensures));
    }
