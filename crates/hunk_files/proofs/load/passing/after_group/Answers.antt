use Rattle.std.proofs.Common.{◌≡◌, ◌≤◌, ◌+◌, ◌*◌, ℕ, slice_index, ap, subst, sym, ◌∙◌, inl, inr, arith}
use Rattle.std.proofs.lemmas.Bool.{cases_lt, ltb-false}
use Rattle.hunk_words.specs.Longs.{longs}
use Rattle.hunk_words.proofs.LongLaws.{length-longs, word_of_bytes}
use Rattle.hunk_files.proofs.load.passing.after_group.Goals as goal

pub offsets-preserved : goal.offsets-preserved
offsets-preserved c i from less =
    let bytes = c.args.bytes.now in
    let here : c.from_be_bytes-long.result ≡ slice_index (longs bytes) c.offsets.i = c.from_be_bytes-long.ensures ∙ word_of_bytes bytes c.offsets.i (omega (arith, c.if-after-bytes.false, c.offsets-test.true)) in
    elim (cases_lt i c.offsets.i) [
      | inl before ↦ let old = c.offsets.invariant i from before in grind (arith, c.max-largest.ensures)
      | inr last ↦
          subst (λ (n : ℕ). slice_index (longs bytes) n ≤ c.max-largest.result) (let same : c.offsets.i ≡ i = omega (arith, less, last) in same)
          (grind (arith, here, c.max-largest.ensures))
    ]

pub returns : goal.returns
returns c = record {
  some = omega (arith, c.requires.some, c.requires.count);
  ends = ap (λ (n : ℕ). c.args.at + 2 + n) c.requires.count;
  whole = omega (arith, c.if-after-bytes.false, length-longs c.args.bytes.now);
  target = omega (arith, c.if-word_at-hunks.false, c.word_at.ensures);
  inside = λ i from to. omega (
    arith,
    c.offsets.invariant i from (omega (arith, to, c.offsets-test.false)),
    ltb-false (4 * c.args.declared) (c.offsets.largest + 4) (sym c.is_outside.ensures ∙ c.if-is_outside.false),
  );
}
