use Rattle.std.proofs.Common.{◌≡◌, ◌-◌, List, ℕ, length, drop, take, get_or, ap, ◌∙◌, arith}
use Rattle.std.proofs.lemmas.List.{take_rest, length-drop}
use Rattle.hunk_words.specs.Longs.{longs}
use Rattle.hunk_files.proofs.cuts.UnitReading.{count_is, header_inside}
use Rattle.hunk_files.proofs.object.unit_view.read_header.Goals as goal

pub slice_bounds-unit-count : goal.slice_bounds-unit-count
slice_bounds-unit-count c = omega (arith, header_inside c.args.bytes.now c.args.start c.requires)

pub slice_bounds-unit-start : goal.slice_bounds-unit-start
slice_bounds-unit-start c = omega (arith, header_inside c.args.bytes.now c.args.start c.requires)

pub word_at-requires : goal.word_at-requires
word_at-requires c =
    omega (arith, header_inside c.args.bytes.now c.args.start c.requires, ap length (take_rest c.args.bytes.now c.args.start), length-drop c.args.start c.args.bytes.now)

-- the name's longwords
count : (bytes : List ℕ) (start word : ℕ) → word ≡ get_or (longs (take (length bytes - start) (drop start bytes))) 1 0 → word ≡ get_or (longs (drop start bytes)) 1 0
count bytes start word e = e ∙ ap (λ (rest : List ℕ). get_or (longs rest) 1 0) (take_rest bytes start)

pub slice_bounds-of-end : goal.slice_bounds-of-end
slice_bounds-of-end c =
    omega (
      arith,
      header_inside c.args.bytes.now c.args.start c.requires,
      count c.args.bytes.now c.args.start c.word_at.result c.word_at.ensures ∙ count_is c.args.bytes.now c.args.start c.requires,
    )

pub overflow_add-result : goal.overflow_add-result
overflow_add-result c =
    omega (
      arith,
      header_inside c.args.bytes.now c.args.start c.requires,
      count c.args.bytes.now c.args.start c.word_at.result c.word_at.ensures ∙ count_is c.args.bytes.now c.args.start c.requires,
    )
