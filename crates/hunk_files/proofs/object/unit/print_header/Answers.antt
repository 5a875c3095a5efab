use Rattle.std.proofs.Common.{arith, ◌≡◌, ◌++◌, ◌∙◌, ◌/◌, ℕ, List, length, refl, sym, ap}
use Rattle.hunk_words.specs.Longs.{bytes_of, longs}
use Rattle.hunk_words.proofs.LongLaws.{length-longs}
use Rattle.hunk_blocks.proofs.TextBytes.{word_printed}
use Rattle.hunk_files.specs.ObjectFile.{unit_word}
use Rattle.hunk_files.proofs.object.unit.print_header.Goals as goal

count_is : (name bytes : List ℕ) → bytes ≡ name → length bytes / 4 ≡ length (longs name)
count_is name bytes e = sym (length-longs bytes) ∙ ap (λ l. length (longs l)) e

-- the name's bytes are those of its longwords
name_is : (name bytes : List ℕ) → bytes ≡ name → bytes_of (longs bytes) ≡ bytes → bytes ≡ bytes_of (longs name)
name_is name bytes e whole = sym whole ∙ ap (λ l. bytes_of (longs l)) e

pub overflow_cast-bytes : goal.overflow_cast-bytes
overflow_cast-bytes g c = omega (arith, count_is c.args.name.now c.bytes-bytes.result.now c.bytes-bytes.ensures.value, c.requires.0)

pub returns : goal.returns
returns g c =
    let name = c.args.name.now in
    let bytes = c.bytes-bytes.result.now in (
      c.print.ensures.prints.0 ∙ c.print_long-2.ensures.prints.0 ∙ c.print_long.ensures.prints.0,
      word_printed unit_word unit_word _ _ _ _ refl c.print_long.ensures.prints.1
          (word_printed (length (longs name)) (length bytes / 4) (longs name) _ _ _ (count_is name bytes c.bytes-bytes.ensures.value) c.print_long-2.ensures.prints.1
          (c.print.ensures.prints.1 ∙ ap (λ l. c.print_long-2.new.self.text ++ l) (name_is name bytes c.bytes-bytes.ensures.value c.bytes-bytes.ensures.longwords))),
    )
