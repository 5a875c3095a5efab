-- Four bytes replaced within joined lists.
use Rattle.std.proofs.Common.{rules, ◌≡◌, ℕ, ◌+◌, ◌≤◌, List, ◌++◌, length, take, drop, ap, ◌∙◌, append_assoc, arith, length-append, length-drop}
use Rattle.std.proofs.lemmas.Grind.{common_steps}
use Rattle.std.proofs.Math.Seq.{take-append-add, drop-append-add}
use Rattle.std.proofs.lemmas.List.{take-append-le, drop-append-le}
use Rattle.hunk_files.specs.Image.{add_at, filled}
use Rattle.hunk_scatter.specs.StoreContent.{put_at}

module _ (front mid back : List ℕ) (k : ℕ) (fits : k + 4 ≤ length mid) where
  front_of : take (length front + k) (front ++ (mid ++ back)) ≡ front ++ take k mid
  front_of = take-append-add front (mid ++ back) k ∙ ap (λ (xs : List ℕ). front ++ xs) (take-append-le k mid back (omega arith))

  rest_of : drop (length front + k + 4) (front ++ (mid ++ back)) ≡ drop (k + 4) mid ++ back
  rest_of = search (rules, drop-append-add, drop-append-le)

  pub put-join : (four : List ℕ) → put_at (front ++ (mid ++ back)) (length front + k) four ≡ front ++ (put_at mid k four ++ back)
  put-join four = search (rules, front_of, rest_of, append_assoc)

  long_of : take 4 (drop (length front + k) (front ++ (mid ++ back))) ≡ take 4 (drop k mid)
  long_of =
      ap (λ (xs : List ℕ). take 4 xs) (drop-append-add front (mid ++ back) k ∙ drop-append-le k mid back (omega arith))
      ∙ take-append-le 4 (drop k mid) back (omega (arith, length-drop k mid))

  pub add-join : (n : ℕ) → add_at (front ++ (mid ++ back)) (length front + k) n ≡ front ++ (add_at mid k n ++ back)
  add-join n = search (rules, long_of, put-join)

pub length-put : (bytes : List ℕ) (k : ℕ) (four : List ℕ) → length four ≡ 4 → k + 4 ≤ length bytes → length (put_at bytes k four) ≡ length bytes
length-put bytes k four e fits = search (rules, length-append, length-drop)

-- A longword of content goes to where the content ends.
pub long_fills : (size : ℕ) (c four : List ℕ) → length four ≡ 4 → length c + 4 ≤ size → filled size (c ++ four) ≡ put_at (filled size c) (length c) four
long_fills size c four e fits = grind (arith, common_steps, drop-append-add)
