use Rattle.std.proofs.Common.{◌≡◌, ℕ, List, ◌+◌, ◌-◌, ◌≤◌, ◌++◌, length, take, drop, ap, ap₂, sym, ◌∙◌, arith}
use Rattle.std.proofs.Math.Seq.{take-append-add}
use Rattle.std.proofs.lemmas.List.{length-take-le, take-append-le}
use borrow.Rule.Slice.PartMut.{put_mid}
use Rattle.hunk_words.proofs.printer.Page.put_line.Goals as goal

-- the front of what was put follows what stood before it
put_front : (n m k : ℕ) (page room : List ℕ) → n ≤ length page → m ≤ length room → take (n + m) (put_mid n k page room) ≡ take n page ++ take m room
put_front n m k page room a b =
    let rest = drop k (drop n page) in
    ap (λ (i : ℕ). take (i + m) (take n page ++ (room ++ rest))) (sym (length-take-le n page a))
    ∙ take-append-add (take n page) (room ++ rest) m ∙ ap (λ (xs : List ℕ). take n page ++ xs) (take-append-le m room rest b)

pub returns : goal.returns
returns g c =
    let held = length-take-le c.self.inside.count c.self.inside.bytes c.self.invariant in
    put_front c.self.inside.count c.put-len.result (length c.self.inside.bytes - c.self.inside.count) c.self.inside.bytes _ c.self.invariant (omega (arith, held, ap length c.self.view_is, c.requires))
    ∙ ap₂ (λ (xs ys : List ℕ). xs ++ ys) c.self.view_is c.put-len.ensures.text
