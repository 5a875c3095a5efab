use Rattle.std.proofs.Common.{◌≡◌, ℕ, ◌-◌, ◌*◌, List, ◌∷◌, length, take, drop, get_or, sym, ap, ap₂, subst, ◌∙◌, arith}
use Rattle.std.proofs.lemmas.List.{take_rest}
use Rattle.hunk_words.specs.{Bits.entry_longs, Longs.longs}
use Rattle.hunk_words.proofs.PartLaws.{longs-drop}
use Rattle.hunk_files.specs.{LoadFile.TableEntry, InPlace.BeginsWithTable, Cuts.table_cut}
use Rattle.hunk_files.proofs.cuts.LoadCuts.{next_entry}
use Rattle.hunk_files.proofs.load.table.TableIterIterator.next.Goals as goal

-- the longwords after the entry
after : (bytes : List ℕ) (word n : ℕ) → n ≡ entry_longs word → word ≡ get_or (longs bytes) 0 0 → longs (take (length bytes - 4 * n) (drop (4 * n) bytes)) ≡ drop (entry_longs (get_or (longs bytes) 0 0)) (longs bytes)
after bytes word n e w = ap longs (take_rest bytes (4 * n)) ∙ longs-drop bytes n (4 * n) (omega arith) ∙ ap (λ (k : ℕ). drop k (longs bytes)) (e ∙ ap entry_longs w)

pub invariant_of-self : goal.invariant_of-self
invariant_of-self c =
    let n = next_entry c.self.inside.left (longs c.self.inside.rest.now) c.self.invariant (omega arith) in
    subst (BeginsWithTable (c.self.inside.left - 1)) (sym (after c.self.inside.rest.now c.at-size.result.word c.entry_longs.result c.entry_longs.ensures.value c.at-size.ensures.word)) n.left

pub returns-clause-steps : goal.returns-clause-steps
returns-clause-steps c =
    let n = next_entry c.self.inside.left (longs c.self.inside.rest.now) c.self.invariant (omega arith) in
    sym c.self.view_is ∙ n.first
    ∙ ap₂ (λ (e : TableEntry) (es : List TableEntry). e ∷ es) (λ i. record { word = sym c.at-size.ensures.word i; extra = sym c.at-size.ensures.extra i })
    (ap (λ (ws : List ℕ). (table_cut (c.self.inside.left - 1) ws).value) (sym (after c.self.inside.rest.now c.at-size.result.word c.entry_longs.result c.entry_longs.ensures.value c.at-size.ensures.word)))

pub returns-clause-goes : goal.returns-clause-goes
returns-clause-goes c =
    let n = next_entry c.self.inside.left (longs c.self.inside.rest.now) c.self.invariant (omega arith) in
    let rest = after c.self.inside.rest.now c.at-size.result.word c.entry_longs.result c.entry_longs.ensures.value c.at-size.ensures.word in
    omega (arith, ap (λ (xs : List TableEntry). length xs) (sym c.self.view_is ∙ n.first), ap (λ (ws : List ℕ). length (table_cut (c.self.inside.left - 1) ws).value) rest)
