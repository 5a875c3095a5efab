use Rattle.std.proofs.Common.{◌++◌, ℕ, List, drop, refl, ap, ap₂, ◌∙◌, arith, length-take}
use Rattle.hunk_c.specs.{declared.answer.Answer.Answer, Tables.{HasTable, HasNoRows, HasNoTable}}
use Rattle.hunk_c.specs.declared.table.TableRow.{TableRow}
use Rattle.hunk_c.proofs.Loaded.{same_answer}
use Rattle.hunk_c.proofs.table.hunk_table.Goals as goal

-- with another count
abbrev owing : Answer → ℕ → Answer
owing a n = record { number = a.number; hunk = a.hunk; place = a.place; count = n }

pub returns-in-Err : goal.returns-in-Err
returns-in-Err c =
    HasNoTable c.in-Err.none.fault c.in-Err.none.owed c.in-Err.ensures.refusal (λ t h. c.in-Err.ensures.accepts (t, h)) c.in-Err.ensures.owed refl
    (ap (λ (a : Answer). owing a c.in-Err.none.owed) c.refused.ensures)

pub returns-then-hunks-rows : goal.returns-then-hunks-rows
returns-then-hunks-rows c =
    let s = c.in-Ok.ensures.size in
    HasNoRows s.table s.header s.within (omega (arith, s.hunks_are, c.if-hunks-rows.true)) refl
    (c.no_room.ensures ∙ same_answer _ _ _ _ _ _ _ (omega (arith, s.hunks_are)) s.bytes_are s.declared_are)

pub put_rows-requires : goal.put_rows-requires
put_rows-requires c =
    let s = c.in-Ok.ensures.size in
    (s.table, s.header, omega (arith, s.hunks_are, c.if-hunks-rows.false, length-take c.in-Ok.size.hunks c.args.rows.now))

pub returns : goal.returns
returns c =
    let s = c.in-Ok.ensures.size in
    let h = s.header in
    let rows = c.put_rows.ensures s.table h (omega (arith, s.hunks_are, c.if-hunks-rows.false, length-take c.in-Ok.size.hunks c.args.rows.now)) in
    HasTable s.table h s.within (omega (arith, s.hunks_are, c.if-hunks-rows.false))
    (ap₂ (λ (xs : List TableRow) (n : ℕ). xs ++ drop n c.args.rows.now) rows s.hunks_are)
    (c.done.ensures ∙ same_answer _ _ _ _ _ _ _ s.hunks_are s.bytes_are s.declared_are)
