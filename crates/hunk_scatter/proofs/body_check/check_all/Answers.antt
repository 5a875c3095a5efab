use Rattle.std.proofs.Common.{rules, ◌-◌, ◌*◌, ◌/◌, ◌++◌, ◌∙◌, ◌≡◌, ℕ, List, length, take, refl, sym, ap, subst, append_assoc, arith}
use Rattle.hunk_files.specs.{Fault.HasRefusal, FileParts.IsPartAt}
use Rattle.hunk_files.specs.declared.part.Part.TheVariants as parts
use Rattle.hunk_grammar.specs.Positions.{is_done}
use Rattle.hunk_grammar.specs.declared.file_kind.Sniff.TheVariants as sniffs
use Rattle.hunk_scatter.specs.{Checking.IsCheckedAfter, declared.store.BodyState.BodyState}
use Rattle.hunk_scatter.proofs.{BodyChecks.any_checked, BodyFields.done_unless_open, PartLaws.hunk_next, WholeLongs.{leaves_more, length_so_far, whole_piece}}
use Rattle.hunk_scatter.proofs.body_check.check_all.Goals.{else-parts-test, then-parts-test+in_default}
use Rattle.hunk_scatter.proofs.body_check.check_all.Goals as goal

pub check_part-requires : goal.check_part-requires
check_part-requires c = record {
  fed = _;
  checked = c.parts.invariant.takes _ (any_checked _ _ _ c.requires.1);
  goes_on = ap is_done c.in-Body.is;
  nonempty = search rules;
}

pub parts-preserved : goal.parts-preserved
parts-preserved c =
    let i = c.parts.invariant in
    let e = c.in-Ok.ensures.takes in
    let n = length c.args.piece.now - length c.parts.rest.now in
    let more = leaves_more _ _ i.leaves _ c.in-Ok.count e.some e.inside refl in
    record {
      leaves = more.0;
      uncounted = c.check_part.ensures.uncounted ∙ i.uncounted;
      takes = λ fed h.
          let front = fed ++ take n c.args.piece.now in
          subst (λ (bs : List ℕ). IsCheckedAfter c.args.rows.now c.check_part.new.at bs)
          (append_assoc fed (take n c.args.piece.now) (take c.in-Ok.count c.parts.rest.now) ∙ ap (λ (bs : List ℕ). fed ++ bs) more.1) (e.takes front (i.takes fed h));
    }

pub returns-in-Err-clause-takes : goal.returns-in-Err-clause-takes
returns-in-Err-clause-takes c = λ fed h.
    let i = c.parts.invariant in
    let n = length c.args.piece.now - length c.parts.rest.now in
    let front = fed ++ take n c.args.piece.now in
    let at = 4 * (length front / 4) in
    let stands = i.takes fed (any_checked _ _ fed h) in
    let refused = c.in-Err.ensures.refuses.refuses front stands in
    let whole = whole_piece _ _ i.leaves fed in
    record {
      refusal = (
        at,
        subst (λ (bs : List ℕ). HasRefusal bs at c.in-Err.reason) whole refused,
        omega (arith, length_so_far _ _ i.leaves fed, h.1.counted, i.uncounted, c.check_part.ensures.uncounted),
      );
      of_hunk =
          subst (λ (n : ℕ). IsPartAt sniffs.Load (fed ++ c.args.piece.now) at (parts.Hunk n)) (sym (ap (λ (s : BodyState). s.hunk) c.in-Err.ensures.refuses.same))
          (subst (λ (bs : List ℕ). IsPartAt sniffs.Load bs at (parts.Hunk c.parts.at.state.hunk)) whole (hunk_next _ _ _ _ front c.parts.rest.now stands.1.stands (ap is_done c.in-Body.is)));
    }

pub returns-clause-all : goal.returns-clause-all
returns-clause-all c = λ less.
    let i = c.parts.invariant in
    elim c.parts-test.branch [
      | else-parts-test w ↦
          let none : length c.parts.rest.now ≡ 0 = search rules in
          absurd (omega (arith, less, none))
      | then-parts-test+in_default w ↦
          let h = i.takes _ (any_checked c.args.rows.now c.args.at.now _ c.requires.1) in
          done_unless_open _ _ _ _ h.1 w.in_default.not-Body
    ]

pub returns-clause-takes : goal.returns-clause-takes
returns-clause-takes c = λ fed h.
    let i = c.parts.invariant in
    let k = i.takes fed (any_checked c.args.rows.now c.args.at.now fed h) in (
      k.0,
      record {
        counted = omega (arith, length_so_far _ _ i.leaves fed, h.1.counted, i.uncounted, c.saturating_add-at.ensures);
        hunks = k.1.hunks;
        size = k.1.size;
        stands = k.1.stands;
      },
    )
