use Rattle.std.proofs.Common.{◌≡◌, ℕ, ◌+◌, ◌*◌, ◌≤◌, Bool, List, length, slice_index, Some, None, Option, IfSome, true, ap, arith, sym, subst, ◌∙◌}
use Rattle.hunk_words.specs.{Bits.kind, Longs.longs}
use Rattle.hunk_words.proofs.LongLaws.{length-longs}
use Rattle.hunk_grammar.specs.{PhaseSteps.begin, declared.phase.Phase.Phase}
use Rattle.hunk_grammar.specs.Roles.{refuse_word}
use Rattle.hunk_files.specs.declared.load.passing.BlockPlace.{BlockPlace}
use Rattle.hunk_files.specs.Passing.{BeginsBlock, EndsHunk, IsBlock, IsOpened, content, counted, groups, symbols, of_hunk, hunk_end}
use Rattle.hunk_files.proofs.load.passing.pass_word.Goals as goal

begins_block : (bytes : List ℕ) (has : Bool) (at word : ℕ) (phase q : Phase) → 4 * at + 4 ≤ length bytes → word ≡ slice_index (longs bytes) at → (refuse_word has word ≡ None) × (begin (kind word) ≡ Some phase) → phase ≡ q → BeginsBlock (longs bytes) has at q
begins_block bytes has at word phase q inside is begun same = record {
  inside = omega (arith, inside, length-longs bytes);
  accepted = ap (refuse_word has) (sym is) ∙ begun.0;
  begins = ap (λ (w : ℕ). begin (kind w)) (sym is) ∙ begun.1 ∙ ap (λ (p : Phase). Some p) same;
}

end_of : {A : Type 0} (ws : List ℕ) (p q : BlockPlace) (r : Option A) → EndsHunk ws p.hunk.has_content p.at → IfSome r (λ _. IsOpened ws p q) → IfSome r (λ _. IsBlock ws p q)
end_of ws p q None e o = tt
end_of ws p q (Some _) e o = hunk_end q e o

pub returns-in_default-begin-clause-passes : goal.returns-in_default-begin-clause-passes
returns-in_default-begin-clause-passes c =
    let bytes = c.args.bytes.now in
    let p = c.args.place.now in
    end_of (longs bytes) p c.pass_end.new.place c.pass_end.result
    (record {
      inside = omega (arith, c.requires.inside, length-longs bytes);
      accepted = ap (refuse_word p.hunk.has_content) (sym c.requires.word) ∙ sym c.refuse.ensures ∙ c.in_default.is;
      ends = ap (λ (w : ℕ). begin (kind w)) (sym c.requires.word) ∙ sym (c.begin.ensures ∙ ap begin (c.kind.ensures ∙ ap kind c.of.ensures)) ∙ c.in_default-begin.is;
    })
    c.pass_end.ensures.passes

pub returns-in_ok-after-in-ContentSize-clause-passes : goal.returns-in_ok-after-in-ContentSize-clause-passes
returns-in_ok-after-in-ContentSize-clause-passes c =
    let p = c.args.place.now in
    let begun =
    begins_block c.args.bytes.now p.hunk.has_content p.at c.args.word c.in-Some-begin.phase _ c.requires.inside c.requires.word
    (sym c.refuse.ensures ∙ c.in_default.is, sym (c.in-Some-begin.ensures ∙ ap begin (c.kind.ensures ∙ ap kind c.of.ensures))) c.in-ContentSize.is in
    subst (IsBlock (longs c.args.bytes.now) p) (sym c.pass.ensures)
    (of_hunk c.in_ok-after-in-ContentSize.after true (content c.in_ok-after-in-ContentSize.after begun c.in_ok-after-in-ContentSize.ensures))

pub returns-in_ok-after-in-LongCount-clause-passes : goal.returns-in_ok-after-in-LongCount-clause-passes
returns-in_ok-after-in-LongCount-clause-passes c =
    let p = c.args.place.now in
    let begun =
    begins_block c.args.bytes.now p.hunk.has_content p.at c.args.word c.in-Some-begin.phase _ c.requires.inside c.requires.word
    (sym c.refuse.ensures ∙ c.in_default.is, sym (c.in-Some-begin.ensures ∙ ap begin (c.kind.ensures ∙ ap kind c.of.ensures))) c.in-LongCount.is in
    subst (IsBlock (longs c.args.bytes.now) p) (sym c.pass-in-LongCount.ensures)
    (of_hunk c.in_ok-after-in-LongCount.after p.hunk.has_content (counted c.in_ok-after-in-LongCount.after begun c.in_ok-after-in-LongCount.ensures))

pub returns-in_ok-after-in-GroupCount-clause-passes : goal.returns-in_ok-after-in-GroupCount-clause-passes
returns-in_ok-after-in-GroupCount-clause-passes c =
    let p = c.args.place.now in
    let begun =
    begins_block c.args.bytes.now p.hunk.has_content p.at c.args.word c.in-Some-begin.phase _ c.requires.inside c.requires.word
    (sym c.refuse.ensures ∙ c.in_default.is, sym (c.in-Some-begin.ensures ∙ ap begin (c.kind.ensures ∙ ap kind c.of.ensures))) c.in-GroupCount.is in
    subst (IsBlock (longs c.args.bytes.now) p) (sym c.pass-in-GroupCount.ensures)
    (of_hunk c.in_ok-after-in-GroupCount.after p.hunk.has_content (groups c.in_ok-after-in-GroupCount.after begun c.in_ok-after-in-GroupCount.ensures))

pub returns-in_ok-after-in-EntryWord-clause-passes : goal.returns-in_ok-after-in-EntryWord-clause-passes
returns-in_ok-after-in-EntryWord-clause-passes c =
    let p = c.args.place.now in
    let begun =
    begins_block c.args.bytes.now p.hunk.has_content p.at c.args.word c.in-Some-begin.phase _ c.requires.inside c.requires.word
    (sym c.refuse.ensures ∙ c.in_default.is, sym (c.in-Some-begin.ensures ∙ ap begin (c.kind.ensures ∙ ap kind c.of.ensures))) c.in-EntryWord.is in
    subst (IsBlock (longs c.args.bytes.now) p) (sym c.pass-in-EntryWord.ensures)
    (of_hunk c.in_ok-after-in-EntryWord.after p.hunk.has_content (symbols c.in_ok-after-in-EntryWord.after begun c.in_ok-after-in-EntryWord.ensures))
