use Rattle.std.proofs.Common.{◌≡◌, ◌<◌, ◌⊎◌, inl, inr, [], length, sym, ap, ◌∙◌, arith}
use Rattle.std.proofs.lemmas.List.{append-nil}
use Rattle.hunk_wide.specs.Held.{left_of, wanted}
use Rattle.hunk_wide.proofs.Written.{gave_all, none_ready, passing_rest}
use Rattle.hunk_wide.proofs.writing.fill_last.Goals as goal

pub copy_from_slice-requires : goal.copy_from_slice-requires
copy_from_slice-requires c =
    let all = c.want.ensures.passes c.if-want-eq0.true c.requires.ready in
    c.requires.room ∙ ap length (passing_rest c.args.held c.args.bytes.now c.requires.ready all.0 all.1)

pub returns-then-want-eq0 : goal.returns-then-want-eq0
returns-then-want-eq0 c =
    let all = c.want.ensures.passes c.if-want-eq0.true c.requires.ready in
    c.copy_from_slice.ensures.after ∙ sym (passing_rest c.args.held c.args.bytes.now c.requires.ready all.0 all.1)

pub end-requires : goal.end-requires
end-requires c = none_ready c.take.new.self (few c.requires.few)
  where
    few : (wanted c.args.held ≡ 0) ⊎ (length c.args.bytes.now < wanted c.args.held) → 0 < wanted c.take.new.self
    few (inl none) = absurd (c.if-want-eq0.false (c.want.ensures.value ∙ none))
    few (inr less) = omega (arith, less, c.take.ensures.wants)

pub returns : goal.returns
returns c =
    let all : c.end.new.self.ready ≡ left_of c.args.held c.args.bytes.now =
    c.end.ensures.given ∙ c.take.ensures.left [] ∙ ap (left_of c.args.held) (append-nil c.args.bytes.now) in
    let room : length c.args.out.now ≡ length c.end.new.self.ready = c.requires.room ∙ sym (ap length all) in
    let len : length c.give.new.buf ≡ length c.args.out.now = c.give.auto.buf in
    gave_all c.end.new.self c.give.new.self c.give.new.buf c.give.result c.end.ensures.passes c.end.ensures.nothing (c.give.ensures.gives [])
    (omega (arith, c.give.ensures.number, room, len)) (len ∙ room)
    ∙ all
