use Rattle.std.proofs.Common.{◌≡◌, ◌∙◌, ℕ, ◌+◌, ◌*◌, ◌<◌, ◌≤◌, List, length, drop, get_or, refl, subst, sym, ap, arith, inr}
use Rattle.std.proofs.lemmas.List.{take_rest}
use Rattle.hunk_words.specs.Longs.{longs, IsBytes}
use Rattle.hunk_scatter.specs.{HeaderLoaderFields.PassesWords, Rows.entries_of, declared.header_state.HeaderState.HeaderState}
use Rattle.hunk_scatter.proofs.HeaderOwed.{least_some}
use Rattle.hunk_scatter.proofs.HeaderSizes.{HeaderSoFar, none_so_far, none_cut, cut_within, word_accepted, so_far_room, so_far_within, header_cut, header_whole, header_total, header_end, word_passes, word_stops, word_owes, words_pass, cut_owes, hunks_in}
use Rattle.hunk_scatter.proofs.header_state.header_size.Goals as goal

-- so far, after longwords that pass at once
there : (budget : ℕ) (bytes : List ℕ) (at : ℕ) (state : HeaderState) → HeaderSoFar budget bytes state at → IsBytes bytes → (to : ℕ) (next : HeaderState) → ((count : ℕ) × (to ≡ at + 4 * count) × PassesWords budget bytes at state count next) → to ≤ length bytes →
    HeaderSoFar budget bytes next to
there budget bytes at state h are to next (count, is, passes) inside =
    subst (λ (n : ℕ). HeaderSoFar budget bytes next n) (sym is) (words_pass budget bytes state at h are count next passes (omega (arith, is, inside)))

pub words-init : goal.words-init
words-init c =
    let front = c.pass_front-at in
    there _ _ _ _ (none_so_far c.args.budget c.args.bytes.now) (λ k. omega (arith, c.type_inv.bytes k)) _ _ front.ensures.passes front.ensures.inside

pub pass_entries-requires-clause-within : goal.pass_entries-requires-clause-within
pass_entries-requires-clause-within c = so_far_within _ _ _ _ c.words.invariant

pub returns-then-rest-lt4-clause-refusal : goal.returns-then-rest-lt4-clause-refusal
returns-then-rest-lt4-clause-refusal c =
    let h = there _ _ _ _ c.words.invariant (λ k. omega (arith, c.type_inv.bytes k)) _ _ c.pass_entries.ensures.passes c.pass_entries.ensures.inside in
    let few : length (drop c.pass_entries.result.0 c.args.bytes.now) < 4 = omega (arith, ap length (take_rest c.args.bytes.now c.pass_entries.result.0), c.if-rest-lt4.true) in
    inr (inr (refl, header_cut _ _ _ _ h c.pass_entries.ensures.goes_on few, cut_within _ _ _ _ h c.pass_entries.ensures.goes_on few))

pub pass_header_word-requires-clause-room : goal.pass_header_word-requires-clause-room
pass_header_word-requires-clause-room c = so_far_room _ _ _ _ (there _ _ _ _ c.words.invariant (λ k. omega (arith, c.type_inv.bytes k)) _ _ c.pass_entries.ensures.passes c.pass_entries.ensures.inside)

pub returns-in-Err-clause-refusal : goal.returns-in-Err-clause-refusal
returns-in-Err-clause-refusal c =
    let are : IsBytes c.args.bytes.now = λ k. omega (arith, c.type_inv.bytes k) in
    let rest = take_rest c.args.bytes.now c.pass_entries.result.0 in
    word_stops _ _ _ _ (there _ _ _ _ c.words.invariant are _ _ c.pass_entries.ensures.passes c.pass_entries.ensures.inside) c.pass_entries.ensures.goes_on are
    (omega (arith, ap length rest, c.if-rest-lt4.false)) c.word_at.result (omega arith) (c.word_at.ensures ∙ ap (λ (xs : List ℕ). get_or (longs xs) 0 0) rest)
    c.in-Err.reason c.in-Err.ensures.refusal

pub returns-then-rest-lt4-clause-accepts : goal.returns-then-rest-lt4-clause-accepts
returns-then-rest-lt4-clause-accepts c (t, h) =
    absurd
    (none_cut _ _ _ _ (there _ _ _ _ c.words.invariant (λ k. omega (arith, c.type_inv.bytes k)) _ _ c.pass_entries.ensures.passes c.pass_entries.ensures.inside) c.pass_entries.ensures.goes_on
    (omega (arith, ap length (take_rest c.args.bytes.now c.pass_entries.result.0), c.if-rest-lt4.true)) t h.rest h.is_table h.split)

pub returns-in-Err-clause-accepts : goal.returns-in-Err-clause-accepts
returns-in-Err-clause-accepts c (t, h) =
    let are : IsBytes c.args.bytes.now = λ k. omega (arith, c.type_inv.bytes k) in
    let rest = take_rest c.args.bytes.now c.pass_entries.result.0 in
    word_accepted _ _ _ _ (there _ _ _ _ c.words.invariant are _ _ c.pass_entries.ensures.passes c.pass_entries.ensures.inside) c.pass_entries.ensures.goes_on are
    (omega (arith, ap length rest, c.if-rest-lt4.false)) c.word_at.result (omega arith) (c.word_at.ensures ∙ ap (λ (xs : List ℕ). get_or (longs xs) 0 0) rest)
    c.in-Err.reason c.in-Err.ensures.refusal t h.rest h.is_table h.split

pub words-preserved : goal.words-preserved
words-preserved c =
    let are : IsBytes c.args.bytes.now = λ k. omega (arith, c.type_inv.bytes k) in
    let rest = take_rest c.args.bytes.now c.pass_entries.result.0 in
    word_passes _ _ _ _ (there _ _ _ _ c.words.invariant are _ _ c.pass_entries.ensures.passes c.pass_entries.ensures.inside) c.pass_entries.ensures.goes_on are
    (omega (arith, ap length rest, c.if-rest-lt4.false)) c.word_at.result (omega arith) (c.word_at.ensures ∙ ap (λ (xs : List ℕ). get_or (longs xs) 0 0) rest)
    c.in-Ok.next c.in-Ok.ensures.passes.accepted c.in-Ok.ensures.passes.within c.in-Ok.ensures.passes.position_is c.in-Ok.ensures.passes.total_is

pub word_at-requires-2 : goal.word_at-requires-2
word_at-requires-2 c =
    let h = c.words.invariant in
    let w = header_whole _ _ _ _ h (sym c.is_after_header.ensures ∙ c.words-test.false) in
    omega (arith, (hunks_in c.args.bytes.now (entries_of h.rows) (drop c.words.at c.args.bytes.now) w.0 w.1).1)

pub returns-clause-size : goal.returns-clause-size
returns-clause-size c =
    let h = c.words.invariant in
    let done = sym c.is_after_header.ensures ∙ c.words-test.false in
    let w = header_whole _ _ _ _ h done in
    record {
      table = entries_of h.rows;
      header = record { is_table = w.0; rest = drop c.words.at c.args.bytes.now; split = w.1 };
      hunks_are = c.word_at-2.ensures ∙ (hunks_in c.args.bytes.now (entries_of h.rows) (drop c.words.at c.args.bytes.now) w.0 w.1).0;
      bytes_are = header_end _ _ _ _ h done;
      declared_are = header_total _ _ _ _ h done;
      within = omega (arith, header_total _ _ _ _ h done, (h.read.reading refl).has_read.within);
    }

pub returns-then-rest-lt4-clause-owed : goal.returns-then-rest-lt4-clause-owed
returns-then-rest-lt4-clause-owed c =
    let rest = ap length (take_rest c.args.bytes.now c.pass_entries.result.0) in
    cut_owes _ _ _ _ (there _ _ _ _ c.words.invariant (λ k. omega (arith, c.type_inv.bytes k)) _ _ c.pass_entries.ensures.passes c.pass_entries.ensures.inside) c.pass_entries.ensures.goes_on
    (omega (arith, rest, c.if-rest-lt4.true)) _
    (omega (arith, rest, c.if-rest-lt4.true, c.least_longs.ensures.value, least_some c.pass_entries.result.1.position c.pass_entries.ensures.goes_on))

pub returns-in-Err-clause-owed : goal.returns-in-Err-clause-owed
returns-in-Err-clause-owed c =
    let are : IsBytes c.args.bytes.now = λ k. omega (arith, c.type_inv.bytes k) in
    let rest = take_rest c.args.bytes.now c.pass_entries.result.0 in
    word_owes _ _ _ _ (there _ _ _ _ c.words.invariant are _ _ c.pass_entries.ensures.passes c.pass_entries.ensures.inside) c.pass_entries.ensures.goes_on are
    (omega (arith, ap length rest, c.if-rest-lt4.false)) c.word_at.result (omega arith) (c.word_at.ensures ∙ ap (λ (xs : List ℕ). get_or (longs xs) 0 0) rest)
    c.in-Err.reason c.in-Err.ensures.refusal
