use Rattle.std.proofs.Common.{◌++◌, ℕ, drop, refl, ap, ◌∙◌, arith}
use Rattle.hunk_files.specs.FileView.{file_of}
use Rattle.hunk_c.specs.{Rows.{HasNoFile, HasNoRoom, HasRows}, Strips.stripped_bytes}
use Rattle.hunk_c.proofs.{Loaded.same_answer, OneFile.file_size, Tabulated.what_fits}
use Rattle.hunk_c.proofs.strip.hunk_strip.Goals as goal

pub returns-in-Err-clause-outcome : goal.returns-in-Err-clause-outcome
returns-in-Err-clause-outcome c = HasNoFile c.in-Err.refusal.fault (c.in-Err.ensures.refused, c.in-Err.ensures.none) refl c.refused.ensures

pub returns-in-Err-clause-succeeds : goal.returns-in-Err-clause-succeeds
returns-in-Err-clause-succeeds c = what_fits stripped_bytes _ _ _ _ _ (returns-in-Err-clause-outcome c)

pub overflow_sub-size : goal.overflow_sub-size
overflow_sub-size c = omega (arith, c.rest.ensures, file_size c.args.bytes.now (file_of c.in-Ok.file) c.in-Ok.ensures.file)

pub lacked-requires : goal.lacked-requires
lacked-requires c = omega (arith, c.rest.ensures, file_size c.args.bytes.now (file_of c.in-Ok.file) c.in-Ok.ensures.file)

pub returns-in-Some-clause-outcome : goal.returns-in-Some-clause-outcome
returns-in-Some-clause-outcome c =
    HasNoRoom (file_of c.in-Ok.file) c.in-Ok.ensures.file (omega (arith, c.in-Some.ensures.lacks.0, c.in-Some.ensures.lacks.1)) refl
    (c.no_room.ensures ∙ same_answer _ _ _ _ _ _ _ c.hunks_in-hunks.ensures (omega (arith, c.rest.ensures, file_size c.args.bytes.now (file_of c.in-Ok.file) c.in-Ok.ensures.file)) c.in-Some.ensures.lacks.0)

pub returns-in-Some-clause-succeeds : goal.returns-in-Some-clause-succeeds
returns-in-Some-clause-succeeds c = what_fits stripped_bytes _ _ _ _ _ (returns-in-Some-clause-outcome c)

pub returns-clause-outcome : goal.returns-clause-outcome
returns-clause-outcome c =
    HasRows (file_of c.in-Ok.file) c.in-Ok.ensures.file c.in_default.ensures.fits
    (c.copy_stripped-count.ensures.text ∙ ap (λ (n : ℕ). stripped_bytes (file_of c.in-Ok.file) ++ drop n c.args.text.now) c.copy_stripped-count.ensures.count)
    (c.done.ensures ∙ same_answer _ _ _ _ _ _ _ c.hunks_in-hunks.ensures (omega (arith, c.rest.ensures, file_size c.args.bytes.now (file_of c.in-Ok.file) c.in-Ok.ensures.file)) (omega (arith, c.copy_stripped-count.ensures.count)))

pub returns-clause-succeeds : goal.returns-clause-succeeds
returns-clause-succeeds c = what_fits stripped_bytes _ _ _ _ _ (returns-clause-outcome c)
