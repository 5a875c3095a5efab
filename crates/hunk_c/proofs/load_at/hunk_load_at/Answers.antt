use Rattle.std.proofs.Common.{refl, inl, inr}
use Rattle.hunk_files.specs.LoadText.{table}
use Rattle.hunk_files.proofs.cuts.LoadCuts.{begins}
use Rattle.hunk_c.proofs.LoadedAt.{loaded_at, no_base_at, no_header_at, not_whole_at, what_is_placed}
use Rattle.hunk_c.proofs.Succeeding.{file_header}
use Rattle.hunk_c.proofs.load_at.hunk_load_at.Goals as goal

pub returns-in-Err-clause-outcome : goal.returns-in-Err-clause-outcome
returns-in-Err-clause-outcome c =
    inr (no_header_at _ c.args.bytes.now c.refused.result c.in-Err.none.fault c.in-Err.ensures.refusal c.in-Err.ensures.accepts c.refused.ensures, refl)

pub returns-in-Err-clause-succeeds : goal.returns-in-Err-clause-succeeds
returns-in-Err-clause-succeeds c = what_is_placed _ _ _ _ _ _ (returns-in-Err-clause-outcome c)

pub returns-in-Err-find_places-clause-outcome : goal.returns-in-Err-find_places-clause-outcome
returns-in-Err-find_places-clause-outcome c =
    let s = c.in-Ok.ensures.size in
    inr (no_base_at _ c.args.bytes.now c.no_base.result c.in-Ok.size s c.in-Err-find_places.hunk (c.in-Err-find_places.ensures.unplaced s.table s.header) c.no_base.ensures, refl)

pub returns-in-Err-find_places-clause-succeeds : goal.returns-in-Err-find_places-clause-succeeds
returns-in-Err-find_places-clause-succeeds c = what_is_placed _ _ _ _ _ _ (returns-in-Err-find_places-clause-outcome c)

pub returns-in-Err-read-clause-outcome : goal.returns-in-Err-read-clause-outcome
returns-in-Err-read-clause-outcome c =
    inr (not_whole_at _ c.args.bytes.now c.refused-in-Err-read.result _ c.in_default.ensures.placed c.in-Err-read.refusal.fault c.in-Err-read.ensures.fault c.refused-in-Err-read.ensures, refl)

pub put_hunks-requires : goal.put_hunks-requires
put_hunks-requires c =
    let read = c.in-Ok-read.ensures in
    let file = begins c.args.bytes.now c.in-Ok-read.found.1 (record { value = c.in-Ok-read.found.0; is_load_file = read.valid; text_is = read.text; whole = read.inside }) in
    record { bases = (c.args.bases.now, c.in_default.ensures.placed (table c.in-Ok-read.found.0) (file_header c.args.bytes.now file)) }

pub returns-clause-outcome : goal.returns-clause-outcome
returns-clause-outcome c =
    let read = c.in-Ok-read.ensures in
    let file = begins c.args.bytes.now c.in-Ok-read.found.1 (record { value = c.in-Ok-read.found.0; is_load_file = read.valid; text_is = read.text; whole = read.inside }) in
    inl
    (loaded_at _ c.args.bytes.now c.done.result c.in-Ok.size c.in-Ok.ensures.size c.args.start c.args.memory.now c.put_hunks.new.memory _ c.in_default.ensures.placed file c.put_hunks.ensures c.in-Ok-read.found.1 read.inside read.text c.done.ensures)
