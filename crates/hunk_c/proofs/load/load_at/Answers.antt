use Rattle.std.proofs.Common.{refl, ◌∙◌, inl, inr}
use Rattle.std.proofs.lemmas.List.{length-take-le}
use Rattle.hunk_files.proofs.cuts.LoadCuts.{begins}
use Rattle.hunk_c.proofs.Loaded.{has_numbers, loaded, not_whole}
use Rattle.hunk_c.proofs.load.load_at.Goals as goal

pub returns-in-Err : goal.returns-in-Err
returns-in-Err g c = λ base are.
    inr (not_whole base _ c.args.bytes.now c.args.memory.now c.args.size c.requires.size c.requires.room are c.refused.result c.in-Err.refusal.fault c.in-Err.ensures.fault c.refused.ensures, refl)

pub fill_images-requires-clause-room : goal.fill_images-requires-clause-room
fill_images-requires-clause-room g c =
    let read = c.in-Ok.ensures in
    let file = begins c.args.bytes.now c.in-Ok.found.1 (record { value = c.in-Ok.found.0; is_load_file = read.valid; text_is = read.text; whole = read.inside }) in
    length-take-le c.args.size.declared c.args.memory.now c.requires.room ∙ (has_numbers c.args.bytes.now c.args.size c.requires.size file).declared_are

pub fill_images-requires-clause-bases : goal.fill_images-requires-clause-bases
fill_images-requires-clause-bases g c =
    let read = c.in-Ok.ensures in
    let file = begins c.args.bytes.now c.in-Ok.found.1 (record { value = c.in-Ok.found.0; is_load_file = read.valid; text_is = read.text; whole = read.inside }) in
    c.requires.count ∙ (has_numbers c.args.bytes.now c.args.size c.requires.size file).hunks_are

pub returns : goal.returns
returns g c = λ base are.
    let read = c.in-Ok.ensures in
    let file = begins c.args.bytes.now c.in-Ok.found.1 (record { value = c.in-Ok.found.0; is_load_file = read.valid; text_is = read.text; whole = read.inside }) in
    inl (loaded base _ c.args.bytes.now c.args.memory.now c.args.size c.requires.size c.requires.room are c.done.result file c.fill_images.new.memory c.in-Ok.found.1 c.fill_images.ensures.memory read.inside read.text c.done.ensures)
