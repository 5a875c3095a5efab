use Rattle.std.proofs.Common.{ℕ, ◌+◌, ◌≤◌, ◌<◌, List, length, take, length-append, length-take, ap, sym, subst, arith}
use Rattle.std.specs.Io.KnownBytes.{Consumes}
use Rattle.hunk_scatter.specs.LoadOutcomes.{IsAllShown}
use Rattle.hunk_scatter.proofs.{AllShown.shows_rest, HeaderFeeding.{held_header_refused, held_header_taken}}
use Rattle.hunk_scatter.proofs.loading.feed_header_held.Goals as goal

pub returns-clause-feeds : goal.returns-clause-feeds
returns-clause-feeds g c =
    let held : List ℕ = c.held-held.result.now in
    let room : length c.args.loader.now.fed + c.min-most.result ≤ c.args.file_bytes = omega (arith, c.fed-fed.ensures, c.min-most.ensures, c.requires.below_limit) in
    let some : 0 < c.min-most.result = omega (arith, c.fed-fed.ensures, c.min-most.ensures, c.requires.below_limit, c.requires.some, ap length c.held-held.ensures) in
    held_header_taken _ _ _ c.args.loader.now c.feed.new.self held c.min-most.result c.in-Ok.front
    (subst (λ (bs : List ℕ). Consumes (g.R.Source.supply c.args.r.now).left (g.R.Source.supply c.consume-2.new.self).left (take c.in-Ok.front bs)) (sym c.held-held.ensures) c.consume-2.ensures.bytes)
    room (omega (arith, c.min-most.ensures)) some c.consume-2.ensures.works c.requires.goes_on
    c.in-Ok.ensures.budget c.in-Ok.ensures.reading.1 c.in-Ok.ensures.taken c.in-Ok.ensures.inside_header c.in-Ok.ensures.all

pub returns-clause-shows : goal.returns-clause-shows
returns-clause-shows g c all =
    subst (IsAllShown (g.R.Source.supply c.consume-2.new.self)) (sym c.consume-2.ensures.rest) (shows_rest (g.R.Source.supply c.args.r.now) (g.R.Source.supply c.consume-2.new.self) (g.R.Source.shown c.args.r.now) c.in-Ok.front c.consume-2.ensures.bytes all)

pub up_to_end-end-requires-clause-ends_in_piece : goal.up_to_end-end-requires-clause-ends_in_piece
up_to_end-end-requires-clause-ends_in_piece g c =
    let stop = c.in-Err.ensures.at_longword c.requires.reading in
    omega (arith, stop.after, c.fed-fed.ensures)

pub up_to_end-end-requires-clause-room : goal.up_to_end-end-requires-clause-room
up_to_end-end-requires-clause-room g c =
    let piece : List ℕ = take c.min-most.result c.held-held.result.now in
    let stop = c.in-Err.ensures.at_longword c.requires.reading in
    omega (arith, stop.inside, length-append c.args.loader.now.fed piece, length-take c.min-most.result c.held-held.result.now, c.fed-fed.ensures, c.min-most.ensures, c.requires.below_limit, c.ranges.file_bytes.fits)

pub consume-requires : goal.consume-requires
consume-requires g c =
    let piece : List ℕ = take c.min-most.result c.held-held.result.now in
    let stop = c.in-Err.ensures.at_longword c.requires.reading in
    omega (arith, stop.inside, length-append c.args.loader.now.fed piece, length-take c.min-most.result c.held-held.result.now, c.up_to_end-end.ensures, c.fed-fed.ensures, c.min-most.ensures, ap length c.held-held.ensures)

pub returns-in-Err-clause-feeds : goal.returns-in-Err-clause-feeds
returns-in-Err-clause-feeds g c =
    let held : List ℕ = c.held-held.result.now in
    let n : ℕ = c.up_to_end-end.result in
    let room : length c.args.loader.now.fed + c.min-most.result ≤ c.args.file_bytes = omega (arith, c.fed-fed.ensures, c.min-most.ensures, c.requires.below_limit) in
    let e = c.in-Err.ensures in
    held_header_refused _ _ _ c.args.loader.now c.feed.new.self held c.min-most.result n
    (subst (λ (bs : List ℕ). Consumes (g.R.Source.supply c.args.r.now).left (g.R.Source.supply c.consume.new.self).left (take n bs)) (sym c.held-held.ensures) c.consume.ensures.bytes) room
    (omega (arith, c.min-most.ensures)) c.in-Err.fault (omega (arith, c.up_to_end-end.ensures, c.fed-fed.ensures))
    e.budget (e.at_longword c.requires.reading) (e.passes_budget c.requires.reading) e.own_reasons

pub returns-in-Err-clause-no_further : goal.returns-in-Err-clause-no_further
returns-in-Err-clause-no_further g c =
    let n : ℕ = c.up_to_end-end.result in
    let shown : List ℕ = g.R.Source.shown c.args.r.now in
    (take n shown, c.consume.ensures.bytes, omega (arith, c.up_to_end-end.ensures, c.fed-fed.ensures, length-append c.args.loader.now.fed (take n shown), length-take n shown))
