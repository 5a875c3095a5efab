use Rattle.std.proofs.Common.{◌≡◌, ℕ, ◌+◌, ◌^◌, ◌≤◌, ◌<◌, List, ◌++◌, length, take, length-append, length-take, ap, sym, subst, arith}
use Rattle.std.proofs.lemmas.List.{length-take-le}
use Rattle.std.specs.Io.KnownBytes.{Consumes}
use Rattle.hunk_scatter.specs.LoadOutcomes.{IsAllShown}
use Rattle.hunk_scatter.proofs.{AllShown.shows_rest, BodyFeeding.{held_refused, held_taken, refused_in}}
use Rattle.hunk_scatter.proofs.loading.feed_held.Goals as goal

pub returns-clause-feeds : goal.returns-clause-feeds
returns-clause-feeds g c =
    let held : List ℕ = c.held-held.result.now in
    let same : length held ≡ length (g.R.Source.shown c.args.r.now) = ap length c.held-held.ensures in
    let room : length c.args.loader.now.fed + c.min-most.result ≤ c.args.limit = omega (arith, c.fed-fed.ensures, c.min-most.ensures, c.requires.below_limit, c.ranges.limit.fits) in
    let some : 0 < c.min-most.result = omega (arith, c.fed-fed.ensures, c.min-most.ensures, c.requires.below_limit, c.requires.some, same) in
    held_taken _ _ _ c.args.loader.now c.feed.new.self held c.min-most.result c.in-Ok.taken
    (subst (λ (bs : List ℕ). Consumes (g.R.Source.supply c.args.r.now).left (g.R.Source.supply c.consume-2.new.self).left (take c.in-Ok.taken bs)) (sym c.held-held.ensures) c.consume-2.ensures.bytes)
    room (omega (arith, c.min-most.ensures)) some c.consume-2.ensures.works c.requires.goes_on
    c.in-Ok.ensures.rows c.in-Ok.ensures.reading.1 c.in-Ok.ensures.taken c.in-Ok.ensures.inside_file c.in-Ok.ensures.all

pub returns-clause-shows : goal.returns-clause-shows
returns-clause-shows g c all =
    subst (IsAllShown (g.R.Source.supply c.consume-2.new.self)) (sym c.consume-2.ensures.rest) (shows_rest (g.R.Source.supply c.args.r.now) (g.R.Source.supply c.consume-2.new.self) (g.R.Source.shown c.args.r.now) c.in-Ok.taken c.consume-2.ensures.bytes all)

pub up_to_end-count-requires-clause-ends_in_piece : goal.up_to_end-count-requires-clause-ends_in_piece
up_to_end-count-requires-clause-ends_in_piece g c =
    let piece : List ℕ = take c.min-most.result c.held-held.result.now in
    let size : length piece ≡ c.min-most.result = length-take-le c.min-most.result c.held-held.result.now (omega (arith, c.min-most.ensures)) in
    let few : length (c.args.loader.now.fed ++ piece) < 2 ^ 64 = omega (arith, size, length-append c.args.loader.now.fed piece, c.fed-fed.ensures, c.min-most.ensures, c.requires.below_limit, c.ranges.limit.fits) in
    let ends = refused_in c.args.loader.now.fed piece c.in-Err.fault c.requires.clean few (c.in-Err.ensures.refusal c.requires.reading).refusal in
    omega (arith, ends.0, c.fed-fed.ensures, c.requires.below_limit, c.ranges.limit.fits)

pub up_to_end-count-requires-clause-room : goal.up_to_end-count-requires-clause-room
up_to_end-count-requires-clause-room g c =
    let piece : List ℕ = take c.min-most.result c.held-held.result.now in
    let size : length piece ≡ c.min-most.result = length-take-le c.min-most.result c.held-held.result.now (omega (arith, c.min-most.ensures)) in
    let few : length (c.args.loader.now.fed ++ piece) < 2 ^ 64 = omega (arith, size, length-append c.args.loader.now.fed piece, c.fed-fed.ensures, c.min-most.ensures, c.requires.below_limit, c.ranges.limit.fits) in
    let ends = refused_in c.args.loader.now.fed piece c.in-Err.fault c.requires.clean few (c.in-Err.ensures.refusal c.requires.reading).refusal in
    omega (arith, ends.1, few)

pub consume-requires : goal.consume-requires
consume-requires g c =
    let piece : List ℕ = take c.min-most.result c.held-held.result.now in
    let size : length piece ≡ c.min-most.result = length-take-le c.min-most.result c.held-held.result.now (omega (arith, c.min-most.ensures)) in
    let few : length (c.args.loader.now.fed ++ piece) < 2 ^ 64 = omega (arith, size, length-append c.args.loader.now.fed piece, c.fed-fed.ensures, c.min-most.ensures, c.requires.below_limit, c.ranges.limit.fits) in
    let ends = refused_in c.args.loader.now.fed piece c.in-Err.fault c.requires.clean few (c.in-Err.ensures.refusal c.requires.reading).refusal in
    omega (arith, ends.1, size, length-append c.args.loader.now.fed piece, c.up_to_end-count.ensures, c.fed-fed.ensures, c.requires.below_limit, c.ranges.limit.fits, c.min-most.ensures, ap length c.held-held.ensures)

pub returns-in-Err-clause-feeds : goal.returns-in-Err-clause-feeds
returns-in-Err-clause-feeds g c =
    let held : List ℕ = c.held-held.result.now in
    let n : ℕ = c.up_to_end-count.result in
    let size : length (take c.min-most.result held) ≡ c.min-most.result = length-take-le c.min-most.result held (omega (arith, c.min-most.ensures)) in
    let counted : c.fed-fed.result ≡ length c.args.loader.now.fed = omega (arith, c.fed-fed.ensures, c.requires.below_limit, c.ranges.limit.fits) in
    let room : length c.args.loader.now.fed + c.min-most.result ≤ c.args.limit = omega (arith, counted, c.min-most.ensures, c.requires.below_limit) in
    let few : length (c.args.loader.now.fed ++ take c.min-most.result held) < 2 ^ 64 = omega (arith, size, length-append c.args.loader.now.fed (take c.min-most.result held), room, c.ranges.limit.fits) in
    let ends = refused_in c.args.loader.now.fed (take c.min-most.result held) c.in-Err.fault c.requires.clean few (c.in-Err.ensures.refusal c.requires.reading).refusal in
    let end : length c.args.loader.now.fed + n ≡ c.in-Err.fault.place + 4 = omega (arith, c.up_to_end-count.ensures, counted) in
    held_refused _ _ _ c.args.loader.now c.feed.new.self held c.min-most.result n c.in-Err.fault
    (subst (λ (bs : List ℕ). Consumes (g.R.Source.supply c.args.r.now).left (g.R.Source.supply c.consume.new.self).left (take n bs)) (sym c.held-held.ensures) c.consume.ensures.bytes) room c.ranges.limit.fits
    (omega (arith, c.min-most.ensures)) end (omega (arith, end, ends.1, size, length-append c.args.loader.now.fed (take c.min-most.result held)))
    c.in-Err.ensures.rows (c.in-Err.ensures.refusal c.requires.reading) c.in-Err.ensures.own_reasons

pub returns-in-Err-clause-no_further : goal.returns-in-Err-clause-no_further
returns-in-Err-clause-no_further g c =
    let n : ℕ = c.up_to_end-count.result in
    let shown : List ℕ = g.R.Source.shown c.args.r.now in
    let counted : c.fed-fed.result ≡ length c.args.loader.now.fed = omega (arith, c.fed-fed.ensures, c.requires.below_limit, c.ranges.limit.fits) in
    (take n shown, c.consume.ensures.bytes, omega (arith, c.up_to_end-count.ensures, counted, length-append c.args.loader.now.fed (take n shown), length-take n shown))
