use Rattle.std.proofs.Common.{◌≡◌, ℕ, ◌+◌, ◌≤◌, List, [], ◌++◌, length, take, length-take, length-append, subst, arith}
use Rattle.hunk_scatter.specs.LoadOutcomes.{IsReadFault}
use Rattle.hunk_scatter.proofs.AllShown.{pulls_none, read_fault_ends}
use Rattle.hunk_scatter.proofs.BodyFeeding.{none_given, refused, whole_piece}
use Rattle.hunk_scatter.proofs.loading.feed_pulled.Goals as goal

pub returns-in-Err-clause-feeds : goal.returns-in-Err-clause-feeds
returns-in-Err-clause-feeds g c =
    let count : c.fed.result ≡ length c.args.loader.now.fed = omega (arith, c.fed.ensures, c.requires.below_limit, c.ranges.limit.fits) in
    let why = subst (λ (n : ℕ). IsReadFault c.args.limit (g.R.Source.supply c.read_piece.new.r) n c.in-Err.fault) count c.in-Err.ensures.fault in
    none_given _ _ _ c.args.loader.now c.args.want c.in-Err.fault c.in-Err.ensures.nothing c.requires.below_limit c.requires.cut_short why

pub returns-in-Err-clause-no_further : goal.returns-in-Err-clause-no_further
returns-in-Err-clause-no_further g c all =
    let count : c.fed.result ≡ length c.args.loader.now.fed = omega (arith, c.fed.ensures, c.requires.below_limit, c.ranges.limit.fits) in
    let ends = read_fault_ends c.args.limit (g.R.Source.supply c.read_piece.new.r) c.fed.result c.in-Err.fault c.in-Err.ensures.fault in
    ([], c.in-Err.ensures.nothing, omega (arith, ends, count, length-append c.args.loader.now.fed []))

pub returns-in-Ok-feed-clause-shows : goal.returns-in-Ok-feed-clause-shows
returns-in-Ok-feed-clause-shows g c all =
    let piece : List ℕ = take c.in-Ok.n c.read_piece.new.buf in
    let size : length piece ≡ c.in-Ok.n = omega (arith, length-take c.in-Ok.n c.read_piece.new.buf, c.in-Ok.ensures.most, c.requires.buffer, c.read_piece.auto.buf) in
    let room : length c.args.loader.now.fed + length piece ≤ c.args.limit = omega (arith, size, c.in-Ok.ensures.limit, c.fed.ensures, c.requires.below_limit, c.ranges.limit.fits) in
    absurd (pulls_none (g.R.Source.supply c.args.r.now) (g.R.Source.supply c.read_piece.new.r) (g.R.Source.shown c.args.r.now) piece c.args.limit (length c.args.loader.now.fed) c.requires.none_held c.in-Ok.ensures.piece (omega (arith, size, c.in-Ok.ensures.nonempty)) room all)

pub returns-in-Err-feed-clause-no_further : goal.returns-in-Err-feed-clause-no_further
returns-in-Err-feed-clause-no_further g c all =
    let piece : List ℕ = take c.in-Ok.n c.read_piece.new.buf in
    let size : length piece ≡ c.in-Ok.n = omega (arith, length-take c.in-Ok.n c.read_piece.new.buf, c.in-Ok.ensures.most, c.requires.buffer, c.read_piece.auto.buf) in
    let room : length c.args.loader.now.fed + length piece ≤ c.args.limit = omega (arith, size, c.in-Ok.ensures.limit, c.fed.ensures, c.requires.below_limit, c.ranges.limit.fits) in
    absurd (pulls_none (g.R.Source.supply c.args.r.now) (g.R.Source.supply c.read_piece.new.r) (g.R.Source.shown c.args.r.now) piece c.args.limit (length c.args.loader.now.fed) c.requires.none_held c.in-Ok.ensures.piece (omega (arith, size, c.in-Ok.ensures.nonempty)) room all)

pub returns-in-Ok-feed-clause-feeds : goal.returns-in-Ok-feed-clause-feeds
returns-in-Ok-feed-clause-feeds g c =
    let piece : List ℕ = take c.in-Ok.n c.read_piece.new.buf in
    let size : length piece ≡ c.in-Ok.n = omega (arith, length-take c.in-Ok.n c.read_piece.new.buf, c.in-Ok.ensures.most, c.requires.buffer, c.read_piece.auto.buf) in
    let room : length (c.args.loader.now.fed ++ piece) ≤ c.args.limit = omega (arith, size, length-append c.args.loader.now.fed piece, c.in-Ok.ensures.limit, c.fed.ensures, c.requires.below_limit, c.ranges.limit.fits) in
    whole_piece _ _ _ c.args.loader.now c.feed.new.self piece c.args.want c.in-Ok-feed.field-0 c.in-Ok.ensures.piece room c.in-Ok.ensures.no_failure c.requires.cut_short
    (omega (arith, size, c.in-Ok.ensures.most)) (omega (arith, size, c.in-Ok.ensures.nonempty))
    c.in-Ok-feed.ensures.rows c.in-Ok-feed.ensures.reading.1 c.in-Ok-feed.ensures.taken c.in-Ok-feed.ensures.all

pub returns-in-Err-feed-clause-feeds : goal.returns-in-Err-feed-clause-feeds
returns-in-Err-feed-clause-feeds g c =
    let piece : List ℕ = take c.in-Ok.n c.read_piece.new.buf in
    let size : length piece ≡ c.in-Ok.n = omega (arith, length-take c.in-Ok.n c.read_piece.new.buf, c.in-Ok.ensures.most, c.requires.buffer, c.read_piece.auto.buf) in
    let room : length (c.args.loader.now.fed ++ piece) ≤ c.args.limit = omega (arith, size, length-append c.args.loader.now.fed piece, c.in-Ok.ensures.limit, c.fed.ensures, c.requires.below_limit, c.ranges.limit.fits) in
    refused _ _ _ c.args.loader.now c.feed.new.self piece c.in-Err-feed.fault c.in-Ok.ensures.piece room c.ranges.limit.fits
    c.in-Err-feed.ensures.rows (c.in-Err-feed.ensures.refusal c.requires.reading) c.in-Err-feed.ensures.own_reasons (c.in-Err-feed.ensures.accepts c.requires.reading)
