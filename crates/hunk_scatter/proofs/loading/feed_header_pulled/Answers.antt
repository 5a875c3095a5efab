use Rattle.std.proofs.Common.{◌≡◌, ℕ, ◌+◌, ◌≤◌, List, [], length, take, length-take, length-append, subst, arith}
use Rattle.hunk_scatter.specs.LoadOutcomes.{IsReadFault}
use Rattle.hunk_scatter.proofs.AllShown.{pulls_none, read_fault_ends}
use Rattle.hunk_scatter.proofs.HeaderFeeding.{header_piece_refused, no_header_given, whole_header_piece}
use Rattle.hunk_scatter.proofs.loading.feed_header_pulled.Goals as goal

pub returns-in-Err-clause-feeds : goal.returns-in-Err-clause-feeds
returns-in-Err-clause-feeds g c =
    let why = subst (λ (n : ℕ). IsReadFault c.args.file_bytes (g.R.Source.supply c.read_piece.new.r) n c.in-Err.fault) c.fed.ensures c.in-Err.ensures.fault in
    no_header_given _ _ _ c.args.loader.now c.args.want c.in-Err.fault c.in-Err.ensures.nothing c.requires.below_limit c.requires.cut_short why

pub returns-in-Err-clause-no_further : goal.returns-in-Err-clause-no_further
returns-in-Err-clause-no_further g c all =
    let ends = read_fault_ends c.args.file_bytes (g.R.Source.supply c.read_piece.new.r) c.fed.result c.in-Err.fault c.in-Err.ensures.fault in
    ([], c.in-Err.ensures.nothing, omega (arith, ends, c.fed.ensures, length-append c.args.loader.now.fed []))

pub returns-in-Ok-feed-clause-feeds : goal.returns-in-Ok-feed-clause-feeds
returns-in-Ok-feed-clause-feeds g c =
    let piece : List ℕ = take c.in-Ok.n c.read_piece.new.buf in
    let size : length piece ≡ c.in-Ok.n = omega (arith, length-take c.in-Ok.n c.read_piece.new.buf, c.in-Ok.ensures.most, c.requires.buffer, c.read_piece.auto.buf) in
    let room : length c.args.loader.now.fed + length piece ≤ c.args.file_bytes = omega (arith, size, c.in-Ok.ensures.limit, c.fed.ensures) in
    whole_header_piece _ _ _ c.args.loader.now c.feed.new.self piece c.args.want c.in-Ok-feed.field-0 c.in-Ok.ensures.piece room c.in-Ok.ensures.no_failure c.requires.cut_short
    (omega (arith, size, c.in-Ok.ensures.most)) (omega (arith, size, c.in-Ok.ensures.nonempty))
    c.in-Ok-feed.ensures.budget c.in-Ok-feed.ensures.reading.1 c.in-Ok-feed.ensures.taken c.in-Ok-feed.ensures.all

pub returns-in-Ok-feed-clause-shows : goal.returns-in-Ok-feed-clause-shows
returns-in-Ok-feed-clause-shows g c all =
    let piece : List ℕ = take c.in-Ok.n c.read_piece.new.buf in
    let size : length piece ≡ c.in-Ok.n = omega (arith, length-take c.in-Ok.n c.read_piece.new.buf, c.in-Ok.ensures.most, c.requires.buffer, c.read_piece.auto.buf) in
    let room : length c.args.loader.now.fed + length piece ≤ c.args.file_bytes = omega (arith, size, c.in-Ok.ensures.limit, c.fed.ensures) in
    absurd (pulls_none (g.R.Source.supply c.args.r.now) (g.R.Source.supply c.read_piece.new.r) (g.R.Source.shown c.args.r.now) piece c.args.file_bytes (length c.args.loader.now.fed) c.requires.none_held c.in-Ok.ensures.piece (omega (arith, size, c.in-Ok.ensures.nonempty)) room all)

pub returns-in-Err-feed-clause-feeds : goal.returns-in-Err-feed-clause-feeds
returns-in-Err-feed-clause-feeds g c =
    let piece : List ℕ = take c.in-Ok.n c.read_piece.new.buf in
    let size : length piece ≡ c.in-Ok.n = omega (arith, length-take c.in-Ok.n c.read_piece.new.buf, c.in-Ok.ensures.most, c.requires.buffer, c.read_piece.auto.buf) in
    let room : length c.args.loader.now.fed + length piece ≤ c.args.file_bytes = omega (arith, size, c.in-Ok.ensures.limit, c.fed.ensures) in
    let e = c.in-Err-feed.ensures in
    header_piece_refused _ _ _ c.args.loader.now c.feed.new.self piece c.args.want c.in-Err-feed.fault c.in-Ok.ensures.piece room c.requires.cut_short
    (omega (arith, size, c.in-Ok.ensures.most)) (omega (arith, size, c.in-Ok.ensures.nonempty))
    e.budget (e.refusal c.requires.reading) (e.passes_budget c.requires.reading) e.own_reasons (e.out_of_memory c.requires.reading) (e.in_header c.requires.reading)

pub returns-in-Err-feed-clause-no_further : goal.returns-in-Err-feed-clause-no_further
returns-in-Err-feed-clause-no_further g c all =
    let piece : List ℕ = take c.in-Ok.n c.read_piece.new.buf in
    let size : length piece ≡ c.in-Ok.n = omega (arith, length-take c.in-Ok.n c.read_piece.new.buf, c.in-Ok.ensures.most, c.requires.buffer, c.read_piece.auto.buf) in
    let room : length c.args.loader.now.fed + length piece ≤ c.args.file_bytes = omega (arith, size, c.in-Ok.ensures.limit, c.fed.ensures) in
    absurd (pulls_none (g.R.Source.supply c.args.r.now) (g.R.Source.supply c.read_piece.new.r) (g.R.Source.shown c.args.r.now) piece c.args.file_bytes (length c.args.loader.now.fed) c.requires.none_held c.in-Ok.ensures.piece (omega (arith, size, c.in-Ok.ensures.nonempty)) room all)
