use Rattle.std.proofs.Common.{◌∙◌, ◌++◌, List, ℕ, ap, subst}
use Rattle.hunk_scatter.specs.HeaderFaults.{CompletesRowIn}
use Rattle.hunk_commands.proofs.IncomingLaws.{no_row}
use Rattle.hunk_commands.proofs.incoming.keep_load.Goals as goal

pub returns-in-Err-clause-wants : goal.returns-in-Err-clause-wants
returns-in-Err-clause-wants c =
    let w = subst (λ (bs : List ℕ). CompletesRowIn bs c.args.front.now) c.new.ensures c.in-Err.ensures.wants in
    absurd (no_row c.args.front.now w.0 c.requires.few w.1)

pub returns-in-Err-feed-clause-wants : goal.returns-in-Err-feed-clause-wants
returns-in-Err-feed-clause-wants c =
    let front = c.in-Ok.ensures.fed ∙ ap (λ (bs : List ℕ). bs ++ c.args.front.now) c.new.ensures in
    subst (λ (bs : List ℕ). CompletesRowIn bs c.args.piece.now) front c.in-Err-feed.ensures.wants
