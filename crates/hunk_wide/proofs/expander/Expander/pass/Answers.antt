use Rattle.std.proofs.Common.{◌≡◌, ℕ, List, ◌++◌, drop, refl, sym, ap, subst, ◌∙◌, arith}
use Rattle.hunk_words.specs.PendingBytes.{pending_of}
use Rattle.hunk_wide.specs.declared.spot.Spot.{Spot}
use Rattle.hunk_wide.specs.declared.spot.Spot.TheVariants.{Straight}
use Rattle.hunk_wide.specs.Longwords.{behind_straight}
use Rattle.hunk_wide.specs.Held.{Held, left_of, straight_of}
use Rattle.hunk_wide.proofs.Straight.{InStraight, in_straight, is_passing, pass_left, pass_straight, passing_left, passing_straight}
use Rattle.hunk_wide.specs.InFile.{spot_of}
use Rattle.hunk_wide.proofs.Leads.{pass_leads, passing_stays}
use Rattle.hunk_wide.proofs.expander.Expander.pass.Goals as goal

abbrev held_so : List ℕ → Spot → List ℕ → Held
held_so ready spot begun = record { ready = ready; spot = spot; begun = begun }

pub behind_straight-self-inside-requires : goal.behind_straight-self-inside-requires
behind_straight-self-inside-requires c =
    let now = sym (ap (λ (s : Spot). held_so c.self.inside.ready s (pending_of c.self.inside.begun)) c.in-Straight.is) ∙ c.self.view_is in
    let i = in_straight c.args.self.now c.self.inside.ready (pending_of c.self.inside.begun) c.in-Straight.owed c.in-Straight.next c.args.count now c.if-count-eq0.false c.requires in
    omega (arith, i.fits)

pub returns-in-Straight-clause-left : goal.returns-in-Straight-clause-left
returns-in-Straight-clause-left c =
    λ bytes more l.
    let now = sym (ap (λ (s : Spot). held_so c.self.inside.ready s (pending_of c.self.inside.begun)) c.in-Straight.is) ∙ c.self.view_is in
    let i = in_straight c.args.self.now c.self.inside.ready (pending_of c.self.inside.begun) c.in-Straight.owed c.in-Straight.next c.args.count now c.if-count-eq0.false c.requires in
    subst (λ (h : Held). left_of h (bytes ++ more) ≡ bytes ++ left_of (held_so c.self.inside.ready c.behind_straight-self-inside.result (pending_of c.self.inside.begun)) more) now
    (pass_left c.self.inside.ready (pending_of c.self.inside.begun) bytes more c.in-Straight.owed c.in-Straight.next c.behind_straight-self-inside.result
    (subst (λ (n : ℕ). InStraight (held_so c.self.inside.ready (Straight c.in-Straight.owed c.in-Straight.next) (pending_of c.self.inside.begun)) c.in-Straight.owed n) (sym l) i)
    (c.behind_straight-self-inside.ensures ∙ ap (behind_straight c.in-Straight.owed c.in-Straight.next) (sym l)))

pub returns-in-Straight-clause-spot : goal.returns-in-Straight-clause-spot
returns-in-Straight-clause-spot c =
    λ bytes more l.
    let now = sym (ap (λ (s : Spot). held_so c.self.inside.ready s (pending_of c.self.inside.begun)) c.in-Straight.is) ∙ c.self.view_is in
    let i = in_straight c.args.self.now c.self.inside.ready (pending_of c.self.inside.begun) c.in-Straight.owed c.in-Straight.next c.args.count now c.if-count-eq0.false c.requires in
    subst (λ (h : Held). spot_of h (bytes ++ more) ≡ spot_of (held_so c.self.inside.ready c.behind_straight-self-inside.result (pending_of c.self.inside.begun)) more) now
    (pass_leads c.self.inside.ready (pending_of c.self.inside.begun) bytes more c.in-Straight.owed c.in-Straight.next c.behind_straight-self-inside.result
    (subst (λ (n : ℕ). InStraight (held_so c.self.inside.ready (Straight c.in-Straight.owed c.in-Straight.next) (pending_of c.self.inside.begun)) c.in-Straight.owed n) (sym l) i)
    (c.behind_straight-self-inside.ensures ∙ ap (behind_straight c.in-Straight.owed c.in-Straight.next) (sym l)))

pub returns-in-Straight-clause-straight : goal.returns-in-Straight-clause-straight
returns-in-Straight-clause-straight c =
    λ bytes fits.
    let now = sym (ap (λ (s : Spot). held_so c.self.inside.ready s (pending_of c.self.inside.begun)) c.in-Straight.is) ∙ c.self.view_is in
    let i = in_straight c.args.self.now c.self.inside.ready (pending_of c.self.inside.begun) c.in-Straight.owed c.in-Straight.next c.args.count now c.if-count-eq0.false c.requires in
    subst (λ (h : Held). straight_of (held_so c.self.inside.ready c.behind_straight-self-inside.result (pending_of c.self.inside.begun)) (drop c.args.count bytes) ≡ drop c.args.count (straight_of h bytes)) now
    (pass_straight c.self.inside.ready (pending_of c.self.inside.begun) bytes c.in-Straight.owed c.args.count c.in-Straight.next c.behind_straight-self-inside.result i c.behind_straight-self-inside.ensures)

pub returns-in_default : goal.returns-in_default
returns-in_default c =
    let i = is_passing c.args.self.now c.args.count (λ owed next e. c.in_default.not-Straight owed next (ap (λ (h : Held). h.spot) c.self.view_is ∙ e)) c.if-count-eq0.false c.requires in
    record {
      left = λ bytes more l. passing_left c.args.self.now bytes more i;
      spot = λ bytes more l. passing_stays c.args.self.now bytes more i;
      same = (refl, refl);
      straight = λ bytes fits. passing_straight c.args.self.now bytes c.args.count i;
    }
