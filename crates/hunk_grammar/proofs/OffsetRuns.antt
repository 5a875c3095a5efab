-- Offsets that all end within their hunk: none is refused.
use Rattle.std.proofs.Common.{◌≡◌, ℕ, ◌+◌, ◌*◌, Bool, cond, ap, None, Some}
use Rattle.std.proofs.lemmas.Bool.{le-ltb}
use Rattle.hunk_words.specs.declared.reason.Reason.TheVariants as reasons
use Rattle.hunk_grammar.specs.{declared.position.OpenHunk.OpenHunk, Roles.refuse, Positions.{role_at, EndsWithin}}
use Rattle.hunk_grammar.specs.declared.phase.Phase.TheVariants as phases
use Rattle.hunk_grammar.specs.declared.position.Position.TheVariants as positions

pub offset_passes : (longs : ℕ) (o : OpenHunk) (target owed w : ℕ) → EndsWithin (4 * longs) w → refuse (role_at longs (positions.Body o (phases.Offset target owed))) w ≡ None
offset_passes longs o target owed w within = ap (λ (b : Bool). cond b (Some reasons.BadOffset) None) (le-ltb (4 * longs) (w + 4) within)
