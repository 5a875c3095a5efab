-- The bytes of a longword in progress, by their numbers.
use Rattle.std.proofs.Common.{◌≡◌, ◌<◌, [], length, arith}
use Rattle.hunk_words.specs.{declared.pending.Pending.Pending, PendingBytes.pending_of}

pub pending_few : (p : Pending) → length (pending_of p) < 4 → p.count < 4
pending_few p h = grind arith

pub few_pending : (p : Pending) → p.count < 4 → length (pending_of p) < 4
few_pending p h = grind arith

pub pending_none : (p : Pending) → p.count ≡ 0 → pending_of p ≡ []
pending_none p h = grind arith
