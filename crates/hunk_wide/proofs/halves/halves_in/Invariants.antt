use Rattle.std.proofs.Common.{◌≡◌, ◌+◌, ◌-◌, ◌*◌, ◌≤◌, take}
use Rattle.hunk_wide.specs.declared.spot.Spot.TheVariants.{Half}
use Rattle.hunk_wide.specs.Halves.{HalvesLead, flipped, words_to_count}
use Rattle.hunk_wide.proofs.ShortWords.{begun_part}
use Rattle.hunk_wide.proofs.halves.halves_in.Given as goal

abbrev pub invariant-groups : goal.invariant-groups
invariant-groups l = record {
  begun : l.begun ≤ l.count;
  next : l.next ≡ l.begun + words_to_count (begun_part l.fn.part l.begun l.owed);
  leads : HalvesLead (take (2 * l.begun) l.fn.bytes) (Half l.fn.after l.fn.part l.fn.is_odd)
      (Half l.fn.after (begun_part l.fn.part l.begun l.owed) (flipped l.fn.is_odd l.begun));
}

abbrev pub decreases-groups : goal.decreases-groups
decreases-groups l = l.count - l.next
