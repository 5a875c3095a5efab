use Rattle.std.proofs.Common.{◌≡◌, ◌∙◌, ap, subst, ℕ, List, length, ◌++◌, append_assoc}
use Rattle.std.specs.List.{flat_map}
use Rattle.hunk_blocks.specs.Parts.{ext_text}
use Rattle.hunk_blocks.specs.Placed.{Placed}
use Rattle.hunk_blocks.specs.Values.{ExtEntry}
use Rattle.hunk_blocks.specs.Views.{entry_of}
use Rattle.hunk_listing.specs.BlockLines.{count_line, entry_lines}
use Rattle.hunk_listing.proofs.Counts.{items_given}
use Rattle.hunk_listing.proofs.block.print_entries.Goals as goal

pub entries-init : goal.entries-init
entries-init g c =
    let given = items_given entry_of ext_text c.count.ensures.ran.0 c.again.result c.count.ensures.ran.1 in
    let counted = subst (λ (s : Placed (List ExtEntry)). c.count.result ≡ length s.value) c.again.ensures (subst (λ n. c.count.result ≡ n) given c.count.ensures.ran.2) in
    let start = subst (λ n. c.print_count.new.page.text ≡ c.args.page.now.text ++ count_line c.args.word n) counted c.print_count.ensures.1 in
    let lines = flat_map entry_lines c.args.entries.now.value in
    let shown = ap (λ (s : Placed (List ExtEntry)). c.print_count.new.page.text ++ flat_map entry_lines s.value) (c.into_iter-entry-iterator.ensures.into_iter_gives ∙ c.again-entry-items.ensures) in
    (c.print_count.ensures.0, shown ∙ ap (λ (text : List ℕ). text ++ lines) start ∙ append_assoc c.args.page.now.text (count_line c.args.word (length c.args.entries.now.value)) lines)
