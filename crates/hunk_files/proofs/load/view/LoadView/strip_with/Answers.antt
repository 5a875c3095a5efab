use Rattle.std.proofs.Common.{◌*◌, ℕ, List, length, ap, sym, subst, ◌++◌, ◌∙◌}
use Rattle.std.specs.{List.flat_map, Prelude.slice_range}
use Rattle.hunk_words.specs.Longs.{bytes_of}
use Rattle.hunk_blocks.specs.Placed.{Placed}
use Rattle.hunk_files.specs.{Items.{ItemValue, ItemsStand, load_items}, ItemViews.kept_text, LoadFile.LoadFileValue, Tables.header_text}
use Rattle.hunk_files.proofs.{views.FileItems.hunks_kept, views.ItemStart.load_items_stand, cuts.LoadCuts.load_value, strip.LoadRanges.{blocks_of, stripped_text}}
use Rattle.hunk_files.proofs.load.view.LoadView.strip_with.Goals as goal

pub strip_items-requires : goal.strip_items-requires
strip_items-requires g c =
    let bytes = c.self.inside.bytes.now in
    let same = sym (load_value bytes c.self.invariant.file) ∙ c.self.view_is in
    subst (ItemsStand bytes) (ap (λ (v : LoadFileValue). load_items v) same ∙ sym c.items.ensures) (load_items_stand bytes c.self.invariant)

pub returns : goal.returns
returns g c =
    let bytes = c.self.inside.bytes.now in
    let v = c.args.self.now in
    let front : List ℕ = slice_range bytes 0 (4 * length (header_text v)) in
    subst (λ (xs : List ℕ). g.T.TakesBytes.takes c.args.taker.now xs c.strip_items.new.taker)
    (ap (λ (p : Placed (List ItemValue)). slice_range bytes 0 p.place ++ bytes_of (flat_map kept_text p.value)) c.items.ensures
    ∙ ap (λ (ws : List ℕ). front ++ bytes_of ws) (hunks_kept 0 0 (blocks_of v)) ∙ stripped_text bytes c.self.invariant.file v (sym c.self.view_is ∙ load_value bytes c.self.invariant.file))
    c.strip_items.ensures
