use Rattle.std.proofs.Common.{◌≡◌, ◌*◌, ℕ, [], length, ap, sym, subst, ◌∙◌}
use Rattle.hunk_files.specs.{Items.{ItemsAt, items_at, load_items}, LoadFile.LoadFileValue, Tables.header_text}
use Rattle.hunk_files.proofs.{views.ItemStart.{load_items_are, load_start}, cuts.LoadCuts.load_value}
use Rattle.hunk_files.proofs.load.view.LoadView.items.Goals as goal

-- the byte after the header
after : {v w : LoadFileValue} (at : ℕ) → at ≡ 4 * length (header_text v) → v ≡ w → at ≡ 4 * length (header_text w)
after at is same = is ∙ ap (λ (v : LoadFileValue). 4 * length (header_text v)) same

pub at-requires : goal.at-requires
at-requires c =
    let bytes = c.self.inside.bytes.now in
    let file = c.self.invariant in
    subst (ItemsAt bytes 0 0) (sym (after c.body.result c.body.ensures (sym c.self.view_is ∙ load_value bytes file.file))) (load_start bytes file)

pub returns : goal.returns
returns c =
    let bytes = c.self.inside.bytes.now in
    let file = c.self.invariant in
    let same = sym c.self.view_is ∙ load_value bytes file.file in
    c.at.ensures ∙ ap (λ (n : ℕ). items_at bytes 0 0 0 0 (record { place = n; value = [] })) (after c.body.result c.body.ensures same)
    ∙ load_items_are bytes file ∙ ap (λ (v : LoadFileValue). load_items v) (sym same)
