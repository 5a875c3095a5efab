use Rattle.std.proofs.Common.{◌≡◌, ℕ, ◌+◌, ◌*◌, List, length, drop, refl, sym, ap, ap₂, subst, ◌∙◌, arith}
use Rattle.std.specs.List.{AllByRecursion}
use Rattle.hunk_blocks.specs.{Placed.Placed, Values.BlockValue}
use Rattle.hunk_files.specs.{Filling.{Fits, memory_of}, Hunks.block_texts, InPlace.{blocks_in, hunks_in}}
use Rattle.hunk_files.specs.{LoadFile.{IsHunk, TableEntry}, Tables.size_entry}
use Rattle.hunk_files.proofs.views.BlocksInPlace.{hunk_value}
use Rattle.hunk_files.proofs.image.FillingLaws.{all_put, hunk_room, image_put, next_fits, no_images, part_size}
use Rattle.hunk_files.proofs.views.HunksInPlace.{all_hunks_at, hunks_begin_at, hunks_in-nil, next_hunk_of}
use Rattle.hunk_files.proofs.cuts.LoadCuts.{load_value}
use Rattle.hunk_files.proofs.load.view.LoadView.fill_images.Goals as goal

pub filling-init : goal.filling-init
filling-init g c =
    let bytes = c.self.inside.bytes.now in
    let same = sym (load_value bytes c.self.invariant.file) ∙ c.self.view_is in
    let entries = c.into_iter-size-iterator.ensures.into_iter_gives ∙ c.table-size-items.ensures.value in
    record {
      stays = refl;
      begins = hunks_begin_at bytes c.self.invariant.file c.args.self.now same c.into_iter-size-iterator.result c.body-at.result entries c.body-at.ensures;
      left =
          no_images (g.B.Bases.bases c.args.bases.now) c.args.self.now _ c.args.memory.now
          (all_hunks_at bytes c.self.invariant.file c.args.self.now same c.into_iter-size-iterator.result c.body-at.result entries c.body-at.ensures) c.requires.room;
    }

pub at-blocks-requires : goal.at-blocks-requires
at-blocks-requires g c = (next_hunk_of c.filling.size-iterator (size_entry c.in-Some.size) c.next.new.self c.self.inside.bytes.now c.filling.at c.in-Some.ensures.steps c.filling.invariant.begins).here

pub slice_bounds-fill_hunk-end : goal.slice_bounds-fill_hunk-end
slice_bounds-fill_hunk-end g c =
    let n = next_hunk_of c.filling.size-iterator (size_entry c.in-Some.size) c.next.new.self c.self.inside.bytes.now c.filling.at c.in-Some.ensures.steps c.filling.invariant.begins in
    omega (arith, c.bytes.ensures, hunk_room c.filling.invariant.left _ _ (n.first _ refl), c.filling.auto.memory)

pub fill_hunk-requires : goal.fill_hunk-requires
fill_hunk-requires g c =
    let bytes = c.self.inside.bytes.now in
    let at = c.filling.at in
    let hunks = length (g.B.Bases.bases c.filling.bases) in
    let many = ap length c.filling.invariant.stays ∙ c.requires.bases in
    let n = next_hunk_of c.filling.size-iterator (size_entry c.in-Some.size) c.next.new.self bytes at c.in-Some.ensures.steps c.filling.invariant.begins in
    let room = hunk_room c.filling.invariant.left _ _ (n.first _ refl) in
    let size = part_size c.filling.start c.bytes.result c.filling.memory (omega (arith, c.bytes.ensures, room)) ∙ c.bytes.ensures in
    let each : AllByRecursion (IsHunk hunks) c.args.self.now = subst (λ (k : ℕ). AllByRecursion (IsHunk k) c.args.self.now) (sym many) c.table-size-items.ensures.file.each in
    subst (Fits hunks _) (hunk_value n.here ∙ sym (ap (λ (p : Placed (List BlockValue)). p.value) (c.at-blocks.ensures n.here)))
    (next_fits c.filling.invariant.left _ _ (n.first _ refl) hunks _ each size)

pub filling-preserved : goal.filling-preserved
filling-preserved g c =
    let bytes = c.self.inside.bytes.now in
    let at = c.filling.at in
    let bases = g.B.Bases.bases c.args.bases.now in
    let memory = rw c.filling.invariant.stays at c.fill_hunk.ensures.memory in
    let n = next_hunk_of c.filling.size-iterator (size_entry c.in-Some.size) c.next.new.self bytes at c.in-Some.ensures.steps c.filling.invariant.begins in
    let after = c.place-at.ensures ∙ c.fill_hunk.ensures.after ∙ ap (λ (p : Placed (List BlockValue)). p.place + 4 * length (block_texts p.value)) (c.at-blocks.ensures n.here) in
    let room = hunk_room c.filling.invariant.left _ _ (n.first _ after) in
    let size = part_size c.filling.start c.bytes.result c.filling.memory (omega (arith, c.bytes.ensures, room)) in
    let blocks : c.at-blocks.result.value ≡ blocks_in (drop at bytes) = ap (λ (p : Placed (List BlockValue)). p.value) (c.at-blocks.ensures n.here) ∙ sym (hunk_value n.here) in
    record {
      stays = c.fill_hunk.ensures.stays ∙ c.filling.invariant.stays;
      begins = n.left c.place-at.result after;
      left =
          image_put c.filling.invariant.left _ _ (n.first _ after) c.bytes.result c.fill_hunk.new.memory c.bytes.ensures (omega (arith, c.fill_hunk.auto.memory, size))
          (memory ∙ ap₂ (memory_of bases) (size ∙ c.bytes.ensures) blocks);
    }

pub returns-clause-memory : goal.returns-clause-memory
returns-clause-memory g c =
    let bytes = c.self.inside.bytes.now in
    all_put c.filling.invariant.left (ap (λ (es : List TableEntry). hunks_in es (drop c.filling.at bytes)) c.in-None.ensures.steps.0 ∙ hunks_in-nil (drop c.filling.at bytes))
