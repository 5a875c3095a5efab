use Rattle.std.proofs.Common.{rules, ◌++◌, ◌∙◌, ℕ, List, take, ap, sym, subst}
use Rattle.hunk_scatter.specs.{LoadOutcomes.GoesPastNoFile, LoaderValues.{BodyLoaderValue, IsHunkRefusal, IsWholeFile}, Streaming.{StopsForBody, StopsInHunk}}
use Rattle.hunk_scatter.proofs.{BodyFields.{fed_within, whole_file, written}, StreamLaws.within_store}
use Rattle.hunk_scatter.proofs.body_loader.BodyLoader.take.Goals as goal

pub feed_all-requires : goal.feed_all-requires
feed_all-requires c = rw (c.as_slice-rows.ensures.value, c.as_mut_slice-store.ensures.value) (within_store _ _ _ _ (c.self.invariant.reading (ap (λ (l : BodyLoaderValue). l.refused) c.self.view_is ∙ c.requires)))

pub invariant_of-self : goal.invariant_of-self
invariant_of-self c =
    let none = ap (λ (l : BodyLoaderValue). l.refused) c.self.view_is ∙ c.requires in
    let takes = rw (c.as_slice-rows.ensures.value, c.as_mut_slice-store.ensures.value) at c.in-Ok.ensures.takes in
    let k = takes c.self.inside.history.bytes (c.self.invariant.reading none) in
    rw (written c.self.inside.store.items c.feed_all.new.store c.self.inside.store.len (search rules) (search rules), c.and-self-inside.ensures)
    (record { counted = k.counted; hunks = k.hunks; size = k.size; reading = λ e. k; own_reasons = c.self.invariant.own_reasons })

pub returns-in-Ok : goal.returns-in-Ok
returns-in-Ok c =
    let none = ap (λ (l : BodyLoaderValue). l.refused) c.self.view_is ∙ c.requires in
    let takes = rw (c.as_slice-rows.ensures.value, c.as_mut_slice-store.ensures.value) at c.in-Ok.ensures.takes in
    let k = takes c.self.inside.history.bytes (c.self.invariant.reading none) in
    record {
      rows = ap (λ (l : BodyLoaderValue). l.rows) c.self.view_is;
      feeds = rw (none) (record {
        taken = (c.in-Ok.ensures.inside, c.and-self-inside.ensures ∙ ap (λ (l : BodyLoaderValue). l.fed ++ take c.in-Ok.taken c.args.piece.now) c.self.view_is);
        all = λ less. subst (λ (bs : List ℕ). IsWholeFile c.self.inside.rows.items bs) (sym c.and-self-inside.ensures) (whole_file _ _ _ _ k (c.in-Ok.ensures.all less));
        inside_file = subst GoesPastNoFile (sym c.and-self-inside.ensures) (fed_within _ _ _ _ k);
      });
    }

pub returns-in-Err-Refused : goal.returns-in-Err-Refused
returns-in-Err-Refused c =
    let none = ap (λ (l : BodyLoaderValue). l.refused) c.self.view_is ∙ c.requires in
    let hunk = c.feed_all.new.at.state.hunk in
    let takes = rw (c.as_slice-rows.ensures.value, c.as_mut_slice-store.ensures.value) at c.in-Err-Refused.ensures.takes in
    let k = takes c.self.inside.history.bytes (c.self.invariant.reading none) in
    let refusal = subst (StopsInHunk (c.self.inside.history.bytes ++ c.args.piece.now) hunk) c.in-Err-Refused.field-0-is k in
    record {
      rows = ap (λ (l : BodyLoaderValue). l.rows) c.self.view_is;
      feeds = (
        subst (λ (l : BodyLoaderValue). IsHunkRefusal (l.fed ++ c.args.piece.now) hunk c.in-Err-Refused.fault) c.self.view_is refusal,
        subst StopsForBody c.in-Err-Refused.field-0-is c.in-Err-Refused.ensures.own_reasons,
        search rules,
      );
    }
