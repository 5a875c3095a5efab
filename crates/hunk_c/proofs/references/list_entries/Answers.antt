use Rattle.std.proofs.Common.{◌≡◌, ◌+◌, ◌-◌, ◌*◌, ℕ, List, ◌++◌, length, sym, ap, subst, ◌∙◌, arith}
use Rattle.hunk_blocks.specs.{Parts.ext_text, Values.ExtEntry, Views.entry_of}
use Rattle.hunk_files.proofs.{findings.FindingSteps.taken_on, findings.OffsetsWithin.{first_is, offsets_within}}
use Rattle.hunk_parts.specs.Listing.{item_rows}
use Rattle.hunk_c.specs.References.{entries_references, entry_references, long_text, reference_row}
use Rattle.hunk_c.specs.declared.references.ReferenceRow.{ReferenceRow}
use Rattle.hunk_c.proofs.references.list_entries.Goals as goal

pub list_references-requires : goal.list_references-requires
list_references-requires g c =
    let entry = entry_of c.in-Some.entry in
    let steps = c.in-Some.ensures.steps in
    omega (arith, c.place.ensures, steps.1, offsets_within entry (first_is _ _ entry steps.0 c.listing.invariant.0).0)

pub listing-preserved : goal.listing-preserved
listing-preserved g c =
    let entry = entry_of c.in-Some.entry in
    let old = c.listing.entries in
    let new = c.next.new.self in
    let steps = c.in-Some.ensures.steps in (
      (first_is _ _ entry steps.0 c.listing.invariant.0).1,
      λ n is.
          let so = c.listing.invariant.1 n is in
          let end = old.place + 4 * length (ext_text entry) in
          let here = λ (m w p : ℕ). item_rows (reference_row m w) long_text (p - 4 * length entry.offsets) entry.offsets in
          let rows : here c.listing.number c.reference_width-width.result c.place.result ≡ entry_references so.0 end entry =
          λ i. here (so.1 i) (c.reference_width-width.ensures.value i) ((c.place.ensures ∙ steps.1) i) in
          let first : entries_references so.0 old.place old.value ≡ entry_references so.0 end entry ++ entries_references (so.0 + 1) new.place new.value =
          ap (λ (es : List ExtEntry). entries_references so.0 old.place es) steps.0
          ∙ ap (λ (p : ℕ). entry_references so.0 end entry ++ entries_references (so.0 + 1) p new.value) (sym steps.1) in (
            so.0 + 1,
            omega (arith, c.saturating_add-number.ensures, so.1),
            omega (arith, so.2, ap (λ (es : List ExtEntry). length es) steps.0),
            taken_on g.T.Takes.takes g.met.T.Takes.more _ _ _ (entry_references so.0 end entry) (entries_references (so.0 + 1) new.place new.value)
                (entries_references so.0 old.place old.value) (entries_references n c.args.entries.place c.args.entries.value) first so.3
                (subst (λ (xs : List ReferenceRow). g.T.Takes.takes c.listing.taker xs c.list_references.new.taker) rows c.list_references.ensures),
          ),
    )
