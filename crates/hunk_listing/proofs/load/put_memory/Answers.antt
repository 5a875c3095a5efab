use Rattle.std.proofs.Common.{◌∙◌, ◌++◌, ℕ, List, ap, sym, append_assoc, codes, take}
use Rattle.hunk_listing.specs.FileLines.{memory_text}
use Rattle.hunk_listing.specs.Printed.{hexadecimal}
use Rattle.hunk_listing.proofs.load.put_memory.Goals as goal

pub returns-in-Attributes-clause-text : goal.returns-in-Attributes-clause-text
returns-in-Attributes-clause-text c =
    let number = hexadecimal c.in-Attributes.attributes in
    c.put_hexadecimal.ensures.text
    ∙ ap (λ (xs : List ℕ). xs ++ number) c.put-at.ensures.text
    ∙ append_assoc (take c.args.at c.args.room.now) (codes "attributes ") number
    ∙ ap (λ m. take c.args.at c.args.room.now ++ memory_text m) (sym c.in-Attributes.is)
