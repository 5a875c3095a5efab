-- What is left of a reader that was read ahead of.
use Rattle.std.proofs.Common.{◌≡◌, ℕ, Bool, true, false, ◌==◌, if◌then◌else◌, List, ◌++◌, Option, None, Some, take, drop, sym, ap, ◌∙◌, append_assoc}
use Rattle.std.proofs.lemmas.List.{take-append-drop}
use Rattle.std.specs.Io.KnownBytes.{Consumes, prepend_known}
use Rattle.std.specs.Io.Buffered.{reader_buffer, reader_capacity, reader_inner, reader_remaining}
use Rattle.std.specs.declared.io.buffered.BufReader.{BufReader}

-- The first bytes of the buffer are the first that are left.
front_of : (without : Bool) (known : Option (List ℕ)) (buffer : List ℕ) (count : ℕ) →
    Consumes (if without then None else prepend_known buffer known) (if without then None else prepend_known (drop count buffer) known) (take count buffer)
front_of true known buffer count = tt
front_of false None buffer count = tt
front_of false (Some xs) buffer count =
    ap (λ (bs : List ℕ). bs ++ xs) (sym (take-append-drop count buffer)) ∙ append_assoc (take count buffer) (drop count buffer) xs

pub consumed : {R A : Type 0} (remaining : R → Option (List ℕ)) (old new : BufReader R A) (count : ℕ) →
    reader_capacity new ≡ reader_capacity old → reader_inner new ≡ reader_inner old → reader_buffer new ≡ drop count (reader_buffer old) →
    Consumes (reader_remaining remaining old) (reader_remaining remaining new) (take count (reader_buffer old))
consumed remaining old new count capacity inner buffer =
    rw (capacity, inner, buffer) (front_of (reader_capacity old == 0) (remaining (reader_inner old)) (reader_buffer old) count)
