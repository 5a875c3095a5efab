-- What is written of a file that was decoded.
use Rattle.std.proofs.Common.{◌≡◌, ◌≤◌, ◌+◌, ◌-◌, ◌∙◌, ℕ, Bool, true, false, List, length, inl, inr, ap, arith, subst, length-append}
use Rattle.hunk_words.specs.Longs.{bytes_of}
use Rattle.hunk_files.specs.{LoadFile.LoadFileValue, LoadText.text, ObjectFile.{ObjectFileValue, object_text}}
use Rattle.hunk_files.specs.{Strip.{strip_file, strip_object}, declared.hunk_file.HunkFile.HunkFile, HunkFile.{IsFileOf, bytes_after, file_bytes}}
use Rattle.hunk_files.specs.declared.hunk_file.HunkFile.TheVariants as files
use Rattle.hunk_commands.specs.{declared.rewriting.Rewritten.Rewritten, Rewritten.{IsRewritten, TellsSizes, stripped_where}}

-- what follows a file is a part of the bytes
after_fits : (bytes : List ℕ) (file : HunkFile) → IsFileOf bytes file → bytes_after file ≤ length bytes
after_fits bytes (files.Load value rest) is =
    let all = ap length is.0.split ∙ length-append (bytes_of (text is.0.value)) is.0.rest in omega (arith, all, is.2)
after_fits bytes (files.Object value) is = omega arith

pub tells_sizes : (done : Rewritten) (bytes : List ℕ) (file : HunkFile) → IsFileOf bytes file → done.rest ≡ bytes_after file → done.read ≡ length bytes - done.rest →
    TellsSizes done (bytes_after file) bytes
tells_sizes done bytes file is after read =
    (after, (let all : done.read + bytes_after file ≡ length bytes = omega (arith, after_fits bytes file is, after, read) in all))

pub rewritten : (strip : Bool) (done : Rewritten) (bytes : List ℕ) (file : HunkFile) → IsFileOf bytes file → TellsSizes done (bytes_after file) bytes →
    IsRewritten strip done bytes (file_bytes (stripped_where strip file))
rewritten true done bytes (files.Load value rest) is tells =
    inl (is.0, subst (λ (n : ℕ). TellsSizes done n bytes) is.2 tells, ap (λ (v : LoadFileValue). bytes_of (text (strip_file v))) is.1)
rewritten false done bytes (files.Load value rest) is tells =
    inl (is.0, subst (λ (n : ℕ). TellsSizes done n bytes) is.2 tells, ap (λ (v : LoadFileValue). bytes_of (text v)) is.1)
rewritten true done bytes (files.Object value) is tells = inr (is.0, tells, ap (λ (o : ObjectFileValue). bytes_of (object_text (strip_object o))) is.1)
rewritten false done bytes (files.Object value) is tells = inr (is.0, tells, ap (λ (o : ObjectFileValue). bytes_of (object_text o)) is.1)
