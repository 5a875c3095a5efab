-- What a put does: the bytes that the sink has taken are known as a before it and b after it, and the number of bytes written is m and then n.
use Rattle.std.specs.Prelude.{◌≡◌, ℕ, ◌+◌, ◌≤◌, true, List, ◌++◌, Option, Result, IfErr, IsErr, OnErr, OnOk, is_err, length, take}
use Rattle.std.specs.Io.KnownBytes.{Appends}
use Rattle.hunk_words.specs.Carriers.{Outlet, Writing, saturated}
use Rattle.hunk_words.specs.declared.long_writer.WriteFault.{WriteFault}

-- as many of the first bytes have gone out as the number rose by
pub record Puts (a b : Option (List ℕ)) (m n : ℕ) (bytes : List ℕ) : Type 0 where
  pub count : ℕ
  pub fits : count ≤ length bytes
  pub rose : n ≡ m + count
  pub gone : Appends a b (take count bytes)

-- a first part of the bytes has gone out, and the rest is still to go
abbrev pub PutsBefore : Option (List ℕ) → Option (List ℕ) → ℕ → ℕ → List ℕ → List ℕ → Type 0
PutsBefore a b m n bytes rest = (front : List ℕ) × (bytes ≡ front ++ rest) × (n ≡ m + length front) × Appends a b front

-- This text was put on a writer: all of it, or where the sink failed as many of its first bytes as the fault says.
pub record PutsText {W T : Type 0} (outlet : W → Outlet) (old new : Writing W) (text : List ℕ)
    (result : Result T WriteFault) : Type 0 where
  pub puts : Puts (outlet old.sink).taken (outlet new.sink).taken old.written new.written text
  pub all : OnOk result (new.written ≡ old.written + length text)
  pub counted : IfErr result (λ fault. fault.written ≡ saturated new.written)
  pub broken : OnErr result ((outlet new.sink).failed ≡ true)
  pub stops : new.stopped ≡ is_err result
  pub no_failure : OnOk result ((outlet new.sink).failed ≡ (outlet old.sink).failed)
  -- one that had stopped before stays as it was
  pub stays : old.stopped ≡ true → IsErr result × (new ≡ old)
