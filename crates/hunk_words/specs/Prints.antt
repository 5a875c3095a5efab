-- What is printed: of a text a first part has gone out, and the rest is held.
use Rattle.std.specs.Prelude.{◌≡◌, ℕ, ◌≤◌, Bool, true, false, List, ◌++◌, length}
use Rattle.std.specs.Borrow.{GName, MutBor}
use Rattle.hunk_words.specs.Carriers.{Outlet, Writing}
use Rattle.hunk_words.specs.Puts.{Puts, PutsBefore}

-- the writer that is printed to, as it was when the printer was made
pub record Origin (W : Type 0) : Type 0 where
  pub name : GName
  pub writer : Writing W

-- a printer as its callers see it: its writer as it is now, the writer at first, and all that was printed
pub record Printing (W : Type 0) : Type 0 where
  pub out : MutBor (Writing W)
  pub origin : Origin W
  pub text : List ℕ

-- the bytes were printed
abbrev pub Prints : {W : Type 0} → Printing W → Printing W → List ℕ → Type 0
Prints old new bytes = (new.origin ≡ old.origin) × (new.text ≡ old.text ++ bytes)

-- By whether the writer has stopped: of the text a first part has gone out and the rest is held, with no push failed; or just its first bytes that were counted have gone out, and no more is held than was printed.
abbrev pub SendsBy : Bool → Outlet → Outlet → ℕ → ℕ → List ℕ → List ℕ → Type 0
SendsBy false had has m n text held = PutsBefore had.taken has.taken m n text held × (has.failed ≡ had.failed)
SendsBy true had has m n text held = (length held ≤ length text) × Puts had.taken has.taken m n text

-- What was printed on this writer since it was as at first. One that had stopped then is as it was.
pub record Sends {W : Type 0} (outlet : W → Outlet) (first out : Writing W) (text held : List ℕ) : Type 0 where
  pub sends : SendsBy out.stopped (outlet first.sink) (outlet out.sink) first.written out.written text held
  pub stays : first.stopped ≡ true → out ≡ first
