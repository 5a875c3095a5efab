-- Sources, sinks and a writer of longwords, as their callers see them.
use Rattle.std.specs.Prelude.{ℕ, ◌-◌, ◌^◌, min, Bool, List, [], Option}
use Rattle.std.specs.Io.Buffered.{reader_buffer, reader_inner, reader_remaining}
use Rattle.std.specs.declared.io.Error.{Error}
use Rattle.hunk_words.specs.declared.source.Reader.{Reader}
use Rattle.hunk_words.specs.declared.source.Reader.TheVariants.{Plain, Buffered}

-- what is known of a source: the bytes that pulls will still give, where that is told, and whether one has failed
pub record Supply : Type 0 where
  pub left : Option (List ℕ)
  pub failed : Bool

-- what is known of a sink: the bytes that it has, also those from before any push, where that is told, and whether a push has failed
pub record Outlet : Type 0 where
  pub taken : Option (List ℕ)
  pub failed : Bool

-- a reader, and the last error of it
pub record Reading (R : Type 0) : Type 0 where
  pub reader : Reader R
  pub error : Option Error

-- the bytes that a reader will still give, where that is told
abbrev pub left_of : {R : Type 0} → (R → Option (List ℕ)) → Reader R → Option (List ℕ)
left_of remaining (Plain reader) = remaining reader
left_of remaining (Buffered reader) = reader_remaining remaining reader

-- the bytes that were read ahead
abbrev pub shown_of : {R : Type 0} → Reader R → List ℕ
shown_of (Plain reader) = []
shown_of (Buffered reader) = reader_buffer reader

-- the reader alone
abbrev pub reader_in : {R : Type 0} → Reader R → R
reader_in (Plain reader) = reader
reader_in (Buffered reader) = reader_inner reader

-- a writer, and the last error of it
pub record Carrying (W : Type 0) : Type 0 where
  pub writer : W
  pub error : Option Error

-- a number of bytes as a writer tells it: 2^64 - 1 where there are more, as no run can put
abbrev pub saturated : ℕ → ℕ
saturated count = min count (2 ^ 64 - 1)

-- the sink, how many bytes have gone out, and whether a put has failed
pub record Writing (W : Type 0) : Type 0 where
  pub sink : W
  pub written : ℕ
  pub stopped : Bool
