-- What a file answers where it is to keep all that was written to it.
use Rattle.std.specs.Prelude.{Bool, false, true, Result, Ok, Err}
use Rattle.std.specs.IoError.{error_kind}
use Rattle.std.specs.declared.io.Error.{Error}
use Rattle.std.specs.declared.io.ErrorKind.{ErrorKind}
use Rattle.std.specs.declared.io.ErrorKind.TheVariants.{InvalidInput, Unsupported}

-- An error of this kind says that some of it is lost, and not that the file has no way to keep anything, as a pipe or a terminal.
abbrev pub is_loss : ErrorKind → Bool
is_loss InvalidInput = false
is_loss Unsupported = false
is_loss kind = true

-- The answer says so.
abbrev pub has_lost : Result (Unit {0}) Error → Bool
has_lost (Ok kept) = false
has_lost (Err error) = is_loss (error_kind error)
