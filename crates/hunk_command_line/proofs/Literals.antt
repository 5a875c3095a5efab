-- Words that are words_read, and the orders that they are.
use Rattle.std.proofs.Common.{◌≡◌, List, Some, None, true, false, refl, codes, [], ◌∷◌}
use Rattle.clap.specs.Words.{Text, takes}
use Rattle.clap.specs.Faults.{fault_of}
use Rattle.clap.specs.declared.error.kind.ErrorKind.TheVariants as kind
use Rattle.clap.proofs.OnLiterals.{clap_on_literals}
use Rattle.hunk_command_line.specs.declared.asked.Order.TheVariants.{Relocate, Rewrite, Show}
use Rattle.hunk_command_line.specs.Command.{hunkinfo}
use Rattle.hunk_command_line.specs.Line.{order_of, words_read}

stored_taken : takes hunkinfo (words_read []) ≡ true
unfolding clap_on_literals
stored_taken = refl

stored_order : order_of [] ≡ Some (Relocate true false 0 16777216 None)
unfolding clap_on_literals
stored_order = refl

abbrev show_words : List Text
show_words = codes "hunkinfo" ∷ codes "show" ∷ codes "--hex" ∷ codes "a" ∷ []

show_taken : takes hunkinfo (words_read show_words) ≡ true
unfolding clap_on_literals
show_taken = refl

show_order : order_of show_words ≡ Some (Show true false (Some (codes "a")))
unfolding clap_on_literals
show_order = refl

-- the program's name may be any word
rewrite_order : order_of (codes "x" ∷ codes "rewrite" ∷ codes "a" ∷ codes "--strip" ∷ codes "b" ∷ codes "--wide" ∷ []) ≡ Some (Rewrite true true (codes "a") (codes "b"))
unfolding clap_on_literals
rewrite_order = refl

-- words that are words_read and no order
abbrev short_base : List Text
short_base = codes "hunkinfo" ∷ codes "relocate" ∷ codes "--base" ∷ codes "1000" ∷ []

short_base_taken : takes hunkinfo (words_read short_base) ≡ true
unfolding clap_on_literals
short_base_taken = refl

short_base_none : order_of short_base ≡ None
unfolding clap_on_literals
short_base_none = refl

-- a misspelt subcommand is not words_read, and fails by no help
abbrev bogus : List Text
bogus = codes "hunkinfo" ∷ codes "bogus" ∷ []

bogus_not_taken : takes hunkinfo (words_read bogus) ≡ false
unfolding clap_on_literals
bogus_not_taken = refl

bogus_fails : fault_of hunkinfo (words_read bogus) ≡ kind.UnknownArgument ∷ kind.InvalidSubcommand ∷ []
unfolding clap_on_literals
bogus_fails = refl

-- the version is asked for by a flag, before any command
version_asked : fault_of hunkinfo (words_read (codes "hunkinfo" ∷ codes "--version" ∷ [])) ≡ kind.DisplayVersion ∷ []
unfolding clap_on_literals
version_asked = refl

short_version_asked : fault_of hunkinfo (words_read (codes "hunkinfo" ∷ codes "-V" ∷ [])) ≡ kind.DisplayVersion ∷ []
unfolding clap_on_literals
short_version_asked = refl
