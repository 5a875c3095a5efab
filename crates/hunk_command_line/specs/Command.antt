-- The command that clap reads the words by.
use Rattle.std.specs.Prelude.{◌≡◌, false, true, [], Some, codes}
use Rattle.clap.specs.Words.{App, Rule, Text, app_of, new_app, new_rule, rule_of, with_rule, with_subcommand}
use Rattle.clap.specs.Simple.{new_shape}
use Rattle.clap.specs.declared.builder.arg.Arg.{Arg}
use Rattle.clap.specs.declared.builder.command.Command.{Command}
use Rattle.clap.specs.declared.builder.command.Command.TheViews.{out-Command as fields_of}
use Rattle.clap.specs.declared.builder.ArgAction.TheVariants.{SetTrue}

-- `--name`
abbrev pub flag : Text → Rule
flag name = record (new_rule name) { long = Some name; action = Some SetTrue }

-- `--name VALUE`
abbrev pub option : Text → Rule
option name = record (new_rule name) { long = Some name; value_names = 1 }

-- the argument, which has to be there
abbrev pub mandatory : Rule → Rule
mandatory rule = record rule { required = true }

-- NAME [--hex] [--wide]
abbrev pub reading_command : Text → App
reading_command name = with_rule (with_rule (new_app name) (flag (codes "hex"))) (flag (codes "wide"))

-- show [--hex] [--wide] [FILE], and validate
abbrev pub plain_command : Text → App
plain_command name = with_rule (reading_command name) (new_rule (codes "FILE"))

-- relocate [--hex] [--wide] --base HEX [--budget N] [FILE]
abbrev pub relocate_command : App
relocate_command = with_rule (with_rule (with_rule (reading_command (codes "relocate"))
    (mandatory (option (codes "base")))) (option (codes "budget"))) (new_rule (codes "FILE"))

-- rewrite [--strip] [--wide]
abbrev pub writing_command : App
writing_command = with_rule (with_rule (new_app (codes "rewrite")) (flag (codes "strip"))) (flag (codes "wide"))

-- rewrite [--strip] [--wide] IN OUT
abbrev pub rewrite_command : App
rewrite_command = with_rule (with_rule writing_command (mandatory (new_rule (codes "IN")))) (mandatory (new_rule (codes "OUT")))

-- the program, which has a version, and of which one subcommand has to be named
abbrev pub program : App
program = record { top = record (new_shape (codes "hunkinfo")) { has_version = true; subcommand_required = true }; subs = [] }

-- the program with its subcommands
abbrev pub hunkinfo : App
hunkinfo = with_subcommand (with_subcommand (with_subcommand (with_subcommand program
    (plain_command (codes "show")).top) (plain_command (codes "validate")).top)
    relocate_command.top) rewrite_command.top

-- ---- what is built of them

-- an argument with this rule, of its own command alone
pub record IsArgument (rule : Rule) (arg : Arg) : Type 0 where
  pub is : rule_of arg ≡ rule
  pub not_global : arg.global ≡ false

-- a command of this form, which shares no argument with others
pub record IsCommand (app : App) (command : Command) : Type 0 where
  pub is : app_of command ≡ app
  pub not_global : (fields_of command).has_globals ≡ false
