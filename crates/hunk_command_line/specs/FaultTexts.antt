-- What the faults of command lines are shown as.
use Rattle.std.specs.Prelude.{ℕ, Bool, true, false, List, ◌++◌, Result, Ok, Err, String, codes}
use Rattle.std.specs.String.{string_bytes}
use Rattle.std.specs.declared.alloc.AllocError.{AllocError}
use Rattle.std.specs.declared.alloc.Global.{Global}
use Rattle.hunk_command_line.specs.declared.asked.OrderFault.{OrderFault}
use Rattle.hunk_command_line.specs.declared.asked.OrderFault.TheVariants.{Help, Line, Memory, NotText, Version}

-- what is printed where the words are none of the program's command lines
abbrev pub refused_line : List ℕ
refused_line = codes "command line refused"

-- the text of the help or the version that is asked for, or why there is no order
abbrev pub fault_text : OrderFault → List ℕ
fault_text (Line why) = refused_line
fault_text NotText = refused_line
fault_text (Help text) = string_bytes text
fault_text Version = codes "hunkinfo 0.3.0 (logic dac8208d650f15bf)\n"
fault_text Memory = codes "out of memory"

-- The fault that a text tells of, which there was memory for or not: a help that was asked for, or why there is no order.
abbrev pub told_fault : Result (String Global) AllocError → Bool → OrderFault
told_fault (Ok text) true = Help text
told_fault (Ok text) false = Line text
told_fault (Err error) is_help = Memory

-- why a word is none of those that are wanted in its place, as clap says it
abbrev pub unwanted_text : List ℕ → List ℕ → List ℕ → List ℕ
unwanted_text word place wanted =
    codes "error: invalid value '" ++ word ++ codes "' for '" ++ place ++ codes "': " ++ wanted ++ codes "\n\nFor more information, try '--help'.\n"
