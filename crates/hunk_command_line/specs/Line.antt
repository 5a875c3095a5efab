-- The order that the words of a command line are.
use Rattle.std.specs.Prelude.{◌==◌, ◌&&◌, ◌^◌, ℕ, Bool, false, List, [], ◌∷◌, Option, Some, None, codes, length, nat_lt, if◌then◌else◌, option_map, option_and_then}
use Rattle.std.specs.Option.{option_map_or}
use Rattle.std.specs.Str.{bytes_eq}
use Rattle.std.specs.Str.Parse.{digits_value}
use Rattle.std.specs.Char.{digit_value}
use Rattle.std.specs.List.{list_all}
use Rattle.clap.specs.Words.{Row, Text, first_of, subcommand_of}
use Rattle.hunk_command_line.specs.Command.{hunkinfo}
use Rattle.hunk_command_line.specs.declared.asked.Order.{Order}
use Rattle.hunk_command_line.specs.declared.asked.Order.TheVariants.{Show, Validate, Relocate, Rewrite}

-- the words that stand for none
abbrev pub stored : List Text
stored = codes "hunkinfo" ∷ codes "relocate" ∷ codes "--hex" ∷ codes "--base" ∷ codes "00000000" ∷ []

-- the words that are read: the stored ones where at most the program's name is there
abbrev pub words_read : List Text → List Text
words_read words = if nat_lt (length words) 2 then stored else words

-- the flag is there
abbrev pub is_set : Text → List Row → Bool
is_set id rows = option_map_or (λ text. bytes_eq text (codes "true")) (first_of id rows) false

-- each is a digit in the radix
abbrev pub are_digits : ℕ → Text → Bool
are_digits radix text = list_all (λ c. nat_lt (digit_value c) radix) text

-- the number that HEX spells: eight hexadecimal digits
abbrev pub base_spelled : Text → Option ℕ
base_spelled text = if length text == 8 && are_digits 16 text then Some (digits_value 16 text) else None

-- the number that N spells: one or more decimal digits, of a number below 2^64
abbrev pub budget_spelled : Text → Option ℕ
budget_spelled text = if nat_lt 0 (length text) && are_digits 10 text && nat_lt (digits_value 10 text) (2 ^ 64)
    then Some (digits_value 10 text) else None

-- the budget: 16 MiB where N is not there
abbrev pub budget_given : Option Text → Option ℕ
budget_given None = Some 16777216
budget_given (Some text) = budget_spelled text

-- the orders of the four subcommands, by what was found for their arguments
abbrev pub show_order : List Row → Option Order
show_order found = Some (Show (is_set (codes "hex") found) (is_set (codes "wide") found) (first_of (codes "FILE") found))

abbrev pub validate_order : List Row → Option Order
validate_order found = Some (Validate (is_set (codes "hex") found) (is_set (codes "wide") found) (first_of (codes "FILE") found))

abbrev pub relocate_order : List Row → Option Order
relocate_order found =
    option_and_then (λ base. option_map (λ budget. Relocate (is_set (codes "hex") found) (is_set (codes "wide") found) base budget (first_of (codes "FILE") found))
    (budget_given (first_of (codes "budget") found)))
    (option_and_then base_spelled (first_of (codes "base") found))

abbrev pub rewrite_order : List Row → Option Order
rewrite_order found =
    option_and_then (λ input. option_map (λ output. Rewrite (is_set (codes "strip") found) (is_set (codes "wide") found) input output)
    (first_of (codes "OUT") found)) (first_of (codes "IN") found)

abbrev pub named_order : Text → List Row → Option Order
named_order name found =
    if bytes_eq name (codes "show") then show_order found
    else if bytes_eq name (codes "validate") then validate_order found
    else if bytes_eq name (codes "relocate") then relocate_order found
    else if bytes_eq name (codes "rewrite") then rewrite_order found
    else None

-- the order of the subcommand that was found
abbrev pub entered_order : Option (Text × List Row) → Option Order
entered_order entered = option_and_then (λ p. named_order p.0 p.1) entered

-- the order that these words are, where they are one
abbrev pub order_of : List Text → Option Order
order_of words = entered_order (subcommand_of hunkinfo (words_read words))
