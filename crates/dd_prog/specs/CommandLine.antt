-- The program's command line as `clap` has it, and the command that it takes from words.
use Rattle.std.specs.Prelude.{ℕ, true, codes, List, Option, Some, None, option_map, option_and_then, if◌then◌else◌}
use Rattle.std.specs.Str.{bytes_eq}
use Rattle.clap.specs.Words.{App, Row, Shape, first_of, new_app, new_rule, subcommand_of, with_rule, with_subcommand}
use Rattle.dd_prog.specs.declared.command.Command.{Command}
use Rattle.dd_prog.specs.declared.command.Command.TheVariants.{Replay, Record, View, Gen, Sum}
use Rattle.dd_prog.specs.Options.{u32_max, numeral, within}

-- a subcommand with an option that has to be given
abbrev pub with_option : List ℕ → List ℕ → Shape
with_option name option =
    (with_rule (new_app name) (record (new_rule option) { long = Some option; required = true })).top

-- the words come after the program's name, nothing is added for help, and a subcommand has to be given
abbrev pub bare : App → App
bare a = record a {
  top = record a.top {
    no_binary_name = true;
    disable_help_flag = true;
    disable_help_subcommand = true;
    subcommand_required = true;
  };
}

-- one command, with a subcommand for each command of the program
abbrev pub command_line : App
command_line =
    with_subcommand (with_subcommand (with_subcommand (with_subcommand (with_subcommand (bare (new_app (codes "ddup")))
    (new_app (codes "replay")).top)
    (with_option (codes "record") (codes "client")))
    (with_option (codes "view") (codes "frame")))
    (with_option (codes "gen") (codes "seed")))
    (with_option (codes "sum") (codes "seed"))

-- the number that an option was given, in what a subcommand found
abbrev pub number_taken : List ℕ → List Row → Option ℕ
number_taken option rows = within 0 u32_max (option_and_then numeral (first_of option rows))

-- the command that a subcommand is, with what it found
abbrev pub command_taken : List ℕ → List Row → Option Command
command_taken name rows =
    if bytes_eq name (codes "replay") then Some Replay
    else if bytes_eq name (codes "record") then option_map (λ n. Record n) (number_taken (codes "client") rows)
    else if bytes_eq name (codes "view") then option_map (λ n. View n) (number_taken (codes "frame") rows)
    else if bytes_eq name (codes "gen") then option_map (λ n. Gen n) (number_taken (codes "seed") rows)
    else if bytes_eq name (codes "sum") then option_map (λ n. Sum n) (number_taken (codes "seed") rows)
    else None

-- the command of a subcommand that was found, if any was
abbrev pub command_by : Option (List ℕ × List Row) → Option Command
command_by = option_and_then (λ p. command_taken p.0 p.1)

-- the command that is taken from the words
abbrev pub command_from : List (List ℕ) → Option Command
command_from ws = command_by (subcommand_of command_line ws)
