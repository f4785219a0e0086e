-- The value of an option, by what the subcommand found.
use Rattle.std.proofs.Common.{rules}
use Rattle.clap.specs.Words.{found_of}
use Rattle.clap.proofs.WalkLemmas.{first_value-rows}
use Rattle.dd_prog.proofs.command_line.number_taken.Goals as goal

pub returns-in_err-get_str : goal.returns-in_err-get_str
returns-in_err-get_str c = rw (← first_value-rows (found_of c.args.given.now) c.args.option.now) (search rules)

pub returns : goal.returns
returns c = rw (← first_value-rows (found_of c.args.given.now) c.args.option.now) (search rules)
