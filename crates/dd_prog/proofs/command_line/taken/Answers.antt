-- Words that are a command are taken.
use Rattle.std.proofs.Common.{rules, ◌≡◌, ◌∙◌, ap, map, string_bytes}
use Rattle.clap.specs.Words.{app_of, is_simple, takes, subcommand_of}
use Rattle.dd_prog.specs.CommandLine.{command_line, command_by}
use Rattle.dd_prog.proofs.Taken.{all_taken, line_is_simple}
use Rattle.dd_prog.proofs.command_line.taken.Goals as goal

pub returns-in_err-matches-clause-wants : goal.returns-in_err-matches-clause-wants
returns-in_err-matches-clause-wants c some =
    let words = map string_bytes c.args.words.now in
    let is_line : app_of c.in_ok-command_line.field-0 ≡ command_line = c.in_ok-command_line.ensures in
    let wants = c.in_err-matches.ensures.passes (ap (λ a. takes a words) is_line ∙ (all_taken words some).0) in
    search (rules, wants)

pub returns-clause-value : goal.returns-clause-value
returns-clause-value c some =
    let words = map string_bytes c.args.words.now in
    let is_line : app_of c.in_ok-command_line.field-0 ≡ command_line = c.in_ok-command_line.ensures in
    let has = c.in_ok-matches.ensures.matches (ap is_simple is_line ∙ line_is_simple) in
    c.command_in.ensures
    ∙ ap command_by (has.1 ∙ ap (λ a. subcommand_of a words) is_line)
    ∙ (all_taken words some).1
