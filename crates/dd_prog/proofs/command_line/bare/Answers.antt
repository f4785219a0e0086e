-- Each setting changes its field alone.
use Rattle.std.proofs.Common.{◌∙◌, ap, true}
use Rattle.clap.specs.Simple.{app_of_fields}
use Rattle.clap.specs.declared.builder.command.Command.{Command}
use Rattle.clap.specs.declared.builder.command.Command.TheOpen.{Command-F}
use Rattle.dd_prog.specs.CommandLine.{bare}
use Rattle.dd_prog.proofs.command_line.bare.Goals as goal

pub returns : goal.returns
returns c =
    ap app_of_fields
    (c.subcommand_required.ensures
    ∙ ap (λ (f : Command-F Command). record f { subcommand_required = true })
    (c.disable_help_subcommand.ensures
    ∙ ap (λ (f : Command-F Command). record f { disable_help_subcommand = true })
    (c.disable_help_flag.ensures
    ∙ ap (λ (f : Command-F Command). record f { disable_help_flag = true }) c.no_binary_name.ensures)))
    ∙ ap bare c.new.ensures.app
