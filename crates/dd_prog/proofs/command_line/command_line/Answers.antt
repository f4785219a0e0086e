-- Each subcommand joins those before it.
use Rattle.std.proofs.Common.{◌≡◌, ◌∙◌, ap, ap₂, false}
use Rattle.std.proofs.lemmas.Result.{IfOk-weaker}
use Rattle.clap.specs.Words.{AddsSubcommand, App, Shape, app_of, shape_of, with_subcommand}
use Rattle.clap.specs.declared.builder.command.Command.{Command}
use Rattle.clap.specs.declared.builder.command.Command.TheViews.{out-Command}
use Rattle.dd_prog.proofs.command_line.command_line.Goals as goal

joined : (old sub new : Command) (a : App) (s : Shape) → AddsSubcommand old sub new → app_of old ≡ a
    → (shape_of sub ≡ s) × ((out-Command sub).has_globals ≡ false) → app_of new ≡ with_subcommand a s
joined old sub new a s adds before is = adds.shape is.1 ∙ ap₂ with_subcommand before is.0

pub returns : goal.returns
returns c =
    let to_replay = joined _ _ _ _ _ c.in_ok-subcommand.ensures c.bare.ensures
    (ap (λ (a : App). a.top) c.new.ensures.app, c.new.ensures.local) in
    let to_record = joined _ _ _ _ _ c.in_ok-subcommand-2.ensures to_replay c.in_ok-with_option.ensures in
    let to_view = joined _ _ _ _ _ c.in_ok-subcommand-3.ensures to_record c.in_ok-with_option-2.ensures in
    let to_gen = joined _ _ _ _ _ c.in_ok-subcommand-4.ensures to_view c.in_ok-with_option-3.ensures in
    IfOk-weaker c.subcommand-5.result _ _
    (λ r adds. joined _ _ r _ _ adds to_gen c.in_ok-with_option-4.ensures) c.subcommand-5.ensures
