use Rattle.std.proofs.Common.{◌≡◌, ◌∙◌, true, ap}
use Rattle.clap.specs.{Simple.app_of_fields, Words.App, declared.builder.Command.Command}
use Rattle.clap.specs.{declared.builder.Command.TheViews.out-Command, declared.builder.command.Command.TheOpen.Command-F}
use Rattle.clap_words.proofs.commands.top.Goals as goal

abbrev Fields : Type 0
Fields = Command-F Command

three_set : (new named helped required : Fields) → named ≡ record new { no_binary_name = true }
    → helped ≡ record named { disable_help_subcommand = true } → required ≡ record helped { subcommand_required = true }
    → required ≡ record new { no_binary_name = true; disable_help_subcommand = true; subcommand_required = true }
three_set new named helped required n h r =
    r ∙ ap (λ (f : Fields). record f { subcommand_required = true }) (h ∙ ap (λ (f : Fields). record f { disable_help_subcommand = true }) n)

pub returns : goal.returns
returns c =
    let fields = three_set (out-Command c.new.result) (out-Command c.no_binary_name.result) (out-Command c.disable_help_subcommand.result)
    (out-Command c.subcommand_required.result) c.no_binary_name.ensures c.disable_help_subcommand.ensures c.subcommand_required.ensures in
    record {
      app = ap app_of_fields fields ∙ ap (λ (a : App). record a {
        top = record a.top { no_binary_name = true; disable_help_subcommand = true; subcommand_required = true };
      }) c.new.ensures.app;
      globals = ap (λ (f : Fields). f.has_globals) fields ∙ c.new.ensures.local;
    }
