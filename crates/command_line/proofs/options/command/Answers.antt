use Rattle.std.proofs.Common.{◌∙◌, ap₂}
use Rattle.std.proofs.lemmas.Result.{IfOk-weaker}
use Rattle.clap.specs.Simple.{with_subcommand}
use Rattle.command_line.proofs.options.command.Goals as goal

pub returns : goal.returns
returns c =
    let one = c.in_ok-command-2.ensures ∙ ap₂ with_subcommand c.in_ok-command.ensures c.in_ok-build.ensures in
    let two = c.in_ok-command-3.ensures ∙ ap₂ with_subcommand one c.in_ok-run.ensures in
    let three = c.in_ok-command-4.ensures ∙ ap₂ with_subcommand two c.in_ok-batch.ensures in
    let four = c.in_ok-command-5.ensures ∙ ap₂ with_subcommand three c.in_ok-emu.ensures in
    let five = c.in_ok-command-6.ensures ∙ ap₂ with_subcommand four c.in_ok-dump.ensures in
    let six = c.in_ok-command-7.ensures ∙ ap₂ with_subcommand five c.in_ok-asm.ensures in
    let seven = c.in_ok-command-8.ensures ∙ ap₂ with_subcommand six c.in_ok-table.ensures in
    let eight = c.in_ok-command-9.ensures ∙ ap₂ with_subcommand seven c.in_ok-drill.ensures in
    let nine = c.in_ok-command-10.ensures ∙ ap₂ with_subcommand eight c.in_ok-explain.ensures in
    IfOk-weaker c.with_command-10.result _ _ (λ m h. h ∙ ap₂ with_subcommand nine c.in_ok-show.ensures) c.with_command-10.ensures
