use Rattle.std.proofs.Common.{◌∙◌, ap, ap₂}
use Rattle.std.proofs.lemmas.Bool.{and_parts}
use Rattle.std.proofs.lemmas.Result.{IfOk-weaker}
use Rattle.clap.specs.Simple.{with_subcommand}
use Rattle.clap.specs.Words.{app_of, shape_of}
use Rattle.clap.specs.declared.builder.command.Command.{Command}
use Rattle.command_line.proofs.Plain.{is_not}
use Rattle.command_line.proofs.options.with_command.Goals as goal

pub returns : goal.returns
returns c =
    let is_plain = ap (λ (x : Command). (shape_of x).is_plain) c.into_inner-2.ensures ∙ c.requires in
    let local = is_not _ (and_parts _ _ (and_parts _ _ (and_parts _ _ is_plain).1).1).0 in
    let parts = ap₂ (λ (x y : Command). with_subcommand (app_of x) (shape_of y)) c.into_inner.ensures c.into_inner-2.ensures in
    IfOk-weaker c.boxed.result _ _ (λ b h. ap app_of h ∙ c.in_ok-subcommand.ensures.shape local ∙ parts) c.boxed.ensures
