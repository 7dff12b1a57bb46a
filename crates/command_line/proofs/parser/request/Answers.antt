use Rattle.std.proofs.Common.{rules}
use Rattle.command_line.proofs.Numbers.{run_plan, show_plan, batch_plan, drill_numbers, explain_code}
use Rattle.command_line.proofs.parser.request.Goals as goal

pub plan-requires-in-run : goal.plan-requires-in-run
plan-requires-in-run c = run_plan _ c.args.name.now c.requires (search rules)

pub plan-requires-in-show : goal.plan-requires-in-show
plan-requires-in-show c = show_plan _ c.args.name.now c.requires (search rules)

pub plan-requires-in-batch : goal.plan-requires-in-batch
plan-requires-in-batch c = batch_plan _ c.args.name.now c.requires (search rules)

pub plan-requires-in-drill : goal.plan-requires-in-drill
plan-requires-in-drill c = (drill_numbers _ c.args.name.now c.requires (search rules)).1

pub number-requires-in-explain : goal.number-requires-in-explain
number-requires-in-explain c = explain_code _ c.args.name.now c.requires (search rules)
