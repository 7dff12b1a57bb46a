use Rattle.board_core.specs.Schedules.{after}
use Rattle.board_steps.specs.Runs.{IsDealSchedule}
use Rattle.board_steps.proofs.Running.{deal_runs}
use Rattle.board_steps.proofs.laws.deal_board_runs.Goals as goal

pub returns : goal.returns
returns g c =
    let ops = g.M.WordMonoid.ops c.args.monoid.now in
    let every = c.every_schedule.ensures in
    record {
      schedule = λ sums items seats s many run. deal_runs ops sums seats items many s run;
      sound = λ sums items seats s some many run.
          let so : IsDealSchedule ops sums seats s = deal_runs ops sums seats items many s run in
          (after ops sums seats so.events, every.sound sums seats so.events some, every.claims sums seats so.events some, so.is);
    }
