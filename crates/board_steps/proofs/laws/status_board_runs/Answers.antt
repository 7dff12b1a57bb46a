use Rattle.board_core.specs.Schedules.{after}
use Rattle.board_steps.specs.Runs.{IsStatusSchedule}
use Rattle.board_steps.proofs.Running.{status_runs}
use Rattle.board_steps.proofs.laws.status_board_runs.Goals as goal

pub returns : goal.returns
returns g c =
    let ops = g.M.WordMonoid.ops c.args.monoid.now in
    let every = c.every_schedule.ensures in
    record {
      schedule = status_runs ops;
      sound = λ sums seats s some run.
          let so : IsStatusSchedule ops sums seats s = status_runs ops sums seats s run in
          (after ops sums seats so.events, every.sound sums seats so.events some, so.is);
    }
