use Rattle.board_core.specs.Schedules.{after}
use Rattle.board_steps.specs.Runs.{IsClaimSchedule}
use Rattle.board_steps.proofs.Running.{claim_runs}
use Rattle.board_steps.proofs.laws.claim_board_runs.Goals as goal

pub returns : goal.returns
returns g c =
    let ops = g.M.WordMonoid.ops c.args.monoid.now in
    let every = c.every_schedule.ensures in
    record {
      schedule = claim_runs ops;
      sound = λ sums seats s some run.
          let so : IsClaimSchedule ops sums seats s = claim_runs ops sums seats s run in
          (after ops sums seats so.events, every.sound sums seats so.events some, every.claims sums seats so.events some, so.is);
    }
