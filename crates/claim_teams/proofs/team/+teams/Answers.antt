use Rattle.std.proofs.Common.{arith}
use Rattle.claim_teams.proofs.Working.{both_work}
use Rattle.claim_teams.proofs.team.+teams.Goals as goal

pub team-returns : goal.team-returns
team-returns g t c =
    both_work _ _ _ c.args.group.begun _ _ c.args.group.workers c.both-one.new.mine c.both-one.new.theirs c.join.new.seat c.both-one.result.0 c.both-one.result.1 _ (omega arith) c.both-one.ensures.mine c.both-one.ensures.theirs c.join.ensures
    c.appended.ensures
