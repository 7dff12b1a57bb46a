use Rattle.std.proofs.Common.{◌+◌, ◌*◌}
use Rattle.claim_teams.proofs.team.+teams.Given as goal

abbrev pub decreases-both : goal.decreases-both
decreases-both g l = 4 * (l.here.workers + l.there.workers) + 2

abbrev pub decreases-both-one : goal.decreases-both-one
decreases-both-one g l = 4 * l.here.workers + 4

abbrev pub decreases-both-two : goal.decreases-both-two
decreases-both-two g l = 4 * l.there.workers + 4

abbrev pub decreases-team : goal.decreases-team
decreases-team g l = 4 * l.group.workers + 3
