use Rattle.std.proofs.Common.{◌<◌, [], sym, subst}
use Rattle.std.specs.Prelude.{IfSome}
use Rattle.claim_teams.specs.Teams.{AreMade, as_list}
use Rattle.claim_teams.proofs.Working.{nothing_made}
use Rattle.claim_teams.proofs.team.begin.Given as given
use Rattle.claim_teams.proofs.team.begin.Goals as goal

pub returns : goal.returns
returns g c =
    let chunks = c.args.job.now.claims.now.chunks in
    let inside : c.in-Some.c < chunks = subst (λ b. IfSome b (λ n. n < chunks)) c.in-Some.is c.requires.inside in
    subst (λ b. AreMade chunks (given.F-post g c.args.job.now.make.now) (as_list b) c.one_more.result) (sym c.in-Some.is)
    (c.one_more.ensures chunks [] inside (nothing_made chunks (given.F-post g c.args.job.now.make.now) c.new.result.items c.new.ensures.items))
