use Rattle.std.proofs.Common.{◌≡◌, ◌∙◌, sym, arith}
use Rattle.scatter_rows.proofs.Covering.{all_put}
use Rattle.scatter_rows.proofs.team.put_all.Goals as goal

pub returns-clause-put : goal.returns-clause-put
returns-clause-put g c =
    let team = c.in_ok-seat.field-0 in
    let weight = c.in_ok-seat.ensures.0 in
    let done = c.in_ok-seat.ensures.1 in
    let made = c.in_ok-claims.ensures in
    let weighs : team.mine.view.weight ≡ c.in_ok-claims.claims.seats = weight ∙ sym made.1 in
    λ n i near h.
    all_put (g.S.Chunks.has c.args.chunks.now) c.in_ok-claims.claims.chunks c.close.result.counter team.mine.view.claimed team.seat.view.put done.covers (c.close.ensures.spent done.spent) (c.close.ensures.claimed weighs) n i
    (omega (arith, near, made.0)) h
