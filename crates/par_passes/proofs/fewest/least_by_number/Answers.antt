use Rattle.std.proofs.Common.{◌≡◌, ◌≤◌, List, ℕ, map, min, sym, ap, ◌∙◌, subst, arith}
use Rattle.std.specs.List.{range_with_len}
use Rattle.std.proofs.lemmas.List.FromFn.{length-map-range_with_len}
use Rattle.chunk_seats.specs.Chunks.{chunk_count}
use Rattle.chunk_seats.specs.Tallies.{times, OnceBelow}
use Rattle.chunk_seats.specs.Offers.{IsLeast}
use Rattle.par_passes.proofs.Lowest.{least_is}
use Rattle.par_passes.proofs.fewest.least_by_number.Goals as goal

pub returns : goal.returns
returns g c =
    let done = c.run-done.ensures in
    let made = c.in_ok-claims.ensures in
    let keys = map g.K.Lifted.code_of (range_with_len 0 c.args.len) in
    let size = c.plan-plan.result.chunk in
    let count : ℕ = c.count_chunks-count.result in
    let past : c.in_ok-claims.claims.chunks ≤ c.close.result.counter = c.close.ensures.spent done.spent in
    let whole : min c.close.result.counter c.in_ok-claims.claims.chunks ≡ count = omega (arith, past, made.0) in
    let once = subst (λ (n : ℕ). OnceBelow n (λ k. times k c.run-done.result.mine.view.claimed)) whole (c.close.ensures.claimed (done.weight ∙ sym made.1)) in
    least_is size keys c.plan-plan.result.chunk_in_range.0 count (c.count_chunks-count.ensures ∙ ap (chunk_count size) (sym (length-map-range_with_len g.K.Lifted.code_of 0 c.args.len))) c.run-done.result.mine.view.claimed once c.close-2.result (omega arith)
    (subst (λ (l : List ℕ). IsLeast l c.close-2.result) done.offers c.close-2.ensures)
