use Rattle.std.proofs.Common.{◌≡◌, ◌<◌, ℕ, length, arith}
use Rattle.std.specs.List.{range_with_len}
use Rattle.std.proofs.lemmas.List.FromFn.{length-range_with_len, get_or-range_with_len}
use Rattle.pass_tests.proofs.callers.rises.Goals as goal

pub tabulate-requires-clause-callable : goal.tabulate-requires-clause-callable
tabulate-requires-clause-callable g c κs within = λ k d near.
    let n : ℕ = c.saturating_sub-count.result in
    let all : length (range_with_len 0 n) ≡ n = length-range_with_len 0 n in
    let less : k < n = omega arith in
    omega (arith, get_or-range_with_len 0 n k d less)
