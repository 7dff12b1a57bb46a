use Rattle.std.proofs.Common.{◌≡◌, ◌<◌, length, arith}
use Rattle.std.specs.List.{range_with_len}
use Rattle.std.proofs.lemmas.List.FromFn.{length-range_with_len, get_or-range_with_len}
use Rattle.pass_tests.proofs.callers.doubled.Goals as goal

pub by_chunks-requires-clause-callable : goal.by_chunks-requires-clause-callable
by_chunks-requires-clause-callable g c κs within = λ k d near.
    let n = length c.args.xs.now in
    let all : length (range_with_len 0 n) ≡ n = length-range_with_len 0 n in
    let less : k < n = omega arith in
    omega (arith, get_or-range_with_len 0 n k d less)
