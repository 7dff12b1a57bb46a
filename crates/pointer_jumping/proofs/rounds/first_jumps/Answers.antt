use Rattle.std.proofs.Common.{◌≡◌, ℕ, ◌<◌, length, arith}
use Rattle.std.specs.List.{range_with_len}
use Rattle.std.proofs.lemmas.List.FromFn.{length-range_with_len, get_or-range_with_len}
use Rattle.par_passes.specs.Laws.Calling.{if_ok}
use Rattle.par_passes.specs.Laws.Giving.{gives_weaker}
use Rattle.pointer_jumping.specs.Jumps.{IsJump}
use Rattle.pointer_jumping.proofs.Jumping.{jumps_first}
use Rattle.pointer_jumping.proofs.rounds.first_jumps.Goals as goal

pub tabulate-requires-clause-callable : goal.tabulate-requires-clause-callable
tabulate-requires-clause-callable g c κs within = λ k d near.
    let n : ℕ = length c.args.parents.now in
    let all : length (range_with_len 0 n) ≡ n = length-range_with_len 0 n in
    let less : k < n = omega arith in
    (omega (arith, get_or-range_with_len 0 n k d less), (c.requires.marks, c.requires.upward))

pub returns : goal.returns
returns g c = if_ok c.tabulate.result c.tabulate.ensures.each (λ v each.
    jumps_first c.args.parents.now c.args.marks.now v.items
    (gives_weaker _ (IsJump c.args.parents.now c.args.marks.now 1) (range_with_len 0 (length c.args.parents.now)) v.items (λ i x gave. gave) each))
