use Rattle.std.proofs.Common.{◌≡◌, ◌<◌, length, arith}
use Rattle.std.proofs.lemmas.Bool.Decides.{nat_tests}
use Rattle.pointer_jumping.specs.Jumps.{is_open, jump_at}
use Rattle.pointer_jumping.proofs.Settling.{none_left, one_left}
use Rattle.pointer_jumping.proofs.rounds.any_open.Goals as goal

pub returns-clause-settled : goal.returns-clause-settled
returns-clause-settled g c = λ all.
    let empty = c.is_empty.ensures in
    let ok = c.in_ok-nodes.nodes.ok in
    let none : length c.in_ok-nodes.nodes.items ≡ 0 = grind (arith, nat_tests) in
    none_left (λ k. is_open (jump_at c.args.jumps.now k)) (length c.args.jumps.now) c.in_ok-nodes.nodes.items c.in_ok-nodes.ensures none

pub returns-clause-left : goal.returns-clause-left
returns-clause-left g c = λ some.
    let empty = c.is_empty.ensures in
    let ok = c.in_ok-nodes.nodes.ok in
    let many : 0 < length c.in_ok-nodes.nodes.items = grind (arith, nat_tests) in
    one_left (λ k. is_open (jump_at c.args.jumps.now k)) (length c.args.jumps.now) c.in_ok-nodes.nodes.items c.in_ok-nodes.ensures many
