use Rattle.std.proofs.Common.{◌≡◌, ◌-◌, suc, arith}
use Rattle.tree_interpreter.proofs.Steps.{turn_goes}
use Rattle.tree_interpreter.proofs.interpreter.Walker.turn.Goals as goal

pub returns : goal.returns
returns c =
    let some : c.args.self.now.value ≡ suc (c.args.self.now.value - 1) = omega (arith, c.if-self-eq0.false) in
    let turns : c.args.looped.turns ≡ suc (c.args.looped.turns - 1) = omega (arith, c.if-looped-eq0.false) in
    turn_goes c.args.self.now _ _ c.args.looped _ _ _ some turns c.in_ok-push.ensures c.enter.ensures
