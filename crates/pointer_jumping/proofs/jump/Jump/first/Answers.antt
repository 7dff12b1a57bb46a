use Rattle.std.proofs.Common.{arith}
use Rattle.pointer_jumping.specs.Climbs.{root, found}
use Rattle.pointer_jumping.specs.Jumps.{here, up}
use Rattle.pointer_jumping.proofs.jump.Jump.first.Goals as goal

pub returns-in-None : goal.returns-in-None
returns-in-None c = (0, omega arith, root c.in-None.is)

pub returns-then-marks-parent : goal.returns-then-marks-parent
returns-then-marks-parent c = (1, omega arith, found c.in-Some.is c.if-marks-parent.true)

pub returns-else-marks-parent : goal.returns-else-marks-parent
returns-else-marks-parent c = up c.in-Some.is c.if-marks-parent.false here
