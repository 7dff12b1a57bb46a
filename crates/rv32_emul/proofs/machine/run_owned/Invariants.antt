use Rattle.std.proofs.Common.{◌≡◌, ◌≤◌, ◌-◌, ◌%◌}
use Rattle.rv_isa.specs.Effect.{state}
use Rattle.rv32_emul.specs.Fixed.{fixed}
use Rattle.rv32_emul.specs.Quiet.{IsQuiet}
use Rattle.rv32_emul.proofs.machine.run_owned.Given as goal

abbrev pub invariant-loop-left : goal.invariant-loop-left
invariant-loop-left l = record {
  aligned : l.hart.pc % 4 ≡ 0;
  fits : l.left ≤ l.steps;
  so_far : IsQuiet (l.steps - l.left) (state l.fn.start l.fn.memory) (state l.hart l.memory);
  stays : fixed l.memory ≡ fixed l.fn.memory;
}

abbrev pub decreases-loop-left : goal.decreases-loop-left
decreases-loop-left l = l.left
