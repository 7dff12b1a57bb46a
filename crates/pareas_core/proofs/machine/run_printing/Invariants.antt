use Rattle.std.proofs.Common.{◌≡◌, ◌++◌}
use Rattle.rv32_emul.specs.Machine.{run, numbers, outcome_of}
use Rattle.pareas_core.specs.Output.{number_lines}
use Rattle.pareas_core.specs.Printing.{unwritten, last_outcome, steps_behind}
use Rattle.pareas_core.proofs.machine.run_printing.Given as goal

abbrev pub invariant-loop-outcome : goal.invariant-loop-outcome
invariant-loop-outcome l = record {
  lines : l.out.items ++ number_lines (unwritten l.outcome l.machine) ≡ l.fn.out.items ++ number_lines (numbers l.steps l.fn.machine);
  last : last_outcome l.outcome l.machine ≡ outcome_of (run l.steps l.fn.machine);
}

abbrev pub decreases-loop-outcome : goal.decreases-loop-outcome
decreases-loop-outcome l = steps_behind l.outcome
