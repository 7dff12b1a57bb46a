-- The lines of a run: each answer that prints leaves the numbers of the steps that are left.
use Rattle.std.proofs.Common.{rules, ◌≡◌, ◌++◌, ap, ◌∙◌}
use Rattle.pareas_core.specs.Output.{number_lines}
use Rattle.pareas_core.specs.Printing.{answer_lines}
use Rattle.pareas_core.proofs.Printing.{left_unwritten, last_is, line_written, last_on}
use Rattle.pareas_core.proofs.machine.run_printing.Goals as goal

-- src/run.rt:38:5
pub loop-outcome-init : goal.loop-outcome-init
loop-outcome-init c = record {
  lines = ap (λ ns. c.args.out.now.items ++ number_lines ns)
      (left_unwritten c.run-outcome.result c.args.steps c.args.machine.now c.run-outcome.new.self c.run-outcome.ensures.prints c.run-outcome.ensures.machine);
  last = last_is c.run-outcome.result c.args.steps c.args.machine.now c.run-outcome.new.self c.run-outcome.ensures.prints c.run-outcome.ensures.machine
      c.run-outcome.ensures.outcome;
}

-- src/run.rt:42:5
pub loop-outcome-preserved : goal.loop-outcome-preserved
loop-outcome-preserved c =
    let out = c.loop-outcome.out.items in
    let new = c.extend_from_slice.new.self.items in
    let more : new ≡ out ++ answer_lines c.loop-outcome.outcome = search rules in
    record {
      lines = ap (λ ns. new ++ number_lines ns)
          (left_unwritten c.run-outcome-in-Print.result c.in-Print.left c.loop-outcome.machine c.run-outcome-in-Print.new.self c.run-outcome-in-Print.ensures.prints c.run-outcome-in-Print.ensures.machine)
          ∙ line_written c.loop-outcome.outcome c.loop-outcome.machine out new _ _ _ c.in-Print.is more c.loop-outcome.invariant.lines;
      last = last_is c.run-outcome-in-Print.result c.in-Print.left c.loop-outcome.machine c.run-outcome-in-Print.new.self c.run-outcome-in-Print.ensures.prints c.run-outcome-in-Print.ensures.machine
          c.run-outcome-in-Print.ensures.outcome
          ∙ last_on c.loop-outcome.outcome c.loop-outcome.machine _ _ _ c.in-Print.is c.loop-outcome.invariant.last;
    }
