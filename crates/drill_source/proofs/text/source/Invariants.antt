use Rattle.std.proofs.Common.{◌≡◌, ◌++◌, ◌-◌}
use Rattle.drill_source.specs.Drill.{drill_text, function_lines}
use Rattle.drill_source.proofs.text.source.Given as goal

abbrev pub invariant-loop-number : goal.invariant-loop-number
invariant-loop-number l = drill_text l.seed l.functions ≡ l.text.items ++ function_lines (l.functions - l.number) l.number l.generator.state
