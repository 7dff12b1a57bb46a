-- What the rows up to one declare.
use Rattle.name_pass.specs.Stretches.{AreDeclared}
use Rattle.name_pass.proofs.declared.declared_between.Given as goal

abbrev pub invariant-loop-row : goal.invariant-loop-row
invariant-loop-row l = AreDeclared l.input.text l.input.tokens.now l.input.rows.now l.from l.row l.declared.keys.items l.declared.tally
