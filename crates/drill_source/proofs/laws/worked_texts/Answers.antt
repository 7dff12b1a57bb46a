use Rattle.std.proofs.Common.{refl}
use Rattle.std.specs.Fmt.{digits}
use Rattle.drill_source.proofs.laws.worked_texts.Goals as goal

pub returns-clause-main : goal.returns-clause-main
unfolding digits
returns-clause-main c = refl

pub returns-clause-one : goal.returns-clause-one
unfolding digits
returns-clause-one c = refl

pub returns-clause-two : goal.returns-clause-two
unfolding digits
returns-clause-two c = refl
