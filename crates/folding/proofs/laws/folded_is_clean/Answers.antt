use Rattle.folding.proofs.Shapes.{shape_clean}
use Rattle.folding.proofs.Scopes.{scope_clean}
use Rattle.folding.proofs.Types.{type_clean}
use Rattle.folding.proofs.laws.folded_is_clean.Goals as goal

pub returns-clause-shapes : goal.returns-clause-shapes
returns-clause-shapes c = shape_clean

pub returns-clause-scopes : goal.returns-clause-scopes
returns-clause-scopes c = scope_clean

pub returns-clause-types : goal.returns-clause-types
returns-clause-types c = type_clean
