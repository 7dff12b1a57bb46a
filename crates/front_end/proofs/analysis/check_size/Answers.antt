use Rattle.std.proofs.Common.{refl, arith}
use Rattle.verdict.specs.Verdict.{too_large}
use Rattle.front_end.proofs.analysis.check_size.Goals as goal

pub returns-then-source-gt-MOST_SOURCE-clause-refused : goal.returns-then-source-gt-MOST_SOURCE-clause-refused
returns-then-source-gt-MOST_SOURCE-clause-refused c = (refl, λ fold. too_large (omega arith))
