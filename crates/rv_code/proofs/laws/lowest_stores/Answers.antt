use Rattle.rv_code.proofs.Lengths.{near_second, far_fourth}
use Rattle.rv_code.proofs.laws.lowest_stores.Goals as goal

pub returns-clause-near : goal.returns-clause-near
returns-clause-near c = near_second

pub returns-clause-far : goal.returns-clause-far
returns-clause-far c = far_fourth
