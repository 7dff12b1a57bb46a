use Rattle.std.proofs.Common.{refl, inl, inr, arith}
use Rattle.scan_lookback.proofs.TwoLoads.{only_these}
use Rattle.scan_lookback.proofs.worked.worked_look_back.Goals as goal

pub returns : goal.returns
returns c = record { made = (refl, inr ((λ h. omega arith), (refl, inl (refl, refl)))); no_others = only_these }
