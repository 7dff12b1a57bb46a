use denote.RattleType.{RattleType}
use denote.Param.Send.{IsSend}
use Rattle.list_parts.specs.contracts.part.Part.{the_row}
use Rattle.list_parts.proofs.Holding.{flags}
use Rattle.list_parts.proofs.Sending.{row_keyless}

pub send : (T : RattleType) → IsSend T → IsSend (the_row T)
send T s = record { owned = λ d vs. ((λ vss. (tt, (tt, ((tt, tt), tt)))), (tt, row_keyless T s d.start d.items (flags d.items))); leaving = λ k f vs. tt }
