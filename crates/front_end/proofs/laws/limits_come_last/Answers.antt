use Rattle.front_end.proofs.Judging.{frame_told, code_told, accepted}
use Rattle.front_end.proofs.laws.limits_come_last.Goals as goal

pub returns-clause-frame : goal.returns-clause-frame
returns-clause-frame c = λ fold text t f h e. frame_told fold text t h.fits h.lexical h.tree f h.shaped h.scoped h.typed e

pub returns-clause-code : goal.returns-clause-code
returns-clause-code c = λ fold text t h e many. code_told fold text t h.fits h.lexical h.tree h.shaped h.scoped h.typed e many

pub returns-clause-accepted : goal.returns-clause-accepted
returns-clause-accepted c = λ fold text t h e few. accepted fold text t h.fits h.lexical h.tree h.shaped h.scoped h.typed e few
