use Rattle.std.proofs.Common.{◌≡◌, take}
use Rattle.board_core.specs.Schedules.{play_all}
use Rattle.board_core.specs.Held.{with_state}
use Rattle.board_core.proofs.boards.Core.play_all.Given as goal

abbrev pub invariant-loop-event : goal.invariant-loop-event
invariant-loop-event g l = l.self ≡ with_state l.initial.self (play_all (g.M.WordMonoid.ops l.initial.self.monoid) l.initial.self.sums l.initial.self.state (take l.event-index l.events))
