use Rattle.std.proofs.Common.{◌∙◌}
use Rattle.board_core.proofs.Playing.{one_more, still_sound, still_claims, still_ordered, still_finishes}
use Rattle.board_core.proofs.boards.Core.play_all.Goals as goal

pub loop-event-preserved : goal.loop-event-preserved
loop-event-preserved g c = one_more g.M.WordMonoid.ops c.args.self.now c.loop-event.self _ c.args.events.now c.loop-event.event-index _ c.loop-event-test.true c.loop-event.invariant c.in_ok-play.ensures.ok

pub returns-in_err-play-clause-sound : goal.returns-in_err-play-clause-sound
returns-in_err-play-clause-sound g c = still_sound g.M.WordMonoid.ops c.args.self.now _ c.args.events.now c.loop-event.event-index c.know_sound.ensures (c.in_err-play.ensures.err ∙ c.loop-event.invariant)

pub returns-in_err-play-clause-claims : goal.returns-in_err-play-clause-claims
returns-in_err-play-clause-claims g c = still_claims g.M.WordMonoid.ops c.args.self.now _ c.args.events.now c.loop-event.event-index c.know_sound.ensures (c.in_err-play.ensures.err ∙ c.loop-event.invariant)

pub returns-in_err-play-clause-ordered : goal.returns-in_err-play-clause-ordered
returns-in_err-play-clause-ordered g c = still_ordered g.M.WordMonoid.ops c.args.self.now _ c.args.events.now c.loop-event.event-index c.know_sound.ensures (c.in_err-play.ensures.err ∙ c.loop-event.invariant)

pub returns-in_err-play-clause-finishes : goal.returns-in_err-play-clause-finishes
returns-in_err-play-clause-finishes g c = still_finishes g.M.WordMonoid.ops c.args.self.now _ c.args.events.now c.loop-event.event-index c.know_sound.ensures (c.in_err-play.ensures.err ∙ c.loop-event.invariant)

pub returns-clause-sound : goal.returns-clause-sound
returns-clause-sound g c = still_sound g.M.WordMonoid.ops c.args.self.now _ c.args.events.now c.loop-event.event-index c.know_sound.ensures c.loop-event.invariant

pub returns-clause-claims : goal.returns-clause-claims
returns-clause-claims g c = still_claims g.M.WordMonoid.ops c.args.self.now _ c.args.events.now c.loop-event.event-index c.know_sound.ensures c.loop-event.invariant

pub returns-clause-ordered : goal.returns-clause-ordered
returns-clause-ordered g c = still_ordered g.M.WordMonoid.ops c.args.self.now _ c.args.events.now c.loop-event.event-index c.know_sound.ensures c.loop-event.invariant

pub returns-clause-finishes : goal.returns-clause-finishes
returns-clause-finishes g c = still_finishes g.M.WordMonoid.ops c.args.self.now _ c.args.events.now c.loop-event.event-index c.know_sound.ensures c.loop-event.invariant
