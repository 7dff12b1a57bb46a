use Rattle.std.proofs.Common.{[]}
use Rattle.state_monoid.specs.Lawful.{word_is}
use Rattle.state_monoid.proofs.compositions.CompositionsWordMonoid.unit.Goals as goal

pub returns : goal.returns
returns c = word_is _ c.args.self.now c.self.view_is [] 0 c.self.invariant.identity
