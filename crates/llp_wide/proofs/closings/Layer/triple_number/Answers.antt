use Rattle.llp_wide.proofs.TripleLists.{triple_member, tells_number, tells_nothing}
use Rattle.llp_wide.proofs.WideRules.{within}
use Rattle.llp_wide.proofs.closings.Layer.triple_number.Goals as goal

pub returns-in_ok-number-in-Some : goal.returns-in_ok-number-in-Some
returns-in_ok-number-in-Some c = λ g llp tell h.
    let l = c.args.self.now in
    let closes = c.in-Some.closes.now in
    let member = triple_member g l.b l.start c.args.z c.args.a l.classes.now tell closes c.in-Some.ensures in
    tells_number g l.b l.start c.args.z c.args.a l.classes.now tell closes c.args.stacks.now.items c.number_of.new.stacks.items c.in_ok-number-in-Some.number c.in-Some.ensures
    (c.in_ok-number-in-Some.ensures g (c.args.a, within g c.args.z c.args.a l.b closes member) h)

pub returns-in-None : goal.returns-in-None
returns-in-None c = λ g llp tell h.
    let l = c.args.self.now in
    tells_nothing g l.b l.start c.args.z c.args.a l.classes.now tell c.args.stacks.now.items llp c.in-None.ensures h
