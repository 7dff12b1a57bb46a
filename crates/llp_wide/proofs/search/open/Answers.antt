use Rattle.std.proofs.Common.{◌≡◌, Some, sym, ap, ◌∙◌, slice_get}
use Rattle.std.proofs.lemmas.Option.{slice_get-get_or}
use Rattle.llp_wide.proofs.ClassLists.{open_already, opened}
use Rattle.llp_wide.proofs.search.open.Goals as goal

pub returns-then-not-is_closed : goal.returns-then-not-is_closed
returns-then-not-is_closed c =
    let old = c.args.classes.now.items in
    let was = c.index.result.now in
    let is : slice_get old c.args.z ≡ Some was = slice_get-get_or old c.args.z was c.requires ∙ ap Some (sym c.index.ensures) in
    open_already c.args.terminals c.args.nonterminals old c.args.z was is (c.is_closed.ensures.open c.if-not-is_closed.true)

pub returns : goal.returns
returns c =
    let old = c.args.classes.now.items in
    let was = c.index.result.now in
    let is : slice_get old c.args.z ≡ Some was = slice_get-get_or old c.args.z was c.requires ∙ ap Some (sym c.index.ensures) in
    let made = c.in_ok-members.ensures in
    opened c.args.terminals c.args.nonterminals old c.args.z was is c.in_ok-members.members (c.is_closed.ensures.closed c.if-not-is_closed.false) (made.terminals, made.nonterminals) made.empty
