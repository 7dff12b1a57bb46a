use Rattle.std.proofs.Common.{sym, ◌∙◌}
use Rattle.std.proofs.lemmas.Option.{slice_get-get_or}
use Rattle.grammar_file.specs.declared.symbols.Symbol.TheVariants.{Terminal}
use Rattle.llp_wide.proofs.ClaimLists.{no_stop, stop_added}
use Rattle.llp_wide.proofs.claims.Ground.add_stop.Goals as goal

pub returns-then-not-is_stop : goal.returns-then-not-is_stop
returns-then-not-is_stop c =
    let g = c.args.self.now in
    let x = c.args.context in
    no_stop g.nullable.now g.first.now g.b x.after.now x.before x.symbol c.args.j _ (slice_get-get_or x.after.now c.args.j (Terminal 0) c.requires) c.args.waiting.now.items (sym c.is_stop.ensures ∙ c.if-not-is_stop.true)

pub returns : goal.returns
returns c =
    let g = c.args.self.now in
    let x = c.args.context in
    stop_added g.nullable.now g.first.now g.b x.after.now x.before x.symbol c.args.j _ (slice_get-get_or x.after.now c.args.j (Terminal 0) c.requires) c.in_ok-stack.stack.items c.args.waiting.now.items c.push.new.self.items
    (sym c.is_stop.ensures ∙ c.if-not-is_stop.false) c.in_ok-stack.ensures.items c.in_ok-push.ensures.items
