use Rattle.std.proofs.Common.{sym, subst, ◌∙◌}
use Rattle.llp_tables.specs.Waiting.{Adds}
use Rattle.llp_tables.proofs.Adding.{IsIt, adds_it}
use Rattle.llp_tables.proofs.PlaceAdds.{stop_added}
use Rattle.llp_tables.proofs.pending.Search.add_stop.Goals as goal

pub returns : goal.returns
returns c =
    stop_added c.args.self.now.nullable.now c.args.self.now.first.now c.args.self.now.b c.args.place.now.after.now c.args.place.now.symbol c.args.j c.in_ok-stack.stack.items c.args.pending.now.items c.push.new.self.items (sym c.is_stop.ensures ∙ c.if-not-is_stop.false) c.in_ok-stack.ensures.items
    (subst (λ xs. Adds (IsIt c.args.place.now.symbol c.in_ok-stack.stack.items) c.args.pending.now.items xs) (sym c.in_ok-push.ensures.items) (adds_it c.args.pending.now.items (record { symbol = c.args.place.now.symbol; stack = c.in_ok-stack.stack })))
