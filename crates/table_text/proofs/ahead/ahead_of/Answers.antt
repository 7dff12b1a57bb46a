use Rattle.std.proofs.Common.{◌<◌, ℕ, List, Bool, Option, sym, subst}
use Rattle.table_text.specs.Ahead.{AreSetsAhead}
use Rattle.table_text.proofs.Growing.{within_marks}
use Rattle.table_text.proofs.ahead.ahead_of.Goals as goal

pub returns : goal.returns
returns c = λ b is.
    let g = c.args.grammar.now in
    let sets : AreSetsAhead g b c.args.column.now.first c.args.column.now.predictions = (is.first, is.predictions) in
    let seen : AreSetsAhead g b c.first.result.now c.predictions.result.now =
    subst (λ (t : List Bool × List (Option ℕ)). AreSetsAhead g b t.0 t.1) (λ i. (sym c.first.ensures i, sym c.predictions.ensures i)) sets in
    record { opens = λ a f. c.in_ok-opens.ensures a (subst (λ (n : ℕ). a < n) is.first.len (within_marks c.args.column.now.first a (is.first.complete a f))) b c.requires seen }
