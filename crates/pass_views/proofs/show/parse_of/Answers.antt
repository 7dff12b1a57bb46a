use Rattle.llp_tables.specs.EntryTable.{entry_of}
use Rattle.source_meaning.specs.Grammar.{Tree, Prog}
use Rattle.pass_views.specs.Stopped.{Stops}
use Rattle.pass_views.specs.Shown.{IsParsed}
use Rattle.back_end.specs.Laws.HandedOn.{handed_on}
use Rattle.pass_views.proofs.Showing.{passed_on, stopped}
use Rattle.pass_views.proofs.show.parse_of.Goals as goal

pub returns-clause-tabled : goal.returns-clause-tabled
returns-clause-tabled g c = (entry_of c.in_ok-tables.tables, c.in_ok-tables.ensures.tables.tables)

pub returns-in_err-tokens-clause-stopped : goal.returns-in_err-tokens-clause-stopped
returns-in_err-tokens-clause-stopped g c =
    passed_on c.args.source.now c.from_residual.result c.in_err-tokens.field-0.0 c.from_residual.ensures.1 (λ none t is. none is.lexed) c.in_err-tokens.ensures.stopped

pub returns-in_err-productions-clause-stopped : goal.returns-in_err-productions-clause-stopped
returns-in_err-productions-clause-stopped g c =
    let text = c.args.source.now in
    handed_on (Stops ((t : Tree Prog) → ¬ IsParsed text t) text) c.from_residual-in_err-productions.result c.in_err-productions.field-0.0 c.from_residual-in_err-productions.ensures.1
    (stopped text c.in_err-productions.field-0.0 c.in_err-productions.ensures.refused c.in_err-productions.ensures.faulty (λ none t is. none t is.tree))
