use Rattle.std.proofs.Common.{◌≡◌, ℕ, List, ◌∙◌, ap, get_or, arith}
use Rattle.ast_rows.specs.NodeRows.{parent_numbers}
use Rattle.pass_page.proofs.Told.{parent_is}
use Rattle.pass_page.proofs.tree.spot_of.Goals as goal

pub returns-clause-up : goal.returns-clause-up
returns-clause-up c =
    let rows = c.args.rows.now in
    let kept : c.number-2.result ≡ get_or (parent_numbers 0 rows) c.args.k 0 = c.number-2.ensures ∙ ap (λ (xs : List ℕ). get_or xs c.args.k 0) c.parents.ensures in
    let parent = parent_is rows c.args.k c.requires.within in
    omega (arith, kept, parent)
