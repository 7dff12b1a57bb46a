use Rattle.std.proofs.Common.{◌∙◌, ap, subst}
use Rattle.folded_rows.specs.Columns.{AreConstants, new_rows}
use Rattle.fold_pass.specs.Folded.{AreNewNames}
use Rattle.fold_pass.proofs.pass.fold_columns.Goals as goal

pub returns-clause-folded : goal.returns-clause-folded
returns-clause-folded g c = (
  c.in_ok-values.values.items,
  record {
    constants = c.in_ok-values.ensures.found;
    rows_are = c.in_ok-folded.ensures ∙ ap (new_rows c.args.columns.now) c.as_slice-2.ensures.value;
    names_are = subst (λ v. AreNewNames c.args.columns.now v c.args.names.now c.in_ok-named.named) c.as_slice-3.ensures.value c.in_ok-named.ensures;
  },
)

pub returns-clause-enough : goal.returns-clause-enough
returns-clause-enough g c =
    let e = c.in_ok-values.ensures.enough in
    (e.0, e.1, λ linked. subst (AreConstants c.args.columns.now) (e.2 linked) (c.in_ok-values.ensures.found linked))
