use Rattle.std.proofs.Common.{ℕ, length, sym, ap, ◌∙◌, arith}
use Rattle.list_cuts.specs.Cuts.{start_of}
use Rattle.name_pass.specs.RowNames.{count_in}
use Rattle.name_pass.proofs.Ranged.{many_of, value_at}
use Rattle.name_pass.proofs.found.found_by_number.Goals as goal

pub bounds-counts-c : goal.bounds-counts-c
bounds-counts-c c =
    let many = many_of (λ (k : ℕ). count_in c.args.scopes.now.rows.now (start_of c.args.ends.now k)) (length c.args.ends.now) c.args.counts.now c.requires.counts in
    let inside = c.requires.inside in
    omega arith

pub found_between-requires-clause-counted : goal.found_between-requires-clause-counted
found_between-requires-clause-counted c =
    let rows = c.args.scopes.now.rows.now in
    let ends = c.args.ends.now in
    value_at (λ (k : ℕ). count_in rows (start_of ends k)) 0 (length ends) c.args.counts.now c.args.c c.requires.counts c.requires.inside ∙ ap (count_in rows) (sym c.stretch_start-from.ensures)
