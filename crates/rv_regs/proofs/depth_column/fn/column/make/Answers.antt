use Rattle.std.proofs.Common.{◌∙◌}
use Rattle.rv_regs.proofs.Summed.{many_starts, start_fits, start_there}
use Rattle.std.proofs.Common.{w64, ap, sym, subst, arith}
use Rattle.std.proofs.lemmas.Int.{to_z-of_z}
use Rattle.rv_regs.specs.Depths.{sum_before}
use Rattle.rv_regs.proofs.depth_column.fn.column.make.Goals as goal

pub bounds-starts-c : goal.bounds-starts-c
bounds-starts-c c =
    let inside = c.requires.2 in
    let many = many_starts c.captures.columns.kinds.now c.captures.columns.parents.now c.captures.columns.places.now c.captures.ends.now _ c.captures.starts.now c.requires.3 in
    omega (arith, inside, many)

pub depths_between-requires : goal.depths_between-requires
depths_between-requires c =
    let kinds = c.captures.columns.kinds.now in
    let parents = c.captures.columns.parents.now in
    let places = c.captures.columns.places.now in
    let cuts = c.requires.1 in
    let inside = c.requires.2 in
    let order = cuts.order c.args.c inside in
    let start = c.stretch_start.ensures in
    record {
      few = c.requires.0;
      order = omega (arith, order, start);
      within = cuts.within c.args.c inside;
      before =
          to_z-of_z w64 _ (start_fits kinds parents places c.captures.ends.now _ c.captures.starts.now c.requires.3 c.args.c (omega (arith, inside)))
          ∙ (start_there kinds parents places c.captures.ends.now _ c.captures.starts.now c.requires.3 c.args.c (omega (arith, inside))
          ∙ ap (sum_before kinds parents places) (sym start));
    }
