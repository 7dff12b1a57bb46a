use Rattle.std.proofs.Common.{◌≡◌, ℕ, All, map, sym, ap, subst, ◌∙◌}
use Rattle.std.specs.List.{range_with_len}
use Rattle.par_passes.specs.Least.{least_key}
use Rattle.par_passes.specs.Laws.Together.{all_chunk}
use Rattle.par_passes.specs.Laws.Giving.{numbers_in_chunk}
use Rattle.par_passes.specs.Laws.Marking.{map_chunk}
use Rattle.par_passes.proofs.fewest.least_of_chunk.Given as given
use Rattle.par_passes.proofs.fewest.least_of_chunk.Goals as goal

pub least_between-requires-clause-callable : goal.least_between-requires-clause-callable
least_between-requires-clause-callable g c =
    let P = given.F-pre g c.args.f.now in
    subst (All P) (numbers_in_chunk c.args.size c.args.len c.args.c c.chunk_start-from.result c.min.result c.chunk_start-from.ensures c.min.ensures) (all_chunk P c.args.size (range_with_len 0 c.args.len) c.args.c c.requires.callable)

pub least_between-requires-clause-lifts : goal.least_between-requires-clause-lifts
least_between-requires-clause-lifts g c =
    let P : ℕ → Type 0 = λ k. (r : ℕ) → given.F-post g c.args.f.now k r → r ≡ g.K.Lifted.code_of k in
    subst (All P) (numbers_in_chunk c.args.size c.args.len c.args.c c.chunk_start-from.result c.min.result c.chunk_start-from.ensures c.min.ensures) (all_chunk P c.args.size (range_with_len 0 c.args.len) c.args.c c.requires.lifts)

pub returns : goal.returns
returns g c =
    let all = range_with_len 0 c.args.len in
    let code = g.K.Lifted.code_of in
    c.least_between.ensures
    ∙ ap least_key (ap (map code) (sym (numbers_in_chunk c.args.size c.args.len c.args.c c.chunk_start-from.result c.min.result c.chunk_start-from.ensures c.min.ensures)) ∙ sym (map_chunk code c.args.size all c.args.c))
