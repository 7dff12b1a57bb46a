use Rattle.std.proofs.Common.{◌≡◌, ℕ, Bool, All, filter, sym, ap, subst, ◌∙◌}
use Rattle.std.specs.List.{range_with_len}
use Rattle.par_passes.specs.Laws.Giving.{numbers_in_chunk}
use Rattle.par_passes.specs.Laws.Together.{all_chunk, if_ok}
use Rattle.par_passes.proofs.numbered.choose_chunk.Given as given
use Rattle.par_passes.proofs.numbered.choose_chunk.Goals as goal

pub choose_between-requires-clause-callable : goal.choose_between-requires-clause-callable
choose_between-requires-clause-callable g c =
    let P = given.F-pre g c.args.f.now in
    subst (All P) (numbers_in_chunk c.args.size c.args.len c.args.c c.chunk_start-from.result c.min.result c.chunk_start-from.ensures c.min.ensures) (all_chunk P c.args.size (range_with_len 0 c.args.len) c.args.c c.requires.callable)

pub returns : goal.returns
returns g c = if_ok c.choose_between.result c.choose_between.ensures (λ v chosen h computes.
    let P : ℕ → Type 0 = λ k. (r : Bool) → given.F-post g c.args.f.now k r → r ≡ h k in
    let same = numbers_in_chunk c.args.size c.args.len c.args.c c.chunk_start-from.result c.min.result c.chunk_start-from.ensures c.min.ensures in
    chosen h (subst (All P) same (all_chunk P c.args.size (range_with_len 0 c.args.len) c.args.c computes)) ∙ ap (filter h) (sym same))
