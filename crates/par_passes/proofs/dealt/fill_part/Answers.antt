use Rattle.std.proofs.Common.{◌-◌, ◌∙◌, ap, sym, subst, take, length, All}
use Rattle.std.specs.List.{range_with_len}
use Rattle.chunk_seats.specs.Chunks.{chunk_of}
use Rattle.par_passes.specs.Passes.{Gives}
use Rattle.par_passes.specs.Laws.Giving.{numbers_of_chunk}
use Rattle.par_passes.specs.Laws.Together.{all_chunk}
use Rattle.par_passes.proofs.dealt.fill_part.Given as given
use Rattle.par_passes.proofs.dealt.fill_part.Goals as goal

pub fill_behind-requires-clause-callable : goal.fill_behind-requires-clause-callable
fill_behind-requires-clause-callable g c =
    let P = given.F-pre g c.args.f.now in
    let wide = c.requires.wide ∙ sym (ap length c.as_mut_slice.ensures.value) in
    subst (All P) (numbers_of_chunk c.args.size c.args.len c.args.c c.chunk_start.result _ c.chunk_start.ensures wide) (all_chunk P c.args.size (range_with_len 0 c.args.len) c.args.c c.requires.callable)

pub fill_behind-requires-clause-known : goal.fill_behind-requires-clause-known
fill_behind-requires-clause-known g c =
    let post = given.F-post g c.args.f.now in
    let wide = c.requires.wide ∙ sym (ap length c.as_mut_slice.ensures.value) in
    let same = numbers_of_chunk c.args.size c.args.len c.args.c c.chunk_start.result _ c.chunk_start.ensures wide in
    subst (λ n. Gives post (take n (range_with_len c.chunk_start.result (length c.as_mut_slice.result.now))) (take n c.as_mut_slice.result.now)) (sym c.saturating_sub-known.ensures)
    (subst (λ l. Gives post (take (1 - c.args.c) l) (take (1 - c.args.c) c.as_mut_slice.result.now)) same
    (subst (λ l. Gives post (take (1 - c.args.c) (chunk_of c.args.size (range_with_len 0 c.args.len) c.args.c)) (take (1 - c.args.c) l)) (sym c.as_mut_slice.ensures.value) c.requires.known))

pub returns-clause-values : goal.returns-clause-values
returns-clause-values g c =
    let wide = c.requires.wide ∙ sym (ap length c.as_mut_slice.ensures.value) in
    let same = numbers_of_chunk c.args.size c.args.len c.args.c c.chunk_start.result _ c.chunk_start.ensures wide in
    subst (λ l. Gives (given.F-post g c.args.f.now) l c.fill_behind.new.out) (sym same) c.fill_behind.ensures.values
