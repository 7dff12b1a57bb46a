use Rattle.par_passes.specs.Laws.Giving.{each_number, first_number}
use Rattle.par_passes.specs.Laws.Together.{if_ok}
use Rattle.par_passes.proofs.dealt.begin_list.Given as given
use Rattle.par_passes.proofs.dealt.begin_list.Goals as goal

pub f-requires : goal.f-requires
f-requires g c = each_number (given.F-pre g c.args.f.now) c.args.len c.requires.callable 0 c.requires.some

pub returns-clause-known : goal.returns-clause-known
returns-clause-known g c = if_ok c.copies.result c.copies.ensures.items (λ v is.
    first_number (given.F-post g c.args.f.now) c.args.len c.f.result v.items c.requires.some c.f.ensures is)
