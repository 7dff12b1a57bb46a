use Rattle.std.proofs.Common.{◌≡◌, rules, refl, length, arith, ◌∙◌, sym}
use Rattle.std.specs.List.{range_with_len}
use Rattle.std.proofs.lemmas.List.FromFn.{length-range_with_len}
use Rattle.par_passes.specs.Laws.Giving.{number_from, put_number, put_all}
use Rattle.par_passes.proofs.dealt.fill_behind.Given as given
use Rattle.par_passes.proofs.dealt.fill_behind.Goals as goal

pub f-requires : goal.f-requires
f-requires g c = number_from (given.F-pre g c.args.f.now) c.args.from (length c.args.out.now) c.loop-i.i (omega (arith, c.loop-i-test.true, c.loop-i.invariant.len)) c.requires.callable

pub loop-i-preserved : goal.loop-i-preserved
loop-i-preserved g c = record {
  len = search rules;
  values = put_number (given.F-post g c.args.f.now) c.args.from (length c.args.out.now) c.loop-i.i c.loop-i.out _ c.f.result (omega (arith, c.loop-i-test.true, c.loop-i.invariant.len)) c.loop-i.invariant.len c.f.ensures refl c.loop-i.invariant.values;
}

pub returns-clause-values : goal.returns-clause-values
returns-clause-values g c =
    let n : length (range_with_len c.args.from (length c.args.out.now)) ≡ length c.args.out.now = length-range_with_len c.args.from (length c.args.out.now) in
    put_all (given.F-post g c.args.f.now) (range_with_len c.args.from (length c.args.out.now)) c.loop-i.i c.loop-i.out (omega (arith, c.loop-i-test.false, c.loop-i.invariant.len)) (c.loop-i.invariant.len ∙ sym n) c.loop-i.invariant.values
