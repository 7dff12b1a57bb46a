use Rattle.std.proofs.Common.{◌∙◌, length, subst, sym}
use Rattle.std.specs.Fork.{ChangesAt}
use Rattle.par_passes.specs.Laws.Together.{if_ok}
use Rattle.kin_pass.proofs.Ranges.{given_at, given_many, some_is}
use Rattle.kin_pass.proofs.dealt.work_in_place.Goals as goal

pub deal_items-requires-clause-serves : goal.deal_items-requires-clause-serves
deal_items-requires-clause-serves g c = λ κs within. record {
  callable = c.requires.callable;
  fine = λ k x y at changed. record { from = λ z there. subst (λ v. ChangesAt g.F.Fn c.args.f.now k v y) (some_is x z (sym at ∙ there)) changed };
}

pub returns-in-Ok-clause-many : goal.returns-in-Ok-clause-many
returns-in-Ok-clause-many g c = if_ok c.deal_items.result c.deal_items.ensures.good (λ v gives. given_many _ (length c.args.items.items) v.items gives)

pub returns-in-Ok-clause-each : goal.returns-in-Ok-clause-each
returns-in-Ok-clause-each g c = if_ok c.deal_items.result c.deal_items.ensures.good (λ v gives k x y at there. (given_at _ (length c.args.items.items) v.items gives k y there).from x at)
