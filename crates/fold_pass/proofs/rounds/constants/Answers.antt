use Rattle.std.proofs.Common.{suc, ◌≡◌, ◌∙◌, ◌+◌, ◌-◌, length, sym, ap, subst, arith}
use Rattle.std.specs.Prelude.{nat_eq}
use Rattle.fold_pass.specs.Rounds.{AreRounds, AreTold, IsBounded, known_after, told_by}
use Rattle.fold_pass.proofs.Rounding.{all_found, first_few, first_round, kept_whole, next_few, none_left, one_more, round_on, some_left, told_as}
use Rattle.fold_pass.proofs.rounds.constants.Goals as goal

pub loop-steps-init : goal.loop-steps-init
loop-steps-init g c = record {
  counted = omega arith;
  rounds = subst (λ n. AreRounds c.args.columns.now n c.in_ok-values.values.items c.in_ok-fresh.fresh.items) (let z : 0 ≡ c.args.steps.now - c.args.steps.now = omega arith in z) (first_round c.args.columns.now c.in_ok-values.values.items c.in_ok-fresh.fresh.items c.in_ok-values.ensures c.in_ok-fresh.ensures);
  few = first_few c.args.columns.now c.in_ok-fresh.fresh.items c.in_ok-fresh.ensures;
  bounded = λ n height heights. omega arith;
}

pub returns-in_err-values-clause-rounds : goal.returns-in_err-values-clause-rounds
returns-in_err-values-clause-rounds g c = (0, omega arith, λ n height heights. omega arith)

pub returns-in_err-fresh-clause-rounds : goal.returns-in_err-fresh-clause-rounds
returns-in_err-fresh-clause-rounds g c = (0, omega arith, λ n height heights. omega arith)

pub tell-requires-clause-few : goal.tell-requires-clause-few
tell-requires-clause-few g c κs within = let f = c.loop-steps.invariant.few in let q = c.requires.few in let l = ap length c.as_slice-in-loop-steps.ensures.value in omega arith

pub returns-in_err-told-clause-rounds : goal.returns-in_err-told-clause-rounds
returns-in_err-told-clause-rounds g c =
    let inv = c.loop-steps.invariant in
    let counted = inv.counted in
    let tick = c.tick.ensures in
    let r = c.loop-steps.steps - c.args.steps.now in
    (r + 1, omega arith, one_more c.args.columns.now r c.loop-steps.values.items c.loop-steps.fresh.items inv.rounds (some_left c.is_empty.result (length c.loop-steps.fresh.items) (c.is_empty.ensures ∙ ap (λ n. nat_eq n 0) c.loop-steps.fresh.ok.0) c.loop-steps-test.true))

pub returns-in_err-fresh-2-clause-rounds : goal.returns-in_err-fresh-2-clause-rounds
returns-in_err-fresh-2-clause-rounds g c =
    let inv = c.loop-steps.invariant in
    let counted = inv.counted in
    let tick = c.tick.ensures in
    let r = c.loop-steps.steps - c.args.steps.now in
    (r + 1, omega arith, one_more c.args.columns.now r c.loop-steps.values.items c.loop-steps.fresh.items inv.rounds (some_left c.is_empty.result (length c.loop-steps.fresh.items) (c.is_empty.ensures ∙ ap (λ n. nat_eq n 0) c.loop-steps.fresh.ok.0) c.loop-steps-test.true))

pub loop-steps-preserved : goal.loop-steps-preserved
loop-steps-preserved g c =
    let inv = c.loop-steps.invariant in
    let counted = inv.counted in
    let tick = c.tick.ensures in
    let r = c.loop-steps.steps - c.args.steps.now in
    let z : r + 1 ≡ c.tick.new.self - c.args.steps.now = omega arith in
    let more = one_more c.args.columns.now r c.loop-steps.values.items c.loop-steps.fresh.items inv.rounds (some_left c.is_empty.result (length c.loop-steps.fresh.items) (c.is_empty.ensures ∙ ap (λ n. nat_eq n 0) c.loop-steps.fresh.ok.0) c.loop-steps-test.true) in
    let values : c.as_slice.result.now ≡ c.loop-steps.values.items = c.as_slice.ensures.value in
    let fresh : c.as_slice-in-loop-steps.result.now ≡ c.loop-steps.fresh.items = c.as_slice-in-loop-steps.ensures.value in
    let told_is : c.in_ok-told.told.items ≡ told_by c.args.columns.now c.loop-steps.values.items c.loop-steps.fresh.items = c.in_ok-told.ensures ∙ (λ i. told_by c.args.columns.now (values i) (fresh i)) in
    let moved : AreTold c.args.columns.now c.loop-steps.fresh.items c.in_ok-told.told.items (length c.loop-steps.fresh.items) c.loop-steps.values.items c.put.new.values c.in_ok-fresh-2.fresh.items =
    told_as c.args.columns.now c.as_slice-in-loop-steps-2.result.now c.loop-steps.fresh.items c.as_slice-in-loop-steps-3.result.now c.in_ok-told.told.items c.as_mut_slice.result.now c.loop-steps.values.items c.put.new.values
    c.in_ok-fresh-2.fresh.items c.as_slice-in-loop-steps-2.ensures.value c.as_slice-in-loop-steps-3.ensures.value c.as_mut_slice.ensures.value c.in_ok-fresh-2.ensures in
    let rounds = round_on c.args.columns.now r c.loop-steps.fresh.items c.in_ok-fresh-2.fresh.items c.in_ok-told.told.items c.loop-steps.values.items c.put.new.values inv.rounds told_is moved in
    let len : c.loop-steps.values.len ≡ length c.put.new.values = c.loop-steps.values.ok.0 ∙ sym moved.as_many in
    let whole = kept_whole c.loop-steps.values.len c.put.new.values c.loop-steps.values.items len in
    record {
      counted = omega arith;
      rounds = subst (λ q. AreRounds c.args.columns.now (c.tick.new.self - c.args.steps.now) q c.in_ok-fresh-2.fresh.items) (sym whole) (subst (λ n. AreRounds c.args.columns.now n c.put.new.values c.in_ok-fresh-2.fresh.items) z rounds);
      few =
          let n = next_few c.args.columns.now c.loop-steps.fresh.items c.in_ok-told.told.items c.loop-steps.values.items c.put.new.values c.in_ok-fresh-2.fresh.items (length c.loop-steps.fresh.items) moved in
          let m = inv.rounds.as_many in
          omega arith;
      bounded = subst (λ n. IsBounded c.args.columns.now n) z more;
    }

pub returns-clause-found : goal.returns-clause-found
returns-clause-found g c =
    let inv = c.loop-steps.invariant in
    all_found c.args.columns.now (c.loop-steps.steps - c.args.steps.now) c.loop-steps.values.items c.loop-steps.fresh.items inv.rounds (none_left c.is_empty.result (length c.loop-steps.fresh.items) (c.is_empty.ensures ∙ ap (λ n. nat_eq n 0) c.loop-steps.fresh.ok.0) c.loop-steps-test.false)

pub returns-clause-rounds : goal.returns-clause-rounds
returns-clause-rounds g c =
    let inv = c.loop-steps.invariant in
    let counted = inv.counted in
    (c.loop-steps.steps - c.args.steps.now, omega arith, inv.bounded)

pub returns-clause-enough : goal.returns-clause-enough
returns-clause-enough g c =
    let inv = c.loop-steps.invariant in
    let counted = inv.counted in
    let r = c.loop-steps.steps - c.args.steps.now in
    let z : suc r ≡ r + 1 = omega arith in
    (r, omega arith, λ linked. inv.rounds.same linked ∙ ap (known_after c.args.columns.now) z)
