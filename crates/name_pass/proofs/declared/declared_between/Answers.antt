use Rattle.std.proofs.Common.{◌≡◌, false, sym, subst, arith}
use Rattle.name_pass.specs.Stretches.{AreDeclared}
use Rattle.name_pass.proofs.Counting.{declared_none, declared_more}
use Rattle.name_pass.proofs.declared.declared_between.Goals as goal

pub loop-row-init : goal.loop-row-init
loop-row-init c =
    let input = c.args.input.now in
    let from = c.args.from in
    subst (λ t. AreDeclared input.text input.tokens.now input.rows.now from from c.new.result.items t) (sym c.new-2.ensures)
    (subst (λ ks. AreDeclared input.text input.tokens.now input.rows.now from from ks (record { anew = false; variables = 0 })) (sym c.new.ensures.items) (declared_none input.text input.tokens.now input.rows.now from))

pub add-requires-clause-row : goal.add-requires-clause-row
add-requires-clause-row c = let o = c.requires.order in let t = c.loop-row-test.true in omega arith

pub add-requires-clause-few : goal.add-requires-clause-few
add-requires-clause-few c = let o = c.requires.order in let f = c.requires.few in let h = c.loop-row.invariant.few in let t = c.loop-row-test.true in omega arith

pub loop-row-preserved : goal.loop-row-preserved
loop-row-preserved c =
    let input = c.args.input.now in
    let old = c.loop-row.declared in
    let new = c.add.new.self in
    declared_more input.text input.tokens.now input.rows.now c.args.from c.loop-row.row old.keys.items new.keys.items old.tally new.tally c.loop-row.auto.row c.loop-row.invariant c.in_ok-add.ensures.keys c.in_ok-add.ensures.counts c.in_ok-add.ensures.few

pub returns : goal.returns
returns c =
    let input = c.args.input.now in
    let d = c.loop-row.declared in
    let o = c.requires.order in
    let a = c.loop-row.auto.row-end in
    let t = c.loop-row-test.false in
    let all : c.loop-row.row ≡ c.args.to = omega arith in
    subst (λ n. AreDeclared input.text input.tokens.now input.rows.now c.args.from n d.keys.items d.tally) all c.loop-row.invariant
