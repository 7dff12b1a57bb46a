-- The goals of `settle` that stay open.
use Rattle.std.proofs.Common.{◌≡◌, ◌-◌, ◌<◌, min, ◌∙◌, refl, arith}
use Rattle.row_kin.specs.Taken.{taker}
use Rattle.row_kin.proofs.Looking.{taker_behind}
use Rattle.row_kin.proofs.Writing.{set_other}
use Rattle.row_kin.proofs.Chained.{settle_begins, settle_steps, own_behind}
use Rattle.row_kin.proofs.stretches.Stretch.settle.Goals as goal

pub loop-i-init : goal.loop-i-init
loop-i-init c = record {
  taken = settle_begins c.args.self.now.lows.now c.args.self.now.from c.args.self.now.to c.args.parents.now c.args.firsts.now c.args.places.now c.requires.order c.requires.within c.requires.before c.requires.stretch;
  kept_parents = λ k a. refl;
  kept_firsts = λ k a. refl;
  kept_places = λ k a. refl;
}

pub number_again-requires-clause-own : goal.number_again-requires-clause-own
number_again-requires-clause-own c =
    own_behind c.args.self.now.lows.now c.args.self.now.from c.args.self.now.to c.loop-i.parents c.loop-i.firsts c.loop-i.places c.loop-i.i c.loop-i.top c.requires.within c.loop-i.invariant.taken c.loop-i-test.true c.take_in-earlier.result.count c.take_in-earlier.ensures.count

pub next_record-i-requires-clause-behind : goal.next_record-i-requires-clause-behind
next_record-i-requires-clause-behind c = taker_behind c.args.self.now.lows.now c.loop-i.i (let lt = c.loop-i-test.true in let w = c.requires.within in omega arith)

pub loop-i-smaller : goal.loop-i-smaller
loop-i-smaller c =
    let lt = c.loop-i-test.true in
    let w = c.requires.within in
    let b = taker_behind c.args.self.now.lows.now c.loop-i.i (omega arith) in
    let n : c.next_record-i.result ≡ min (taker c.args.self.now.lows.now c.loop-i.i) c.args.self.now.to = c.next_record-i.ensures in
    let less : c.args.self.now.to - c.next_record-i.result < c.args.self.now.to - c.loop-i.i = omega arith in
    less

pub loop-i-preserved : goal.loop-i-preserved
loop-i-preserved c =
    let s = c.loop-i.invariant.taken in
    let i = c.loop-i.i in
    let lt = c.loop-i-test.true in
    let tl = s.top_low in
    let order = c.requires.order in
    record {
      taken = settle_steps c.args.self.now.lows.now c.args.self.now.from c.args.self.now.to c.loop-i.parents c.loop-i.firsts c.loop-i.places i c.loop-i.top c.requires.within s lt c.take_in-earlier.new.parents c.number_again.new.places c.take_in-earlier.result.first c.next_record-i.result (omega arith) c.take_in-earlier.ensures.first c.take_in-earlier.ensures.low c.next_record-i.ensures c.take_in-earlier.ensures.taken c.take_in-earlier.ensures.kept c.number_again.ensures.placed c.number_again.ensures.kept;
      kept_parents = λ k a. c.take_in-earlier.ensures.kept k (omega arith) ∙ c.loop-i.invariant.kept_parents k a;
      kept_firsts = λ k a. set_other c.loop-i.firsts i k c.take_in-earlier.result.first (let n : (k ≡ i → ⊥) = omega arith in n) ∙ c.loop-i.invariant.kept_firsts k a;
      kept_places = λ k a. c.number_again.ensures.kept k (omega arith) ∙ c.loop-i.invariant.kept_places k a;
    }
