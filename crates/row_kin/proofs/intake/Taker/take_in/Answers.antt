-- The goals of `take_in` that stay open.
use Rattle.std.proofs.Common.{◌≡◌, ℕ, ◌+◌, ◌-◌, ◌<◌, ◌≤◌, ◌⊎◌, inl, inr, length, ◌∙◌, refl, arith}
use Rattle.std.specs.Prelude.{slice_index_or}
use Rattle.std.proofs.lemmas.Bool.{cases_lt}
use Rattle.list_cuts.specs.Cuts.{number_at}
use Rattle.row_kin.specs.Taken.{taker, first_of, parent_by}
use Rattle.row_kin.proofs.Looking.{look_ends, none_outside, parent_same, taken_few}
use Rattle.row_kin.proofs.Writing.{set_other, taken_top, look_more, top_falls, count_falls, none_left, roots_taken}
use Rattle.row_kin.proofs.intake.Taker.take_in.Goals as goal

pub overflow_add-count : goal.overflow_add-count
overflow_add-count c =
    let yes = c.takes.ensures.yes c.loop-parents-test.true in
    let inv = c.loop-parents.invariant in
    let top = c.loop-parents.top in
    let few = c.requires.within in
    let le : top ≤ c.args.self.now.row = (let a = inv.low in let b = c.requires.order in omega arith) in
    let t = inv.counted in
    let f = taken_few c.args.self.now.lows.now c.args.self.now.row c.args.start in
    let d = count_falls c.args.self.now.lows.now c.args.self.now.row few top (first_of c.args.self.now.lows.now (top - 1)) yes.0 le (taken_top c.args.self.now.lows.now c.args.self.now.row few top yes.0 le inv.looks yes.1) refl in
    let o = c.requires.order in
    let m = c.requires.few in
    omega arith

pub loop-parents-preserved : goal.loop-parents-preserved
loop-parents-preserved c =
    let yes = c.takes.ensures.yes c.loop-parents-test.true in
    let inv = c.loop-parents.invariant in
    let top = c.loop-parents.top in
    let few = c.requires.within in
    let order = c.requires.order in
    let le : top ≤ c.args.self.now.row = (let a = inv.low in omega arith) in
    let is : slice_index_or c.args.firsts.now (top - 1) 0 ≡ first_of c.args.self.now.lows.now (top - 1) = c.requires.begun (top - 1) (let a = inv.low in let b = yes.0 in omega arith) in
    let falls = top_falls c.args.self.now.lows.now c.args.self.now.row few top (slice_index_or c.args.firsts.now (top - 1) 0) yes.0 le is in
    let taken : taker c.args.self.now.lows.now (top - 1) ≡ c.args.self.now.row = taken_top c.args.self.now.lows.now c.args.self.now.row few top yes.0 le inv.looks yes.1 in
    let many : top - 1 < length c.loop-parents.parents = omega arith in
    record {
      low = (let a = inv.low in omega arith);
      looks = look_more c.args.self.now.lows.now c.args.self.now.row few top (slice_index_or c.args.firsts.now (top - 1) 0) yes.0 le inv.looks yes.1 is;
      counted = (let d = count_falls c.args.self.now.lows.now c.args.self.now.row few top (slice_index_or c.args.firsts.now (top - 1) 0) yes.0 le taken is in let t = inv.counted in omega arith);
      roots = λ k a. set_other c.loop-parents.parents (top - 1) k c.args.self.now.row (omega arith) ∙ inv.roots k (omega arith);
      taken = roots_taken c.args.self.now.lows.now c.args.self.now.row few c.loop-parents.parents top (slice_index_or c.args.firsts.now (top - 1) 0) c.args.start yes.0 le order many taken is inv.roots inv.taken;
      kept = λ k a. set_other c.loop-parents.parents (top - 1) k c.args.self.now.row (let b = inv.low in let d = yes.0 in omega arith) ∙ inv.kept k a;
    }

pub loop-parents-smaller : goal.loop-parents-smaller
loop-parents-smaller c =
    let yes = c.takes.ensures.yes c.loop-parents-test.true in
    let inv = c.loop-parents.invariant in
    let top = c.loop-parents.top in
    top_falls c.args.self.now.lows.now c.args.self.now.row c.requires.within top (slice_index_or c.args.firsts.now (top - 1) 0) yes.0 (let a = inv.low in let b = c.requires.order in omega arith) (c.requires.begun (top - 1) (let a = inv.low in let b = yes.0 in omega arith))

pub returns-clause-first : goal.returns-clause-first
returns-clause-first c =
    let inv = c.loop-parents.invariant in
    look_ends c.args.self.now.lows.now c.args.self.now.row c.loop-parents.top (let a = inv.low in let b = c.requires.order in omega arith) c.requires.within inv.looks (c.takes.ensures.no c.loop-parents-test.false)

pub returns-clause-count : goal.returns-clause-count
returns-clause-count c =
    let inv = c.loop-parents.invariant in
    let e = look_ends c.args.self.now.lows.now c.args.self.now.row c.loop-parents.top (let a = inv.low in let b = c.requires.order in omega arith) c.requires.within inv.looks (c.takes.ensures.no c.loop-parents-test.false) in
    let z = none_outside c.args.self.now.lows.now c.args.self.now.row c.loop-parents.top c.requires.within (omega arith) in
    let t = inv.counted in
    omega arith

pub returns-clause-taken : goal.returns-clause-taken
returns-clause-taken c =
    let inv = c.loop-parents.invariant in
    let e = look_ends c.args.self.now.lows.now c.args.self.now.row c.loop-parents.top (let a = inv.low in let b = c.requires.order in omega arith) c.requires.within inv.looks (c.takes.ensures.no c.loop-parents-test.false) in
    λ k a. by k a e (cases_lt k c.loop-parents.top)
  where
    by : (k : ℕ) → k < c.args.start → c.loop-parents.top ≡ first_of c.args.self.now.lows.now c.args.self.now.row → (k < c.loop-parents.top) ⊎ (c.loop-parents.top ≤ k) → number_at c.loop-parents.parents k ≡ parent_by c.args.self.now.lows.now (c.args.self.now.row + 1) k
    by k a e (inl less) = c.loop-parents.invariant.roots k less ∙ parent_same c.args.self.now.lows.now c.args.self.now.row k (none_left c.args.self.now.lows.now c.args.self.now.row c.requires.within k (omega arith))
    by k a e (inr ge) = c.loop-parents.invariant.taken k ge a
