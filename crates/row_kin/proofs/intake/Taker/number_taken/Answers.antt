-- The goals of `number_taken` that stay open.
use Rattle.std.proofs.Common.{◌≡◌, ℕ, ◌-◌, ◌<◌, ◌≤◌, ◌⊎◌, inl, inr, length, ◌∙◌, refl, sym, arith}
use Rattle.std.specs.Prelude.{slice_index_or}
use Rattle.std.proofs.lemmas.Bool.{cases_lt}
use Rattle.list_cuts.specs.Cuts.{number_at}
use Rattle.row_kin.specs.Taken.{taker, first_of, taken_by, placed_by}
use Rattle.row_kin.proofs.Looking.{is_first, place_same}
use Rattle.row_kin.proofs.Writing.{set_other, taken_top, look_more, top_falls, count_falls, none_left, places_taken}
use Rattle.row_kin.proofs.intake.Taker.number_taken.Goals as goal

pub loop-top-init : goal.loop-top-init
loop-top-init c = record {
  low = omega arith;
  looks = c.requires.looks;
  counted = c.requires.count;
  before = λ k a. refl;
  placed = λ k a b. absurd (omega arith);
  kept = λ k a. refl;
}

pub overflow_sub-rank : goal.overflow_sub-rank
overflow_sub-rank c =
    let inv = c.loop-top.invariant in
    let top = c.loop-top.top in
    let few = c.requires.within in
    let more = c.loop-top-test.true in
    let f = c.requires.first in
    let le : top ≤ c.args.self.now.row = (let a = inv.low in let b = c.requires.order in omega arith) in
    let some : 0 < top = omega arith in
    let low = (is_first c.args.self.now.lows.now c.args.self.now.row few).above (top - 1) (omega arith) (omega arith) in
    let taken : taker c.args.self.now.lows.now (top - 1) ≡ c.args.self.now.row = taken_top c.args.self.now.lows.now c.args.self.now.row few top some le inv.looks low in
    let d = count_falls c.args.self.now.lows.now c.args.self.now.row few top (first_of c.args.self.now.lows.now (top - 1)) some le taken refl in
    let r = inv.counted in
    omega arith

pub loop-top-smaller : goal.loop-top-smaller
loop-top-smaller c =
    let inv = c.loop-top.invariant in
    let top = c.loop-top.top in
    let more = c.loop-top-test.true in
    let le : top ≤ c.args.self.now.row = (let a = inv.low in let b = c.requires.order in omega arith) in
    top_falls c.args.self.now.lows.now c.args.self.now.row c.requires.within top (slice_index_or c.args.firsts.now (top - 1) 0) (omega arith) le (c.requires.begun (top - 1) (let a = inv.low in omega arith))

pub loop-top-preserved : goal.loop-top-preserved
loop-top-preserved c =
    let inv = c.loop-top.invariant in
    let top = c.loop-top.top in
    let few = c.requires.within in
    let more = c.loop-top-test.true in
    let f = c.requires.first in
    let le : top ≤ c.args.self.now.row = (let a = inv.low in let b = c.requires.order in omega arith) in
    let some : 0 < top = omega arith in
    let is : slice_index_or c.args.firsts.now (top - 1) 0 ≡ first_of c.args.self.now.lows.now (top - 1) = c.requires.begun (top - 1) (let a = inv.low in omega arith) in
    let falls = top_falls c.args.self.now.lows.now c.args.self.now.row few top (slice_index_or c.args.firsts.now (top - 1) 0) some le is in
    let low = (is_first c.args.self.now.lows.now c.args.self.now.row few).above (top - 1) (omega arith) (omega arith) in
    let taken : taker c.args.self.now.lows.now (top - 1) ≡ c.args.self.now.row = taken_top c.args.self.now.lows.now c.args.self.now.row few top some le inv.looks low in
    let d = count_falls c.args.self.now.lows.now c.args.self.now.row few top (slice_index_or c.args.firsts.now (top - 1) 0) some le taken is in
    let r = inv.counted in
    let ranked : c.loop-top.rank - 1 ≡ taken_by c.args.self.now.lows.now c.args.self.now.row (slice_index_or c.args.firsts.now (top - 1) 0) = omega arith in
    let many : top - 1 < length c.loop-top.places = omega arith in
    record {
      low = omega arith;
      looks = look_more c.args.self.now.lows.now c.args.self.now.row few top (slice_index_or c.args.firsts.now (top - 1) 0) some le inv.looks low is;
      counted = ranked;
      before = λ k a. set_other c.loop-top.places (top - 1) k (c.loop-top.rank - 1) (omega arith) ∙ inv.before k (omega arith);
      placed = places_taken c.args.self.now.lows.now c.args.self.now.row few c.loop-top.places c.args.places.now top (slice_index_or c.args.firsts.now (top - 1) 0) c.args.start (c.loop-top.rank - 1) some le many taken is ranked inv.before inv.placed;
      kept = λ k a. set_other c.loop-top.places (top - 1) k (c.loop-top.rank - 1) (let b = inv.low in omega arith) ∙ inv.kept k a;
    }

pub returns-clause-placed : goal.returns-clause-placed
returns-clause-placed c = λ k a. by k a (cases_lt k c.loop-top.top)
  where
    by : (k : ℕ) → k < c.args.start → (k < c.loop-top.top) ⊎ (c.loop-top.top ≤ k) → number_at c.loop-top.places k ≡ placed_by c.args.self.now.lows.now c.args.self.now.row k (number_at c.args.places.now k)
    by k a (inl less) =
        let e = c.loop-top-test.false in
        let f = c.requires.first in
        c.loop-top.invariant.before k less ∙ sym (place_same c.args.self.now.lows.now c.args.self.now.row k (number_at c.args.places.now k) (none_left c.args.self.now.lows.now c.args.self.now.row c.requires.within k (omega arith)))
    by k a (inr ge) = c.loop-top.invariant.placed k ge a
