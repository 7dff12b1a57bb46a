-- The goals of `move_behind` that stay open.
use Rattle.std.proofs.Common.{◌≡◌, ◌+◌, ◌-◌, ◌<◌, ◌≤◌, length, ◌∙◌, refl, arith}
use Rattle.std.specs.Prelude.{slice_index_or}
use Rattle.list_cuts.specs.Cuts.{number_at}
use Rattle.row_kin.specs.Taken.{taker, first_of, taken_by}
use Rattle.row_kin.proofs.Looking.{look_begins, taken_few}
use Rattle.row_kin.proofs.Writing.{set_other, taken_top, look_more, top_falls, top_above, rank_here, places_taken}
use Rattle.row_kin.proofs.intake.Taker.move_behind.Goals as goal

pub loop-top-init : goal.loop-top-init
loop-top-init c = record {
  low = c.requires.order;
  high = omega arith;
  looks = look_begins c.args.self.now.lows.now c.args.self.now.row c.requires.within;
  before = λ k a. refl;
  placed = λ k a b. absurd (omega arith);
  kept = λ k a. refl;
}

pub overflow_add-places : goal.overflow_add-places
overflow_add-places c =
    let inv = c.loop-top.invariant in
    let lows = c.args.self.now.lows.now in
    let row = c.args.self.now.row in
    let top = c.loop-top.top in
    let more = c.loop-top-test.true in
    let le = inv.high in
    let low = c.requires.looks.above (top - 1) (omega arith) (omega arith) in
    let taken : taker lows (top - 1) ≡ row = taken_top lows row c.requires.within top (omega arith) le inv.looks low in
    let own = c.requires.own (top - 1) (omega arith) (omega arith) taken in
    let same = inv.before (top - 1) (omega arith) in
    let few = taken_few lows row (top - 1) in
    let m = c.requires.few in
    let w = c.requires.within in
    omega arith

pub loop-top-smaller : goal.loop-top-smaller
loop-top-smaller c =
    let inv = c.loop-top.invariant in
    let top = c.loop-top.top in
    let more = c.loop-top-test.true in
    let le = inv.high in
    top_falls c.args.self.now.lows.now c.args.self.now.row c.requires.within top (slice_index_or c.args.firsts.now (top - 1) 0) (omega arith) le (c.requires.begun (top - 1) (omega arith))

pub loop-top-preserved : goal.loop-top-preserved
loop-top-preserved c =
    let inv = c.loop-top.invariant in
    let lows = c.args.self.now.lows.now in
    let row = c.args.self.now.row in
    let few = c.requires.within in
    let top = c.loop-top.top in
    let start = c.args.start in
    let old = c.args.places.now in
    let more = c.loop-top-test.true in
    let le : top ≤ row = inv.high in
    let some : 0 < top = omega arith in
    let next = slice_index_or c.args.firsts.now (top - 1) 0 in
    let is : next ≡ first_of lows (top - 1) = c.requires.begun (top - 1) (omega arith) in
    let falls = top_falls lows row few top next some le is in
    let low = c.requires.looks.above (top - 1) (omega arith) (omega arith) in
    let taken : taker lows (top - 1) ≡ row = taken_top lows row few top some le inv.looks low in
    let own = c.requires.own (top - 1) (omega arith) (omega arith) taken in
    let same = inv.before (top - 1) (omega arith) in
    let rank = number_at c.loop-top.places (top - 1) + c.args.count in
    let here = rank_here lows row few top next some le taken is in
    let ranked : rank ≡ taken_by lows row next = omega arith in
    let many : top - 1 < length c.loop-top.places = omega arith in
    record {
      low = top_above lows row few start top next (omega arith) le c.requires.looks is;
      high = omega arith;
      looks = look_more lows row few top next some le inv.looks low is;
      before = λ k a. set_other c.loop-top.places (top - 1) k rank (omega arith) ∙ inv.before k (omega arith);
      placed = places_taken lows row few c.loop-top.places old top next row rank some le many taken is ranked inv.before inv.placed;
      kept = λ k a. set_other c.loop-top.places (top - 1) k rank (omega arith) ∙ inv.kept k a;
    }
