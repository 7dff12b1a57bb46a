-- The goals of `kin_into` that stay open.
use Rattle.std.proofs.Common.{◌≡◌, ℕ, ◌+◌, length, ◌∙◌, ap, sym, arith}
use Rattle.row_kin.specs.Taken.{first_of, parent_by, place_by, placed_by}
use Rattle.row_kin.proofs.Looking.{look_begins, taker_behind, parent_root, place_root, place_later}
use Rattle.row_kin.proofs.Writing.{set_last}
use Rattle.row_kin.proofs.Told.{parents_told, firsts_told, places_told}
use Rattle.row_kin.proofs.alone.kin_into.Goals as goal

pub take_in-intake-requires-clause-looks : goal.take_in-intake-requires-clause-looks
take_in-intake-requires-clause-looks c = look_begins c.args.lows.now c.loop-i.i (omega arith)

pub number_taken-requires-clause-looks : goal.number_taken-requires-clause-looks
number_taken-requires-clause-looks c = look_begins c.args.lows.now c.loop-i.i (omega arith)

pub loop-i-preserved : goal.loop-i-preserved
loop-i-preserved c =
    let lows = c.args.lows.now in
    let i = c.loop-i.i in
    let inv = c.loop-i.invariant in
    let behind = taker_behind lows i (omega arith) in
    record {
      parents = λ k a. set_last c.take_in-intake.new.parents i i k (parent_by lows (i + 1)) (omega arith) (sym (parent_root lows (i + 1) i (omega arith))) (c.take_in-intake.ensures.taken k) a;
      firsts = λ k a. set_last c.loop-i.firsts i c.take_in-intake.result.first k (first_of lows) (omega arith) c.take_in-intake.ensures.first (inv.firsts k) a;
      places = λ k a. set_last c.number_taken.new.places i 0 k (place_by lows (i + 1)) (omega arith) (sym (place_root lows (i + 1) i (omega arith))) (λ b. c.number_taken.ensures.placed k b ∙ ap (placed_by lows i k) (inv.places k b) ∙ place_later lows i k) a;
    }

pub returns-clause-parents : goal.returns-clause-parents
returns-clause-parents c =
    let lows = c.args.lows.now in
    let all : c.loop-i.i ≡ length lows = omega arith in
    parents_told lows c.loop-i.parents (omega arith) (λ k lt. c.loop-i.invariant.parents k (omega arith) ∙ ap (λ (i : ℕ). parent_by lows i k) all)

pub returns-clause-firsts : goal.returns-clause-firsts
returns-clause-firsts c = firsts_told c.args.lows.now c.loop-i.firsts (omega arith) (λ k lt. c.loop-i.invariant.firsts k (omega arith))

pub returns-clause-places : goal.returns-clause-places
returns-clause-places c =
    let lows = c.args.lows.now in
    let all : c.loop-i.i ≡ length lows = omega arith in
    places_told lows c.loop-i.places (omega arith) (λ k lt. c.loop-i.invariant.places k (omega arith) ∙ ap (λ (i : ℕ). place_by lows i k) all)
