use Rattle.std.proofs.Common.{◌-◌, ◌/◌, ◌^◌, ◌∙◌, length, List, ℤ, ap, subst, below_more, arith, w64, to_z, of_z}
use Rattle.std.proofs.lemmas.Int.{to_z-of_z}
use Rattle.near_smaller.specs.Nearest.{AreAbove, IsPrevious}
use Rattle.near_smaller.specs.Levels.{lists_of, level_at}
use Rattle.near_smaller.specs.Climbs.{PassesBefore, EndsBefore}
use Rattle.near_smaller.proofs.Climbing.{block_within, none_before, read_level, length-lists_of}
use Rattle.near_smaller.proofs.before.height_before.Goals as goal

pub ends_before-requires : goal.ends_before-requires
ends_before-requires c =
    let n = length-lists_of c.args.levels.now in
    let b = block_within (lists_of c.args.levels.now) c.requires.levels c.args.i c.requires.within c.loop-height.height (omega arith) in
    let is = ap length (c.deref.ensures.value ∙ read_level c.args.levels.now c.loop-height.height c.index-levels-height.result c.loop-height-test.true c.index-levels-height.is) in
    omega arith

pub returns-then-ends_before-clause-found : goal.returns-then-ends_before-clause-found
returns-then-ends_before-clause-found c =
    let h = c.loop-height.height in
    let x = to_z w64 (of_z w64 c.args.x) in
    let n = length-lists_of c.args.levels.now in
    let is = c.deref.ensures.value ∙ read_level c.args.levels.now h c.index-levels-height.result c.loop-height-test.true c.index-levels-height.is in
    let ends : EndsBefore (lists_of c.args.levels.now) c.args.i x h = record {
      within = omega arith;
      nearest = subst (λ (l : List ℤ). IsPrevious l (c.args.i / 2 ^ h) x (c.args.i / 2 ^ h - 1)) is (c.ends_before.ensures.found c.if-ends_before.true);
      passed = c.loop-height.invariant;
    } in
    subst (λ (y : ℤ). EndsBefore (lists_of c.args.levels.now) c.args.i y h) (to_z-of_z w64 c.args.x c.ranges.x) ends

pub loop-height-preserved : goal.loop-height-preserved
loop-height-preserved c =
    let h = c.loop-height.height in
    let x = to_z w64 (of_z w64 c.args.x) in
    let is = c.deref.ensures.value ∙ read_level c.args.levels.now h c.index-levels-height.result c.loop-height-test.true c.index-levels-height.is in
    below_more _ _ c.loop-height.invariant (subst (λ (l : List ℤ). PassesBefore l (c.args.i / 2 ^ h) x) is (c.ends_before.ensures.passed c.if-ends_before.false))

pub returns-clause-none : goal.returns-clause-none
returns-clause-none c =
    let n = length-lists_of c.args.levels.now in
    subst (λ (y : ℤ). AreAbove (level_at (lists_of c.args.levels.now) 0) y 0 c.args.i) (to_z-of_z w64 c.args.x c.ranges.x)
    (none_before (lists_of c.args.levels.now) c.requires.levels c.args.i c.requires.within (to_z w64 (of_z w64 c.args.x)) (λ k lt. c.loop-height.invariant k (omega arith)))
