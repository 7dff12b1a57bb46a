use Rattle.std.proofs.Common.{ℕ, ◌+◌, ◌-◌, ◌*◌, ◌/◌, ◌^◌, ◌≡◌, ◌∙◌, length, List, ℤ, ap, sym, subst, arith, w64, to_z, of_z}
use Rattle.std.specs.Prelude.{◌≤ℤ◌, ◌<ℤ◌}
use Rattle.std.proofs.lemmas.Int.{to_z-of_z}
use Rattle.near_smaller.specs.Nearest.{value_at, IsPrevious}
use Rattle.near_smaller.specs.Levels.{lists_of, level_at}
use Rattle.near_smaller.specs.Climbs.{PassesBefore}
use Rattle.near_smaller.proofs.Climbing.{half_before, down_before, ground, read_level, length-lists_of}
use Rattle.near_smaller.proofs.before.place_before.Goals as goal

pub last_half-place-requires : goal.last_half-place-requires
last_half-place-requires c =
    let below = c.loop-below.below in
    let n = length-lists_of c.args.levels.now in
    let top = c.requires.height.within in
    let half = half_before (lists_of c.args.levels.now) c.requires.levels c.args.i c.requires.within (to_z w64 (of_z w64 c.args.x)) below (below - 1) c.loop-below.place (omega arith) (omega arith) c.loop-below.invariant in
    let is = ap length (c.deref.ensures.value ∙ read_level c.args.levels.now (below - 1) c.index-levels-below.result (omega arith) c.index-levels-below.is) in
    omega arith

pub loop-below-preserved : goal.loop-below-preserved
loop-below-preserved c =
    let below = c.loop-below.below in
    let place = c.loop-below.place in
    let result = c.last_half-place.result in
    let x = to_z w64 (of_z w64 c.args.x) in
    let levels = lists_of c.args.levels.now in
    let n = length-lists_of c.args.levels.now in
    let top = c.requires.height.within in
    let is = c.deref.ensures.value ∙ read_level c.args.levels.now (below - 1) c.index-levels-below.result (omega arith) c.index-levels-below.is in
    down_before levels c.requires.levels c.args.i c.requires.within x below (below - 1) place result (omega arith) (omega arith)
    (subst (PassesBefore (level_at levels (below - 1)) (c.args.i / 2 ^ (below - 1))) (sym (to_z-of_z w64 c.args.x c.ranges.x)) (c.requires.height.passed (below - 1) (omega arith)))
    c.loop-below.invariant
    (subst (λ (l : List ℤ). value_at l (2 * place + 1) ≤ℤ x → result ≡ 2 * place + 1) is c.last_half-place.ensures.second)
    (subst (λ (l : List ℤ). x <ℤ value_at l (2 * place + 1) → result ≡ 2 * place) is c.last_half-place.ensures.first)

pub returns : goal.returns
returns c =
    let lowest = level_at (lists_of c.args.levels.now) 0 in
    let x = to_z w64 (of_z w64 c.args.x) in
    let is : c.loop-below.below ≡ 0 = omega arith in
    subst (λ (y : ℤ). IsPrevious lowest c.args.i y c.loop-below.place) (to_z-of_z w64 c.args.x c.ranges.x)
    (subst (λ (b : ℕ). IsPrevious lowest b x c.loop-below.place) (ground c.args.i 0 (omega arith))
    (subst (λ (h : ℕ). IsPrevious (level_at (lists_of c.args.levels.now) h) (c.args.i / 2 ^ h) x c.loop-below.place) is c.loop-below.invariant))
