use Rattle.std.proofs.Common.{◌∙◌, List, ℤ, Some, None, ap, subst, w64, to_z, of_z}
use Rattle.std.specs.Global.{Vec}
use Rattle.std.proofs.lemmas.Int.{to_z-of_z}
use Rattle.near_smaller.specs.Nearest.{IsPrevious, AreAbove, prev_le}
use Rattle.near_smaller.specs.Levels.{lists_of, level_at}
use Rattle.near_smaller.proofs.Answering.{prev_le_given, same_previous}
use Rattle.near_smaller.proofs.minima.Minima.prev_le.Goals as goal

pub returns-in_err-height-clause-value : goal.returns-in_err-height-clause-value
returns-in_err-height-clause-value c =
    let values = c.args.self.now in
    let is = ap (λ (levels : List (Vec ℤ)). level_at (lists_of levels) 0) c.deref.ensures.value ∙ c.self.view_is in
    let all = subst (λ (l : List ℤ). AreAbove l (to_z w64 (of_z w64 c.args.x)) 0 c.args.i) is c.in_err-height.ensures.none in
    c.from_residual.ensures ∙ same_previous values c.args.i c.args.x None (prev_le values c.args.i c.args.x)
    (subst (λ (y : ℤ). AreAbove values y 0 c.args.i) (to_z-of_z w64 c.args.x c.ranges.x) all) (prev_le_given values c.args.i c.args.x)

pub returns-clause-value : goal.returns-clause-value
returns-clause-value c =
    let values = c.args.self.now in
    let place = c.place_before.result in
    let is = ap (λ (levels : List (Vec ℤ)). level_at (lists_of levels) 0) c.deref-2.ensures.value ∙ c.self.view_is in
    let near = subst (λ (l : List ℤ). IsPrevious l c.args.i (to_z w64 (of_z w64 c.args.x)) place) is c.place_before.ensures in
    same_previous values c.args.i c.args.x (Some place) (prev_le values c.args.i c.args.x)
    (subst (λ (y : ℤ). IsPrevious values c.args.i y place) (to_z-of_z w64 c.args.x c.ranges.x) near) (prev_le_given values c.args.i c.args.x)
