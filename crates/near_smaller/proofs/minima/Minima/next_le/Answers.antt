use Rattle.std.proofs.Common.{◌∙◌, ◌+◌, List, ℤ, Some, None, length, ap, subst, w64, to_z, of_z}
use Rattle.std.specs.Global.{Vec}
use Rattle.std.proofs.lemmas.Int.{to_z-of_z}
use Rattle.near_smaller.specs.Nearest.{IsNext, AreAbove, next_le}
use Rattle.near_smaller.specs.Levels.{lists_of, level_at}
use Rattle.near_smaller.proofs.Answering.{next_le_given, same_next}
use Rattle.near_smaller.proofs.minima.Minima.next_le.Goals as goal

pub returns-in_err-height-clause-value : goal.returns-in_err-height-clause-value
returns-in_err-height-clause-value c =
    let values = c.args.self.now in
    let is = ap (λ (levels : List (Vec ℤ)). level_at (lists_of levels) 0) c.deref.ensures.value ∙ c.self.view_is in
    let all = subst (λ (l : List ℤ). AreAbove l (to_z w64 (of_z w64 c.args.x)) (c.args.i + 1) (length l)) is c.in_err-height.ensures.none in
    c.from_residual.ensures ∙ same_next values c.args.i c.args.x None (next_le values c.args.i c.args.x)
    (subst (λ (y : ℤ). AreAbove values y (c.args.i + 1) (length values)) (to_z-of_z w64 c.args.x c.ranges.x) all) (next_le_given values c.args.i c.args.x)

pub returns-clause-value : goal.returns-clause-value
returns-clause-value c =
    let values = c.args.self.now in
    let place = c.place_behind.result in
    let is = ap (λ (levels : List (Vec ℤ)). level_at (lists_of levels) 0) c.deref-2.ensures.value ∙ c.self.view_is in
    let near = subst (λ (l : List ℤ). IsNext l c.args.i (to_z w64 (of_z w64 c.args.x)) place) is c.place_behind.ensures in
    same_next values c.args.i c.args.x (Some place) (next_le values c.args.i c.args.x)
    (subst (λ (y : ℤ). IsNext values c.args.i y place) (to_z-of_z w64 c.args.x c.ranges.x) near) (next_le_given values c.args.i c.args.x)
