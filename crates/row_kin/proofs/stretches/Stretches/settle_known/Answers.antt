-- The goals of `settle_known` that stay open.
use Rattle.std.proofs.Common.{ℕ, List, length, map, refl, sym, ap, ◌∙◌, subst}
use Rattle.std.proofs.lemmas.List.{length-map}
use Rattle.row_kin.specs.Settles.{Stretched}
use Rattle.row_kin.specs.Alone.{ties_by_stretches}
use Rattle.row_kin.proofs.Joined.{joined_many, joined_alone}
use Rattle.row_kin.proofs.stretches.Stretches.settle_known.Goals as goal

pub settle-requires-clause-parents : goal.settle-requires-clause-parents
settle-requires-clause-parents c = ap length c.requires.parents ∙ length-map (ties_by_stretches c.args.self.now.lows.now c.args.self.now.ends.now) (λ t. t.parent) ∙ joined_many c.args.self.now.lows.now c.args.self.now.ends.now (length c.args.self.now.lows.now) c.requires.cuts refl

pub settle-requires-clause-firsts : goal.settle-requires-clause-firsts
settle-requires-clause-firsts c = ap length c.requires.firsts ∙ length-map (ties_by_stretches c.args.self.now.lows.now c.args.self.now.ends.now) (λ t. t.low) ∙ joined_many c.args.self.now.lows.now c.args.self.now.ends.now (length c.args.self.now.lows.now) c.requires.cuts refl

pub settle-requires-clause-places : goal.settle-requires-clause-places
settle-requires-clause-places c = ap length c.requires.places ∙ length-map (ties_by_stretches c.args.self.now.lows.now c.args.self.now.ends.now) (λ t. t.place) ∙ joined_many c.args.self.now.lows.now c.args.self.now.ends.now (length c.args.self.now.lows.now) c.requires.cuts refl

pub settle-requires-clause-stretches : goal.settle-requires-clause-stretches
settle-requires-clause-stretches c =
    let ties = ties_by_stretches c.args.self.now.lows.now c.args.self.now.ends.now in
    subst (λ (a : List ℕ). Stretched c.args.self.now.lows.now a c.args.firsts.now c.args.places.now c.args.self.now.ends.now 0 (length c.args.self.now.ends.now)) (sym c.requires.parents)
    (subst (λ (a : List ℕ). Stretched c.args.self.now.lows.now (map (λ t. t.parent) ties) a c.args.places.now c.args.self.now.ends.now 0 (length c.args.self.now.ends.now)) (sym c.requires.firsts)
    (subst (λ (a : List ℕ). Stretched c.args.self.now.lows.now (map (λ t. t.parent) ties) (map (λ t. t.low) ties) a c.args.self.now.ends.now 0 (length c.args.self.now.ends.now)) (sym c.requires.places)
    (joined_alone c.args.self.now.lows.now c.args.self.now.ends.now (length c.args.self.now.lows.now) c.requires.cuts refl)))
