use Rattle.std.proofs.Common.{ℕ, subst, sym, rules}
use Rattle.std.proofs.lemmas.List.{length-map}
use Rattle.std.proofs.lemmas.List.Sorted.{IsNonDecreasingBy-from_sort_by_key}
use Rattle.rv32_emul.specs.Stretches.{stretch_of, stretches, HavePlaces}
use Rattle.rv32_emul.proofs.Placed.{sorted-places}
use Rattle.rv32_emul.proofs.places.places_of.Goals as goal

pub returns : goal.returns
returns c =
    sorted-places (stretches c.args.regions.now) c.in_ok-places.places.items c.sort_unstable_by_key.new.self.items (subst (λ (n : ℕ). HavePlaces (stretches c.args.regions.now) n c.in_ok-places.places.items) (sym (length-map c.args.regions.now stretch_of)) c.in_ok-places.ensures) c.sort_unstable_by_key.ensures.permutation
    (IsNonDecreasingBy-from_sort_by_key (λ p. p.start) c.sort_unstable_by_key.new.self.items c.sort_unstable_by_key.ensures.sorted (λ a r q k. search rules))
