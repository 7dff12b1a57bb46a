use Rattle.scan_lookback.proofs.unseen.Unseen.of.Goals as goal

pub invariant_of-result : goal.invariant_of-result
invariant_of-result c = record { looked = ∣ c.requires ∣₁ }
