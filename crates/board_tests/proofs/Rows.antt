-- The lists of the tests' boards.
use Rattle.std.proofs.Common.{◌^◌, [], ◌∷◌, refl}
use Rattle.std.specs.Prelude.{nat_lt}
use Rattle.std.proofs.lemmas.List.Sums.{AllPass-from_list_all}
use Rattle.word_monoid.specs.Instances.{count}
use Rattle.scan_lookback.specs.Named.{Names}

pub four_and_five : Names count (4 ∷ 5 ∷ []) (4 ∷ 5 ∷ []) (4 ∷ 9 ∷ [])
four_and_five = record { items = AllPass-from_list_all (λ x. nat_lt x (2 ^ 62)) (4 ∷ 5 ∷ []) refl; sums_coded = refl; prefixes_coded = refl }

pub four_fives : Names count (5 ∷ 5 ∷ 5 ∷ 5 ∷ []) (5 ∷ 5 ∷ 5 ∷ 5 ∷ []) (5 ∷ 10 ∷ 15 ∷ 20 ∷ [])
four_fives = record { items = AllPass-from_list_all (λ x. nat_lt x (2 ^ 62)) (5 ∷ 5 ∷ 5 ∷ 5 ∷ []) refl; sums_coded = refl; prefixes_coded = refl }

pub three_chunks : Names count (4 ∷ 5 ∷ 5 ∷ []) (4 ∷ 5 ∷ 5 ∷ []) (4 ∷ 9 ∷ 14 ∷ [])
three_chunks = record { items = AllPass-from_list_all (λ x. nat_lt x (2 ^ 62)) (4 ∷ 5 ∷ 5 ∷ []) refl; sums_coded = refl; prefixes_coded = refl }
