-- The lists that a run picks are those of its items.
use Rattle.std.proofs.Common.{◌≡◌, ℕ, ◌<◌, List, length, map, All, Some, refl, sym, ap, ◌∙◌}
use Rattle.std.proofs.lemmas.List.{length-map}
use Rattle.std.proofs.lemmas.List.Elements.{All-map}
use Rattle.std.proofs.lemmas.Option.{slice_get-map}
use Rattle.std.specs.Prelude.{option_map}
use Rattle.word_monoid.specs.Monoid.{Ops, IsItem, IsMonoid}
use Rattle.word_monoid.specs.Folds.{prefixes_from}
use Rattle.word_monoid.specs.Laws.Folds.{all_at}
use Rattle.scan_lookback.specs.Named.{Names}
use Rattle.scan_lookback.specs.Cuts.{Scans, sums_of}
use Rattle.scan_lookback.specs.Laws.Cutting.{sums_are_items}

module _ {T I : Type 0} (ops : Ops I) (of : T → I) (items : List T) (ok : All (λ x. IsItem ops (of x)) items) (size : ℕ) (pos : 0 < size) where
  abbrev lifted : List I
  lifted = map of items

  lifted_items : All (IsItem ops) lifted
  lifted_items = All-map (IsItem ops) of items ok

  pub scans_of : (post : T → I → Type 0) → All (λ x. (r : I) → post x r → r ≡ of x) items → Scans ops post size items lifted (sums_of ops size lifted)
  scans_of post gives = record {
    lifts = record {
      as_many = length-map items of;
      each = λ i x r at p. slice_get-map of items i ∙ (ap (option_map of) at ∙ ap Some (sym (all_at (λ x. (r : I) → post x r → r ≡ of x) items i x gives at r p)));
    };
    accepted = lifted_items;
    cut = refl;
  }

  pub names_of : IsMonoid ops → Names ops (sums_of ops size lifted) (map ops.code (sums_of ops size lifted)) (map ops.code (prefixes_from ops (sums_of ops size lifted) 1 (length (sums_of ops size lifted))))
  names_of laws = record { items = sums_are_items ops laws size pos lifted lifted_items; sums_coded = refl; prefixes_coded = refl }
