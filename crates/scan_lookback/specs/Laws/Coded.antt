-- What a status word says, by the codes of the sums and of the prefixes.
use Rattle.std.proofs.Common.{◌≡◌, ℕ, ◌+◌, ◌*◌, ◌/◌, ◌<◌, ◌^◌, List, length, get_or, Some, slice_get, refl, sym, ap, ◌∙◌, subst, arith}
use Rattle.std.proofs.lemmas.List.{get_or-map, length-map}
use Rattle.std.proofs.lemmas.List.FromFn.{length-map-range_with_len, get_or-map-range_with_len}
use Rattle.word_monoid.specs.Monoid.{Ops, IsItem, IsCode, IsMonoid}
use Rattle.word_monoid.specs.Folds.{prefix_of, prefixes_from}
use Rattle.word_monoid.specs.Laws.Folds.{get_below, get_at, all_at, prefix_item}
use Rattle.scan_lookback.specs.Named.{Names}
use Rattle.scan_lookback.specs.Laws.Lists.{get_there}

module _ {T : Type 0} (ops : Ops T) (laws : IsMonoid ops) (sums : List T) (sum_codes prefix_codes : List ℕ) (names : Names ops sums sum_codes prefix_codes) where
  pub sum_item : (c : ℕ) (x : T) → slice_get sums c ≡ Some x → IsItem ops x
  sum_item c x at = all_at (IsItem ops) sums c x names.items at

  pub prefix_is_item : (c : ℕ) → IsItem ops (prefix_of ops sums c)
  prefix_is_item c = prefix_item ops laws sums c names.items

  pub sum_coded : (c : ℕ) (x : T) → slice_get sums c ≡ Some x → (ops.code x < 2 ^ 62) × (ops.code x ≡ get_or sum_codes c 0)
  sum_coded c x at =
      let is : get_or sum_codes c 0 ≡ ops.code x =
      ap (λ (l : List ℕ). get_or l c 0) names.sums_coded ∙ (get_or-map ops.code sums c x 0 (get_below sums c x at) ∙ ap ops.code (get_at sums c x at)) in
      (laws.fits x (sum_item c x at), sym is)

  pub prefix_coded : (c : ℕ) (x : T) → c < length sums → x ≡ prefix_of ops sums (c + 1) → IsItem ops x × (ops.code x < 2 ^ 62) × (ops.code x ≡ get_or prefix_codes c 0)
  prefix_coded c x near is =
      let item : IsItem ops x = subst (IsItem ops) (sym is) (prefix_is_item (c + 1)) in
      let there : get_or prefix_codes c 0 ≡ ops.code x =
      ap (λ (l : List ℕ). get_or l c 0) names.prefixes_coded
      ∙ (get_or-map ops.code (prefixes_from ops sums 1 (length sums)) c ops.unit 0 (omega (arith, length-map-range_with_len (prefix_of ops sums) 1 (length sums)))
      ∙ ap ops.code (get_or-map-range_with_len (prefix_of ops sums) 1 (length sums) c (c + 1) ops.unit near (omega arith) ∙ sym is)) in
      (item, laws.fits x item, sym there)

  -- a word that says a sum
  pub says_sum : (c word : ℕ) → c < length sums → word ≡ 4 * get_or sum_codes c 0 + 1 → IsCode ops (word / 4)
  says_sum c word near is =
      let t = get_there sums c near in let coded = sum_coded c t.0 t.1 in
      (t.0, sum_item c t.0 t.1, omega (arith, coded.1))

  pub reads_sum : (c word : ℕ) (x : T) → c < length sums → word ≡ 4 * get_or sum_codes c 0 + 1 → x ≡ ops.decode (word / 4) → (word ≡ 4 * ops.code x + 1) × (slice_get sums c ≡ Some x)
  reads_sum c word x near is read =
      let t = get_there sums c near in let coded = sum_coded c t.0 t.1 in
      let quarter : word / 4 ≡ ops.code t.0 = omega (arith, coded.1) in
      let same : x ≡ t.0 = read ∙ (ap ops.decode quarter ∙ laws.decodes t.0 (sum_item c t.0 t.1)) in
      let word_is : word ≡ 4 * ops.code t.0 + 1 = omega (arith, coded.1) in
      (word_is ∙ ap (λ (y : T). 4 * ops.code y + 1) (sym same), t.1 ∙ ap Some (sym same))

  -- a word that says a prefix
  pub says_prefix : (c word : ℕ) → c < length sums → word ≡ 4 * get_or prefix_codes c 0 + 2 → IsCode ops (word / 4)
  says_prefix c word near is =
      let coded = prefix_coded c (prefix_of ops sums (c + 1)) near refl in
      (prefix_of ops sums (c + 1), coded.0, omega (arith, coded.2))

  pub reads_prefix : (c word : ℕ) (x : T) → c < length sums → word ≡ 4 * get_or prefix_codes c 0 + 2 → x ≡ ops.decode (word / 4) → (word ≡ 4 * ops.code x + 2) × (x ≡ prefix_of ops sums (c + 1))
  reads_prefix c word x near is read =
      let coded = prefix_coded c (prefix_of ops sums (c + 1)) near refl in
      let quarter : word / 4 ≡ ops.code (prefix_of ops sums (c + 1)) = omega (arith, coded.2) in
      let same : x ≡ prefix_of ops sums (c + 1) = read ∙ (ap ops.decode quarter ∙ laws.decodes (prefix_of ops sums (c + 1)) coded.0) in
      let word_is : word ≡ 4 * ops.code (prefix_of ops sums (c + 1)) + 2 = omega (arith, coded.2) in
      (word_is ∙ ap (λ (y : T). 4 * ops.code y + 2) (sym same), same)

  pub length-codes : length sum_codes ≡ length sums
  length-codes = ap length names.sums_coded ∙ length-map sums ops.code
