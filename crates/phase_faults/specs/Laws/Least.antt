-- The least of keys tells the earliest fault.
use Rattle.std.proofs.Common.{◌≡◌, ℕ, zero, suc, ◌/◌, ◌%◌, ◌^◌, ◌<◌, ◌≤◌, min, ◌⊎◌, inl, inr, Bool, true, false, List, [], ◌∷◌, length, map, fold, get_or, Option, Some, None, refl, sym, ap, subst, ◌∙◌, arith}
use Rattle.std.specs.Prelude.{◌==◌, if◌then◌else◌, flat_map}
use Rattle.std.specs.List.{range_with_len}
use Rattle.std.proofs.lemmas.Bool.{cases_lt, eq-eqb, ne_eqb}
use Rattle.std.proofs.lemmas.List.FromFn.{length-map-range_with_len, get_or-map-range_with_len, length-range_with_len, get_or-range_with_len}
use Rattle.source_meaning.specs.Scope.{Fault, fault_if, earliest}
use Rattle.phase_faults.specs.Keys.{key_of, key_if, AreCodes, IsAmong, IsFirst, no_key, fault_of_key, IsKey, Tells, IsLeastKey}
use Rattle.phase_faults.specs.Laws.Among.{among_flat, flat_among}
use Rattle.phase_faults.specs.Laws.Earliest.{earliest_first}

-- ---- the least of numbers

min_start : (a : ℕ) (xs : List ℕ) → fold min a xs ≤ a
min_start a [] = omega arith
min_start a (x ∷ xs) = let h : fold min (min a x) xs ≤ min a x = min_start (min a x) xs in omega arith

pub min_each : (a : ℕ) (xs : List ℕ) (k d : ℕ) → k < length xs → fold min a xs ≤ get_or xs k d
min_each a [] k d l = absurd (omega arith)
min_each a (x ∷ xs) zero d l = let h : fold min (min a x) xs ≤ min a x = min_start (min a x) xs in omega arith
min_each a (x ∷ xs) (suc k) d l = min_each (min a x) xs k d (omega arith)

pub min_met : (a : ℕ) (xs : List ℕ) (d : ℕ) → (fold min a xs ≡ a) ⊎ ((k : ℕ) × (k < length xs) × (fold min a xs ≡ get_or xs k d))
min_met a [] d = inl refl
min_met a (x ∷ xs) d = go (min_met (min a x) xs d) (cases_lt a x)
  where
    go : (fold min (min a x) xs ≡ min a x) ⊎ ((k : ℕ) × (k < length xs) × (fold min (min a x) xs ≡ get_or xs k d)) → (a < x) ⊎ (x ≤ a)
        → (fold min (min a x) xs ≡ a) ⊎ ((k : ℕ) × (k < length (x ∷ xs)) × (fold min (min a x) xs ≡ get_or (x ∷ xs) k d))
    go (inl e) (inl l) = let s : min a x ≡ a = omega arith in inl (e ∙ s)
    go (inl e) (inr l) = let s : min a x ≡ x = omega arith in inr (0, omega arith, e ∙ s)
    go (inr h) l = inr (suc h.0, (let c = h.1 in omega arith), h.2)

-- ---- keys and faults

codes_of : (fs : List Fault) → ((x : Fault) → IsAmong x fs → x.code < 1024) → AreCodes fs
codes_of [] h = tt
codes_of (f ∷ fs) h = (h f (inl refl), codes_of fs (λ x i. h x (inr i)))

key_again : (m : ℕ) (f : Fault) → m ≡ key_of f → f.code < 1024 → f.at < 2 ^ 32 → fault_of_key m ≡ Some f
key_again m f e c l =
    let ne : (m == no_key) ≡ false = ne_eqb m no_key (λ s. absurd (omega arith)) in
    let at : m / 1024 ≡ f.at = omega arith in
    let code : m % 1024 ≡ f.code = omega arith in
    ap (λ b. if b then None else Some (record { at = m / 1024; code = m % 1024 })) ne ∙ (λ i. Some (record { at = at i; code = code i }))

-- a number that is at most each fault's key, and the key of one of them or of none
module _ (fs : List Fault) (m : ℕ) (below : (x : Fault) → IsAmong x fs → (m ≤ key_of x) × (x.code < 1024) × (x.at < 2 ^ 32)) (met : (m ≡ no_key) ⊎ ((x : Fault) × IsAmong x fs × (m ≡ key_of x))) where
  fits : IsKey m
  fits = elim met [
    | inl e ↦ inl e
    | inr x ↦
        let t = below x.0 x.1 in
        let c = t.1 in
        let b = t.2 in
        let e = x.2 in
        inr (omega arith)
  ]

  told : fault_of_key m ≡ earliest fs
  told = go (earliest fs) (earliest_first fs (codes_of fs (λ x i. (below x i).1))) met
    where
      empty : (x : Fault) (gs : List Fault) → gs ≡ [] → IsAmong x gs → ⊥
      empty x gs e i = subst (λ l. IsAmong x l) e i

      go : (o : Option Fault) → IsFirst fs o → (m ≡ no_key) ⊎ ((x : Fault) × IsAmong x fs × (m ≡ key_of x)) → fault_of_key m ≡ o
      go None f (inl e) = ap (λ b. if b then None else Some (record { at = m / 1024; code = m % 1024 })) (eq-eqb m no_key e)
      go None f (inr a) = absurd (empty a.0 fs f a.1)
      go (Some g) f (inl e) =
          let t = below g f.0 in
          let le = t.0 in
          let c = t.1 in
          let b = t.2 in
          absurd (omega (arith, e))
      go (Some g) f (inr a) =
          let t = below g f.0 in
          let le = t.0 in
          let ge = f.1 a.0 a.1 in
          let e = a.2 in
          let same : m ≡ key_of g = omega arith in
          key_again m g same t.1 t.2

  pub least_is : IsLeastKey fs m
  least_is = record { told = told; fits = fits }

-- ---- the keys of rows

module _ (fs : List Fault) (n : ℕ) (h : ℕ → ℕ) (low : (x : Fault) → IsAmong x fs → (k : ℕ) × (k < n) × (h k ≤ key_of x) × (x.code < 1024) × (x.at < 2 ^ 32)) (met : (k : ℕ) → k < n → (h k ≡ no_key) ⊎ ((x : Fault) × IsAmong x fs × (h k ≡ key_of x))) where
  abbrev keys : List ℕ
  keys = map h (range_with_len 0 n)

  abbrev all : ℕ
  all = fold min no_key keys

  many : length keys ≡ n
  many = length-map-range_with_len h 0 n

  key_read : (k : ℕ) → k < n → get_or keys k no_key ≡ h k
  key_read k l = get_or-map-range_with_len h 0 n k k no_key l (omega arith)

  -- a fault's key is at least the least one
  above : (x : Fault) → IsAmong x fs → (all ≤ key_of x) × (x.code < 1024) × (x.at < 2 ^ 32)
  above x i =
      let r = low x i in
      let le : all ≤ get_or keys r.0 no_key = min_each no_key keys r.0 no_key (let l = r.1 in omega (arith, many)) in
      let e : get_or keys r.0 no_key ≡ h r.0 = key_read r.0 r.1 in
      let g = r.2 in
      (omega arith, r.3, r.4)

  -- the least key is that of a fault, or there is none
  least_met : (all ≡ no_key) ⊎ ((x : Fault) × IsAmong x fs × (all ≡ key_of x))
  least_met = elim (min_met no_key keys no_key) [
    | inl e ↦ inl e
    | inr r ↦
        let l : r.0 < n = (let c = r.1 in omega (arith, many)) in
        elim (met r.0 l) [
          | inl none ↦ inl (r.2 ∙ (key_read r.0 l ∙ none))
          | inr x ↦ inr (x.0, x.1, r.2 ∙ (key_read r.0 l ∙ x.2))
        ]
  ]

  pub least_of_rows : IsLeastKey fs all
  least_of_rows = least_is fs all above least_met

-- ---- one fault or none

pub tells_if : (b c : Bool) (at token code : ℕ) → c ≡ b → token ≡ at → code < 1024 → at < 2 ^ 32 → Tells (fault_if b at code) (key_if c token code)
tells_if b c at token code e f small low = subst (λ m. Tells (fault_if b at code) m) (λ i. key_if (sym e i) (sym f i) code) (go b)
  where
    go : (b : Bool) → Tells (fault_if b at code) (key_if b at code)
    go true = inr (record { at = at; code = code }, refl, refl, small, low)
    go false = inl (refl, refl)

pub tells_among : (fs : List Fault) (m : ℕ) → Tells fs m → (x : Fault) → IsAmong x fs → (m ≡ key_of x) × (x.code < 1024) × (x.at < 2 ^ 32)
tells_among fs m (inl h) x i = absurd (subst (λ l. IsAmong x l) h.0 i)
tells_among fs m (inr h) x i = go (subst (λ l. IsAmong x l) h.1 i)
  where
    go : IsAmong x (h.0 ∷ []) → (m ≡ key_of x) × (x.code < 1024) × (x.at < 2 ^ 32)
    go (inl e) = subst (λ y. (m ≡ key_of y) × (y.code < 1024) × (y.at < 2 ^ 32)) (sym e) (h.2, h.3, h.4)
    go (inr z) = absurd z

-- a key that stands for a fault is that of one
pub tells_some : (fs : List Fault) (m : ℕ) → Tells fs m → (m ≡ no_key) ⊎ ((x : Fault) × IsAmong x fs × (m ≡ key_of x))
tells_some fs m (inl h) = inl h.1
tells_some fs m (inr h) = inr (h.0, subst (λ l. IsAmong h.0 l) (sym h.1) (inl refl), h.2)

-- the faults of all rows, where each has one or none
pub rows_first : (g : ℕ → List Fault) (h : ℕ → ℕ) (n : ℕ) → ((k : ℕ) → k < n → Tells (g k) (h k)) → IsLeastKey (flat_map g (range_with_len 0 n)) (fold min no_key (map h (range_with_len 0 n)))
rows_first g h n tells = least_of_rows (flat_map g (range_with_len 0 n)) n h low met
  where
    place : (k : ℕ) → k < n → get_or (range_with_len 0 n) k 0 ≡ k
    place k l = let e = get_or-range_with_len 0 n k 0 l in omega arith

    low : (x : Fault) → IsAmong x (flat_map g (range_with_len 0 n)) → (k : ℕ) × (k < n) × (h k ≤ key_of x) × (x.code < 1024) × (x.at < 2 ^ 32)
    low x i =
        let a = among_flat g 0 x (range_with_len 0 n) i in
        let l : a.0 < n = (let c = a.1 in omega (arith, length-range_with_len 0 n)) in
        let t = tells_among (g a.0) (h a.0) (tells a.0 l) x (subst (λ (k : ℕ). IsAmong x (g k)) (place a.0 l) a.2) in
        (a.0, l, (let e = t.0 in omega arith), t.1, t.2)

    met : (k : ℕ) → k < n → (h k ≡ no_key) ⊎ ((x : Fault) × IsAmong x (flat_map g (range_with_len 0 n)) × (h k ≡ key_of x))
    met k l = elim (tells_some (g k) (h k) (tells k l)) [
      | inl e ↦ inl e
      | inr x ↦ inr (x.0, flat_among g 0 x.0 (range_with_len 0 n) k (omega (arith, l, length-range_with_len 0 n)) (subst (λ (j : ℕ). IsAmong x.0 (g j)) (sym (place k l)) x.1), x.2)
    ]
