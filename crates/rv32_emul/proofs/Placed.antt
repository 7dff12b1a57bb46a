-- The places of regions: one more of them, in order, and the one that an address has.
use Rattle.std.proofs.Common.{◌≡◌, ℕ, ◌+◌, ◌-◌, ◌<◌, ◌≤◌, List, [], ◌∷◌, ◌++◌, length, get_or, true, false, refl, sym, ap, subst, ◌∙◌, arith, ⊎_elim, below_more, leb, leb-true, leb-false}
use Rattle.std.specs.Prelude.{Contains, ◌==◌}
use Rattle.std.specs.List.Sorted.{IsPermutation, IsNonDecreasingBy, IsPartitionPoint}
use Rattle.std.proofs.lemmas.List.Sorted.{All-permutation, Contains-permutation}
use Rattle.std.proofs.lemmas.List.{get_or-map, get_or_default, length-map}
use Rattle.std.proofs.lemmas.List.Elements.{All-push, Contains-push, Contains-append_left}
use Rattle.std.proofs.lemmas.Bool.{cases_lt}
use Rattle.std.proofs.lemmas.Bool.Decides.{nat_tests}
use Rattle.rv_isa.specs.Memory.{Region}
use Rattle.elf_file.specs.Load.{overlap}
use Rattle.rv32_emul.specs.declared.places.Place.{Place}
use Rattle.rv32_emul.specs.Stretches.{stretch_of, stretches, AreApart, Covers, IsPlaceOf, HavePlaces, ArePlacesOf}

pub sorted-places : (ss : List (ℕ × ℕ)) (ps qs : List Place) → HavePlaces ss (length ss) ps → IsPermutation ps qs → IsNonDecreasingBy (λ p. p.start) qs → ArePlacesOf ss qs
sorted-places ss ps qs have moved up = (
  up,
  record {
    sound = All-permutation (IsPlaceOf ss) ps qs moved have.sound;
    whole = λ k lt some. Contains-permutation ps qs (record { start = (get_or ss k (0, 0)).0; region = k }) moved (have.whole k lt some);
  },
)

meets_turned : (s e t f a : ℕ) → overlap t f s e ≡ false → s ≤ a → a < f → t ≤ s → s < e → ⊥
meets_turned s e t f a h low high before some = grind (arith, nat_tests)

meets : (s e t f a : ℕ) → overlap s e t f ≡ false → s ≤ a → a < f → t ≤ s → s < e → ⊥
meets s e t f a h low high before some = grind (arith, nat_tests)

abbrev place : List (ℕ × ℕ) → ℕ → Place
place ss k = record { start = (get_or ss k (0, 0)).0; region = k }

-- the first n places begin at or below a, and the others behind it
abbrev pub Parted : List Place → ℕ → ℕ → Type 0
Parted ps a n = IsPartitionPoint (λ (p : Place). leb p.start a ≡ true) (λ (p : Place). leb p.start a ≡ false) ps n

not_behind : (s a : ℕ) → s ≤ a → leb s a ≡ false → ⊥
not_behind s a low h = omega (arith, low, leb-false s a h)

below_part : (ps : List Place) (a n j : ℕ) (p : Place) → Parted ps a n → j < length ps → get_or ps j p ≡ p → p.start ≤ a → j < n
below_part ps a n j p parted inside is low =
    ⊎_elim (λ lt. lt) (λ ge. absurd (not_behind p.start a low (subst (λ (q : Place). leb q.start a ≡ false) is (parted.1 j p ge inside)))) (cases_lt j n)

-- the place of a stretch that covers a is one of the first n
earlier : (ss : List (ℕ × ℕ)) (ps : List Place) (a n k : ℕ) → ArePlacesOf ss ps → Parted ps a n → k < length ss → Covers (get_or ss k (0, 0)) a
    → (j : ℕ) × (j < n) × (get_or ps j (place ss k) ≡ place ss k)
earlier ss ps a n k places parted lt covers =
    let low : (get_or ss k (0, 0)).0 ≤ a = covers.0 in
    let high : a < (get_or ss k (0, 0)).1 = covers.1 in
    let there = places.1.whole k lt (omega (arith, low, high)) in
    (there.0, below_part ps a n there.0 (place ss k) parted there.1 there.2 low, there.2)

pub none-before : (ss : List (ℕ × ℕ)) (ps : List Place) (a : ℕ) → ArePlacesOf ss ps → Parted ps a 0 → (k : ℕ) → k < length ss → Covers (get_or ss k (0, 0)) a → ⊥
none-before ss ps a places parted k lt covers =
    let there = earlier ss ps a 0 k places parted lt covers in
    let below : there.0 < 0 = there.1 in
    omega (arith, below)

-- two stretches of one address are the same
one-covers : (ss : List (ℕ × ℕ)) (k q a : ℕ) → AreApart ss → k < length ss → q < length ss → Covers (get_or ss k (0, 0)) a → (get_or ss k (0, 0)).0 ≤ (get_or ss q (0, 0)).0 → (get_or ss q (0, 0)).0 ≤ a → (get_or ss q (0, 0)).0 < (get_or ss q (0, 0)).1 → k ≡ q
one-covers ss k q a apart inside_k inside_q covers before low some =
    ⊎_elim (λ lt. absurd (meets (get_or ss q (0, 0)).0 (get_or ss q (0, 0)).1 (get_or ss k (0, 0)).0 (get_or ss k (0, 0)).1 a (apart k q lt inside_q) low covers.1 before some))
    (λ ge. ⊎_elim (λ lt. absurd (meets_turned (get_or ss q (0, 0)).0 (get_or ss q (0, 0)).1 (get_or ss k (0, 0)).0 (get_or ss k (0, 0)).1 a (apart q k lt inside_k) low covers.1 before some)) (λ le. omega (arith, ge, le)) (cases_lt q k))
    (cases_lt k q)

-- the last of them is the only one
pub last-only : (ss : List (ℕ × ℕ)) (ps : List Place) (a n : ℕ) (p : Place) → AreApart ss → ArePlacesOf ss ps → Parted ps a n → 0 < n → n ≤ length ps → p ≡ get_or ps (n - 1) p
    → (p.region < length ss) × ((k : ℕ) → k < length ss → Covers (get_or ss k (0, 0)) a → k ≡ p.region)
last-only ss ps a n p apart places parted some few is =
    let inside : n - 1 < length ps = omega (arith, some, few) in
    let sound : IsPlaceOf ss p = subst (IsPlaceOf ss) (sym is) (places.1.sound (n - 1) p inside) in
    let low : p.start ≤ a = leb-true p.start a (subst (λ (q : Place). leb q.start a ≡ true) (sym is) (parted.0 (n - 1) p (omega arith) (omega (arith, some)))) in (
      sound.0,
      λ k lt covers.
          let there = earlier ss ps a n k places parted lt covers in
          let below : there.0 < n = there.1 in
          let up : (get_or ps there.0 (place ss k)).start ≤ (get_or ps (n - 1) (place ss k)).start = places.0 there.0 (n - 1) (place ss k) (omega (arith, below, some)) inside in
          let here : get_or ps (n - 1) (place ss k) ≡ p = get_or_default ps (n - 1) (place ss k) p inside ∙ sym is in
          let before : (get_or ss k (0, 0)).0 ≤ p.start = rw (there.2, here) at up in
          one-covers ss k p.region a apart lt sound.0 covers (rw sound.1 before) (rw sound.1 low) (rw sound.1 sound.2),
    )

-- a stretch that has no address has no place, and one that has some has one more
pub places-skip : (ss : List (ℕ × ℕ)) (n : ℕ) (ps : List Place) → HavePlaces ss n ps → ((get_or ss n (0, 0)).0 < (get_or ss n (0, 0)).1 → ⊥) → HavePlaces ss (n + 1) ps
places-skip ss n ps have none = record {
  sound = have.sound;
  whole = λ k lt. below_more (λ k. (get_or ss k (0, 0)).0 < (get_or ss k (0, 0)).1 → Contains ps (place ss k)) n have.whole (λ some. absurd (none some)) k lt;
}

pub places-more : (ss : List (ℕ × ℕ)) (n : ℕ) (ps new : List Place) (p : Place) → HavePlaces ss n ps → new ≡ ps ++ p ∷ [] → p ≡ place ss n → n < length ss → (get_or ss n (0, 0)).0 < (get_or ss n (0, 0)).1 → HavePlaces ss (n + 1) new
places-more ss n ps new p have pushed is inside some = subst (HavePlaces ss (n + 1)) (sym pushed) record {
  sound = All-push (IsPlaceOf ss) ps p have.sound (rw is (inside, refl, some));
  whole = λ k lt. below_more (λ k. (get_or ss k (0, 0)).0 < (get_or ss k (0, 0)).1 → Contains (ps ++ p ∷ []) (place ss k)) n
      (λ k below some. Contains-append_left ps (p ∷ []) (place ss k) (have.whole k below some))
      (λ some. subst (Contains (ps ++ p ∷ [])) is (Contains-push ps p)) k lt;
}

-- the same of a region
ends_behind : (xs : List Region) (n : ℕ) (r : Region) → n < length xs → r ≡ get_or xs n r → get_or (stretches xs) n (0, 0) ≡ stretch_of r
ends_behind xs n r inside is = get_or-map stretch_of xs n r (0, 0) inside ∙ ap stretch_of (sym is)

pub region-skip : (xs : List Region) (n : ℕ) (ps : List Place) (r : Region) → HavePlaces (stretches xs) n ps → n < length xs → r ≡ get_or xs n r → true ≡ (length r.bytes == 0) → HavePlaces (stretches xs) (n + 1) ps
region-skip xs n ps r have inside is none = places-skip (stretches xs) n ps have (λ some. let more : r.start < r.start + length r.bytes = rw (ends_behind xs n r inside is) at some in grind (arith, nat_tests))

pub region-more : (xs : List Region) (n : ℕ) (ps new : List Place) (r : Region) (start : ℕ) → HavePlaces (stretches xs) n ps → n < length xs → r ≡ get_or xs n r → false ≡ (length r.bytes == 0) → start ≡ r.start → new ≡ ps ++ record { start = start; region = n } ∷ [] → HavePlaces (stretches xs) (n + 1) new
region-more xs n ps new r start have inside is some begins pushed =
    let here = ends_behind xs n r inside is in
    let more : r.start < r.start + length r.bytes = grind (arith, nat_tests) in
    places-more (stretches xs) n ps new (record { start = start; region = n }) have pushed
    (λ i. record { start = (begins ∙ sym (ap (λ (s : ℕ × ℕ). s.0) here)) i; region = n })
    (omega (arith, inside, length-map xs stretch_of)) (rw here more)
