-- Regions that do not meet: at most one has an address. A store changes no stretch.
use Rattle.std.proofs.Common.{◌≡◌, ℕ, zero, suc, ◌+◌, ◌-◌, ◌/◌, ◌<◌, ◌≤◌, List, length, get_or, set, Bool, true, false, Option, Some, None, refl, sym, ap, ◌∙◌, arith}
use Rattle.std.proofs.lemmas.List.{get_or-map, get_or_default, length-map}
use Rattle.std.proofs.lemmas.Bool.Decides.{nat_tests}
use Rattle.std.proofs.Math.Seq.{map-set_same}
use Rattle.std.specs.Prelude.{◌&&◌, nat_le}
use Rattle.rv_isa.specs.Memory.{Region, has, overwritten, bytes_of}
use Rattle.rv_isa.specs.Laws.Stack.{over-length}
use Rattle.elf_file.specs.Load.{overlap}
use Rattle.rv32_emul.specs.Stretches.{stretch_of, stretches, AreApart, Covers, IsOnly}

pub and_left : (a b : Bool) → (a && b) ≡ true → a ≡ true
and_left true b h = refl
and_left false b h = absurd (cc)

no_both : (s e t f a n : ℕ) → overlap s e t f ≡ false → 0 < n → (nat_le s a && nat_le (a + n) e) ≡ true → (nat_le t a && nat_le (a + n) f) ≡ false
no_both s e t f a n h some here = grind (arith, nat_tests)

-- an earlier region has nothing of what a later one has
pub only : (xs : List Region) (i k a n : ℕ) (d e : Region) → AreApart (stretches xs) → k < i → i < length xs → 0 < n → has (get_or xs i e) a n ≡ true → has (get_or xs k d) a n ≡ false
only xs i k a n d e apart lt inside some here =
    let at_i : get_or (stretches xs) i (0, 0) ≡ stretch_of (get_or xs i e) = get_or-map stretch_of xs i e (0, 0) inside in
    let at_k : get_or (stretches xs) k (0, 0) ≡ stretch_of (get_or xs k d) = get_or-map stretch_of xs k d (0, 0) (omega arith) in
    let long : length (stretches xs) ≡ length xs = length-map xs stretch_of in
    no_both (get_or xs i e).start ((get_or xs i e).start + length (get_or xs i e).bytes) (get_or xs k d).start ((get_or xs k d).start + length (get_or xs k d).bytes) a n
    (rw (at_i, at_k) at (apart k i lt (omega arith))) some here

-- the region that answers is found, and no one before it does
pub found : (xs : List Region) (i a n : ℕ) (r : Region) (allows : Region → Bool) → AreApart (stretches xs) → 0 < n → i < length xs → r ≡ get_or xs i r → (has r a n && allows r) ≡ true
    → (i < length xs) × ((d : Region) → (has (get_or xs i d) a n && allows (get_or xs i d)) ≡ true) × ((d : Region) (k : ℕ) → k < i → (has (get_or xs k d) a n && allows (get_or xs k d)) ≡ false)
found xs i a n r allows apart some inside is here =
    let has_r : has r a n ≡ true = and_left (has r a n) (allows r) here in
    let has_i : has (get_or xs i r) a n ≡ true = rw (sym is) has_r in
    (inside, λ d. rw (get_or_default xs i d r inside, sym is) here, λ d k lt. rw (only xs i k a n d r apart lt inside some has_i) refl)

pub inside_of : (s e a n : ℕ) → (nat_le s a && nat_le (a + n) e) ≡ true → (s ≤ a) × (a + n ≤ e)
inside_of s e a n h = (grind (arith, nat_tests), grind (arith, nat_tests))

-- what a region has, its stretch covers
covered : (xs : List Region) (k a n : ℕ) (d : Region) → k < length xs → 0 < n → has (get_or xs k d) a n ≡ true → Covers (get_or (stretches xs) k (0, 0)) a
covered xs k a n d lt some here =
    let r : Region = get_or xs k d in
    let inside = inside_of r.start (r.start + length r.bytes) a n here in
    let low : r.start ≤ a = inside.0 in
    let high : a + n ≤ r.start + length r.bytes = inside.1 in
    rw (get_or-map stretch_of xs k d (0, 0) lt) (low, omega (arith, some, high))

denied : (b c : Bool) → (b ≡ true → c ≡ false) → (b && c) ≡ false
denied true c h = h refl
denied false c h = refl

-- where no stretch covers the address, no region answers
pub found-none : (xs : List Region) (a n : ℕ) (allows : Region → Bool) (o : Option ℕ) → 0 < n → IsOnly (stretches xs) a o → o ≡ None
    → (d : Region) (k : ℕ) → k < length xs → (has (get_or xs k d) a n && allows (get_or xs k d)) ≡ false
found-none xs a n allows None some none is d k lt =
    denied (has (get_or xs k d) a n) (allows (get_or xs k d)) (λ here. absurd (none k (omega (arith, lt, length-map xs stretch_of)) (covered xs k a n d lt some here)))
found-none xs a n allows (Some i) some none is d k lt = absurd (cc)

-- where one stretch alone covers it, and its region does not answer, no region does
pub found-other : (xs : List Region) (a n i : ℕ) (r : Region) (allows : Region → Bool) → 0 < n → IsOnly (stretches xs) a (Some i) → i < length xs → r ≡ get_or xs i r → (has r a n && allows r) ≡ false
    → (d : Region) (k : ℕ) → k < length xs → (has (get_or xs k d) a n && allows (get_or xs k d)) ≡ false
found-other xs a n i r allows some one inside is not_here d k lt =
    by_test (has (get_or xs k d) a n) refl where
      by_test : (b : Bool) → has (get_or xs k d) a n ≡ b → (has (get_or xs k d) a n && allows (get_or xs k d)) ≡ false
      by_test false e = rw e refl
      by_test true e =
          let same : k ≡ i = one.1 k (omega (arith, lt, length-map xs stretch_of)) (covered xs k a n d lt some e) in
          let here : get_or xs k d ≡ r = ap (λ (m : ℕ). get_or xs m d) same ∙ get_or_default xs i d r inside ∙ sym is in
          rw here not_here

pub bytes_long : (n v : ℕ) → length (bytes_of n v) ≡ n
bytes_long zero v = refl
bytes_long (suc n) v = ap suc (bytes_long n (v / 256))

-- a store writes as many bytes as there were
pub written-long : (r : Region) (a n v : ℕ) → has r a n ≡ true → length (overwritten r.bytes (a - r.start) (bytes_of n v)) ≡ length r.bytes
written-long r a n v h =
    let inside = inside_of r.start (r.start + length r.bytes) a n h in
    let low : r.start ≤ a = inside.0 in
    let high : a + n ≤ r.start + length r.bytes = inside.1 in
    over-length r.bytes (a - r.start) (bytes_of n v) (omega (arith, low, high, bytes_long n v))

pub stored-stretches : (xs : List Region) (i a n v : ℕ) (y d : Region) → (has (get_or xs i d) a n && (get_or xs i d).writable) ≡ true → y ≡ record (get_or xs i d) { bytes = overwritten (get_or xs i d).bytes (a - (get_or xs i d).start) (bytes_of n v) }
    → stretches (set xs i y) ≡ stretches xs
stored-stretches xs i a n v y d may made =
    let r : Region = get_or xs i d in
    let long : length y.bytes ≡ length r.bytes = ap (λ (q : Region). length q.bytes) made ∙ written-long r a n v (and_left (has r a n) r.writable may) in
    map-set_same stretch_of xs i y d (λ j. ((made j).start, (made j).start + long j))
