-- Ways up a forest: that a node has one, and how two are put together.
use Rattle.std.proofs.Common.{◌≡◌, ℕ, zero, suc, ◌+◌, ◌<◌, ◌≤◌, Bool, true, false, List, length, Option, Some, None, refl, ap, subst, arith}
use Rattle.pointer_jumping.specs.Climbs.{parent_of, is_marked, AreUpward, Climbs, root, found, passed}
use Rattle.pointer_jumping.specs.Jumps.{Passes, here, up}

module _ (parents : List (Option ℕ)) (marks : List Bool) where
  same_parent : (i p q : ℕ) → parent_of parents i ≡ Some p → parent_of parents i ≡ Some q → p ≡ q
  same_parent i p q a b = cc

  both : (i p q : ℕ) → parent_of parents i ≡ Some p → is_marked marks p ≡ true → parent_of parents i ≡ Some q → is_marked marks q ≡ false → ⊥
  both i p q a m b n = let e : p ≡ q = same_parent i p q a b in let m' : is_marked marks q ≡ true = subst (λ (k : ℕ). is_marked marks k ≡ true) e m in absurd (cc)

  -- the way up from a node, and where it ends, are one
  pub climbs_one : {i d e : ℕ} {a b : Option ℕ} → Climbs parents marks i d a → Climbs parents marks i e b → (d ≡ e) × (a ≡ b)
  climbs_one (root n) (root m) = (refl, refl)
  climbs_one (root n) (found s k) = absurd (cc)
  climbs_one (root n) (passed s k c) = absurd (cc)
  climbs_one (found s k) (root n) = absurd (cc)
  climbs_one (found {i = i} {p = p} s k) (found {p = q} t l) = (refl, ap (λ (n : ℕ). Some n) (same_parent i p q s t))
  climbs_one (found {i = i} {p = p} s k) (passed {p = q} t l c) = absurd (both i p q s k t l)
  climbs_one (passed s k c) (root n) = absurd (cc)
  climbs_one (passed {i = i} {p = p} s k c) (found {p = q} t l) = absurd (both i q p t l s k)
  climbs_one (passed {i = i} {p = p} s k c) (passed {p = q} {d = e} {a = b} t l w) =
      let r = climbs_one c (subst (λ (n : ℕ). Climbs parents marks n e b) (same_parent i q p t s) w) in
      (ap (λ (n : ℕ). suc n) r.0, r.1)

  -- passing some parents, and then the way up
  pub climbs_on : {i n j d : ℕ} {a : Option ℕ} → Passes parents marks i n j → Climbs parents marks j d a → (m : ℕ) × (m ≡ n + d) × Climbs parents marks i m a
  climbs_on {d = d} here c = (d, omega arith, c)
  climbs_on (up s k w) c = let r = climbs_on w c in let e = r.1 in (suc r.0, omega arith, passed s k r.2)

  -- passing some parents, and then some more
  pub passes_on : {i n j m k : ℕ} → Passes parents marks i n j → Passes parents marks j m k → (l : ℕ) × (l ≡ n + m) × Passes parents marks i l k
  passes_on {m = m} here v = (m, omega arith, v)
  passes_on (up s k w) v = let r = passes_on w v in let e = r.1 in (suc r.0, omega arith, up s k r.2)

  module _ (upward : AreUpward parents) where
    -- each parent that is passed has a greater number
    pub passes_rise : {i n j : ℕ} → Passes parents marks i n j → i + n ≤ j
    passes_rise here = omega arith
    passes_rise (up {i = i} {p = p} s k w) = let r = passes_rise w in let g = (upward i p s).0 in omega arith

    pub passes_below : {i n j : ℕ} → Passes parents marks i n j → i < length parents → j < length parents
    passes_below here lt = lt
    passes_below (up {i = i} {p = p} s k w) lt = passes_below w (upward i p s).1

    -- there is a way up from each node
    climbs_from : (fuel i : ℕ) → length parents ≤ i + fuel → (d : ℕ) × (a : Option ℕ) × Climbs parents marks i d a
    climbs_from zero i le = by (parent_of parents i) refl
      where
        by : (o : Option ℕ) → parent_of parents i ≡ o → (d : ℕ) × (a : Option ℕ) × Climbs parents marks i d a
        by None is = (0, None, root is)
        by (Some p) is = let u = upward i p is in let a = u.0 in let b = u.1 in absurd (omega arith)
    climbs_from (suc fuel) i le = by (parent_of parents i) refl (λ p l. climbs_from fuel p l)
      where
        by : (o : Option ℕ) → parent_of parents i ≡ o → ((p : ℕ) → length parents ≤ p + fuel → (d : ℕ) × (a : Option ℕ) × Climbs parents marks p d a) → (d : ℕ) × (a : Option ℕ) × Climbs parents marks i d a
        by None is rest = (0, None, root is)
        by (Some p) is rest = marked (is_marked marks p) refl (let u = upward i p is in let a = u.0 in rest p (omega arith))
          where
            marked : (b : Bool) → is_marked marks p ≡ b → (d : ℕ) × (a : Option ℕ) × Climbs parents marks p d a → (d : ℕ) × (a : Option ℕ) × Climbs parents marks i d a
            marked true m r = (1, Some p, found is m)
            marked false m r = (suc r.0, r.1, passed is m r.2)

    pub climbs_all : (i : ℕ) → (d : ℕ) × (a : Option ℕ) × Climbs parents marks i d a
    climbs_all i = climbs_from (length parents) i (omega arith)
