-- Rounds of jumps.
use Rattle.std.proofs.Common.{◌≡◌, ℕ, zero, suc, ◌+◌, ◌-◌, ◌*◌, ◌^◌, ◌<◌, ◌≤◌, Bool, true, false, List, length, map, Option, Some, None, slice_index_or, slice_get, sym, ap, ◌∙◌, subst, arith, add-one}
use Rattle.std.proofs.Math.Nat.{pow-succ'}
use Rattle.std.specs.List.{range_with_len}
use Rattle.std.proofs.lemmas.List.{length-map, get_or-map}
use Rattle.std.proofs.lemmas.List.FromFn.{length-range_with_len, get_or-range_with_len}
use Rattle.std.proofs.lemmas.Option.{slice_get-get_or}
use Rattle.par_passes.specs.Passes.{Gives}
use Rattle.pointer_jumping.specs.Climbs.{AreUpward, AreWithin, Climbs}
use Rattle.pointer_jumping.specs.Jumps.{Passes, IsJump, AreJumps, StandsBelow, jump_at, is_open, onwards, found_by}
use Rattle.pointer_jumping.specs.declared.jump.Jump.{Jump}
use Rattle.pointer_jumping.specs.declared.jump.Jump.TheVariants.{Root, Found, To}
use Rattle.pointer_jumping.proofs.Ways.{climbs_on, climbs_one, passes_on, passes_rise, passes_below, climbs_all}

module _ (parents : List (Option ℕ)) (marks : List Bool) (upward : AreUpward parents) where
  pub stands_below : (n i : ℕ) (x : Jump) → i < length parents → IsJump parents marks n i x → StandsBelow (length parents) x
  stands_below n i Root lt is = tt
  stands_below n i (Found p) lt is = tt
  stands_below n i (To j) lt is = passes_below parents marks upward is lt

  module _ (n : ℕ) (jumps : List Jump) (all : AreJumps parents marks n jumps) where
    pub standing_all : (i : ℕ) → i < length jumps → StandsBelow (length jumps) (jump_at jumps i)
    standing_all i lt =
        let e = all.as_many in
        subst (λ (m : ℕ). StandsBelow m (jump_at jumps i)) (sym e) (stands_below n i (jump_at jumps i) (omega arith) (all.each i (omega arith)))

    -- one jump onwards doubles the way
    jump_more : (i : ℕ) (x : Jump) → i < length parents → IsJump parents marks n i x → IsJump parents marks (n + n) i (onwards jumps x)
    jump_more i Root lt is = (is.0, (let few = is.1 in omega arith), is.2)
    jump_more i (Found p) lt is = (is.0, (let few = is.1 in omega arith), is.2)
    jump_more i (To j) lt is = by (jump_at jumps j) (all.each j (passes_below parents marks upward is lt))
      where
        by : (y : Jump) → IsJump parents marks n j y → IsJump parents marks (n + n) i y
        by Root c = let r = climbs_on parents marks is c.2 in (r.0, (let few = c.1 in let e = r.1 in omega arith), r.2)
        by (Found p) c = let r = climbs_on parents marks is c.2 in (r.0, (let few = c.1 in let e = r.1 in omega arith), r.2)
        by (To k) w = let r = passes_on parents marks is w in subst (λ (m : ℕ). Passes parents marks i m k) r.1 r.2

    pub jumps_more : AreJumps parents marks (n + n) (map (onwards jumps) jumps)
    jumps_more = record {
      as_many = length-map jumps (onwards jumps) ∙ all.as_many;
      each = λ i lt.
          let inside : i < length jumps = (let e = all.as_many in omega arith) in
          subst (IsJump parents marks (n + n) i) (sym (get_or-map (onwards jumps) jumps i Root Root inside)) (jump_more i (jump_at jumps i) lt (all.each i lt));
    }

    -- a jump that hasn't come to the end has passed this many parents
    pub open_far : (i : ℕ) → i < length jumps → is_open (jump_at jumps i) ≡ true → (n < length parents) × ((d : ℕ) → AreWithin parents marks d → n ≤ d)
    open_far i lt is = by (jump_at jumps i) is (all.each i inside)
      where
        inside : i < length parents
        inside = let e = all.as_many in omega arith

        by : (x : Jump) → is_open x ≡ true → IsJump parents marks n i x → (n < length parents) × ((d : ℕ) → AreWithin parents marks d → n ≤ d)
        by Root o c = absurd (cc)
        by (Found p) o c = absurd (cc)
        by (To j) o w = (
          (let r = passes_rise parents marks upward w in let b = passes_below parents marks upward w inside in omega arith),
          λ d most.
              let c = climbs_all parents marks upward j in
              let m = climbs_on parents marks w c.2 in
              let e = m.1 in
              let l = most i m.0 c.1 inside m.2 in
              omega arith,
        )

    -- where all have come to the end, the ancestors are found
    pub found_all : ((i : ℕ) → i < length jumps → is_open (jump_at jumps i) ≡ false) → (i : ℕ) → i < length parents → (d : ℕ) × Climbs parents marks i d (slice_index_or (map found_by jumps) i None)
    found_all settled i lt =
        subst (λ (a : Option ℕ). (d : ℕ) × Climbs parents marks i d a) (sym (get_or-map found_by jumps i Root None inside)) (by (jump_at jumps i) (settled i inside) (all.each i lt))
      where
        inside : i < length jumps
        inside = let e = all.as_many in omega arith

        by : (x : Jump) → is_open x ≡ false → IsJump parents marks n i x → (d : ℕ) × Climbs parents marks i d (found_by x)
        by Root o c = (c.0, c.2)
        by (Found p) o c = (c.0, c.2)
        by (To j) o w = absurd (cc)

    -- and no node passes more than n parents
    pub within_all : ((i : ℕ) → i < length jumps → is_open (jump_at jumps i) ≡ false) → AreWithin parents marks n
    within_all settled i k a lt way = by (jump_at jumps i) (settled i (let e = all.as_many in omega arith)) (all.each i lt)
      where
        by : (x : Jump) → is_open x ≡ false → IsJump parents marks n i x → k ≤ n
        by Root o c = let few = c.1 in let e = (climbs_one parents marks way c.2).0 in omega arith
        by (Found p) o c = let few = c.1 in let e = (climbs_one parents marks way c.2).0 in omega arith
        by (To j) o w = absurd (cc)

-- what the parents alone tell
pub jumps_first : (parents : List (Option ℕ)) (marks : List Bool) (out : List Jump) → Gives (IsJump parents marks 1) (range_with_len 0 (length parents)) out → AreJumps parents marks 1 out
jumps_first parents marks out gives = record { as_many = many; each = λ i lt. gives.each i i (jump_at out i) (number i lt) (slice_get-get_or out i Root (let m = many in omega arith)) }
  where
    range : length (range_with_len 0 (length parents)) ≡ length parents
    range = length-range_with_len 0 (length parents)

    many : length out ≡ length parents
    many = gives.as_many ∙ range

    number : (i : ℕ) → i < length parents → slice_get (range_with_len 0 (length parents)) i ≡ Some i
    number i lt = slice_get-get_or (range_with_len 0 (length parents)) i 0 (let n = range in omega arith) ∙ ap (λ (k : ℕ). Some k) (get_or-range_with_len 0 (length parents) i 0 lt ∙ omega arith)

-- after this many rounds
pub record AreRounds (parents : List (Option ℕ)) (marks : List Bool) (r : ℕ) (jumps : List Jump) : Type 0 where
  pub jumps_are : AreJumps parents marks (2 ^ r) jumps
  pub few : (d : ℕ) → AreWithin parents marks d → 2 ^ r ≤ 2 * d + 1

pow_positive : (r : ℕ) → 0 < 2 ^ r
pow_positive zero = omega arith
pow_positive (suc r) = let t : 2 ^ suc r ≡ 2 * 2 ^ r = pow-succ' 2 r in let p = pow_positive r in omega arith

pub twice : (r : ℕ) → 2 ^ (r + 1) ≡ 2 ^ r + 2 ^ r
twice r =
    let t : 2 ^ suc r ≡ 2 * 2 ^ r = pow-succ' 2 r in
    let e : 2 ^ (r + 1) ≡ 2 ^ suc r = ap (λ (k : ℕ). 2 ^ k) (add-one r) in
    omega arith

pub rounds_none : (parents : List (Option ℕ)) (marks : List Bool) (r : ℕ) → r ≡ 0 → (jumps : List Jump) → AreJumps parents marks 1 jumps → AreRounds parents marks r jumps
rounds_none parents marks r none jumps first = subst (λ (k : ℕ). AreRounds parents marks k jumps) (sym none) (record { jumps_are = first; few = λ d most. omega arith })

-- where all have come to the end, the ancestors are found
pub found_out : (parents : List (Option ℕ)) (marks : List Bool) → AreUpward parents → (r : ℕ) (jumps : List Jump) → AreRounds parents marks r jumps → (out : List (Option ℕ)) → out ≡ map found_by jumps
    → ((i : ℕ) → i < length jumps → is_open (jump_at jumps i) ≡ false) → (i : ℕ) → i < length parents → (d : ℕ) × Climbs parents marks i d (slice_index_or out i None)
found_out parents marks upward r jumps are out is settled i lt =
    subst (λ (l : List (Option ℕ)). (d : ℕ) × Climbs parents marks i d (slice_index_or l i None)) (sym is) (found_all parents marks upward (2 ^ r) jumps are.jumps_are settled i lt)

module _ (parents : List (Option ℕ)) (marks : List Bool) (upward : AreUpward parents) (r : ℕ) (jumps : List Jump) (are : AreRounds parents marks r jumps) (i : ℕ) (within : i < length jumps) (is : is_open (jump_at jumps i) ≡ true) where
  -- one more round, where a jump hasn't come to the end
  pub round_more : (s : ℕ) → s ≡ r + 1 → (next : List Jump) → next ≡ map (onwards jumps) jumps → AreRounds parents marks s next
  round_more s more next same =
      let far = open_far parents marks upward (2 ^ r) jumps are.jumps_are i within is in
      let e : 2 ^ s ≡ 2 ^ r + 2 ^ r = ap (λ (k : ℕ). 2 ^ k) more ∙ twice r in
      record {
        jumps_are =
            subst (λ (m : ℕ). AreJumps parents marks m next) (sym e)
            (subst (AreJumps parents marks (2 ^ r + 2 ^ r)) (sym same) (jumps_more parents marks upward (2 ^ r) jumps are.jumps_are));
        few = λ d most. let f = far.1 d most in omega arith;
      }

  -- and fewer are left
  pub round_less : (s : ℕ) → s ≡ r + 1 → length parents - 2 ^ s < length parents - 2 ^ r
  round_less s more =
      let far = (open_far parents marks upward (2 ^ r) jumps are.jumps_are i within is).0 in
      let e : 2 ^ s ≡ 2 ^ r + 2 ^ r = ap (λ (k : ℕ). 2 ^ k) more ∙ twice r in
      let p : 0 < 2 ^ r = pow_positive r in
      omega arith
