-- The stack behind the regions of the segments: an access to its bytes is its own, and any other one is theirs.
use Rattle.std.proofs.Common.{◌≡◌, ℕ, suc, ◌+◌, ◌-◌, ◌<◌, List, [], ◌∷◌, ◌++◌, length, take, drop, get_or, Bool, true, false, cond, Option, Some, None, refl, sym, ap, subst, ◌∙◌, arith, length-append, ⊎_elim}
use Rattle.std.proofs.lemmas.List.{get_or_append_left, map-append}
use Rattle.std.proofs.Math.Seq.{get_or-append_seam}
use Rattle.std.specs.Prelude.{◌&&◌, MatchOption, option_map}
use Rattle.rv_isa.specs.declared.instructions.Instr.{Instr}
use Rattle.rv_isa.specs.Memory.{Region, has, number_of, number_at, fetched, loaded, stored, overwritten, bytes_of, IsAccess}
use Rattle.rv_isa.specs.Encoding.{decoded, InRange}
use Rattle.elf_file.specs.Load.{stack_start}
use Rattle.rv32_emul.specs.Machine.{stack_of}
use Rattle.rv32_emul.specs.Stretches.{stretch_of, stretches, AreApart}
use Rattle.rv32_emul.specs.Fixed.{fixed}
use Rattle.rv32_emul.specs.Kept.{Kept, AreCode}
use Rattle.rv32_emul.proofs.Apart.{only}

-- the regions of the segments, and the stack of these bytes
abbrev pub whole : List Region → List ℕ → List Region
whole xs stack = xs ++ stack_of stack ∷ []

number-behind : (allows : Region → Bool) (xs : List Region) (s : Region) (a n : ℕ) → ((d : Region) (k : ℕ) → k < length xs → has (get_or xs k d) a n ≡ false) → (has s a n && allows s) ≡ true
    → number_at allows (xs ++ s ∷ []) a n ≡ Some (number_of (take n (drop (a - s.start) s.bytes)))
number-behind allows [] s a n before here = rw here refl
number-behind allows (x ∷ xs) s a n before here = let t : has x a n ≡ false = before x 0 (omega arith) in rw t (number-behind allows xs s a n (λ d k lt. before d (suc k) (omega arith)) here)

number-past : (allows : Region → Bool) (xs : List Region) (s : Region) (a n : ℕ) → (has s a n && allows s) ≡ false → number_at allows (xs ++ s ∷ []) a n ≡ number_at allows xs a n
number-past allows [] s a n h = rw h refl
number-past allows (x ∷ xs) s a n h = ap (λ (o : Option ℕ). cond (has x a n && allows x) (Some (number_of (take n (drop (a - x.start) x.bytes)))) o) (number-past allows xs s a n h)

stored-behind : (xs : List Region) (s : Region) (a n v : ℕ) → ((d : Region) (k : ℕ) → k < length xs → has (get_or xs k d) a n ≡ false) → (has s a n && s.writable) ≡ true
    → stored (xs ++ s ∷ []) a n v ≡ Some (xs ++ record s { bytes = overwritten s.bytes (a - s.start) (bytes_of n v) } ∷ [])
stored-behind [] s a n v before here = rw here refl
stored-behind (x ∷ xs) s a n v before here = let t : has x a n ≡ false = before x 0 (omega arith) in
    rw t (ap (λ (o : Option (List Region)). option_map (λ qs. x ∷ qs) o) (stored-behind xs s a n v (λ d k lt. before d (suc k) (omega arith)) here))

put_case : (b : Bool) (x y s : Region) (xs : List Region) (o p : Option (List Region)) → p ≡ option_map (λ qs. qs ++ s ∷ []) o
    → cond b (Some (y ∷ (xs ++ s ∷ []))) (option_map (λ qs. x ∷ qs) p) ≡ option_map (λ qs. qs ++ s ∷ []) (cond b (Some (y ∷ xs)) (option_map (λ qs. x ∷ qs) o))
put_case true x y s xs o p e = refl
put_case false x y s xs None p e = ap (λ (q : Option (List Region)). option_map (λ qs. x ∷ qs) q) e
put_case false x y s xs (Some zs) p e = ap (λ (q : Option (List Region)). option_map (λ qs. x ∷ qs) q) e

stored-past : (xs : List Region) (s : Region) (a n v : ℕ) → (has s a n && s.writable) ≡ false → stored (xs ++ s ∷ []) a n v ≡ option_map (λ qs. qs ++ s ∷ []) (stored xs a n v)
stored-past [] s a n v h = rw h refl
stored-past (x ∷ xs) s a n v h = put_case (has x a n && x.writable) x (record x { bytes = overwritten x.bytes (a - x.start) (bytes_of n v) }) s xs (stored xs a n v) (stored (xs ++ s ∷ []) a n v) (stored-past xs s a n v h)

-- no other region has what the last one has
others : (xs : List Region) (s : Region) (a n : ℕ) → AreApart (stretches (xs ++ s ∷ [])) → 0 < n → has s a n ≡ true → (d : Region) (k : ℕ) → k < length xs → has (get_or xs k d) a n ≡ false
others xs s a n apart some here d k lt =
    let last : get_or (xs ++ s ∷ []) (length xs) d ≡ s = get_or-append_seam xs s [] d in
    let left : get_or (xs ++ s ∷ []) k d ≡ get_or xs k d = get_or_append_left xs (s ∷ []) d k lt in
    let inside : length xs < length (xs ++ s ∷ []) = omega (arith, length-append xs (s ∷ [])) in
    rw left at (only (xs ++ s ∷ []) (length xs) k a n d d apart lt inside some (rw last here))

-- an access to the stack
pub stack-loaded : (xs : List Region) (stack : List ℕ) (a n : ℕ) → AreApart (stretches (whole xs stack)) → 0 < n → has (stack_of stack) a n ≡ true
    → loaded (whole xs stack) a n ≡ Some (number_of (take n (drop (a - stack_start) stack)))
stack-loaded xs stack a n apart some here =
    let may : (has (stack_of stack) a n && (stack_of stack).readable) ≡ true = rw here refl in
    number-behind (λ r. r.readable) xs (stack_of stack) a n (others xs (stack_of stack) a n apart some here) may

pub stack-stored : (xs : List Region) (stack new : List ℕ) (a n v : ℕ) → AreApart (stretches (whole xs stack)) → 0 < n → has (stack_of stack) a n ≡ true → new ≡ overwritten stack (a - stack_start) (bytes_of n v)
    → stored (whole xs stack) a n v ≡ Some (whole xs new)
stack-stored xs stack new a n v apart some here is =
    let may : (has (stack_of stack) a n && (stack_of stack).writable) ≡ true = rw here refl in
    stored-behind xs (stack_of stack) a n v (others xs (stack_of stack) a n apart some here) may ∙ ap (λ (bytes : List ℕ). Some (whole xs bytes)) (sym is)

nothing_there : (b c : Bool) → b ≡ false → (b && c) ≡ false
nothing_there true c h = absurd (cc)
nothing_there false c h = refl

nothing_allowed : (b : Bool) → (b && false) ≡ false
nothing_allowed true = refl
nothing_allowed false = refl

-- an access elsewhere
pub segments-loaded : (xs : List Region) (stack : List ℕ) (a n : ℕ) → has (stack_of stack) a n ≡ false → loaded (whole xs stack) a n ≡ loaded xs a n
segments-loaded xs stack a n not_here = number-past (λ r. r.readable) xs (stack_of stack) a n (nothing_there (has (stack_of stack) a n) true not_here)

pub segments-fetched : (xs : List Region) (stack : List ℕ) (a : ℕ) → fetched (whole xs stack) a ≡ fetched xs a
segments-fetched xs stack a = number-past (λ r. r.executable) xs (stack_of stack) a 4 (nothing_allowed (has (stack_of stack) a 4))

pub segments-stored : {X : Type 0} (r : Option X) (xs new : List Region) (stack : List ℕ) (a n v : ℕ) → has (stack_of stack) a n ≡ false → MatchOption r (stored xs a n v ≡ None) (λ _. stored xs a n v ≡ Some new)
    → MatchOption r (stored (whole xs stack) a n v ≡ None) (λ _. stored (whole xs stack) a n v ≡ Some (whole new stack))
segments-stored None xs new stack a n v not_here h =
    stored-past xs (stack_of stack) a n v (nothing_there (has (stack_of stack) a n) true not_here) ∙ ap (λ (o : Option (List Region)). option_map (λ qs. qs ++ stack_of stack ∷ []) o) h
segments-stored (Some x) xs new stack a n v not_here h =
    stored-past xs (stack_of stack) a n v (nothing_there (has (stack_of stack) a n) true not_here) ∙ ap (λ (o : Option (List Region)). option_map (λ qs. qs ++ stack_of stack ∷ []) o) h

-- the stretches behind a store
pub stretches-stay : (xs ys : List Region) (stack new : List ℕ) → stretches ys ≡ stretches xs → length new ≡ length stack → stretches (whole ys new) ≡ stretches (whole xs stack)
stretches-stay xs ys stack new same long =
    map-append stretch_of ys (stack_of new ∷ []) ∙ ((λ i. same i ++ (stack_start, stack_start + long i) ∷ []) ∙ sym (map-append stretch_of xs (stack_of stack ∷ [])))

-- the segments alone are apart, too
pub segments-apart : (xs : List Region) (stack : List ℕ) → AreApart (stretches (whole xs stack)) → AreApart (stretches xs)
segments-apart xs stack apart = λ i j lt inside.
    let at_i : get_or (stretches xs ++ stretch_of (stack_of stack) ∷ []) i (0, 0) ≡ get_or (stretches xs) i (0, 0) = get_or_append_left (stretches xs) (stretch_of (stack_of stack) ∷ []) (0, 0) i (omega (arith, lt, inside)) in
    let at_j : get_or (stretches xs ++ stretch_of (stack_of stack) ∷ []) j (0, 0) ≡ get_or (stretches xs) j (0, 0) = get_or_append_left (stretches xs) (stretch_of (stack_of stack) ∷ []) (0, 0) j inside in
    let more : AreApart (stretches xs ++ stretch_of (stack_of stack) ∷ []) = subst (λ (ss : List (ℕ × ℕ)). AreApart ss) (map-append stretch_of xs (stack_of stack ∷ [])) apart in
    rw (at_i, at_j) at (more i j lt (omega (arith, inside, length-append (stretches xs) (stretch_of (stack_of stack) ∷ []))))

-- no word of the stack may be run
fixed-at : (xs : List Region) (s : Region) (a : ℕ) → (has s a 4 && s.executable) ≡ false → fixed (xs ++ s ∷ []) a ≡ fixed xs a
fixed-at [] s a h = rw h refl
fixed-at (x ∷ xs) s a h = ap (λ (o : Option ℕ). cond (has x a 4 && x.executable) (cond x.writable None (Some (number_of (take 4 (drop (a - x.start) x.bytes))))) o) (fixed-at xs s a h)

pub segments-fixed : (xs : List Region) (stack : List ℕ) → fixed (whole xs stack) ≡ fixed xs
segments-fixed xs stack = λ i a. fixed-at xs (stack_of stack) a (nothing_allowed (has (stack_of stack) a 4)) i

pub segments-kept : (o : Option Instr) (xs : List Region) (stack : List ℕ) (a : ℕ) → MatchOption o (Unit {0}) (λ i. (option_map decoded (fetched xs a) ≡ Some (Some i)) × InRange i)
    → MatchOption o (Unit {0}) (λ i. (option_map decoded (fetched (whole xs stack) a) ≡ Some (Some i)) × InRange i)
segments-kept o xs stack a h = subst (λ (w : Option ℕ). MatchOption o (Unit {0}) (λ i. (option_map decoded w ≡ Some (Some i)) × InRange i)) (sym (segments-fetched xs stack a)) h

pub segments-code : (code : List Kept) (xs : List Region) (stack : List ℕ) → AreCode code (fixed xs) → AreCode code (fixed (whole xs stack))
segments-code code xs stack h = subst (λ (words : ℕ → Option ℕ). AreCode code words) (sym (segments-fixed xs stack)) h

pub some-bytes : (a n : ℕ) → IsAccess a n → 0 < n
some-bytes a n access = ⊎_elim (λ one. let e : 0 < n = omega (arith, one) in e) (λ more. ⊎_elim (λ two. let e : 0 < n = omega (arith, two) in e) (λ four. let e : 0 < n = omega (arith, four) in e) more) access.0
