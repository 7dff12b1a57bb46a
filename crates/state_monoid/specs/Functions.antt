-- Functions from states to states, as lists of their values.
use Rattle.std.proofs.Common.{◌≡◌, ℕ, zero, suc, ◌+◌, ◌<◌, ◌≤◌, List, [], ◌∷◌, ◌++◌, length, get_or, take, drop, map, All, refl, sym, ap, subst, ◌∙◌, arith}
use Rattle.std.specs.List.{range_with_len}
use Rattle.std.specs.Prelude.{slice_index}
use Rattle.std.proofs.Math.ListN.{set}
use Rattle.std.proofs.Math.Seq.{take-append_seam}
use Rattle.std.proofs.lemmas.List.{length-map, map-append, take_more, take_more_set, get_or-take, length-take}
use Rattle.std.proofs.lemmas.List.Elements.{All-map}
use Rattle.std.proofs.lemmas.List.FromFn.{length-range_with_len, get_or-range_with_len}
use Rattle.state_monoid.specs.Image.{IsFunction, compose}

pub all_map : {X Y : Type 0} (P : X → Type 0) (f : Y → X) (Q : Y → Type 0) → ((y : Y) → Q y → P (f y)) → (ys : List Y) → All Q ys → All P (map f ys)
all_map P f Q h ys all = All-map P f ys (λ k d p. h _ (all k d p))

pub IsFunction-range : (n : ℕ) → IsFunction (range_with_len 0 n)
IsFunction-range n k d h =
    let len : length (range_with_len 0 n) ≡ n = length-range_with_len 0 n in
    let at : get_or (range_with_len 0 n) k d ≡ 0 + k = get_or-range_with_len 0 n k d (omega (arith, len, h)) in
    omega (arith, at, len, h)

pub length-compose : (f g : List ℕ) → length (compose f g) ≡ length f
length-compose f g = length-map f (slice_index g)

pub value_below : (g : List ℕ) → IsFunction g → (s : ℕ) → s < length g → slice_index g s < length g
value_below g fg s h = fg s 0 h

pub IsFunction-compose : (f g : List ℕ) → length f ≡ length g → IsFunction f → IsFunction g → IsFunction (compose f g)
IsFunction-compose f g same ff fg =
    all_map (λ s. s < length (compose f g)) (slice_index g) (λ s. s < length f)
    (λ s h. let v = value_below g fg s (omega arith) in let len = length-compose f g in omega arith) f ff

pub range_more : (a n : ℕ) → range_with_len a (n + 1) ≡ range_with_len a n ++ (a + n) ∷ []
range_more a zero = let z : a + 0 ≡ a = omega arith in rw z refl
range_more a (suc n) =
    let tail : range_with_len (a + 1) (n + 1) ≡ range_with_len (a + 1) n ++ (a + 1 + n) ∷ [] = range_more (a + 1) n in
    let at : a + 1 + n ≡ a + suc n = omega arith in
    let more : suc n + 1 ≡ suc (n + 1) = omega arith in
    rw more (ap (λ (l : List ℕ). a ∷ l) (rw at at tail))

-- one value more is written behind those that are there
pub range_written : (xs : List ℕ) (i : ℕ) → i < length xs → take i xs ≡ range_with_len 0 i → take (i + 1) (set xs i i) ≡ range_with_len 0 (i + 1)
range_written xs i h e =
    let at : 0 + i ≡ i = omega arith in
    let more : range_with_len 0 (i + 1) ≡ range_with_len 0 i ++ i ∷ [] = rw at at (range_more 0 i) in
    take_more_set xs i i h ∙ (ap (λ (l : List ℕ). l ++ i ∷ []) e ∙ sym more)

pub compose_written : (xs f g : List ℕ) (i : ℕ) → i < length xs → i < length f → take i xs ≡ compose (take i f) g
    → take (i + 1) (set xs i (slice_index g (slice_index f i))) ≡ compose (take (i + 1) f) g
compose_written xs f g i h k e =
    let more : take (i + 1) f ≡ take i f ++ slice_index f i ∷ [] = take_more f i 0 k in
    take_more_set xs i (slice_index g (slice_index f i)) h
    ∙ (ap (λ (l : List ℕ). l ++ slice_index g (slice_index f i) ∷ []) e
    ∙ (sym (map-append (slice_index g) (take i f) (slice_index f i ∷ [])) ∙ ap (λ (l : List ℕ). compose l g) (sym more)))

-- the same, where the two functions are the first n and m values of longer lists
pub composed_written : (xs fs gs : List ℕ) (n m i : ℕ) → i < length xs → i < n → length (take n fs) ≡ n → length (take n fs) ≡ length (take m gs) → IsFunction (take n fs)
    → take i xs ≡ compose (take i fs) (take m gs) → take (i + 1) (set xs i (get_or gs (get_or fs i 0) 0)) ≡ compose (take (i + 1) fs) (take m gs)
composed_written xs fs gs n m i h k len same ff e =
    let at : get_or (take n fs) i 0 ≡ get_or fs i 0 = get_or-take n fs i 0 k in
    let value : get_or (take n fs) i 0 < length (take n fs) = ff i 0 (omega (arith, len, k)) in
    let most : length (take n fs) ≤ length fs = omega (arith, length-take n fs) in
    let least : length (take m gs) ≤ m = omega (arith, length-take m gs) in
    let below : get_or fs i 0 < m = omega (arith, value, at, same, least) in
    let there : get_or (take m gs) (get_or fs i 0) 0 ≡ get_or gs (get_or fs i 0) 0 = get_or-take m gs (get_or fs i 0) 0 below in
    let step : take (i + 1) (set xs i (get_or (take m gs) (get_or fs i 0) 0)) ≡ compose (take (i + 1) fs) (take m gs) = compose_written xs fs (take m gs) i h (omega arith) e in
    rw there at step

pub map_map : {X Y Z : Type 0} (g : Y → Z) (f : X → Y) (xs : List X) → map g (map f xs) ≡ map (λ x. g (f x)) xs
map_map g f [] = refl
map_map g f (x ∷ xs) = ap (λ l. g (f x) ∷ l) (map_map g f xs)

pub map_id : {X : Type 0} (xs : List X) → map (λ x. x) xs ≡ xs
map_id [] = refl
map_id (x ∷ xs) = ap (λ l. x ∷ l) (map_id xs)

-- two functions that agree on the items of a list
pub map_same : {X Y : Type 0} (f g : X → Y) (xs : List X) → All (λ x. f x ≡ g x) xs → map f xs ≡ map g xs
map_same f g [] all = refl
map_same f g (x ∷ xs) all = λ i. all 0 x (omega arith) i ∷ map_same f g xs (λ k d h. all (suc k) d (omega arith)) i

-- a list whose first i items have been replaced
pub mapped_ahead : {X : Type 0} (f : X → X) (xs : List X) (i : ℕ) (d : X) → get_or (map f (take i xs) ++ drop i xs) i d ≡ get_or xs i d
mapped_ahead f [] zero d = refl
mapped_ahead f [] (suc i) d = refl
mapped_ahead f (x ∷ xs) zero d = refl
mapped_ahead f (x ∷ xs) (suc i) d = mapped_ahead f xs i d

pub mapped_next : {X : Type 0} (f : X → X) (xs : List X) (i : ℕ) (d : X) → i < length xs
    → set (map f (take i xs) ++ drop i xs) i (f (get_or xs i d)) ≡ map f (take (suc i) xs) ++ drop (suc i) xs
mapped_next f [] i d h = absurd (omega arith)
mapped_next f (x ∷ xs) zero d h = refl
mapped_next f (x ∷ xs) (suc i) d h = ap (λ l. f x ∷ l) (mapped_next f xs i d (omega arith))

pub mapped_all : {X : Type 0} (f : X → X) (xs : List X) → map f (take (length xs) xs) ++ drop (length xs) xs ≡ map f xs
mapped_all f [] = refl
mapped_all f (x ∷ xs) = ap (λ l. f x ∷ l) (mapped_all f xs)

pub mapped_more : (f : ℕ → ℕ) (xs ys : List ℕ) (i v : ℕ) → i < length xs → ys ≡ map f (take i xs) ++ drop i xs → v ≡ f (get_or ys i 0)
    → set ys i v ≡ map f (take (i + 1) xs) ++ drop (i + 1) xs
mapped_more f xs ys i v h e w =
    let here : get_or ys i 0 ≡ get_or xs i 0 = ap (λ (l : List ℕ). get_or l i 0) e ∙ mapped_ahead f xs i 0 in
    let more : suc i ≡ i + 1 = omega arith in
    (λ j. set (e j) i ((w ∙ ap f here) j)) ∙ (mapped_next f xs i 0 h ∙ (λ j. map f (take (more j) xs) ++ drop (more j) xs))

-- the first n values of a longer list
pub IsFunction-front : (new rest : List ℕ) (n m : ℕ) → length new ≡ n → m ≡ n → All (λ s. s < m) new → IsFunction (take n (new ++ rest))
IsFunction-front new rest n m len same below =
    let front : take n (new ++ rest) ≡ new = ap (λ (k : ℕ). take k (new ++ rest)) (sym len) ∙ take-append_seam new rest in
    let count : m ≡ length new = omega arith in
    subst IsFunction (sym front) (subst (λ (k : ℕ). All (λ s. s < k) new) count below)
