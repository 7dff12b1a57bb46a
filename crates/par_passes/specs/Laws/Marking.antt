-- Marked items one by one, and chunks of lists and of numbers.
use Rattle.std.proofs.Common.{◌≡◌, ℕ, zero, suc, ◌+◌, ◌-◌, ◌*◌, ◌<◌, min, Bool, true, false, cond, List, [], ◌∷◌, ◌++◌, length, get_or, take, drop, map, filter, refl, sym, ap, ◌∙◌, arith}
use Rattle.std.specs.List.{range_with_len, zip}
use Rattle.std.proofs.lemmas.List.{take_more, take-map, drop-map, length-take, length-drop}
use Rattle.chunk_seats.specs.Chunks.{chunk_of}
use Rattle.par_passes.specs.Passes.{marked}
use Rattle.par_passes.specs.Laws.Together.{kept_parts}

module _ {X : Type 0} where
  zip_append : (xs ys : List X) (ms ns : List Bool) → length ms ≡ length xs → zip (xs ++ ys) (ms ++ ns) ≡ zip xs ms ++ zip ys ns
  zip_append [] ys [] ns same = refl
  zip_append [] ys (m ∷ ms) ns same = absurd (omega arith)
  zip_append (x ∷ xs) ys [] ns same = absurd (omega arith)
  zip_append (x ∷ xs) ys (m ∷ ms) ns same = ap (λ (l : List (X × Bool)). (x, m) ∷ l) (zip_append xs ys ms ns (omega arith))

  -- marked items behind one another
  marked_append : (xs ys : List X) (ms ns : List Bool) → length ms ≡ length xs → marked (xs ++ ys) (ms ++ ns) ≡ marked xs ms ++ marked ys ns
  marked_append xs ys ms ns same = ap (λ (l : List (X × Bool)). map (λ p. p.0) (filter (λ p. p.1) l)) (zip_append xs ys ms ns same) ∙ kept_parts (zip xs ms) (zip ys ns)

  marked_one : (x : X) (m : Bool) → marked (x ∷ []) (m ∷ []) ≡ cond m (x ∷ []) []
  marked_one x true = refl
  marked_one x false = refl

  -- one item more
  pub marked_next : (xs : List X) (ms : List Bool) (x : X) (m : Bool) → length ms ≡ length xs → marked (xs ++ x ∷ []) (ms ++ m ∷ []) ≡ marked xs ms ++ cond m (x ∷ []) []
  marked_next xs ms x m same = marked_append xs (x ∷ []) ms (m ∷ []) same ∙ ap (λ (l : List X). marked xs ms ++ l) (marked_one x m)

  pub length_chunk : (size : ℕ) (xs : List X) (c : ℕ) → length (chunk_of size xs c) ≡ min size (length xs - c * size)
  length_chunk size xs c = length-take size (drop (c * size) xs) ∙ ap (min size) (length-drop (c * size) xs)

-- chunks of lists of one length are of one length
pub as_wide : {X Y : Type 0} (size : ℕ) (xs : List X) (ys : List Y) (c : ℕ) (part : List Y) → length ys ≡ length xs → part ≡ chunk_of size ys c → length (chunk_of size xs c) ≡ length part
as_wide size xs ys c part same is = length_chunk size xs c ∙ (ap (λ (n : ℕ). min size (n - c * size)) (sym same) ∙ sym (ap length is ∙ length_chunk size ys c))

pub map_chunk : {X Y : Type 0} (g : X → Y) (size : ℕ) (xs : List X) (c : ℕ) → chunk_of size (map g xs) c ≡ map g (chunk_of size xs c)
map_chunk g size xs c = ap (take size) (drop-map g (c * size) xs) ∙ take-map g size (drop (c * size) xs)

pub range_next : (a n : ℕ) → range_with_len a (n + 1) ≡ range_with_len a n ++ (a + n) ∷ []
range_next a zero = let z : a ≡ a + 0 = omega arith in ap (λ (k : ℕ). k ∷ []) z
range_next a (suc n) =
    let z : a + 1 + n ≡ a + suc n = omega arith in
    let e : suc n + 1 ≡ suc (n + 1) = omega arith in
    ap (range_with_len a) e ∙ ap (λ (l : List ℕ). a ∷ l) (range_next (a + 1) n ∙ ap (λ (k : ℕ). range_with_len (a + 1) n ++ k ∷ []) z)

pub take_range : (k a n : ℕ) → take k (range_with_len a n) ≡ range_with_len a (min k n)
take_range zero a n = let z : 0 ≡ min 0 n = omega arith in ap (range_with_len a) z
take_range (suc k) a zero = let z : 0 ≡ min (suc k) 0 = omega arith in ap (range_with_len a) z
take_range (suc k) a (suc n) =
    let z : suc (min k n) ≡ min (suc k) (suc n) = omega arith in
    ap (λ (l : List ℕ). a ∷ l) (take_range k (a + 1) n) ∙ ap (range_with_len a) z

drop_range : (k a n : ℕ) → drop k (range_with_len a n) ≡ range_with_len (a + min k n) (n - k)
drop_range zero a n = let z : a ≡ a + min 0 n = omega arith in let y : n ≡ n - 0 = omega arith in λ i. range_with_len (z i) (y i)
drop_range (suc k) a zero = let y : 0 ≡ 0 - suc k = omega arith in ap (range_with_len (a + min (suc k) 0)) y
drop_range (suc k) a (suc n) =
    let z : a + 1 + min k n ≡ a + min (suc k) (suc n) = omega arith in
    let y : n - k ≡ suc n - suc k = omega arith in
    drop_range k (a + 1) n ∙ (λ i. range_with_len (z i) (y i))

-- a chunk of the numbers below n
pub range_chunk : (size n c from : ℕ) → from ≡ min (c * size) n → chunk_of size (range_with_len 0 n) c ≡ range_with_len from (min size (n - c * size))
range_chunk size n c from is =
    let z : 0 + min (c * size) n ≡ from = omega arith in
    ap (take size) (drop_range (c * size) 0 n ∙ ap (λ (k : ℕ). range_with_len k (n - c * size)) z) ∙ take_range size from (n - c * size)

-- what is pushed of one item more
push_marked : {X : Type 0} (out more xs xs' : List X) (ms ms' : List Bool) (x : X) (b : Bool) → length ms ≡ length xs → xs' ≡ xs ++ x ∷ [] → ms' ≡ ms ++ b ∷ [] → out ≡ marked xs ms
    → more ≡ out ++ cond b (x ∷ []) [] → more ≡ marked xs' ms'
push_marked {X} out more xs xs' ms ms' x b same items marks so_far added =
    added
    ∙ (ap (λ (l : List X). l ++ cond b (x ∷ []) []) so_far
    ∙ (sym (marked_next xs ms x b same) ∙ (λ i. marked (sym items i) (sym marks i))))

-- the same in the middle of two lists
pub push_item : {X : Type 0} (xs : List X) (ms : List Bool) (k : ℕ) (x : X) (d : Bool) (out more : List X) → length ms ≡ length xs → k < length xs → x ≡ get_or xs k x
    → out ≡ marked (take k xs) (take k ms) → more ≡ out ++ cond (get_or ms k d) (x ∷ []) [] → more ≡ marked (take (k + 1) xs) (take (k + 1) ms)
push_item {X} xs ms k x d out more same less here so_far added =
    let level : length (take k ms) ≡ length (take k xs) = length-take k ms ∙ (ap (min k) same ∙ sym (length-take k xs)) in
    push_marked out more (take k xs) (take (k + 1) xs) (take k ms) (take (k + 1) ms) x (get_or ms k d) level
    (take_more xs k x less ∙ ap (λ (y : X). take k xs ++ y ∷ []) (sym here))
    (take_more ms k d (omega arith))
    so_far added
