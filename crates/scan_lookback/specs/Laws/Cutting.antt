-- Items that are cut into chunks: what is made of a chunk, and of the chunks before it.
use Rattle.std.proofs.Common.{◌≡◌, ℕ, zero, suc, ◌+◌, ◌-◌, ◌*◌, ◌/◌, ◌%◌, ◌^◌, ◌<◌, ◌≤◌, min, max, List, [], ◌∷◌, ◌++◌, length, get_or, take, drop, map, All, fold, Some, slice_get, refl, append_assoc, sym, ap, ◌∙◌, subst, arith, add-one, suc-mul, mul-le-mul_right, div-add-mod', take-add}
use Rattle.std.proofs.Math.Nat.{mul_assoc}
use Rattle.std.specs.List.{range_with_len}
use Rattle.std.proofs.lemmas.List.{length-take, length-drop, take-take}
use Rattle.std.proofs.lemmas.List.Elements.{All-take, All-drop}
use Rattle.std.proofs.lemmas.List.Sums.{fold-append, fold_more}
use Rattle.std.proofs.lemmas.List.FromFn.{length-map-range_with_len, map-range_with_len_more}
use Rattle.chunk_seats.specs.Chunks.{chunk_of, chunk_count}
use Rattle.chunk_seats.specs.Laws.Counted.{chunk_inside, chunk_near}
use Rattle.word_monoid.specs.Monoid.{Ops, IsItem, IsMonoid}
use Rattle.word_monoid.specs.Folds.{fold_of, prefix_of, prefixes_from}
use Rattle.word_monoid.specs.Laws.Folds.{get_below, get_at, all_at, fold_of-item, fold_append, prefix_next}
use Rattle.scan_lookback.specs.Cuts.{Lifts, GivesItems, sums_of, running, Scans}
use Rattle.scan_lookback.specs.Laws.Lists.{get_take, take_get, get_drop, get_range, map_ranges}

-- a piece of this many chunks has few items
pub piece_small : (n size per : ℕ) → 0 < size → size ≤ 65536 → n < 2 ^ 62 → per ≤ max (chunk_count size n) 1 → per * size < 2 ^ 64
piece_small n size per pos small short h =
    let q : ℕ = chunk_count size n in
    let d : q * size + (n + (size - 1)) % size ≡ n + (size - 1) = div-add-mod' (n + (size - 1)) size in
    let le : per ≤ suc q = omega arith in
    let m : per * size ≤ suc q * size = mul-le-mul_right size le in
    let s : suc q * size ≡ q * size + size = suc-mul q size in
    let x : ℕ = q * size in let y : ℕ = suc q * size in let z : ℕ = per * size in let r : ℕ = (n + (size - 1)) % size in
    let d' : x + r ≡ n + (size - 1) = d in let m' : z ≤ y = m in let s' : y ≡ x + size = s in
    omega arith

-- where a piece begins, a chunk does
pub piece_begins : (from per size : ℕ) → from % (per * size) ≡ 0 → from / (per * size) * per * size ≡ from
piece_begins from per size h =
    let q : ℕ = from / (per * size) in
    let d : q * (per * size) + from % (per * size) ≡ from = div-add-mod' from (per * size) in
    let x : ℕ = q * (per * size) in let r : ℕ = from % (per * size) in
    let d' : x + r ≡ from = d in let h' : r ≡ 0 = h in
    let e : x ≡ from = omega arith in
    mul_assoc q per size ∙ e

length-range : {X : Type 0} (a n : ℕ) (xs : List X) → length (take n (drop a xs)) ≡ min n (length xs - a)
length-range a n xs = length-take n (drop a xs) ∙ ap (min n) (length-drop a xs)

pub length-chunk : {X : Type 0} (size : ℕ) (xs : List X) (c : ℕ) → length (chunk_of size xs c) ≡ min size (length xs - c * size)
length-chunk size xs c = length-range (c * size) size xs

-- what holds of all items holds of those of a stretch, and of a chunk
pub all_range : {X : Type 0} (P : X → Type 0) (items part : List X) (a n : ℕ) → part ≡ take n (drop a items) → All P items → All P part
all_range P items part a n is all = subst (All P) (sym is) (All-take P n (drop a items) (All-drop P a items all))

pub all_chunk : {X : Type 0} (P : X → Type 0) (items part : List X) (size c : ℕ) → part ≡ chunk_of size items c → All P items → All P part
all_chunk P items part size c = all_range P items part (c * size) size

module _ {T I : Type 0} (post : T → I → Type 0) (items : List T) (lifted : List I) (lifts : Lifts post items lifted) where
  pub lifts_range : (a n : ℕ) → Lifts post (take n (drop a items)) (take n (drop a lifted))
  lifts_range a n = record {
    as_many = length-range a n lifted ∙ (ap (λ (l : ℕ). min n (l - a)) lifts.as_many ∙ sym (length-range a n items));
    each = λ i x r at gives.
        let t = get_take n (drop a items) i x at in
        let there : slice_get lifted (a + i) ≡ Some r = lifts.each (a + i) x r (sym (get_drop a items i) ∙ t.1) gives in
        take_get n (drop a lifted) i r t.0 (get_drop a lifted i ∙ there);
  }

  pub lifts_chunk : (size c : ℕ) → Lifts post (chunk_of size items c) (chunk_of size lifted c)
  lifts_chunk size c = lifts_range (c * size) size

  pub gives_items : (ops : Ops I) → All (IsItem ops) lifted → GivesItems post ops items
  gives_items ops all i x r at gives = all_at (IsItem ops) lifted i r all (lifts.each i x r at gives)

  -- one item more of a loop over the items
  pub lifted_more : (ops : Ops I) (a sum : I) (i : ℕ) (x : T) (r joined : I) → slice_get items i ≡ Some x → post x r → joined ≡ ops.join sum r
      → sum ≡ fold ops.join a (take i lifted) → joined ≡ fold ops.join a (take (i + 1) lifted)
  lifted_more ops a sum i x r joined at gives is so_far =
      let there : slice_get lifted i ≡ Some r = lifts.each i x r at gives in
      is ∙ (ap (λ (s : I). ops.join s r) so_far ∙ sym (fold_more ops.join a lifted i r (get_below lifted i r there) ∙ ap (ops.join (fold ops.join a (take i lifted))) (get_at lifted i r there)))

  -- and at the end of it
  pub listed_all : (ops : Ops I) (a : I) (list : List I) (i : ℕ) → i ≡ length items → list ≡ map (λ k. fold ops.join a (take k lifted)) (range_with_len 0 i) → list ≡ running ops a lifted
  listed_all ops a list i end is = is ∙ ap (λ (n : ℕ). map (λ k. fold ops.join a (take k lifted)) (range_with_len 0 n)) (end ∙ sym lifts.as_many)

-- one more of the joins before each item
pub listed_more : {I : Type 0} (ops : Ops I) (a : I) (lifted : List I) (i : ℕ) (list more : List I) (sum : I)
    → list ≡ map (λ k. fold ops.join a (take k lifted)) (range_with_len 0 i) → sum ≡ fold ops.join a (take i lifted) → more ≡ list ++ sum ∷ []
    → more ≡ map (λ k. fold ops.join a (take k lifted)) (range_with_len 0 (i + 1))
listed_more {I} ops a lifted i list more sum so_far is added =
    let before : ℕ → I = λ k. fold ops.join a (take k lifted) in
    added ∙ (ap (λ (l : List I). l ++ sum ∷ []) so_far ∙ (ap (λ (x : I). map before (range_with_len 0 i) ++ x ∷ []) is ∙ sym (map-range_with_len_more before 0 i i (omega arith))))

-- the same behind what a list has already
pub listed_behind : {I : Type 0} (ops : Ops I) (a : I) (lifted : List I) (i : ℕ) (front list more : List I) (sum : I)
    → list ≡ front ++ map (λ k. fold ops.join a (take k lifted)) (range_with_len 0 i) → sum ≡ fold ops.join a (take i lifted) → more ≡ list ++ sum ∷ []
    → more ≡ front ++ map (λ k. fold ops.join a (take k lifted)) (range_with_len 0 (i + 1))
listed_behind {I} ops a lifted i front list more sum so_far is added =
    let before : List I = map (λ k. fold ops.join a (take k lifted)) (range_with_len 0 i) in
    added ∙ (ap (λ (l : List I). l ++ sum ∷ []) so_far ∙ (append_assoc front before (sum ∷ []) ∙ ap (λ (l : List I). front ++ l) (listed_more ops a lifted i before (before ++ sum ∷ []) sum refl is refl)))

module _ {I : Type 0} (ops : Ops I) (items : List I) where
  pub fold_on : (a k : ℕ) → fold ops.join (prefix_of ops items a) (take k (drop a items)) ≡ prefix_of ops items (a + k)
  fold_on a k = sym (ap (fold_of ops) (take-add a k items) ∙ fold-append ops.join ops.unit (take a items) (take k (drop a items)))

  -- a loop over some of the items, from the place a on, makes their prefixes
  pub runs_from : (a n : ℕ) (start : I) → start ≡ prefix_of ops items a → (list : List I) → list ≡ running ops start (take n (drop a items))
      → list ≡ prefixes_from ops items a (length (take n (drop a items)))
  runs_from a n start is list made =
      made ∙ map_ranges (λ (k : ℕ). fold ops.join start (take k (take n (drop a items)))) (prefix_of ops items) 0 a (length (take n (drop a items)))
      (λ k h.
      let short : k ≤ n = omega (arith, length-range a n items) in
      let z : 0 + k ≡ k = omega arith in
      ap (λ (m : ℕ). fold ops.join start (take m (take n (drop a items)))) z
      ∙ (ap (fold ops.join start) (take-take k n (drop a items) short)
      ∙ (ap (λ (x : I). fold ops.join x (take k (drop a items))) is ∙ fold_on a k)))

module _ {I : Type 0} (ops : Ops I) (laws : IsMonoid ops) (size : ℕ) (pos : 0 < size) (items : List I) (ok : All (IsItem ops) items) where
  abbrev count : ℕ
  count = chunk_count size (length items)

  abbrev sums : List I
  sums = sums_of ops size items

  pub length-sums : length sums ≡ count
  length-sums = length-map-range_with_len (λ (c : ℕ). fold_of ops (chunk_of size items c)) 0 count

  chunk_items : (a n : ℕ) → All (IsItem ops) (take n (drop a items))
  chunk_items a n = All-take (IsItem ops) n (drop a items) (All-drop (IsItem ops) a items ok)

  pub sum_at : (c : ℕ) → c < length sums → slice_get sums c ≡ Some (fold_of ops (chunk_of size items c))
  sum_at c h = get_range (λ (k : ℕ). fold_of ops (chunk_of size items k)) count c ops.unit (omega (arith, length-sums))

  pub sums_are_items : All (IsItem ops) sums
  sums_are_items k d h =
      let at = sum_at k h in
      let is : get_or sums k d ≡ fold_of ops (chunk_of size items k) = got sums k d _ at in
      subst (IsItem ops) (sym is) (fold_of-item ops laws (chunk_of size items k) (chunk_items (k * size) size))
    where
      got : (xs : List I) (k : ℕ) (d x : I) → slice_get xs k ≡ Some x → get_or xs k d ≡ x
      got [] k d x at = absurd cc
      got (y ∷ ys) zero d x at = cc
      got (y ∷ ys) (suc k) d x at = got ys k d x at

  -- the join before a place, and this many items more
  prefix_join : (a k : ℕ) → prefix_of ops items (a + k) ≡ ops.join (prefix_of ops items a) (fold_of ops (take k (drop a items)))
  prefix_join a k = ap (fold_of ops) (take-add a k items) ∙ fold_append ops laws (take a items) (take k (drop a items)) (All-take (IsItem ops) a items ok) (chunk_items a k)

  -- the join of the sums before a chunk is the join of the items before it
  pub chunk_before : (c : ℕ) → c ≤ count → prefix_of ops sums c ≡ prefix_of ops items (c * size)
  chunk_before zero h = let n : 0 ≡ 0 * size = omega arith in ap (prefix_of ops items) n
  chunk_before (suc c) h =
      let near : c < length sums = omega (arith, length-sums) in
      let n : c * size + size ≡ suc c * size = sym (suc-mul c size) in
      ap (prefix_of ops sums) (sym (add-one c))
      ∙ (prefix_next ops sums c _ (sum_at c near)
      ∙ (ap (λ (x : I). ops.join x (fold_of ops (chunk_of size items c))) (chunk_before c (omega arith))
      ∙ (sym (prefix_join (c * size) size) ∙ ap (prefix_of ops items) n)))

-- the same of a scan that is named
module _ {T I : Type 0} (ops : Ops I) (post : T → I → Type 0) (size : ℕ) (items : List T) (lifted sums : List I) (scans : Scans ops post size items lifted sums) where
  pub count_is : length sums ≡ chunk_count size (length lifted)
  count_is = ap length scans.cut ∙ length-map-range_with_len (λ (c : ℕ). fold_of ops (chunk_of size lifted c)) 0 (chunk_count size (length lifted))

  pub chunk_starts : 0 < size → (c : ℕ) → c < length sums → c * size < length items
  chunk_starts pos c h = subst (λ (n : ℕ). c * size < n) scans.lifts.as_many (chunk_inside (length lifted) size c pos (omega (arith, count_is)))

  pub gives_chunk : (c : ℕ) (part : List T) → part ≡ chunk_of size items c → GivesItems post ops part
  gives_chunk c part is = subst (GivesItems post ops) (sym is)
      (gives_items post (chunk_of size items c) (chunk_of size lifted c) (lifts_chunk post items lifted scans.lifts size c) ops (All-take (IsItem ops) size (drop (c * size) lifted) (All-drop (IsItem ops) (c * size) lifted scans.accepted)))

  pub lifts_part : (c : ℕ) (part : List T) → part ≡ chunk_of size items c → Lifts post part (chunk_of size lifted c)
  lifts_part c part is = subst (λ (l : List T). Lifts post l (chunk_of size lifted c)) (sym is) (lifts_chunk post items lifted scans.lifts size c)

  pub sum_of_chunk : (c : ℕ) → c < length sums → (part : List T) → part ≡ chunk_of size items c → (sum : I) → ((ys : List I) → Lifts post part ys → sum ≡ fold_of ops ys) → slice_get sums c ≡ Some sum
  sum_of_chunk c h part is sum folds =
      ap (λ (l : List I). slice_get l c) scans.cut
      ∙ (get_range (λ (k : ℕ). fold_of ops (chunk_of size lifted k)) (chunk_count size (length lifted)) c ops.unit (omega (arith, count_is)) ∙ ap Some (sym (folds (chunk_of size lifted c) (lifts_part c part is))))

  -- a piece of the items that begins where a chunk does
  module _ (laws : IsMonoid ops) (pos : 0 < size) (c a n : ℕ) (begins : c * size ≡ a) (inside : a + n ≤ length items) (some : 0 < n) where
    pub piece_near : c < length sums
    piece_near =
        let z : ℕ = c * size in let b : z ≡ a = begins in let less : z < length lifted = omega (arith, scans.lifts.as_many) in
        subst (λ (k : ℕ). c < k) (sym count_is) (chunk_near (length lifted) size c pos less)

    pub piece_starts : prefix_of ops sums c ≡ prefix_of ops lifted a
    piece_starts =
        ap (λ (l : List I). prefix_of ops l c) scans.cut
        ∙ (chunk_before ops laws size pos lifted scans.accepted c (let near = piece_near in let is = count_is in omega arith) ∙ ap (prefix_of ops lifted) begins)

    pub piece_gives : (part : List T) → part ≡ take n (drop a items) → GivesItems post ops part
    piece_gives part is = subst (GivesItems post ops) (sym is)
        (gives_items post (take n (drop a items)) (take n (drop a lifted)) (lifts_range post items lifted scans.lifts a n) ops (All-take (IsItem ops) n (drop a lifted) (All-drop (IsItem ops) a lifted scans.accepted)))

    pub piece_filled : (part : List T) → part ≡ take n (drop a items) → (start : I) → start ≡ prefix_of ops sums c → (out : List I)
        → ((ys : List I) → Lifts post part ys → out ≡ running ops start ys) → out ≡ prefixes_from ops lifted a n
    piece_filled part is start start_is out runs =
        let long : length (take n (drop a lifted)) ≡ n = omega (arith, length-range a n lifted, scans.lifts.as_many) in
        let lifts : Lifts post part (take n (drop a lifted)) = subst (λ (l : List T). Lifts post l (take n (drop a lifted))) (sym is) (lifts_range post items lifted scans.lifts a n) in
        runs_from ops lifted a n start (start_is ∙ piece_starts) out (runs (take n (drop a lifted)) lifts) ∙ ap (prefixes_from ops lifted a) long
