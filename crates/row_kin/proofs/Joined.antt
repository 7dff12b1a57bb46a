-- The lists of what stretches know by themselves, one behind the other, have it at its places.
use Rattle.std.proofs.Common.{◌≡◌, ℕ, zero, suc, ◌+◌, ◌-◌, ◌<◌, ◌≤◌, ◌⊎◌, inl, inr, List, ◌++◌, length, map, get_or, take, drop, refl, ap, ◌∙◌, arith, length-drop, get_or-drop, get_or-take}
use Rattle.std.specs.List.{range_with_len, flat_map}
use Rattle.std.proofs.lemmas.Bool.{cases_lt}
use Rattle.std.proofs.lemmas.List.{get_or-map, length-append, get_or_append_left, get_or-append_right, length-take-le}
use Rattle.list_cuts.specs.Cuts.{number_at, start_of, AreCuts}
use Rattle.row_kin.proofs.Starts.{starts_rise}
use Rattle.row_kin.proofs.Cutting.{flat_map_more}
use Rattle.row_kin.specs.declared.stretches.Ties.{Ties}
use Rattle.row_kin.specs.Taken.{first_of, parent_by, place_by}
use Rattle.row_kin.specs.Alone.{ties_of, ties_alone, ties_by_stretches}
use Rattle.row_kin.specs.Settles.{Stretched}
use Rattle.row_kin.proofs.Parts.{alone_of, ties_many, ties_there}

-- lists one behind the other, as long as stretches are
module _ {X : Type 0} (d : X) (part : ℕ → List X) (ends : List ℕ) (n : ℕ) (cuts : AreCuts ends n) (sizes : (c : ℕ) → c < length ends → length (part c) ≡ number_at ends c - start_of ends c) where
  abbrev first_parts : ℕ → List X
  first_parts c = flat_map part (range_with_len 0 c)

  more : (c : ℕ) → first_parts (suc c) ≡ first_parts c ++ part c
  more c = flat_map_more part 0 c ∙ ap (λ (m : ℕ). first_parts c ++ part m) (let z : 0 + c ≡ c = omega arith in z)

  parts_many : (c : ℕ) → c ≤ length ends → length (first_parts c) ≡ start_of ends c
  parts_many zero le = refl
  parts_many (suc c) le =
      let o = cuts.order c (omega arith) in
      let p = sizes c (omega arith) in
      let q = parts_many c (omega arith) in
      let l = length-append (first_parts c) (part c) in
      ap length (more c) ∙ (let e : length (first_parts c ++ part c) ≡ number_at ends c = omega arith in e)

  stands : (last c k : ℕ) → last ≤ length ends → c < last → start_of ends c ≤ k → k < number_at ends c → get_or (first_parts last) k d ≡ get_or (part c) (k - start_of ends c) d
  stands zero c k few lt low high = absurd (omega arith)
  stands (suc last) c k few lt low high = ap (λ (l : List X). get_or l k d) (more last) ∙ by (cases_lt c last) (λ less. stands last c k (omega arith) less low high)
    where
      by : (c < last) ⊎ (last ≤ c) → (c < last → get_or (first_parts last) k d ≡ get_or (part c) (k - start_of ends c) d) → get_or (first_parts last ++ part last) k d ≡ get_or (part c) (k - start_of ends c) d
      by (inl less) before =
          let r = starts_rise ends c last last (λ e g h. cuts.order e (omega arith)) less (omega arith) in
          let m = parts_many last (omega arith) in
          get_or_append_left (first_parts last) (part last) d k (omega arith) ∙ before less
      by (inr ge) before =
          let e : last ≡ c = omega arith in
          ap (λ (b : ℕ). get_or (first_parts b ++ part b) k d) e
          ∙ get_or-append_right (first_parts c) (part c) (start_of ends c) k d (parts_many c (omega arith)) low

  pub joined_long : length (flat_map part (range_with_len 0 (length ends))) ≡ n
  joined_long = parts_many (length ends) (omega arith) ∙ cuts.all

  pub joined_there : (c k : ℕ) → c < length ends → start_of ends c ≤ k → k < number_at ends c → get_or (flat_map part (range_with_len 0 (length ends))) k d ≡ get_or (part c) (k - start_of ends c) d
  joined_there c k lt low high = stands (length ends) c k (omega arith) lt low high

-- a list's rows from `from` on, before `to`
module _ (lows : List ℕ) (from to : ℕ) (order : from ≤ to) (within : to ≤ length lows) where
  pub sub_many : length (take (to - from) (drop from lows)) ≡ to - from
  sub_many = let l = length-drop from lows in length-take-le (to - from) (drop from lows) (omega arith)

  pub sub_there : (j : ℕ) → j < to - from → number_at (take (to - from) (drop from lows)) j ≡ number_at lows (from + j)
  sub_there j lt = get_or-take (to - from) (drop from lows) j 0 lt ∙ get_or-drop from lows j 0

module _ (lows ends : List ℕ) (n : ℕ) (cuts : AreCuts ends n) (all : n ≡ length lows) where
  abbrev none : Ties
  none = ties_of 0 0 0

  abbrev sub : ℕ → List ℕ
  sub c = take (number_at ends c - start_of ends c) (drop (start_of ends c) lows)

  sub_long : (c : ℕ) → c < length ends → length (sub c) ≡ number_at ends c - start_of ends c
  sub_long c lt = sub_many lows (start_of ends c) (number_at ends c) (cuts.order c lt) (let w = cuts.within c lt in omega arith)

  part_many : (c : ℕ) → c < length ends → length (ties_alone lows (start_of ends c) (number_at ends c)) ≡ number_at ends c - start_of ends c
  part_many c lt = ties_many (start_of ends c) (sub c) ∙ sub_long c lt

  pub joined_many : length (ties_by_stretches lows ends) ≡ n
  joined_many = joined_long none (λ c. ties_alone lows (start_of ends c) (number_at ends c)) ends n cuts part_many

  field : (f : Ties → ℕ) (c j : ℕ) → c < length ends → j < number_at ends c - start_of ends c → number_at (map f (ties_by_stretches lows ends)) (start_of ends c + j) ≡ f (ties_of (start_of ends c + parent_by (sub c) (length (sub c)) j) (start_of ends c + first_of (sub c) j) (place_by (sub c) (length (sub c)) j))
  field f c j lt less =
      let w = cuts.within c lt in
      let m = joined_many in
      let l = sub_long c lt in
      get_or-map f (ties_by_stretches lows ends) (start_of ends c + j) none 0 (omega arith)
      ∙ ap f (joined_there none (λ b. ties_alone lows (start_of ends b) (number_at ends b)) ends n cuts part_many c (start_of ends c + j) lt (omega arith) (omega arith)
      ∙ ap (λ (i : ℕ). get_or (ties_alone lows (start_of ends c) (number_at ends c)) i none) (let e : start_of ends c + j - start_of ends c ≡ j = omega arith in e)
      ∙ ties_there (start_of ends c) (sub c) j (omega arith))

  -- each stretch is done by itself
  pub joined_alone : Stretched lows (map (λ t. t.parent) (ties_by_stretches lows ends)) (map (λ t. t.low) (ties_by_stretches lows ends)) (map (λ t. t.place) (ties_by_stretches lows ends)) ends 0 (length ends)
  joined_alone = record {
    order = λ c a b. cuts.order c b;
    within = λ c a b. let w = cuts.within c b in omega arith;
    alone = λ c a b.
        let o = cuts.order c b in
        let w : number_at ends c ≤ length lows = (let v = cuts.within c b in omega arith) in
        alone_of lows (sub c) (start_of ends c) (number_at ends c) o w (sub_many lows (start_of ends c) (number_at ends c) o w) (sub_there lows (start_of ends c) (number_at ends c) o w)
        (map (λ t. t.parent) (ties_by_stretches lows ends)) (map (λ t. t.low) (ties_by_stretches lows ends)) (map (λ t. t.place) (ties_by_stretches lows ends))
        (λ j lt. field (λ t. t.parent) c j b lt) (λ j lt. field (λ t. t.low) c j b lt) (λ j lt. field (λ t. t.place) c j b lt);
  }
