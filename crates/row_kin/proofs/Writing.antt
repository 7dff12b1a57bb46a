-- What a row writes of those that it takes in.
use Rattle.std.proofs.Common.{◌≡◌, ◌≢◌, ℕ, ◌+◌, ◌-◌, ◌<◌, ◌≤◌, ◌⊎◌, inl, inr, List, length, set, sym, ap, ◌∙◌, subst, arith, get_or-set_other, get_or-set_same}
use Rattle.std.proofs.lemmas.Bool.{cases_lt}
use Rattle.list_cuts.specs.Cuts.{number_at}
use Rattle.row_kin.specs.Taken.{taker, first_of, taken_by, parent_by, placed_by, Looks}
use Rattle.row_kin.proofs.Looking.{takes_one, inside_ends, outside_stays, look_steps, is_first, one_more, one_here, parent_same, parent_new, place_same, place_new}

pub set_other : (ns : List ℕ) (q k v : ℕ) → k ≢ q → number_at (set ns q v) k ≡ number_at ns k
set_other ns q k v ne = get_or-set_other ns q k v 0 ne

pub set_same : (ns : List ℕ) (q v : ℕ) → q < length ns → number_at (set ns q v) q ≡ v
set_same ns q v lt = get_or-set_same ns q v 0 lt

-- the number at a place, where one was written behind those that are known
pub set_last : (ns : List ℕ) (i v k : ℕ) (f : ℕ → ℕ) → i < length ns → v ≡ f i → (k < i → number_at ns k ≡ f k) → k < i + 1 → number_at (set ns i v) k ≡ f k
set_last ns i v k f within here before lt = by (cases_lt k i)
  where
    by : (k < i) ⊎ (i ≤ k) → number_at (set ns i v) k ≡ f k
    by (inl less) = set_other ns i k v (omega arith) ∙ before less
    by (inr ge) = let e : i ≡ k = omega arith in subst (λ (j : ℕ). number_at (set ns i v) j ≡ f j) e (set_same ns i v within ∙ here)

module _ (lows : List ℕ) (i : ℕ) (few : i < length lows) where
  -- what is known of the last row that waits
  pub taken_top : (top : ℕ) → 0 < top → top ≤ i → Looks lows i top → number_at lows i ≤ number_at lows (top - 1) → taker lows (top - 1) ≡ i
  taken_top top some le look low = takes_one lows i (top - 1) (omega arith) few (look.waits (top - 1) (omega arith)) low

  pub look_more : (top t : ℕ) → 0 < top → top ≤ i → Looks lows i top → number_at lows i ≤ number_at lows (top - 1) → t ≡ first_of lows (top - 1) → Looks lows i t
  look_more top t some le look low is =
      let e : top ≡ top - 1 + 1 = omega arith in
      subst (Looks lows i) (sym is) (look_steps lows i (top - 1) (omega arith) few (subst (Looks lows i) e look) low)

  pub top_falls : (top t : ℕ) → 0 < top → top ≤ i → t ≡ first_of lows (top - 1) → t < top
  top_falls top t some le is = let h = (is_first lows (top - 1) (omega arith)).high in omega arith

  -- a row that is taken in begins no earlier than where an earlier look ended
  pub top_above : (start top t : ℕ) → start < top → top ≤ i → Looks lows i start → t ≡ first_of lows (top - 1) → start ≤ t
  top_above start top t less le look is = by (cases_lt t start)
    where
      by : (t < start) ⊎ (start ≤ t) → start ≤ t
      by (inr ge) = ge
      by (inl lt) = absurd (let w = look.waits (start - 1) (omega arith) in let e = inside_ends lows (top - 1) (start - 1) (omega arith) (omega arith) (omega arith) in omega arith)

  pub count_falls : (top t : ℕ) → 0 < top → top ≤ i → taker lows (top - 1) ≡ i → t ≡ first_of lows (top - 1) → taken_by lows i top ≡ taken_by lows i t + 1
  count_falls top t some le taken is =
      ap (taken_by lows i) (let e : top ≡ top - 1 + 1 = omega arith in e)
      ∙ one_more lows i (top - 1) (omega arith) few taken
      ∙ ap (λ (k : ℕ). taken_by lows i k + 1) (sym is)

  -- the rank of the row before top
  pub rank_here : (top t : ℕ) → 0 < top → top ≤ i → taker lows (top - 1) ≡ i → t ≡ first_of lows (top - 1) → taken_by lows i t ≡ taken_by lows i (top - 1)
  rank_here top t some le taken is = ap (taken_by lows i) is ∙ one_here lows i (top - 1) (omega arith) few taken

  -- the subtree of a row that is taken in begins no earlier than that of row i
  pub none_left : (k : ℕ) → k < first_of lows i → taker lows k ≢ i
  none_left k lt = outside_stays lows i k few lt

  pub roots_taken : (ns : List ℕ) (top t start : ℕ) → 0 < top → top ≤ i → start ≤ i → top - 1 < length ns → taker lows (top - 1) ≡ i → t ≡ first_of lows (top - 1) → ((k : ℕ) → k < top → number_at ns k ≡ parent_by lows i k) → ((k : ℕ) → top ≤ k → k < start → number_at ns k ≡ parent_by lows (i + 1) k) → (k : ℕ) → t ≤ k → k < start → number_at (set ns (top - 1) i) k ≡ parent_by lows (i + 1) k
  roots_taken ns top t start some le order within taken is roots done k a b = by (cases_lt k (top - 1)) (cases_lt (top - 1) k)
    where
      by : (k < top - 1) ⊎ (top - 1 ≤ k) → (top - 1 < k) ⊎ (k ≤ top - 1) → number_at (set ns (top - 1) i) k ≡ parent_by lows (i + 1) k
      by (inl less) any =
          let e = inside_ends lows (top - 1) k (omega arith) (omega arith) less in
          set_other ns (top - 1) k i (omega arith) ∙ roots k (omega arith) ∙ parent_same lows i k (omega arith)
      by (inr ge) (inl more) = set_other ns (top - 1) k i (omega arith) ∙ done k (omega arith) b
      by (inr ge) (inr same) =
          let e : top - 1 ≡ k = omega arith in
          subst (λ (j : ℕ). number_at (set ns (top - 1) i) j ≡ parent_by lows (i + 1) j) e (set_same ns (top - 1) i within ∙ parent_new lows i (top - 1) taken)

  pub places_taken : (ns old : List ℕ) (top t start rank : ℕ) → 0 < top → top ≤ i → top - 1 < length ns → taker lows (top - 1) ≡ i → t ≡ first_of lows (top - 1) → rank ≡ taken_by lows i t → ((k : ℕ) → k < top → number_at ns k ≡ number_at old k) → ((k : ℕ) → top ≤ k → k < start → number_at ns k ≡ placed_by lows i k (number_at old k)) → (k : ℕ) → t ≤ k → k < start → number_at (set ns (top - 1) rank) k ≡ placed_by lows i k (number_at old k)
  places_taken ns old top t start rank some le within taken is ranked before done k a b = by (cases_lt k (top - 1)) (cases_lt (top - 1) k)
    where
      by : (k < top - 1) ⊎ (top - 1 ≤ k) → (top - 1 < k) ⊎ (k ≤ top - 1) → number_at (set ns (top - 1) rank) k ≡ placed_by lows i k (number_at old k)
      by (inl less) any =
          let e = inside_ends lows (top - 1) k (omega arith) (omega arith) less in
          set_other ns (top - 1) k rank (omega arith) ∙ before k (omega arith) ∙ sym (place_same lows i k (number_at old k) (omega arith))
      by (inr ge) (inl more) = set_other ns (top - 1) k rank (omega arith) ∙ done k (omega arith) b
      by (inr ge) (inr same) =
          let e : top - 1 ≡ k = omega arith in
          subst (λ (j : ℕ). number_at (set ns (top - 1) rank) j ≡ placed_by lows i j (number_at old j)) e
          (set_same ns (top - 1) rank within ∙ ranked ∙ rank_here top t some le taken is ∙ sym (place_new lows i (top - 1) (number_at old (top - 1)) taken))
