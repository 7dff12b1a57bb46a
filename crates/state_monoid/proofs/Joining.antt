-- The table of joins, column by column.
use Rattle.std.proofs.Common.{◌≡◌, ℕ, ◌+◌, ◌*◌, ◌<◌, ◌≤◌, List, [], ◌∷◌, ◌++◌, length, get_or, take, drop, map, All, Some, slice_get, sym, ap, subst, ◌∙◌, arith, ⊎_elim}
use Rattle.std.specs.Prelude.{slice_index, slice_index_or}
use Rattle.std.specs.List.{range_with_len}
use Rattle.std.proofs.Math.Nat.{mul-le-mul_right}
use Rattle.std.proofs.lemmas.Bool.{cases_lt}
use Rattle.std.proofs.lemmas.List.{length-map, get_or-map, get_or-take, get_or-drop, length-take-le, length-drop, length-append, get_or-append-add, get_or_append_left}
use Rattle.std.proofs.lemmas.List.Elements.{All-append}
use Rattle.std.proofs.lemmas.List.FromFn.{length-range_with_len, get_or-range_with_len}
use Rattle.word_monoid.specs.Laws.Folds.{get_below}
use Rattle.state_monoid.specs.Automaton.{Automaton, IsAutomaton}
use Rattle.state_monoid.specs.Image.{compose, image}
use Rattle.state_monoid.specs.declared.explore.Origin.{Origin}
use Rattle.state_monoid.specs.Explored.{IsMade, AreExplored, AreRows, AreColumns, AreJoined}
use Rattle.state_monoid.specs.Places.{value_get, get_value, length_pushed, pushed_below, pushed_last}
use Rattle.state_monoid.specs.Reached.{reached_assoc, reached_identity}

pub columns_more : (rows columns : List (List ℕ)) (column : List ℕ) (n : ℕ) → AreColumns rows n columns → column ≡ map (λ row. slice_index row n) rows → AreColumns rows (n + 1) (columns ++ column ∷ [])
columns_more rows columns column n so is = record {
  one_for_each = length_pushed columns column ∙ (let len = so.one_for_each in omega arith);
  each_letter = λ g h. ⊎_elim
      (λ (below : g < n). pushed_below columns column [] g (let len = so.one_for_each in omega arith) ∙ so.each_letter g below)
      (λ (above : n ≤ g).
      let here : g ≡ n = omega arith in
      pushed_last columns column [] g (let len = so.one_for_each in omega arith) ∙ (is ∙ ap (λ (k : ℕ). map (λ row. slice_index row k) rows) (sym here)))
      (cases_lt g n);
}

-- what a column has at each function: its number with the letter behind it
pub record IsColumn (fs : List (List ℕ)) (letter column : List ℕ) : Type 0 where
  pub one_for_each : length column ≡ length fs
  pub each_function : (a : ℕ) → a < length fs → slice_get fs (slice_index column a) ≡ Some (compose (slice_index_or fs a []) letter)

pub column_of : (letters fs rows columns : List (List ℕ)) (g : ℕ) → AreRows letters fs rows → length rows ≡ length fs → AreColumns rows (length letters) columns → g < length letters
    → IsColumn fs (slice_index_or letters g []) (slice_index_or columns g [])
column_of letters fs rows columns g so all cs h =
    let is : slice_index_or columns g [] ≡ map (λ row. slice_index row g) rows = cs.each_letter g h in
    record {
      one_for_each = ap (λ (l : List ℕ). length l) is ∙ (length-map rows (λ row. slice_index row g) ∙ all);
      each_function = λ a b.
          let inside : a < length rows = omega arith in
          let row : List ℕ = slice_index_or rows a [] in
          let at : slice_index (slice_index_or columns g []) a ≡ slice_index row g = ap (λ (l : List ℕ). slice_index l a) is ∙ get_or-map (λ row. slice_index row g) rows a [] 0 inside in
          ap (slice_get fs) at ∙ (so a row (value_get rows a [] inside)).each_letter g h;
    }

-- the functions joined with the identity
pub joined_first : (d : Automaton) → IsAutomaton d → (letters fs : List (List ℕ)) (os : List Origin) → AreExplored d letters fs os → AreJoined fs 1 (range_with_len 0 (length fs))
joined_first d valid letters fs os so = record {
  one_for_each = let len = length-range_with_len 0 (length fs) in omega arith;
  codes = λ k e h.
      let len = length-range_with_len 0 (length fs) in
      let at : get_or (range_with_len 0 (length fs)) k e ≡ 0 + k = get_or-range_with_len 0 (length fs) k e (omega arith) in
      omega (arith, at);
  each_pair = λ a b h k.
      let none : b ≡ 0 = omega arith in
      let place : b * length fs + a ≡ a = ap (λ (n : ℕ). n * length fs + a) none ∙ (omega arith) in
      let at : slice_index (range_with_len 0 (length fs)) (b * length fs + a) ≡ a = ap (slice_index (range_with_len 0 (length fs))) place ∙ (get_or-range_with_len 0 (length fs) a 0 h ∙ (omega arith)) in
      let f : List ℕ = slice_index_or fs a [] in
      let first : slice_index_or fs b [] ≡ image d [] = ap (λ (n : ℕ). slice_index_or fs n []) none ∙ get_value fs 0 (image d []) [] so.first in
      ap (slice_get fs) at ∙ (value_get fs a [] h ∙ ap Some (sym (ap (compose f) first ∙ reached_identity d valid f (so.reached a [] h))));
}

-- the joins with one function more
module _ (d : Automaton) (valid : IsAutomaton d) (letters fs : List (List ℕ)) (os : List Origin) (so : AreExplored d letters fs os) (n : ℕ) (o : Origin) (made : IsMade letters fs n o)
    (joins : List ℕ) (done : AreJoined fs n joins) (column : List ℕ) (at_letter : IsColumn fs (slice_index_or letters o.letter []) column) where
  pub room : o.before * length fs + length fs ≤ length joins
  room =
      let earlier : o.before + 1 ≤ n = (let e = made.earlier in omega arith) in
      let product : (o.before + 1) * length fs ≤ n * length fs = mul-le-mul_right (length fs) earlier in
      let len = done.one_for_each in
      omega (arith, product, len)

  before_at : List ℕ
  before_at = take (length fs) (drop (o.before * length fs) joins)

  length-before_at : length before_at ≡ length fs
  unfolding before_at
  length-before_at =
      let r = room in
      length-take-le (length fs) (drop (o.before * length fs) joins) (let len = length-drop (o.before * length fs) joins in omega arith)

  before_is : (a : ℕ) → a < length fs → slice_index before_at a ≡ slice_index joins (o.before * length fs + a)
  unfolding before_at
  before_is a h = get_or-take (length fs) (drop (o.before * length fs) joins) a 0 h ∙ get_or-drop (o.before * length fs) joins a 0

  old_pair : (a b : ℕ) → a < length fs → b < n → b * length fs + a < length joins
  old_pair a b h k =
      let earlier : b + 1 ≤ n = omega arith in
      let product : (b + 1) * length fs ≤ n * length fs = mul-le-mul_right (length fs) earlier in
      let len = done.one_for_each in
      omega (arith, product, len)

  new_pair : (a : ℕ) → a < length fs → slice_get fs (slice_index column (slice_index before_at a)) ≡ Some (compose (slice_index_or fs a []) (slice_index_or fs n []))
  new_pair a h =
      let p : ℕ = o.before in
      let r : ℕ = slice_index before_at a in
      let fa : List ℕ = slice_index_or fs a [] in
      let fp : List ℕ = slice_index_or fs p [] in
      let letter : List ℕ = slice_index_or letters o.letter [] in
      let small : n < length fs = get_below fs n (compose fp letter) made.made in
      let p_small : p < length fs = (let e = made.earlier in omega arith) in
      let at : slice_get fs r ≡ Some (compose fa fp) = ap (slice_get fs) (before_is a h) ∙ done.each_pair a p h made.earlier in
      let r_small : r < length fs = get_below fs r (compose fa fp) at in
      let r_is : slice_index_or fs r [] ≡ compose fa fp = get_value fs r (compose fa fp) [] at in
      let n_is : slice_index_or fs n [] ≡ compose fp letter = get_value fs n (compose fp letter) [] made.made in
      at_letter.each_function r r_small
      ∙ ap Some (ap (λ (f : List ℕ). compose f letter) r_is ∙ (reached_assoc d valid fa fp letter (so.reached a [] h) (so.reached p [] p_small) ∙ ap (compose fa) (sym n_is)))

  pub joins_more : AreJoined fs (n + 1) (joins ++ map (slice_index column) (take (length fs) (drop (o.before * length fs) joins)))
  unfolding before_at
  joins_more = record {
    one_for_each =
        let len = done.one_for_each in
        let more : length (map (slice_index column) before_at) ≡ length fs = length-map before_at (slice_index column) ∙ length-before_at in
        let sum = length-append joins (map (slice_index column) before_at) in
        omega (arith, len, more, sum);
    codes = All-append (λ code. code < length fs) joins (map (slice_index column) before_at) done.codes
        (λ k e h.
        let more : length (map (slice_index column) before_at) ≡ length fs = length-map before_at (slice_index column) ∙ length-before_at in
        let inside : k < length before_at = (let len = length-before_at in omega arith) in
        let at : get_or (map (slice_index column) before_at) k e ≡ slice_index column (slice_index before_at k) = get_or-map (slice_index column) before_at k 0 e inside in
        let below = get_below fs (slice_index column (slice_index before_at k)) _ (new_pair k (omega (arith, more, h))) in
        omega (arith, at, below));
    each_pair = λ a b h k. ⊎_elim
        (λ (below : b < n). ap (slice_get fs) (get_or_append_left joins (map (slice_index column) before_at) 0 (b * length fs + a) (old_pair a b h below)) ∙ done.each_pair a b h below)
        (λ (above : n ≤ b).
        let here : b ≡ n = omega arith in
        let place : b * length fs + a ≡ length joins + a = ap (λ (m : ℕ). m * length fs + a) here ∙ ap (λ (m : ℕ). m + a) (sym done.one_for_each) in
        let inside : a < length before_at = (let len = length-before_at in omega arith) in
        let at : slice_index (joins ++ map (slice_index column) before_at) (b * length fs + a) ≡ slice_index column (slice_index before_at a) =
        ap (slice_index (joins ++ map (slice_index column) before_at)) place
        ∙ (get_or-append-add joins (map (slice_index column) before_at) a 0 ∙ get_or-map (slice_index column) before_at a 0 0 inside) in
        ap (slice_get fs) at ∙ (new_pair a h ∙ ap (λ (m : ℕ). Some (compose (slice_index_or fs a []) (slice_index_or fs m []))) (sym here)))
        (cases_lt b n);
  }

-- one step of the table, at the origin of the function that comes next
pub record Joins (letters fs : List (List ℕ)) (columns : List (List ℕ)) (n : ℕ) (o : Origin) (joins : List ℕ) : Type 0 where
  pub letter : o.letter < length columns
  pub codes : All (λ code. code < length (slice_index_or columns o.letter [])) joins
  pub within : o.before * length fs + length fs ≤ length joins
  pub more : AreJoined fs (n + 1) (joins ++ map (slice_index (slice_index_or columns o.letter [])) (take (length fs) (drop (o.before * length fs) joins)))

pub join_step : (d : Automaton) → IsAutomaton d → (letters fs : List (List ℕ)) (os : List Origin) (rows columns : List (List ℕ)) (n : ℕ) (o : Origin) (joins : List ℕ)
    → AreExplored d letters fs os → AreRows letters fs rows → length rows ≡ length fs → AreColumns rows (length letters) columns → AreJoined fs n joins
    → 0 < n → slice_get os n ≡ Some o → Joins letters fs columns n o joins
join_step d valid letters fs os rows columns n o joins so rs all cs done some at =
    let made : IsMade letters fs n o = so.origins n o some at in
    let column : IsColumn fs (slice_index_or letters o.letter []) (slice_index_or columns o.letter []) = column_of letters fs rows columns o.letter rs all cs made.letter in
    record {
      letter = let len = cs.one_for_each in let l = made.letter in omega arith;
      codes = subst (λ (m : ℕ). All (λ code. code < m) joins) (sym column.one_for_each) done.codes;
      within = room d valid letters fs os so n o made joins done (slice_index_or columns o.letter []) column;
      more = joins_more d valid letters fs os so n o made joins done (slice_index_or columns o.letter []) column;
    }

pub rows_length : {V : Type 0} (items : V → List ℕ) (letters fs : List (List ℕ)) (rows : List V) → AreRows letters fs (map items rows) → All (λ row. length (items row) ≡ length letters) rows
rows_length items letters fs rows so k d h =
    (so k (items (get_or rows k d)) (value_get (map items rows) k [] (let len = length-map rows items in omega arith) ∙ ap Some (get_or-map items rows k d [] h))).one_for_each

pub column_read : {V : Type 0} (items : V → List ℕ) (columns : List V) (g : ℕ) (v : V) → v ≡ get_or columns g v → g < length columns → items v ≡ slice_index_or (map items columns) g []
column_read items columns g v is h = ap items is ∙ sym (get_or-map items columns g v [] h)
