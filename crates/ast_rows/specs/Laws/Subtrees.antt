-- Where subtrees begin, and how many children nodes have, by the parents of rows.
use Rattle.std.proofs.Common.{◌≡◌, ℕ, zero, suc, ◌+◌, ◌<◌, ◌≤◌, ◌⊎◌, inl, inr, Bool, true, false, List, [], ◌∷◌, ◌++◌, length, map, None, refl, sym, ap, subst, ◌∙◌, arith, length-append, get_or}
use Rattle.std.specs.Prelude.{◌&&◌, nat_lt, nat_le, nat_eq, if◌then◌else◌}
use Rattle.std.specs.List.{range_with_len}
use Rattle.std.proofs.lemmas.Bool.{cases_lt}
use Rattle.std.proofs.lemmas.Bool.Decides.{nat_tests}
use Rattle.source_meaning.specs.declared.kinds.Kind.TheVariants.{Program as ProgramKind}
use Rattle.source_meaning.specs.Ast.{Program}
use Rattle.source_meaning.specs.Rows.{Row, Node, node, Nodes, last, next, nodes_rows, functions_nodes, program_node, post}
use Rattle.ast_rows.specs.NodeRows.{children_before, count_at, counts_of, low_at, lows_of, parent_numbers, run_before}
use Rattle.ast_rows.specs.Subtrees.{node_counts, node_lows, nodes_counts, nodes_lows, nodes_many}

where_is : (k m : ℕ) → (k < m) ⊎ ((k ≡ m) ⊎ (m < k))
where_is k m = elim (cases_lt k m) [ inl a ↦ inl a | inr b ↦ elim (cases_lt m k) [ inl c ↦ inr (inr c) | inr d ↦ inr (inl (omega arith)) ] ]

lies : (k q r : ℕ) → k < q → q ≤ r → (nat_lt k q && nat_le q r) ≡ true
lies k q r a b = grind (arith, nat_tests)

lies_not : (k q r : ℕ) → r < q → (nat_lt k q && nat_le q r) ≡ false
lies_not k q r a = grind (arith, nat_tests)

abbrev bit : Bool → ℕ
bit b = if b then 1 else 0

module _ (parents : List ℕ) where
  abbrev par : ℕ → ℕ
  par k = get_or parents k 0

  -- rows that lie below a row are passed, and the run ends before one that does not
  passed : (r k : ℕ) → k < par k → par k ≤ r → run_before parents r (suc k) ≡ run_before parents r k
  passed r k a b = ap (λ (c : Bool). if c then run_before parents r k else suc k) (lies k (par k) r a b)

  skipped : (r i n : ℕ) → ((k : ℕ) → i ≤ k → k < i + n → (k < par k) × (par k ≤ r)) → run_before parents r (i + n) ≡ run_before parents r i
  skipped r i zero h = ap (run_before parents r) (let e : i + 0 ≡ i = omega arith in e)
  skipped r i (suc n) h =
      let x = h (i + n) (omega arith) (omega arith) in
      ap (run_before parents r) (let e : i + suc n ≡ suc (i + n) = omega arith in e)
      ∙ passed r (i + n) x.0 x.1
      ∙ skipped r i n (λ k a b. h k a (omega arith))

  stopped : (r i : ℕ) → ((m : ℕ) → m + 1 ≡ i → r < par m) → run_before parents r i ≡ i
  stopped r zero h = refl
  stopped r (suc m) h = ap (λ (c : Bool). if c then run_before parents r m else suc m) (lies_not m (par m) r (h m (omega arith)))

  -- numbers that each place from i on gives
  module _ (f : ℕ → ℕ) where
    abbrev Gives : ℕ → List ℕ → Type 0
    Gives i [] = Unit {0}
    Gives i (x ∷ xs) = (f i ≡ x) × Gives (i + 1) xs

    gives_both : (xs ys : List ℕ) (i : ℕ) → Gives i xs → Gives (i + length xs) ys → Gives i (xs ++ ys)
    gives_both [] ys i a b = let z : i + 0 ≡ i = omega arith in subst (λ (n : ℕ). Gives n ys) z b
    gives_both (x ∷ xs) ys i a b = let z : i + suc (length xs) ≡ i + 1 + length xs = omega arith in (a.0, gives_both xs ys (i + 1) a.1 (subst (λ (n : ℕ). Gives n ys) z b))

    gives_all : (xs : List ℕ) (i : ℕ) → Gives i xs → map f (range_with_len i (length xs)) ≡ xs
    gives_all [] i g = refl
    gives_all (x ∷ xs) i g = λ j. g.0 j ∷ gives_all xs (i + 1) g.1 j

  abbrev Are : ℕ → List Row → Type 0
  Are i [] = Unit {0}
  Are i (r ∷ rs) = (par i ≡ i + r.up) × Are (i + 1) rs

  are_first : (xs ys : List Row) (i : ℕ) → Are i (xs ++ ys) → Are i xs
  are_first [] ys i h = tt
  are_first (x ∷ xs) ys i h = (h.0, are_first xs ys (i + 1) h.1)

  are_rest : (xs ys : List Row) (i : ℕ) → Are i (xs ++ ys) → Are (i + length xs) ys
  are_rest [] ys i h = let z : i ≡ i + 0 = omega arith in subst (λ (n : ℕ). Are n ys) z h
  are_rest (x ∷ xs) ys i h = let z : (i + 1) + length xs ≡ i + suc (length xs) = omega arith in subst (λ (n : ℕ). Are n ys) z (are_rest xs ys (i + 1) h.1)

  -- This many rows from i on stand for siblings and all below them: their parents stand behind them and no further than the
  -- siblings' parent; and of what each row's parents tell this is known.
  record Begun (i n : ℕ) (lows : List ℕ) : Type 0 where
    inside : (k : ℕ) → i ≤ k → k < i + n → (k < par k) × (par k ≤ i + n)
    are : Gives (low_at parents) i lows
    many : length lows ≡ n

  -- the row before them lies below no row of theirs, nor below the siblings' parent
  abbrev Outer : ℕ → ℕ → Type 0
  Outer i n = (m : ℕ) → m + 1 ≡ i → i + n ≤ par m

  module _ (i n m : ℕ) (lows more : List ℕ) (outer : Outer i (n + 1 + m)) (a : Begun i n lows) (u : par (i + n) ≡ i + n + (m + 1)) (b : Begun (i + (n + 1)) m more) where
    join_inside : (k : ℕ) → i ≤ k → k < i + (n + 1 + m) → (k < par k) × (par k ≤ i + (n + 1 + m))
    join_inside k h h' = elim (where_is k (i + n)) [
      | inl l ↦ let x = a.inside k h l in (x.0, omega (arith, x.1))
      | inr (inl e) ↦ (omega (arith, u, ap par e), omega (arith, u, ap par e))
      | inr (inr g) ↦ let x = b.inside k (omega arith) (omega arith) in (x.0, omega (arith, x.1))
    ]

    root_low : low_at parents (i + n) ≡ i
    root_low = skipped (i + n) i n a.inside ∙ stopped (i + n) i (λ k e. let o = outer k e in omega arith)

    join : Begun i (n + 1 + m) ((lows ++ i ∷ []) ++ more)
    join =
        let long : length (lows ++ i ∷ []) ≡ n + 1 = omega (arith, length-append lows (i ∷ []), a.many) in
        let all : length ((lows ++ i ∷ []) ++ more) ≡ n + 1 + m = omega (arith, length-append (lows ++ i ∷ []) more, long, b.many) in
        let there : Gives (low_at parents) (i + length lows) (i ∷ []) = (ap (λ (k : ℕ). low_at parents (i + k)) a.many ∙ root_low, tt) in
        record {
          inside = join_inside;
          are = gives_both (low_at parents) (lows ++ i ∷ []) more i (gives_both (low_at parents) lows (i ∷ []) i a.are there) (subst (λ (k : ℕ). Gives (low_at parents) (i + k) more) (sym long) b.are);
          many = all;
        }

  mutual
    nodes_begun : (cs : Nodes) (place i : ℕ) → Are i (nodes_rows place cs) → Outer i (length (nodes_rows place cs)) → Begun i (length (nodes_rows place cs)) (nodes_lows i cs)
    nodes_begun last place i h o = record { inside = λ k g g'. absurd (omega arith); are = tt; many = refl }
    nodes_begun (next c cs) place i h o = first_begun c cs place i (nodes_begun cs (place + 1)) h o

    -- one subtree, and its siblings behind it
    first_begun : (c : Node) (cs : Nodes) (place i : ℕ) → ((i' : ℕ) → Are i' (nodes_rows (place + 1) cs) → Outer i' (length (nodes_rows (place + 1) cs))
        → Begun i' (length (nodes_rows (place + 1) cs)) (nodes_lows i' cs)) → Are i (nodes_rows place (next c cs)) → Outer i (length (nodes_rows place (next c cs)))
        → Begun i (length (nodes_rows place (next c cs))) (nodes_lows i (next c cs))
    first_begun (node k t kids) cs place i f h o =
        let rest = nodes_rows (place + 1) cs in
        let ks = nodes_rows 0 kids in
        let r : Row = record { kind = k; up = length rest + 1; token = t; place = place } in
        let g = are_first (ks ++ r ∷ []) rest i h in
        let root : par (i + length ks) ≡ i + length ks + (length rest + 1) = (are_rest ks (r ∷ []) i g).0 in
        let z : i + length (ks ++ r ∷ []) ≡ i + (length ks + 1) = omega (arith, length-append ks (r ∷ [])) in
        let n : length ks + 1 + length rest ≡ length ((ks ++ r ∷ []) ++ rest) = omega (arith, length-append (ks ++ r ∷ []) rest, length-append ks (r ∷ [])) in
        let outer : Outer i (length ks + 1 + length rest) = subst (Outer i) (sym n) o in
        let a : Begun i (length ks) (nodes_lows i kids) = nodes_begun kids 0 i (are_first ks (r ∷ []) i g) (λ m e. let x = outer m e in omega arith) in
        let b : Begun (i + (length ks + 1)) (length rest) (nodes_lows (i + (length ks + 1)) cs) =
        f (i + (length ks + 1)) (subst (λ (m : ℕ). Are m rest) z (are_rest (ks ++ r ∷ []) rest i h))
        (λ m e. let s = ap par (let q : m ≡ i + length ks = omega arith in q) in omega (arith, root, s)) in
        let long : length (nodes_lows i kids ++ i ∷ []) ≡ length ks + 1 = omega (arith, length-append (nodes_lows i kids) (i ∷ []), a.many) in
        subst (λ (m : ℕ). Begun i m (nodes_lows i (next (node k t kids) cs))) n
        (subst (λ (m : ℕ). Begun i (length ks + 1 + length rest) ((nodes_lows i kids ++ i ∷ []) ++ nodes_lows (i + m) cs)) (sym long)
        (join i (length ks) (length rest) (nodes_lows i kids) (nodes_lows (i + (length ks + 1)) cs) outer a root b))

  -- ---- children
  child_not : (q k : ℕ) → (par k < q) ⊎ (q < par k) → bit (nat_eq (par k) q) ≡ 0
  child_not q k (inl l) = grind (arith, nat_tests)
  child_not q k (inr g) = grind (arith, nat_tests)

  child_is : (q k : ℕ) → par k ≡ q → bit (nat_eq (par k) q) ≡ 1
  child_is q k e = grind (arith, nat_tests)

  no_children : (q i n : ℕ) → ((k : ℕ) → i ≤ k → k < i + n → (par k < q) ⊎ (q < par k)) → children_before parents q (i + n) ≡ children_before parents q i
  no_children q i zero h = ap (children_before parents q) (let e : i + 0 ≡ i = omega arith in e)
  no_children q i (suc n) h =
      let none = child_not q (i + n) (h (i + n) (omega arith) (omega arith)) in
      let before = no_children q i n (λ k a b. h k a (omega arith)) in
      ap (children_before parents q) (let e : i + suc n ≡ suc (i + n) = omega arith in e)
      ∙ (let e : children_before parents q (suc (i + n)) ≡ children_before parents q i = omega arith in e)

  -- the same rows, and that of each row's children this is known
  record Tallied (i n many : ℕ) (counts : List ℕ) : Type 0 where
    inside : (k : ℕ) → i ≤ k → k < i + n → (k < par k) × (par k ≤ i + n)
    sum : children_before parents (i + n) (i + n) ≡ children_before parents (i + n) i + many
    are : Gives (count_at parents) i counts
    long : length counts ≡ n

  -- the parents of rows before stand before them, or behind them all
  abbrev Apart : ℕ → ℕ → Type 0
  Apart i n = (j : ℕ) → j < i → (par j < i) ⊎ (i + n ≤ par j)

  module _ (i n m kids rest : ℕ) (counts more : List ℕ) (apart : Apart i (n + 1 + m)) (a : Tallied i n kids counts) (u : par (i + n) ≡ i + n + (m + 1)) (b : Tallied (i + (n + 1)) m rest more) where
    tally_inside : (k : ℕ) → i ≤ k → k < i + (n + 1 + m) → (k < par k) × (par k ≤ i + (n + 1 + m))
    tally_inside k h h' = elim (where_is k (i + n)) [
      | inl l ↦ let x = a.inside k h l in (x.0, omega (arith, x.1))
      | inr (inl e) ↦ (omega (arith, u, ap par e), omega (arith, u, ap par e))
      | inr (inr g) ↦ let x = b.inside k (omega arith) (omega arith) in (x.0, omega (arith, x.1))
    ]

    root_count : count_at parents (i + n) ≡ kids
    root_count =
        let none : children_before parents (i + n) (0 + i) ≡ 0 = no_children (i + n) 0 i (λ k g l. elim (apart k (omega arith)) [ inl x ↦ inl (omega arith) | inr x ↦ inr (omega arith) ]) in
        let z : 0 + i ≡ i = omega arith in
        let same : children_before parents (i + n) (0 + i) ≡ children_before parents (i + n) i = ap (children_before parents (i + n)) z in
        let s = a.sum in
        omega arith

    whole_sum : children_before parents (i + (n + 1 + m)) (i + (n + 1 + m)) ≡ children_before parents (i + (n + 1 + m)) i + suc rest
    whole_sum =
        let q : ℕ = i + (n + 1 + m) in
        let e : i + (n + 1) + m ≡ i + (n + 1 + m) = omega arith in
        let behind : children_before parents (i + (n + 1 + m)) (i + (n + 1 + m)) ≡ children_before parents (i + (n + 1 + m)) (i + (n + 1)) + rest = subst (λ (x : ℕ). children_before parents x x ≡ children_before parents x (i + (n + 1)) + rest) e b.sum in
        let next_one : children_before parents (i + (n + 1 + m)) (i + (n + 1)) ≡ children_before parents (i + (n + 1 + m)) (suc (i + n)) = ap (children_before parents (i + (n + 1 + m))) (let f : i + (n + 1) ≡ suc (i + n) = omega arith in f) in
        let one = child_is (i + (n + 1 + m)) (i + n) (omega arith) in
        let none = no_children (i + (n + 1 + m)) i n (λ k g l. let x = a.inside k g l in inl (let y = x.1 in omega arith)) in
        omega arith

    tally : Tallied i (n + 1 + m) (suc rest) ((counts ++ kids ∷ []) ++ more)
    tally =
        let far : length (counts ++ kids ∷ []) ≡ n + 1 = omega (arith, length-append counts (kids ∷ []), a.long) in
        let there : Gives (count_at parents) (i + length counts) (kids ∷ []) = (ap (λ (k : ℕ). count_at parents (i + k)) a.long ∙ root_count, tt) in
        record {
          inside = tally_inside;
          sum = whole_sum;
          are = gives_both (count_at parents) (counts ++ kids ∷ []) more i (gives_both (count_at parents) counts (kids ∷ []) i a.are there) (subst (λ (k : ℕ). Gives (count_at parents) (i + k) more) (sym far) b.are);
          long = omega (arith, length-append (counts ++ kids ∷ []) more, far, b.long);
        }

  mutual
    nodes_tallied : (cs : Nodes) (place i : ℕ) → Are i (nodes_rows place cs) → Apart i (length (nodes_rows place cs)) → Tallied i (length (nodes_rows place cs)) (nodes_many cs) (nodes_counts cs)
    nodes_tallied last place i h o = record {
      inside = λ k g g'. absurd (omega arith);
      sum = (let e : i + 0 ≡ i = omega arith in ap (children_before parents (i + 0)) e ∙ (let z : children_before parents (i + 0) i ≡ children_before parents (i + 0) i + 0 = omega arith in z));
      are = tt;
      long = refl;
    }
    nodes_tallied (next c cs) place i h o = first_tallied c cs place i (nodes_tallied cs (place + 1)) h o

    first_tallied : (c : Node) (cs : Nodes) (place i : ℕ) → ((i' : ℕ) → Are i' (nodes_rows (place + 1) cs) → Apart i' (length (nodes_rows (place + 1) cs))
        → Tallied i' (length (nodes_rows (place + 1) cs)) (nodes_many cs) (nodes_counts cs)) → Are i (nodes_rows place (next c cs))
        → Apart i (length (nodes_rows place (next c cs))) → Tallied i (length (nodes_rows place (next c cs))) (nodes_many (next c cs)) (nodes_counts (next c cs))
    first_tallied (node k t kids) cs place i f h o =
        let rest = nodes_rows (place + 1) cs in
        let ks = nodes_rows 0 kids in
        let r : Row = record { kind = k; up = length rest + 1; token = t; place = place } in
        let g = are_first (ks ++ r ∷ []) rest i h in
        let root : par (i + length ks) ≡ i + length ks + (length rest + 1) = (are_rest ks (r ∷ []) i g).0 in
        let z : i + length (ks ++ r ∷ []) ≡ i + (length ks + 1) = omega (arith, length-append ks (r ∷ [])) in
        let n : length ks + 1 + length rest ≡ length ((ks ++ r ∷ []) ++ rest) = omega (arith, length-append (ks ++ r ∷ []) rest, length-append ks (r ∷ [])) in
        let apart : Apart i (length ks + 1 + length rest) = subst (Apart i) (sym n) o in
        let a : Tallied i (length ks) (nodes_many kids) (nodes_counts kids) = nodes_tallied kids 0 i (are_first ks (r ∷ []) i g) (λ j l. elim (apart j l) [ inl x ↦ inl x | inr x ↦ inr (omega arith) ]) in
        let later : Apart (i + (length ks + 1)) (length rest) = λ j l. elim (cases_lt j i) [
          | inl b ↦ elim (apart j b) [ inl x ↦ inl (omega arith) | inr x ↦ inr (omega arith) ]
          | inr b ↦ elim (where_is j (i + length ks)) [
            | inl x ↦ inl (let y = a.inside j b x in let w = y.1 in omega arith)
            | inr (inl x) ↦ inr (omega (arith, root, ap par x))
            | inr (inr x) ↦ absurd (omega arith)
          ]
        ] in
        subst (λ (m : ℕ). Tallied i m (nodes_many (next (node k t kids) cs)) (nodes_counts (next (node k t kids) cs))) n
        (tally i (length ks) (length rest) (nodes_many kids) (nodes_many cs) (nodes_counts kids) (nodes_counts cs) apart a root (f (i + (length ks + 1)) (subst (λ (m : ℕ). Are m rest) z (are_rest (ks ++ r ∷ []) rest i h)) later))

numbers_there : (rs : List Row) (i : ℕ) (before : List ℕ) → length before ≡ i → (whole : List ℕ) → whole ≡ before ++ parent_numbers i rs → Are whole i rs
numbers_there [] i before n whole e = tt
numbers_there (r ∷ rs) i before n whole e = (
  ap (λ (l : List ℕ). get_or l i 0) e ∙ at before (parent_numbers (i + 1) rs) (i + r.up) i n,
  numbers_there rs (i + 1) (before ++ (i + r.up) ∷ []) (omega (arith, n, length-append before ((i + r.up) ∷ []))) whole (e ∙ moved before (i + r.up) (parent_numbers (i + 1) rs)),
)
  where
    at : (xs ys : List ℕ) (y i : ℕ) → length xs ≡ i → get_or (xs ++ y ∷ ys) i 0 ≡ y
    at [] ys y zero n = refl
    at [] ys y (suc i) n = absurd (omega arith)
    at (x ∷ xs) ys y zero n = absurd (omega arith)
    at (x ∷ xs) ys y (suc i) n = at xs ys y i (omega arith)

    moved : (xs : List ℕ) (y : ℕ) (ys : List ℕ) → xs ++ y ∷ ys ≡ (xs ++ y ∷ []) ++ ys
    moved [] y ys = refl
    moved (x ∷ xs) y ys = ap (λ (l : List ℕ). x ∷ l) (moved xs y ys)

pub parents_many : (rs : List Row) (i : ℕ) → length (parent_numbers i rs) ≡ length rs
parents_many [] i = refl
parents_many (r ∷ rs) i = ap suc (parents_many rs (i + 1))

pub lows_told : (p : Program) → lows_of (parent_numbers 0 (post p)) ≡ node_lows 0 (program_node p)
lows_told p =
    let rs = nodes_rows 0 (functions_nodes p) in
    let r : Row = record { kind = ProgramKind; up = 0; token = None; place = 0 } in
    let parents = parent_numbers 0 (post p) in
    let lows = nodes_lows 0 (functions_nodes p) in
    let all : Are parents 0 (rs ++ r ∷ []) = numbers_there (post p) 0 [] refl parents refl in
    let a : Begun parents 0 (length rs) lows = nodes_begun parents (functions_nodes p) 0 0 (are_first parents rs (r ∷ []) 0 all) (λ m e. absurd (omega arith)) in
    let z : 0 + length rs ≡ length rs = omega arith in
    let low : low_at parents (length rs) ≡ 0 = sym (ap (λ (k : ℕ). low_at parents k) z) ∙ skipped parents (0 + length rs) 0 (length rs) a.inside in
    let both : Gives parents (low_at parents) 0 (lows ++ 0 ∷ []) =
    gives_both parents (low_at parents) lows (0 ∷ []) 0 a.are (ap (low_at parents) (let e : 0 + length lows ≡ length rs = omega (arith, a.many) in e) ∙ low, tt) in
    let many : length parents ≡ length (lows ++ 0 ∷ []) = omega (arith, parents_many (post p) 0, length-append rs (r ∷ []), length-append lows (0 ∷ []), a.many) in
    ap (λ (n : ℕ). map (low_at parents) (range_with_len 0 n)) many ∙ gives_all parents (low_at parents) (lows ++ 0 ∷ []) 0 both

pub counts_told : (p : Program) → counts_of (parent_numbers 0 (post p)) ≡ node_counts (program_node p)
counts_told p =
    let rs = nodes_rows 0 (functions_nodes p) in
    let r : Row = record { kind = ProgramKind; up = 0; token = None; place = 0 } in
    let parents = parent_numbers 0 (post p) in
    let counts = nodes_counts (functions_nodes p) in
    let all : Are parents 0 (rs ++ r ∷ []) = numbers_there (post p) 0 [] refl parents refl in
    let a : Tallied parents 0 (length rs) (nodes_many (functions_nodes p)) counts = nodes_tallied parents (functions_nodes p) 0 0 (are_first parents rs (r ∷ []) 0 all) (λ j l. absurd (omega arith)) in
    let z : 0 + length rs ≡ length rs = omega arith in
    let count : count_at parents (length rs) ≡ nodes_many (functions_nodes p) = sym (ap (count_at parents) z) ∙ a.sum ∙ (let e : 0 + nodes_many (functions_nodes p) ≡ nodes_many (functions_nodes p) = omega arith in e) in
    let both : Gives parents (count_at parents) 0 (counts ++ nodes_many (functions_nodes p) ∷ []) =
    gives_both parents (count_at parents) counts (nodes_many (functions_nodes p) ∷ []) 0 a.are (ap (count_at parents) (let e : 0 + length counts ≡ length rs = omega (arith, a.long) in e) ∙ count, tt) in
    let many : length parents ≡ length (counts ++ nodes_many (functions_nodes p) ∷ []) = omega (arith, parents_many (post p) 0, length-append rs (r ∷ []), length-append counts (nodes_many (functions_nodes p) ∷ []), a.long) in
    ap (λ (n : ℕ). map (count_at parents) (range_with_len 0 n)) many ∙ gives_all parents (count_at parents) (counts ++ nodes_many (functions_nodes p) ∷ []) 0 both
