-- The rows of the folded program, by the columns.
use Rattle.std.proofs.Common.{◌≡◌, ℕ, zero, suc, ◌+◌, ◌-◌, ◌<◌, ◌≤◌, Bool, true, false, List, [], ◌∷◌, length, map, get_or, Option, None, refl, sym, ap, ◌∙◌, subst, arith}
use Rattle.std.specs.Prelude.{◌&&◌, if◌then◌else◌, nat_eq}
use Rattle.std.specs.List.{range_with_len, filter}
use Rattle.std.proofs.lemmas.List.{ext_get_or, get_or-map, length-map}
use Rattle.std.proofs.lemmas.Simd.{map-map}
use Rattle.std.proofs.lemmas.List.FromFn.{get_or-map-range_with_len, length-map-range_with_len}
use Rattle.source_meaning.specs.declared.kinds.Kind.{Kind}
use Rattle.source_meaning.specs.declared.kinds.Kind.TheVariants.{Program as ProgramKind}
use Rattle.source_meaning.specs.Ast.{Program}
use Rattle.source_meaning.specs.Rows.{Row, Node, node, Nodes, last, next, node_rows, nodes_rows, functions_nodes, program_node, post}
use Rattle.ast_rows.specs.NodeRows.{AreTold, token_word, token_of, parent_numbers, lows_of, rows_from}
use Rattle.ast_rows.specs.Subtrees.{node_lows, nodes_lows}
use Rattle.row_laws.specs.Marks.{Mark, node_marks}
use Rattle.row_laws.specs.Evals.{is_eval, settled}
use Rattle.row_laws.specs.Climbed.{mark_at, lows_from, parents_by, place_at, row_by_lists, settled_at}
use Rattle.row_rules.specs.Visible.{no_row}
use Rattle.row_rules.specs.Alignment.{IsNamedProgram}
use Rattle.folding.specs.Folding.{folded_program}
use Rattle.folded_rows.specs.Columns.{Columns, columns_of, gives_way_by, kind_by, number_in, value_in, many, kind_in, AreConstants, stays, kept, rank, new_kinds, new_lows, kept_tokens, new_tokens, new_parents, new_places, new_rows}
use Rattle.folded_rows.specs.Nodes.{node_value, keeps, fold_node}
use Rattle.folded_rows.proofs.Along.{Along, along_both, along_all, filter_picks, bit}
use Rattle.folded_rows.proofs.Picked.{size, sizes, rows_many, keeps_many, Info, infos_by, infos_told, olds, olds_all, olds_many, olds_all_many, node_picked, Ranked}
use Rattle.folded_rows.proofs.Sound.{IsSound, AreSound, program_sound}
use Rattle.folded_rows.proofs.Tables.{below, RowIs, Rows, LowIs, Lows, rows_below, row_here, rows_first, rows_behind, lows_below, low_here, lows_first, lows_behind, value_is}
use Rattle.folded_rows.proofs.Stays.{node_flags}
use Rattle.folded_rows.proofs.FoldedMarks.{program_settles}

along_map : {A : Type 0} (P Q : ℕ → A → Type 0) → ((k : ℕ) (x : A) → P k x → Q k x) → (xs : List A) (i : ℕ) → Along P i xs → Along Q i xs
along_map P Q f [] i h = tt
along_map P Q f (x ∷ xs) i h = (f i x h.0, along_map P Q f xs (i + 1) h.1)

-- ---- the columns of rows
parents_there : (rows : List Row) (i k : ℕ) → k < length rows → get_or (parent_numbers i rows) k 0 ≡ (i + k) + (get_or rows k no_row).up
parents_there [] i k h = absurd (omega arith)
parents_there (r ∷ rs) i zero h = ap (λ n. n + r.up) (let e : i ≡ i + 0 = omega arith in e)
parents_there (r ∷ rs) i (suc k) h = parents_there rs (i + 1) k (omega arith) ∙ ap (λ n. n + (get_or rs k no_row).up) (let e : (i + 1) + k ≡ i + suc k = omega arith in e)

pub rows_there : (rows : List Row) → AreTold rows → Rows (columns_of rows) 0 rows
rows_there rows told = along_all (RowIs (columns_of rows)) rows 0 no_row (λ k h. subst (λ n. RowIs (columns_of rows) n (get_or rows k no_row)) (let e : k ≡ 0 + k = omega arith in e) (record {
  kind_is = get_or-map (λ (r : Row). r.kind) rows k no_row ProgramKind h;
  parent_is = parents_there rows 0 k h ∙ (let e : (0 + k) + (get_or rows k no_row).up ≡ k + (get_or rows k no_row).up = omega arith in e);
  place_is = get_or-map (λ (r : Row). r.place) rows k no_row 0 h;
  token_is = ap token_of (get_or-map (λ (r : Row). token_word r.token) rows k no_row 0 h) ∙ told no_row k h;
}))

pub lows_there : (c : Columns) (ls : List ℕ) → c.lows ≡ ls → Lows c 0 ls
lows_there c ls e = along_all (LowIs c) ls 0 0 (λ k h. ap (λ q. get_or q (0 + k) 0) e ∙ ap (λ n. get_or ls n 0) (let z : 0 + k ≡ k = omega arith in z))

-- ---- new kinds, own tokens and new first rows
module _ (c : Columns) (values : List (Option ℕ)) (fixed : AreConstants c values) where
  abbrev info_at : ℕ → Info
  info_at k = (kind_by (kind_in c k) (value_in values k), token_of (number_in c.tokens k), rank c values (number_in c.lows k))

  abbrev Olds : ℕ → List Info → Type 0
  Olds i xs = Along (λ k x. info_at k ≡ x) i xs

  mutual
    olds_there : (x : Node) (up place i : ℕ) → IsSound x → Rows c i (node_rows up place x) → Lows c i (node_lows i x) → i + size x ≤ many c → Olds i (olds (rank c values) i x)
    olds_there (node k t cs) up place i ok h g l =
        let here = row_here c k t cs up place i h in
        let value = value_is c values fixed (node k t cs) up place i ok h g l in
        let low = low_here c (node k t cs) i g in
        let self : info_at (i + sizes cs) ≡ (kind_by k (node_value (node k t cs)), t, rank c values i) = λ j. (kind_by (here.kind_is j) (value j), here.token_is j, rank c values (low j)) in
        along_both (λ n x. info_at n ≡ x) (olds_all (rank c values) i cs) ((kind_by k (node_value (node k t cs)), t, rank c values i) ∷ []) i
        (all_olds cs 0 i ok.1 (rows_below c k t cs up place i h) (lows_below c k t cs i g) (omega arith))
        (subst (λ n. info_at (i + n) ≡ (kind_by k (node_value (node k t cs)), t, rank c values i)) (sym (olds_all_many (rank c values) cs i)) self, tt)

    all_olds : (cs : Nodes) (place i : ℕ) → AreSound cs → Rows c i (nodes_rows place cs) → Lows c i (nodes_lows i cs) → i + sizes cs ≤ many c → Olds i (olds_all (rank c values) i cs)
    all_olds last place i ok h g l = tt
    all_olds (next x cs) place i ok h g l =
        along_both (λ n y. info_at n ≡ y) (olds (rank c values) i x) (olds_all (rank c values) (i + size x) cs) i
        (olds_there x (length (nodes_rows (place + 1) cs) + 1) place i ok.0 (rows_first c x cs place i h) (lows_first c x cs i g) (omega arith))
        (subst (λ n. Olds (i + n) (olds_all (rank c values) (i + size x) cs)) (sym (olds_many (rank c values) x i))
        (all_olds cs (place + 1) (i + size x) ok.1 (rows_behind c x cs place i h) (lows_behind c x cs i g) (omega arith)))

  -- what the kept rows of a whole tree are
  root_flags : (x : Node) → IsSound x → Rows c 0 (node_rows 0 0 x) → Lows c 0 (node_lows 0 x) → size x ≡ many c → ((o : Option ℕ) → gives_way_by (kind_in c (below x)) o ≡ false) → Along (λ k b. stays c values k ≡ b) 0 (keeps x)
  root_flags (node k t cs) ok h g e nothing =
      let here = row_here c k t cs 0 0 0 h in
      let self : number_in c.parents (0 + sizes cs) ≡ sizes cs = here.parent_is ∙ omega arith in
      let up : gives_way_by (kind_in c (number_in c.parents (0 + sizes cs))) (value_in values (0 + sizes cs)) ≡ false = ap (λ n. gives_way_by (kind_in c n) (value_in values (0 + sizes cs))) self ∙ nothing (value_in values (0 + sizes cs)) in
      node_flags c values fixed (node k t cs) 0 0 0 ok h g (omega arith) (λ j a b d. absurd (omega arith)) (by (nat_eq (number_in c.places (0 + sizes cs)) 0) _ up)
    where
      by : (a b : Bool) → b ≡ false → (a && b) ≡ false
      by true b e = e
      by false b e = refl

  kept_infos : (x : Node) → IsSound x → Rows c 0 (node_rows 0 0 x) → Lows c 0 (node_lows 0 x) → size x ≡ many c → ((o : Option ℕ) → gives_way_by (kind_in c (below x)) o ≡ false)
      → map info_at (kept c values) ≡ infos_by 0 (node_marks (fold_node x))
  kept_infos x ok h g e nothing =
      let flags = root_flags x ok h g e nothing in
      let ranked : Ranked (rank c values) 0 (keeps x) =
      along_map (λ k b. stays c values k ≡ b) (λ k b. rank c values (k + 1) ≡ rank c values k + bit b)
      (λ k b s. ap (rank c values) (let z : k + 1 ≡ suc k = omega arith in z) ∙ ap (λ b'. rank c values k + bit b') s) (keeps x) 0 flags in
      ap (λ n. map info_at (filter (stays c values) (range_with_len 0 n))) (sym e ∙ sym (keeps_many x))
      ∙ filter_picks (stays c values) info_at (keeps x) (olds (rank c values) 0 x) 0 (keeps_many x ∙ sym (olds_many (rank c values) x 0)) flags (olds_there x 0 0 0 ok h g (omega arith))
      ∙ node_picked (rank c values) x 0 ranked
      ∙ infos_told (fold_node x) 0

-- ---- what these say of marks
kinds_told : (ms : List Mark) (i : ℕ) → map (λ (x : Info). x.0) (infos_by i ms) ≡ map (λ (m : Mark). m.kind) ms
kinds_told [] i = refl
kinds_told (m ∷ ms) i = ap (λ l. m.kind ∷ l) (kinds_told ms (suc i))

tokens_told : (ms : List Mark) (i : ℕ) → map (λ (x : Info). x.1) (infos_by i ms) ≡ map (λ (m : Mark). m.token) ms
tokens_told [] i = refl
tokens_told (m ∷ ms) i = ap (λ l. m.token ∷ l) (tokens_told ms (suc i))

lows_told : (ms : List Mark) (i : ℕ) → map (λ (x : Info). x.2) (infos_by i ms) ≡ lows_from i ms
lows_told [] i = refl
lows_told (m ∷ ms) i = ap (λ l. (suc i - m.size) ∷ l) (lows_told ms (suc i))

row_of_lists : (i : ℕ) (ks : List Kind) (ps ts ls : List ℕ) (k : ℕ) → length ps ≡ length ks → length ts ≡ length ks → length ls ≡ length ks → k < length ks
    → get_or (rows_from i ks ps ts ls) k no_row ≡ record { kind = get_or ks k ProgramKind; up = get_or ps k 0 - (i + k); token = token_of (get_or ts k 0); place = get_or ls k 0 }
row_of_lists i [] ps ts ls k a b d h = absurd (omega arith)
row_of_lists i (x ∷ ks) [] ts ls k a b d h = absurd (omega arith)
row_of_lists i (x ∷ ks) (p ∷ ps) [] ls k a b d h = absurd (omega arith)
row_of_lists i (x ∷ ks) (p ∷ ps) (t ∷ ts) [] k a b d h = absurd (omega arith)
row_of_lists i (x ∷ ks) (p ∷ ps) (t ∷ ts) (l ∷ ls) zero a b d h = ap (λ n. record { kind = x; up = p - n; token = token_of t; place = l }) (let e : i ≡ i + 0 = omega arith in e)
row_of_lists i (x ∷ ks) (p ∷ ps) (t ∷ ts) (l ∷ ls) (suc k) a b d h =
    row_of_lists (i + 1) ks ps ts ls k (omega arith) (omega arith) (omega arith) (omega arith)
    ∙ ap (λ n. record { kind = get_or ks k ProgramKind; up = get_or ps k 0 - n; token = token_of (get_or ts k 0); place = get_or ls k 0 }) (let e : (i + 1) + k ≡ i + suc k = omega arith in e)

rows_as_many : (i : ℕ) (ks : List Kind) (ps ts ls : List ℕ) → length ps ≡ length ks → length ts ≡ length ks → length ls ≡ length ks → length (rows_from i ks ps ts ls) ≡ length ks
rows_as_many i [] ps ts ls a b d = refl
rows_as_many i (x ∷ ks) [] ts ls a b d = absurd (omega arith)
rows_as_many i (x ∷ ks) (p ∷ ps) [] ls a b d = absurd (omega arith)
rows_as_many i (x ∷ ks) (p ∷ ps) (t ∷ ts) [] a b d = absurd (omega arith)
rows_as_many i (x ∷ ks) (p ∷ ps) (t ∷ ts) (l ∷ ls) a b d = ap suc (rows_as_many (i + 1) ks ps ts ls (omega arith) (omega arith) (omega arith))

lows_as_many : (i : ℕ) (ms : List Mark) → length (lows_from i ms) ≡ length ms
lows_as_many i [] = refl
lows_as_many i (m ∷ ms) = ap suc (lows_as_many (suc i) ms)

infos_as_many : (i : ℕ) (ms : List Mark) → length (infos_by i ms) ≡ length ms
infos_as_many i [] = refl
infos_as_many i (m ∷ ms) = ap suc (infos_as_many (suc i) ms)

module _ (c : Columns) (values : List (Option ℕ)) (fixed : AreConstants c values) (ms : List Mark) (told : map (info_at c values fixed) (kept c values) ≡ infos_by 0 ms) where
  kept_many : length (kept c values) ≡ length ms
  kept_many = sym (length-map (kept c values) (info_at c values fixed)) ∙ ap length told ∙ infos_as_many 0 ms

  kinds_are : new_kinds c values ≡ map (λ (m : Mark). m.kind) ms
  kinds_are = sym (map-map (λ (x : Info). x.0) (info_at c values fixed) (kept c values)) ∙ ap (map (λ (x : Info). x.0)) told ∙ kinds_told ms 0

  lows_are : new_lows c values ≡ lows_from 0 ms
  lows_are = sym (map-map (λ (x : Info). x.2) (info_at c values fixed) (kept c values)) ∙ ap (map (λ (x : Info). x.2)) told ∙ lows_told ms 0

  tokens_are : map (λ k. token_of (number_in c.tokens k)) (kept c values) ≡ map (λ (m : Mark). m.token) ms
  tokens_are = sym (map-map (λ (x : Info). x.1) (info_at c values fixed) (kept c values)) ∙ ap (map (λ (x : Info). x.1)) told ∙ tokens_told ms 0

  kind_there : (k : ℕ) → k < length ms → get_or (new_kinds c values) k ProgramKind ≡ (mark_at ms k).kind
  kind_there k h = ap (λ l. get_or l k ProgramKind) kinds_are ∙ get_or-map (λ (m : Mark). m.kind) ms k _ ProgramKind h

  word_there : (k : ℕ) → k < length ms → token_of (number_in (kept_tokens c values) k) ≡ (mark_at ms k).token
  word_there k h =
      ap token_of (get_or-map (λ j. number_in c.tokens j) (kept c values) k 0 0 (let n = kept_many in omega arith))
      ∙ sym (get_or-map (λ j. token_of (number_in c.tokens j)) (kept c values) k 0 None (let n = kept_many in omega arith))
      ∙ ap (λ l. get_or l k None) tokens_are
      ∙ get_or-map (λ (m : Mark). m.token) ms k _ None h

  module _
      (first : 0 < length ms → settled_at ms 0 ≡ (mark_at ms 0).token)
      (next : (k : ℕ) → suc k < length ms → settled_at ms (suc k) ≡ (if is_eval (mark_at ms (suc k)).kind then (mark_at ms k).token else (mark_at ms (suc k)).token)) where
    settled_there : (k : ℕ) → k < length ms → token_of (number_in (kept_tokens c values) (if is_eval (mark_at ms k).kind then k - 1 else k)) ≡ settled_at ms k
    settled_there zero h = by (is_eval (mark_at ms 0).kind) ∙ sym (first h)
      where
        by : (b : Bool) → token_of (number_in (kept_tokens c values) (if b then 0 - 1 else 0)) ≡ (mark_at ms 0).token
        by true = word_there 0 h
        by false = word_there 0 h
    settled_there (suc k) h = by (is_eval (mark_at ms (suc k)).kind) ∙ sym (next k h)
      where
        by : (b : Bool) → token_of (number_in (kept_tokens c values) (if b then suc k - 1 else suc k)) ≡ (if b then (mark_at ms k).token else (mark_at ms (suc k)).token)
        by true = ap (λ n. token_of (number_in (kept_tokens c values) n)) (let e : suc k - 1 ≡ k = omega arith in e) ∙ word_there k (omega arith)
        by false = word_there (suc k) h

    token_there : (k : ℕ) → k < length ms → token_of (get_or (new_tokens c values) k 0) ≡ settled_at ms k
    token_there k h =
        ap token_of (get_or-map-range_with_len (λ m. number_in (kept_tokens c values) (if is_eval (get_or (new_kinds c values) m ProgramKind) then m - 1 else m)) 0 (length (kept c values)) k k 0 (let n = kept_many in omega arith) (omega arith))
        ∙ ap (λ q. token_of (number_in (kept_tokens c values) (if is_eval q then k - 1 else k))) (kind_there k h)
        ∙ settled_there k h

    rows_are : new_rows c values ≡ map (row_by_lists ms) (range_with_len 0 (length ms))
    rows_are =
        let n = kept_many in
        let ks : length (new_kinds c values) ≡ length ms = ap length kinds_are ∙ length-map ms (λ (m : Mark). m.kind) in
        let ls : length (new_lows c values) ≡ length ms = ap length lows_are ∙ lows_as_many 0 ms in
        let ps : length (new_parents c values) ≡ length ms = length-map-range_with_len _ 0 (length (new_lows c values)) ∙ ls in
        let ts : length (new_tokens c values) ≡ length ms = length-map-range_with_len _ 0 (length (kept c values)) ∙ n in
        let qs : length (new_places c values) ≡ length ms = length-map-range_with_len _ 0 (length (new_lows c values)) ∙ ls in
        let all : length (new_rows c values) ≡ length ms = rows_as_many 0 (new_kinds c values) (new_parents c values) (new_tokens c values) (new_places c values) (omega arith) (omega arith) (omega arith) ∙ ks in
        ext_get_or no_row (new_rows c values) (map (row_by_lists ms) (range_with_len 0 (length ms))) (all ∙ sym (length-map-range_with_len (row_by_lists ms) 0 (length ms)))
        (λ k l.
        let h : k < length ms = omega arith in
        let up : get_or (new_parents c values) k 0 - (0 + k) ≡ get_or (parents_by (lows_from 0 ms)) k 0 - k =
        ap (λ q. get_or (parents_by q) k 0 - (0 + k)) lows_are ∙ (let z : 0 + k ≡ k = omega arith in ap (λ q. get_or (parents_by (lows_from 0 ms)) k 0 - q) z) in
        let place : get_or (new_places c values) k 0 ≡ place_at (parents_by (lows_from 0 ms)) k =
        get_or-map-range_with_len (place_at (new_parents c values)) 0 (length (new_lows c values)) k k 0 (omega arith) (omega arith) ∙ ap (λ q. place_at (parents_by q) k) lows_are in
        row_of_lists 0 (new_kinds c values) (new_parents c values) (new_tokens c values) (new_places c values) k (omega arith) (omega arith) (omega arith) (omega arith)
        ∙ (λ j. record { kind = kind_there k h j; up = up j; token = token_there k h j; place = place j })
        ∙ sym (get_or-map-range_with_len (row_by_lists ms) 0 (length ms) k k no_row h (omega arith)))

-- what the laws of the crates below say of a program, and what the columns then are
module _
    (p : Program)
    (lows : lows_of (parent_numbers 0 (post p)) ≡ node_lows 0 (program_node p))
    (values : List (Option ℕ))
    (told : AreTold (post p))
    (fixed : AreConstants (columns_of (post p)) values) where
  abbrev columns : Columns
  columns = columns_of (post p)

  pub program_many : size (program_node p) ≡ many columns
  program_many = sym (rows_many (program_node p) 0 0) ∙ sym (length-map (post p) (λ (r : Row). r.kind))

  pub program_rows : Rows columns 0 (post p)
  program_rows = rows_there (post p) told

  pub program_lows : Lows columns 0 (node_lows 0 (program_node p))
  program_lows = lows_there columns (node_lows 0 (program_node p)) lows

  root_nothing : (o : Option ℕ) → gives_way_by (kind_in columns (below (program_node p))) o ≡ false
  root_nothing o =
      let here = row_here columns ProgramKind None (functions_nodes p) 0 0 0 program_rows in
      ap (λ k. gives_way_by k o) (ap (kind_in columns) (let e : below (program_node p) ≡ 0 + sizes (functions_nodes p) = omega arith in e) ∙ here.kind_is)

  pub program_flags : Along (λ k b. stays columns values k ≡ b) 0 (keeps (program_node p))
  program_flags = root_flags columns values fixed (program_node p) (program_sound p) program_rows program_lows program_many root_nothing

  module _
      (named : IsNamedProgram p)
      (settles : settled None (node_marks (program_node (folded_program p))) ≡ node_marks (program_node (folded_program p)))
      (laws : (ms : List Mark) → settled None ms ≡ node_marks (program_node (folded_program p)) → post (folded_program p) ≡ map (row_by_lists ms) (range_with_len 0 (length ms)))
      (firsts : (ms : List Mark) → settled None ms ≡ node_marks (program_node (folded_program p)) → 0 < length ms → settled_at ms 0 ≡ (mark_at ms 0).token)
      (nexts : (ms : List Mark) (k : ℕ) → settled None ms ≡ node_marks (program_node (folded_program p)) → suc k < length ms
      → settled_at ms (suc k) ≡ (if is_eval (mark_at ms (suc k)).kind then (mark_at ms k).token else (mark_at ms (suc k)).token)) where
    pub folded_rows : new_rows columns values ≡ post (folded_program p)
    folded_rows =
        let ms = node_marks (fold_node (program_node p)) in
        let settled_is = program_settles p named settles in
        rows_are columns values fixed ms (kept_infos columns values fixed (program_node p) (program_sound p) program_rows program_lows program_many root_nothing) (firsts ms settled_is) (λ k. nexts ms k settled_is)
        ∙ sym (laws ms settled_is)
