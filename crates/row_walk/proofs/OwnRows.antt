-- The row that a walk gives a production is its own, but for the token of a statement that is a value.
use Rattle.std.proofs.Common.{◌≡◌, ℕ, zero, suc, ◌+◌, ◌-◌, ◌≤◌, Bool, true, false, List, [], ◌∷◌, ◌++◌, length, map, take, drop, get_or, Some, None, refl, sym, ap, ◌∙◌, arith, length-append, append_assoc}
use Rattle.std.specs.Prelude.{if◌then◌else◌, nat_eq}
use Rattle.std.proofs.lemmas.List.{append-nil, map-append, length-map}
use Rattle.source_meaning.specs.declared.kinds.Kind.TheVariants.{Function as FunctionKind, Param as ParamKind, Var, Block as BlockKind, If, IfElse, While, Return, Eval, Print, Assign, And, Or, Binary, Unary, Call as CallKind, Name, Num, Truth}
use Rattle.source_meaning.specs.declared.kinds.UnaryOp.TheVariants.{Negate}
use Rattle.source_meaning.specs.declared.kinds.BinaryOp.TheVariants.{Minus}
use Rattle.source_meaning.specs.Lexemes.{Token, decimal_value}
use Rattle.source_meaning.specs.Grammar.{Production, left, right, prog_end, Forest, forest_parse, fn, param, block_braces, stmt_var, stmt_if, stmt_else, stmt_while, stmt_return, stmt_eval, a_assign, ot_or, nt_and, ct_cmp, st_add, st_minus, mt_mul, u_minus, u_unop, p_num, p_true, p_false, call_args, call_none, else_if, stmt_print}
use Rattle.row_laws.specs.Marks.{Mark, mark}
use Rattle.row_laws.specs.Emitted.{Wait, Given, is_else, waiters, ended, later, own, type_of, parts}
use Rattle.row_laws.specs.Evals.{is_eval}
use Rattle.row_laws.specs.Owned.{owned, reads, reads_count}
use Rattle.row_laws.specs.Shifts.{is_call}
use Rattle.row_laws.specs.Along.{has_row, kind_by, reaches_back, type_below, first_of, as_cmp, as_add, as_mul, as_unop}
use Rattle.row_walk.specs.Walk.{Open, Made, closed, opened, last_size}
use Rattle.row_walk.specs.Marks.{is_value, type_ahead, mark_of}
use Rattle.row_walk.proofs.Recursion.{Taken, taken, closes, mine}
use Rattle.row_walk.proofs.Sizes.{is_tail}
use Rattle.row_walk.proofs.Ahead.{ahead_is}

-- without the tokens that are settled later
abbrev pub bare : Mark → Mark
bare m = mark m.kind (if is_eval m.kind then None else m.token) m.size

-- a row that ends an else has its token at once
pub ended_bare : (m : ℕ) (ws : List Wait) → map bare (ended m ws) ≡ ended m ws
ended_bare m [] = refl
ended_bare m (w ∷ ws) = ap (λ l. mark IfElse (Some w.token) (w.rows + m + 1) ∷ l) (ended_bare (suc m) ws)

own_is : (p : Production) (y : Given (right p)) (key d : Token) (at before : ℕ) (joins : Bool) (waiting : List Wait) (below : List Mark) (size : ℕ) →
    is_else p ≡ false →
    nat_eq (has_row p joins) 0 ≡ false →
    (is_call (left p) ≡ true → key.number ≡ at) →
    (is_call (left p) ≡ false → nat_eq (reads_count p) 0 ≡ false → key ≡ first_of (reads (right p) y) d) →
    size ≡ (if reaches_back p false then before + length below else length below) + 1 →
    mark (kind_by p key (type_below p y) false) (if is_value p then None else Some key.number) size ∷ [] ≡ map bare (own p y at before joins waiting below)
own_is fn (k, (x, (o, (ps, (c, (z, (ty, (b, u)))))))) key d at before joins waiting below size other e t g s = λ j. mark (FunctionKind (type_of ty.root)) (Some (g refl refl j).number) (s j) ∷ []
own_is param (k, (x, (c, (ty, u)))) key d at before joins waiting below size other e t g s = λ j. mark (ParamKind (type_of ty.root)) (Some (g refl refl j).number) (s j) ∷ []
own_is block_braces (k, (ss, (c, u))) key d at before joins waiting below size other e t g s = λ j. mark BlockKind (Some (g refl refl j).number) (s j) ∷ []
own_is stmt_var (k, (x, (c, (ty, (q, (v, (m, u))))))) key d at before joins waiting below size other e t g s = λ j. mark (Var (type_of ty.root)) (Some (g refl refl j).number) (s j) ∷ []
own_is stmt_if (k, (v, (b, u))) key d at before true waiting below size other e t g s = absurd (cc)
own_is stmt_if (k, (v, (b, u))) key d at before false waiting below size other e t g s = λ j. mark If (Some (g refl refl j).number) (s j) ∷ []
own_is else_if (k, (v, (b, u))) key d at before true waiting below size other e t g s = absurd (cc)
own_is else_if (k, (v, (b, u))) key d at before false waiting below size other e t g s = λ j. mark If (Some (g refl refl j).number) (s j) ∷ []
own_is stmt_else y key d at before joins waiting below size other e t g s = absurd (cc)
own_is stmt_while (k, (v, (b, u))) key d at before joins waiting below size other e t g s = λ j. mark While (Some (g refl refl j).number) (s j) ∷ []
own_is stmt_return (k, (v, (m, u))) key d at before joins waiting below size other e t g s = λ j. mark Return (Some (g refl refl j).number) (s j) ∷ []
own_is stmt_print (k, (v, (m, u))) key d at before joins waiting below size other e t g s = λ j. mark Print (Some (g refl refl j).number) (s j) ∷ []
own_is stmt_eval (v, (m, u)) key d at before joins waiting below size other e t g s = λ j. mark Eval None (s j) ∷ []
own_is a_assign (k, (v, u)) key d at before joins waiting below size other e t g s = λ j. mark Assign (Some (g refl refl j).number) (s j) ∷ []
own_is ot_or (k, (b, (r, u))) key d at before joins waiting below size other e t g s = λ j. mark Or (Some (g refl refl j).number) (s j) ∷ []
own_is nt_and (k, (b, (r, u))) key d at before joins waiting below size other e t g s = λ j. mark And (Some (g refl refl j).number) (s j) ∷ []
own_is ct_cmp (k, (b, (r, u))) key d at before joins waiting below size other e t g s = λ j. mark (Binary (as_cmp (g refl refl j))) (Some (g refl refl j).number) (s j) ∷ []
own_is st_add (k, (b, (r, u))) key d at before joins waiting below size other e t g s = λ j. mark (Binary (as_add (g refl refl j))) (Some (g refl refl j).number) (s j) ∷ []
own_is st_minus (k, (b, (v, (r, u)))) key d at before joins waiting below size other e t g s = λ j. mark (Binary Minus) (Some (g refl refl j).number) (s j) ∷ []
own_is mt_mul (k, (b, (r, u))) key d at before joins waiting below size other e t g s = λ j. mark (Binary (as_mul (g refl refl j))) (Some (g refl refl j).number) (s j) ∷ []
own_is u_minus (k, (a, u)) key d at before joins waiting below size other e t g s = λ j. mark (Unary Negate) (Some (g refl refl j).number) (s j) ∷ []
own_is u_unop (k, (a, u)) key d at before joins waiting below size other e t g s = λ j. mark (Unary (as_unop (g refl refl j))) (Some (g refl refl j).number) (s j) ∷ []
own_is p_num (x, u) key d at before joins waiting below size other e t g s = λ j. mark (Num (decimal_value (g refl refl j).lexeme)) (Some (g refl refl j).number) (s j) ∷ []
own_is p_true (k, u) key d at before joins waiting below size other e t g s = λ j. mark (Truth true) (Some (g refl refl j).number) (s j) ∷ []
own_is p_false (k, u) key d at before joins waiting below size other e t g s = λ j. mark (Truth false) (Some (g refl refl j).number) (s j) ∷ []
own_is call_args (k, (es, (c, u))) key d at before joins waiting below size other e t g s = λ j. mark CallKind (Some (t refl j)) (s j) ∷ []
own_is call_none u key d at before joins waiting below size other e t g s = λ j. mark Name (Some (t refl j)) (s j) ∷ []
own_is p y key d at before joins waiting below size other e t g s = absurd (cc)

own_none : (p : Production) (y : Given (right p)) (at before : ℕ) (joins : Bool) (waiting : List Wait) (below : List Mark) → nat_eq (has_row p joins) 0 ≡ true → own p y at before joins waiting below ≡ []
own_none stmt_if (k, (v, (b, u))) at before true waiting below e = refl
own_none else_if (k, (v, (b, u))) at before true waiting below e = refl
own_none stmt_if (k, (v, (b, u))) at before false waiting below e = absurd (cc)
own_none else_if (k, (v, (b, u))) at before false waiting below e = absurd (cc)
own_none fn y at before joins waiting below e = absurd (cc)
own_none param y at before joins waiting below e = absurd (cc)
own_none block_braces y at before joins waiting below e = absurd (cc)
own_none stmt_var y at before joins waiting below e = absurd (cc)
own_none stmt_else y at before joins waiting below e = absurd (cc)
own_none stmt_while y at before joins waiting below e = absurd (cc)
own_none stmt_return y at before joins waiting below e = absurd (cc)
own_none stmt_print y at before joins waiting below e = absurd (cc)
own_none stmt_eval y at before joins waiting below e = absurd (cc)
own_none a_assign y at before joins waiting below e = absurd (cc)
own_none ot_or y at before joins waiting below e = absurd (cc)
own_none nt_and y at before joins waiting below e = absurd (cc)
own_none ct_cmp y at before joins waiting below e = absurd (cc)
own_none st_add y at before joins waiting below e = absurd (cc)
own_none st_minus y at before joins waiting below e = absurd (cc)
own_none mt_mul y at before joins waiting below e = absurd (cc)
own_none u_minus y at before joins waiting below e = absurd (cc)
own_none u_unop y at before joins waiting below e = absurd (cc)
own_none p_num y at before joins waiting below e = absurd (cc)
own_none p_true y at before joins waiting below e = absurd (cc)
own_none p_false y at before joins waiting below e = absurd (cc)
own_none call_args y at before joins waiting below e = absurd (cc)
own_none call_none y at before joins waiting below e = absurd (cc)
own_none p y at before joins waiting below e = refl

-- ---- its place in the walk
back_tail : (p : Production) → reaches_back p false ≡ true → is_tail (left p) ≡ true
back_tail a_assign e = refl
back_tail ot_or e = refl
back_tail nt_and e = refl
back_tail ct_cmp e = refl
back_tail st_add e = refl
back_tail st_minus e = refl
back_tail mt_mul e = refl
back_tail p e = absurd (cc)

first_some : (d : Token) (c s : ℕ) (ts : List Token) → first_of (take (suc c) (drop s ts)) d ≡ get_or ts s d
first_some d c zero [] = refl
first_some d c (suc s) [] = refl
first_some d c zero (t ∷ ts) = refl
first_some d c (suc s) (t ∷ ts) = first_some d c s ts

pub first_read : (d : Token) (c k : ℕ) (ts rs : List Token) → take c (drop k ts) ≡ rs → nat_eq c 0 ≡ false → get_or ts k d ≡ first_of rs d
first_read d zero k ts rs e g = absurd (cc)
first_read d (suc c) k ts rs e g = sym (first_some d c k ts) ∙ ap (λ l. first_of l d) e

module _ (d : Token) (ps : List Production) (ts : List Token) where
  abbrev pub mark_at : Made → Mark
  mark_at m = mark_of d ps ts m

  abbrev pub marks : List Made → List Mark
  marks ms = map mark_at ms

  pub made_many : (us vs : List Made) (l : List Mark) → marks vs ≡ marks us ++ map bare l → length vs ≡ length us + length l
  made_many us vs l e = sym (length-map vs mark_at) ∙ ap length e ∙ length-append (marks us) (map bare l) ∙ (λ j. length-map us mark_at j + length-map l bare j)

  mark_is : (p : Production) (f : Forest (right p)) (qs : List Production) (i o s : ℕ) → get_or ps i prog_end ≡ p → drop (suc i) ps ≡ forest_parse f ++ qs →
      mark_at (record { place = i; own = o; size = s }) ≡ mark (kind_by p (get_or (owned ts) o d) (type_below p (parts f)) false) (if is_value p then None else Some (get_or (owned ts) o d).number) s
  mark_is p f qs i o s e g =
      (λ j. mark (kind_by (e j) (get_or (owned ts) o d) (type_ahead (e j) (g j)) false) (if is_value (e j) then None else Some (get_or (owned ts) o d).number) s)
      ∙ ap (λ ty. mark (kind_by p (get_or (owned ts) o d) ty false) (if is_value p then None else Some (get_or (owned ts) o d).number) s) (ahead_is p f qs)

  module _ (p : Production) (f : Forest (right p)) (qs : List Production) (i k : ℕ) (w : Taken) (waiting : List Wait) (at before : ℕ) (ms : List Made)
      (other : is_else p ≡ false)
      (hp : get_or ps i prog_end ≡ p) (hd : drop (suc i) ps ≡ forest_parse f ++ qs)
      (hr : nat_eq (reads_count p) 0 ≡ false → get_or (owned ts) k d ≡ first_of (reads (right p) (parts f)) d)
      (ht : is_tail (left p) ≡ true → (last_size ms ≡ before) × (before ≤ length ms))
      (hc : is_call (left p) ≡ true → (get_or (owned ts) (k - 1) d).number ≡ at) where
    row_is : (us : List Made) (below : List Mark) → length us ≡ length ms + length below → nat_eq (has_row p w.0) 0 ≡ false →
        mark_at (record { place = i; own = (opened p i 0 k ms).own; size = suc (length us) - (opened p i 0 k ms).begin }) ∷ [] ≡ map bare (own p (parts f) at before w.0 waiting below)
    row_is us below many row = by (is_call (left p)) (reaches_back p false) refl refl
      where
        o : ℕ
        o = if is_call (left p) then k - 1 else k

        size : ℕ
        size = suc (length us) - (length ms - (if reaches_back p false then last_size ms else 0))

        size_is : (b : Bool) → reaches_back p false ≡ b → size ≡ (if reaches_back p false then before + length below else length below) + 1
        size_is true g =
            let q = ht (back_tail p g) in
            ap (λ (b : Bool). suc (length us) - (length ms - (if b then last_size ms else 0))) g
            ∙ (let z = q.0 in let y = q.1 in let v : suc (length us) - (length ms - last_size ms) ≡ before + length below + 1 = omega arith in v)
            ∙ sym (ap (λ (b : Bool). (if b then before + length below else length below) + 1) g)
        size_is false g =
            ap (λ (b : Bool). suc (length us) - (length ms - (if b then last_size ms else 0))) g
            ∙ (let v : suc (length us) - (length ms - 0) ≡ length below + 1 = omega arith in v)
            ∙ sym (ap (λ (b : Bool). (if b then before + length below else length below) + 1) g)

        by : (c b : Bool) → is_call (left p) ≡ c → reaches_back p false ≡ b → mark_at (record { place = i; own = o; size = size }) ∷ [] ≡ map bare (own p (parts f) at before w.0 waiting below)
        by true b g h =
            let here : o ≡ k - 1 = ap (λ (z : Bool). if z then k - 1 else k) g in
            ap (λ m. m ∷ []) (mark_is p f qs i o size hp hd)
            ∙ own_is p (parts f) (get_or (owned ts) o d) d at before w.0 waiting below size other row
            (λ z. ap (λ (x : ℕ). (get_or (owned ts) x d).number) here ∙ hc g)
            (λ z. absurd (cc))
            (size_is b h)
        by false b g h =
            let here : o ≡ k = ap (λ (z : Bool). if z then k - 1 else k) g in
            ap (λ m. m ∷ []) (mark_is p f qs i o size hp hd)
            ∙ own_is p (parts f) (get_or (owned ts) o d) d at before w.0 waiting below size other row
            (λ z. absurd (cc))
            (λ z y. ap (λ (x : ℕ). get_or (owned ts) x d) here ∙ hr y)
            (size_is b h)

    pub mine_gives : (us : List Made) (below : List Mark) → marks us ≡ marks ms ++ map bare below → marks (mine p i k w ms us) ≡ marks ms ++ map bare (below ++ own p (parts f) at before w.0 waiting below)
    mine_gives us below e = ap (λ (b : Bool). marks (if b then (if w.0 then us else closes (taken i k w.1 ms) us) else (if nat_eq (has_row p w.0) 0 then us else closed o us))) other ∙ by (nat_eq (has_row p w.0) 0) refl
      where
        o : Open
        o = opened p i 0 k ms

        row : List Mark
        row = own p (parts f) at before w.0 waiting below

        many : length us ≡ length ms + length below
        many = made_many ms us below e

        by : (b : Bool) → nat_eq (has_row p w.0) 0 ≡ b → marks (if nat_eq (has_row p w.0) 0 then us else closed o us) ≡ marks ms ++ map bare (below ++ row)
        by true g =
            ap (λ (b : Bool). marks (if b then us else closed o us)) g
            ∙ e
            ∙ ap (λ l. marks ms ++ map bare l) (sym (append-nil below) ∙ ap (λ l. below ++ l) (sym (own_none p (parts f) at before w.0 waiting below g)))
        by false g =
            let m : Made = record { place = o.place; own = o.own; size = suc (length us) - o.begin } in
            ap (λ (b : Bool). marks (if b then us else closed o us)) g
            ∙ map-append mark_at us (m ∷ [])
            ∙ (λ j. e j ++ row_is us below many g j)
            ∙ append_assoc (marks ms) (map bare below) (map bare row)
            ∙ ap (λ l. marks ms ++ l) (sym (map-append bare below row))

  -- ---- the ifs that an else joins
  -- an open row is that of an if that waits, before `n` rows
  abbrev IsOf : ℕ → Open → Wait → Type 0
  IsOf n o w = (o.begin + w.rows ≡ n) × ((get_or (owned ts) o.own d).number ≡ w.token)

  -- the rows of an else
  abbrev pub AreElse : ℕ → List Open → List Wait → Type 0
  AreElse n [] [] = Unit {0}
  AreElse n (o ∷ os) (w ∷ ws) = IsOf n o w × (get_or ps o.place prog_end ≡ stmt_else) × AreElse n os ws
  AreElse n [] (w ∷ ws) = ⊥
  AreElse n (o ∷ os) [] = ⊥

  -- those that an else joins: it takes the place of the first
  abbrev pub AreMet : ℕ → List Open → List Wait → Type 0
  AreMet n [] [] = Unit {0}
  AreMet n (o ∷ os) (w ∷ ws) = IsOf n o w × AreElse n os ws
  AreMet n [] (w ∷ ws) = ⊥
  AreMet n (o ∷ os) [] = ⊥

  pub later_else : (n m : ℕ) (os : List Open) (ws : List Wait) → AreElse n os ws → AreElse (n + m) os (later m ws)
  later_else n m [] [] h = tt
  later_else n m [] (w ∷ ws) h = h
  later_else n m (o ∷ os) [] h = h
  later_else n m (o ∷ os) (w ∷ ws) h = (((let e = h.0.0 in omega arith), h.0.1), h.1, later_else n m os ws h.2)

  pub taken_else : (i k t : ℕ) (os : List Open) (ws : List Wait) (ms : List Made) → AreMet (length ms) os ws → get_or ps i prog_end ≡ stmt_else → (get_or (owned ts) k d).number ≡ t → AreElse (length ms) (taken i k os ms) (waiters t ws)
  taken_else i k t [] [] ms h e g = ((omega arith, g), e, tt)
  taken_else i k t [] (w ∷ ws) ms h e g = absurd h
  taken_else i k t (o ∷ os) [] ms h e g = absurd h
  taken_else i k t (o ∷ os) (w ∷ ws) ms h e g = (h.0, e, h.1)

  pub closes_ended : (n m : ℕ) (os : List Open) (ws : List Wait) (us : List Made) → AreElse n os ws → length us ≡ n + m → marks (closes os us) ≡ marks us ++ ended m ws
  closes_ended n m [] [] us h e = sym (append-nil (marks us))
  closes_ended n m [] (w ∷ ws) us h e = absurd h
  closes_ended n m (o ∷ os) [] us h e = absurd h
  closes_ended n m (o ∷ os) (w ∷ ws) us h e =
      let row : Made = record { place = o.place; own = o.own; size = suc (length us) - o.begin } in
      let size : suc (length us) - o.begin ≡ w.rows + m + 1 = (let g = h.0.0 in omega arith) in
      let one : mark_at row ≡ mark IfElse (Some w.token) (w.rows + m + 1) = (λ j. mark (kind_by (h.1 j) (get_or (owned ts) o.own d) (type_ahead (h.1 j) (drop (suc o.place) ps)) false) (if is_value (h.1 j) then None else Some (h.0.1 j)) (size j)) in
      let more : length (closed o us) ≡ n + suc m = (let g = length-append us (row ∷ []) in omega arith) in
      closes_ended n (suc m) os ws (closed o us) h.2 more
      ∙ ap (λ l. l ++ ended (suc m) ws) (map-append mark_at us (row ∷ []) ∙ ap (λ x. marks us ++ x ∷ []) one)
      ∙ append_assoc (marks us) (mark IfElse (Some w.token) (w.rows + m + 1) ∷ []) (ended (suc m) ws)
