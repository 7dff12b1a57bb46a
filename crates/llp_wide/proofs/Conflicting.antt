-- The least conflict where two terminals are looked back at: where one terminal comes next, and of all.
use Rattle.std.proofs.Common.{◌≡◌, ℕ, ◌+◌, ◌<◌, ◌≤◌, ◌⊎◌, inl, inr, List, length, Option, Some, None, refl, sym, ◌∙◌, subst, arith}
use Rattle.std.specs.Prelude.{MatchOption}
use Rattle.std.proofs.lemmas.Bool.{cases_lt}
use Rattle.grammar_file.specs.declared.symbols.Symbol.{Symbol}
use Rattle.grammar_file.specs.declared.symbols.Symbol.TheVariants.{Terminal}
use Rattle.grammar_file.specs.Grammar.{Grammar, IsWellFormed}
use Rattle.llp_tables.specs.LeastMembers.{KeepsLeast}
use Rattle.llp_tables.specs.Lookbacks.{cells_at, HasNoTwo}
use Rattle.llp_tables.specs.Slots.{Slots, Empty, One, Two}
use Rattle.llp_tables.specs.declared.cells.Members.{Members}
use Rattle.llp_tables.specs.Laws.LookbackBounds.{lookback_in_range}
use Rattle.llp_wide.specs.Wide.{IsWideLookback, IsWideLlp, IsLeastWideConflict}
use Rattle.llp_wide.specs.WideBehind.{WideBehind, here, through, of_start, of_begin}
use Rattle.llp_wide.specs.WideConflicts.{TellWide, HasOneAtMost, IsLeastTwoIn, IsLesserPair, IsLeastWideOn, IsLeastWideBelow, LeastWideOn, LeastWideBelow}
use Rattle.llp_wide.specs.declared.conflicts.WideConflict.{WideConflict}
use Rattle.llp_wide.proofs.WideRules.{within, by_rules}
use Rattle.llp_wide.proofs.WideBounds.{place_below}

-- without two strings there is one member at most
same_member : (member : List Symbol → Type 0) (c : Slots) (x y : List Symbol) → HasNoTwo c → KeepsLeast member c → member x → member y → x ≡ y
same_member member Empty x y none k mx my = absurd (k x mx)
same_member member (One z) x y none k mx my = k.1 x mx ∙ sym (k.1 y my)
same_member member (Two z t) x y none k mx my = absurd none

-- ---- terminals in order

less_through : (y d z a w c : ℕ) → IsLesserPair y d z a → (z < w) ⊎ ((z ≡ w) × (a ≤ c)) → IsLesserPair y d w c
less_through y d z a w c (inl l) (inl m) = inl (omega arith)
less_through y d z a w c (inl l) (inr m) = let e : z ≡ w = m.0 in inl (omega arith)
less_through y d z a w c (inr l) (inl m) = let e : y ≡ z = l.0 in inl (omega arith)
less_through y d z a w c (inr l) (inr m) = let i : d < a = l.1 in let j : a ≤ c = m.1 in inr (l.0 ∙ m.0, omega arith)

less_less : (y d z a w c : ℕ) → IsLesserPair y d z a → IsLesserPair z a w c → IsLesserPair y d w c
less_less y d z a w c h (inl m) = less_through y d z a w c h (inl m)
less_less y d z a w c h (inr m) = less_through y d z a w c h (inr (m.0, let j : a < c = m.1 in omega arith))

one_more : (P : ℕ → Type 0) (n : ℕ) → ((c : ℕ) → c < n → P c) → P n → (c : ℕ) → c < n + 1 → P c
one_more P n before at c l = go (cases_lt c n)
  where
    go : (c < n) ⊎ (n ≤ c) → P c
    go (inl i) = before c i
    go (inr i) = let e : n ≡ c = omega arith in subst P e at

module _ (g : Grammar) (well : IsWellFormed g) where
  before_in_range : (z : ℕ) (s : Symbol) (b : ℕ) (beta : List Symbol) → WideBehind g z s b beta → z < length g.terminals + 2
  before_in_range _ _ _ _ (here z0 owner z s after beta rest b place parts begins) = place_below g well z0 owner z s after place
  before_in_range _ _ _ _ (through z0 owner z s after beta b place vanish inner) = place_below g well z0 owner z s after place
  before_in_range _ _ _ _ of_start = omega arith
  before_in_range _ _ _ _ (of_begin beta rest b parts begins) = omega arith

  -- a set with a member is of terminals of the grammar, or marks
  pub wide_in_range : (z a b : ℕ) (beta : List Symbol) → IsWideLookback g z a b beta → (z < length g.terminals + 2) × (a < length g.terminals + 2) × (b < length g.terminals + 2)
  wide_in_range z a b beta h = let r = lookback_in_range g well a b beta (within g z a b beta h) in (before_in_range z (Terminal a) b beta (by_rules g z a b beta h), r.0, r.1)

  -- ---- where b comes next

  module _ (b : ℕ) (classes : List Members) (tell : TellWide g b classes) where
    abbrev pub cell : ℕ → ℕ → Slots
    cell z a = cells_at classes z (Terminal a)

    one_at : (z a : ℕ) → HasNoTwo (cell z a) → HasOneAtMost g z a b
    one_at z a none = λ beta gamma h k. same_member (IsWideLookback g z a b) (cell z a) beta gamma none (tell z a) h k

    one_behind : (z n : ℕ) → length g.terminals + 2 ≤ n → ((a : ℕ) → a < n → HasNoTwo (cell z a)) → (a : ℕ) → HasOneAtMost g z a b
    one_behind z n l none a = go (cases_lt a n)
      where
        go : (a < n) ⊎ (n ≤ a) → HasOneAtMost g z a b
        go (inl i) = one_at z a (none a i)
        go (inr i) = λ beta gamma h k. let r = wide_in_range z a b beta h in let m : a < length g.terminals + 2 = r.1 in absurd (omega arith)

    pub one_everywhere : (n m : ℕ) → length g.terminals + 2 ≤ n → length g.terminals + 2 ≤ m → ((z a : ℕ) → z < n → a < m → HasNoTwo (cell z a)) → (z a : ℕ) → HasOneAtMost g z a b
    one_everywhere n m l i none z a = go (cases_lt z n)
      where
        go : (z < n) ⊎ (n ≤ z) → HasOneAtMost g z a b
        go (inl k) = one_behind z m i (λ d j. none z d k j) a
        go (inr k) = λ beta gamma h t. let r = wide_in_range z a b beta h in let q : z < length g.terminals + 2 = r.0 in absurd (omega arith)

    pub least_on : (n : ℕ) (k : WideConflict) → length g.terminals + 2 ≤ n → k.b ≡ b → ((y d : ℕ) → y < k.z → d < n → HasNoTwo (cell y d)) → IsLeastTwoIn classes k.z k.a k.first k.second → IsLeastWideOn g b k
    least_on n k l on before two =
        record {
          on = on;
          pair = record { first_member = kept.0; second_member = kept.1; in_order = kept.2; no_lesser_member = kept.3 };
          no_lesser = λ y d h. lesser y d h;
        }
      where
        kept : KeepsLeast (IsWideLookback g k.z k.a k.b) (Two k.first k.second)
        kept = subst (λ (c : ℕ). KeepsLeast (IsWideLookback g k.z k.a c) (Two k.first k.second)) (sym on) (subst (KeepsLeast (IsWideLookback g k.z k.a b)) two.two (tell k.z k.a))

        lesser : (y d : ℕ) → IsLesserPair y d k.z k.a → HasOneAtMost g y d b
        lesser y d (inl i) = one_behind y n l (λ e j. before y e i j) d
        lesser y d (inr h) = subst (λ (x : ℕ). HasOneAtMost g x d b) (sym h.0) (one_at k.z d (two.no_lesser d h.1))

  -- ---- of all

  all_one : (n y d : ℕ) → length g.terminals + 2 ≤ n → ((e : ℕ) → e < n → HasOneAtMost g y d e) → (c : ℕ) → HasOneAtMost g y d c
  all_one n y d l h c = λ beta gamma m k. h c (let r = wide_in_range y d c beta m in let i : c < length g.terminals + 2 = r.2 in omega arith) beta gamma m k

  pub wide_matched : (n : ℕ) → length g.terminals + 2 ≤ n → (o : Option WideConflict) → LeastWideBelow g n o → MatchOption o (IsWideLlp g) (λ k. IsLeastWideConflict g k.z k.a k.b k.first k.second)
  wide_matched n l None h = λ z a b beta gamma m k. all_one n z a l (λ e i. h z a e i) b beta gamma m k
  wide_matched n l (Some k) h =
      record {
        first_member = h.pair.first_member;
        second_member = h.pair.second_member;
        in_order = h.pair.in_order;
        no_lesser_member = h.pair.no_lesser_member;
        no_lesser_look_ahead = λ c i t. t.2 (h.no_lesser_look_ahead c i t.0 t.1 t.3 t.4);
        no_lesser_look_back = λ d c i t. t.2 (all_one n k.z d l (λ e j. h.no_lesser k.z d e (inr (refl, i)) j) c t.0 t.1 t.3 t.4);
        no_lesser_before = λ y d c i t. t.2 (all_one n y d l (λ e j. h.no_lesser y d e (inl i) j) c t.0 t.1 t.3 t.4);
      }

module _ (g : Grammar) (n : ℕ) where
  pub first_wide : LeastWideBelow g n None → (o : Option WideConflict) → LeastWideOn g n o → LeastWideBelow g (n + 1) o
  first_wide before None on = λ z a c l. one_more (HasOneAtMost g z a) n (λ e i. before z a e i) (on z a) c l
  first_wide before (Some k) on =
      record {
        pair = on.pair;
        no_lesser_look_ahead = λ c l. before k.z k.a c (let e : k.b ≡ n = on.on in omega arith);
        no_lesser = λ y d c h l. one_more (HasOneAtMost g y d) n (λ e i. before y d e i) (on.no_lesser y d h) c l;
      }

  kept_wide : (x : WideConflict) → IsLeastWideBelow g n x → ((y d : ℕ) → IsLesserPair y d x.z x.a → HasOneAtMost g y d n) → IsLeastWideBelow g (n + 1) x
  kept_wide x before new =
      record {
        pair = before.pair;
        no_lesser_look_ahead = before.no_lesser_look_ahead;
        no_lesser = λ y d c h l. one_more (HasOneAtMost g y d) n (λ e i. before.no_lesser y d e h i) (new y d h) c l;
      }

  pub none_wide : (x : WideConflict) → IsLeastWideBelow g n x → ((z a : ℕ) → HasOneAtMost g z a n) → IsLeastWideBelow g (n + 1) x
  none_wide x before none = kept_wide x before (λ y d h. none y d)

  pub later_wide : (x y : WideConflict) → IsLeastWideBelow g n x → IsLeastWideOn g n y → (x.z < y.z) ⊎ ((x.z ≡ y.z) × (x.a ≤ y.a)) → IsLeastWideBelow g (n + 1) x
  later_wide x y before on order = kept_wide x before (λ w d h. on.no_lesser w d (less_through w d x.z x.a y.z y.a h order))

  pub taken_wide : (x y : WideConflict) → IsLeastWideBelow g n x → IsLeastWideOn g n y → IsLesserPair y.z y.a x.z x.a → IsLeastWideBelow g (n + 1) y
  taken_wide x y before on less =
      record {
        pair = on.pair;
        no_lesser_look_ahead = λ c l. before.no_lesser y.z y.a c less (let e : y.b ≡ n = on.on in omega arith);
        no_lesser = λ w d c h l. one_more (HasOneAtMost g w d) n (λ e i. before.no_lesser w d e (less_less w d y.z y.a x.z x.a h less) i) (on.no_lesser w d h) c l;
      }
