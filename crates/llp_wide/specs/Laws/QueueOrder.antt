-- Strings in the order in which they come out of a queue.
use Rattle.std.proofs.Common.{◌≡◌, ◌⊎◌, inl, inr, List, Bool, true, false, Some, refl, sym, ap, ◌∙◌}
use Rattle.std.specs.Prelude.{if◌then◌else◌}
use Rattle.std.specs.Cmp.{IsTotalOrder, IsEquivalence, IsPartialOrder, po}
use Rattle.std.specs.Ordering.{eq_by_cmp, is_lt, ordering_reverse}
use Rattle.std.specs.declared.cmp.Ordering.{Ordering}
use Rattle.std.specs.declared.cmp.Ordering.TheVariants.{Less, Equal, Greater}
use Rattle.std.proofs.lemmas.Bool.{true≢false}
use Rattle.std.proofs.lemmas.Cmp.{eq_by_cmp_equiv, on_total, back_total}
use Rattle.grammar_file.specs.declared.symbols.Symbol.{Symbol}
use Rattle.llp_tables.specs.Cells.{IsBefore}
use Rattle.llp_tables.specs.Tables.{stack_lt}
use Rattle.llp_tables.specs.Laws.StackOrder.{before_cases, before_not_itself, before_trans}
use Rattle.llp_wide.specs.Claims.{Claim}
use Rattle.llp_wide.specs.Queueing.{stack_cmp, claim_cmp}

order : Bool → Bool → Ordering
order less greater = if less then Less else if greater then Greater else Equal

turned : (a b : Bool) → (a ≡ true → b ≡ true → ⊥) → order a b ≡ ordering_reverse (order b a)
unfolding order
turned true true h = absurd (h refl refl)
turned true false h = refl
turned false true h = refl
turned false false h = refl

is_less : (a b : Bool) → order a b ≡ Less → a ≡ true
unfolding order
is_less true b h = refl
is_less false true h = cc
is_less false false h = cc

less : (a b : Bool) → a ≡ true → order a b ≡ Less
unfolding order
less true b h = refl
less false b h = absurd (true≢false (sym h))

neither : (a b : Bool) → order a b ≡ Equal → (a ≡ false) × (b ≡ false)
unfolding order
neither true b h = cc
neither false true h = cc
neither false false h = (refl, refl)

never_both : (x y : List Symbol) → IsBefore x y → IsBefore y x → ⊥
never_both x y h k = before_not_itself x (before_trans x y x h k)

same_stack : (x y : List Symbol) → stack_cmp x y ≡ Equal → x ≡ y
unfolding order
same_stack x y h = go (before_cases x y)
  where
    none : (stack_lt x y ≡ false) × (stack_lt y x ≡ false)
    none = neither (stack_lt x y) (stack_lt y x) h

    go : (x ≡ y) ⊎ (IsBefore x y ⊎ IsBefore y x) → x ≡ y
    go (inl e) = e
    go (inr (inl l)) = absurd (true≢false (sym l ∙ none.0))
    go (inr (inr l)) = absurd (true≢false (sym l ∙ none.1))

pub stack_total : IsTotalOrder stack_cmp
unfolding order
stack_total = record {
  antisymm = λ x y. turned (stack_lt x y) (stack_lt y x) (never_both x y);
  trans = λ x y z h k. less (stack_lt x z) (stack_lt z x) (before_trans x y z (is_less (stack_lt x y) (stack_lt y x) h) (is_less (stack_lt y z) (stack_lt z y) k));
  congr = λ x y z h. ap (λ (w : List Symbol). stack_cmp w z) (same_stack x y h);
}

pub claim_total : IsTotalOrder claim_cmp
claim_total = back_total (on_total (λ (c : Claim). c.stack) stack_total)

pub claim_equivalence : IsEquivalence (eq_by_cmp claim_cmp)
claim_equivalence = eq_by_cmp_equiv claim_total

pub claim_order : IsPartialOrder (eq_by_cmp claim_cmp) (λ a b. Some (claim_cmp a b))
claim_order = po claim_total (λ a b. refl)

-- what comes out is greater than no string that waits
pub not_before : (x y : Claim) → is_lt (claim_cmp y x) ≡ false → IsBefore x.stack y.stack → ⊥
unfolding order
not_before x y h k = true≢false (ap is_lt (sym (less (stack_lt x.stack y.stack) (stack_lt y.stack x.stack) k)) ∙ h)
