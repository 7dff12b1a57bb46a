-- A numbering of at most n functions leaves no room for n + 1.
use Rattle.std.proofs.Common.{◌≡◌, ℕ, ◌≤◌, true, List, length, subst, arith}
use Rattle.std.specs.Prelude.{nat_eq, Contains}
use Rattle.std.specs.List.{IsDistinct}
use Rattle.std.specs.Set.{is_member}
use Rattle.std.specs.Cmp.Lexicographic.{pointwise, bytes_decides, nat_list_eq_equiv}
use Rattle.std.proofs.lemmas.Map.Made.{IsDistinct-from_AllPairs, is_member-Decides, length-le_from_is_member}
use Rattle.state_monoid.specs.Automaton.{Automaton}
use Rattle.state_monoid.specs.Image.{IsReached, IsNumbering, HasMoreThan}

pub too_many : (d : Automaton) (functions : List (List ℕ)) → IsNumbering d functions → length functions ≤ 4096 → HasMoreThan d 4096 → ⊥
too_many d functions all few more =
    let distinct : IsDistinct (pointwise nat_eq) more.functions = IsDistinct-from_AllPairs bytes_decides more.functions more.distinct in
    let inside : (f : List ℕ) → is_member (pointwise nat_eq) more.functions f ≡ true → is_member (pointwise nat_eq) functions f ≡ true =
    λ f h.
    let at : Contains more.functions f = (is_member-Decides bytes_decides more.functions f).0 h in
    let r : IsReached d f = subst (IsReached d) at.2 (more.reached at.0 f at.1) in
    (is_member-Decides bytes_decides functions f).1 (subst (Contains functions) r.2 (all.complete r.0 r.1)) in
    let most : length more.functions ≤ length functions = length-le_from_is_member nat_list_eq_equiv more.functions functions distinct inside in
    let count = more.count in
    omega arith
