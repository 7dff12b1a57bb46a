-- What is made of chunks, as workers go on.
use Rattle.std.proofs.Common.{◌≡◌, ℕ, ◌+◌, ◌<◌, List, [], ◌++◌, map, All, Option, Some, None, Result, Ok, Err, sym, ap, ◌∙◌, subst, arith}
use Rattle.std.specs.Prelude.{IfOk, IfSome, IsOkAnd}
use Rattle.std.specs.declared.alloc.AllocError.{AllocError}
use Rattle.std.specs.Global.{Vec}
use Rattle.std.proofs.lemmas.List.{map-append}
use Rattle.std.proofs.lemmas.List.Elements.{All-append, All-nil}
use Rattle.atomic_table.specs.Seated.{TableId}
use Rattle.chunk_seats.specs.Claims.{joining, shares}
use Rattle.chunk_seats.specs.Held.{Held, held}
use Rattle.chunk_seats.specs.Tallies.{times, one}
use Rattle.chunk_seats.specs.Laws.Totals.{one_same, times-append}
use Rattle.par_passes.specs.Crews.{Gave}
use Rattle.claim_teams.specs.Teams.{AreMade, Works, as_list}

-- before anything is made
pub nothing_made : {B : Type 0} {E : Type 0} (chunks : ℕ) (post : ℕ → Result B E → Type 0) (items : List (ℕ × B)) → items ≡ [] → ([] ≡ map (λ (p : ℕ × B). p.0) items) × All (Gave chunks post) items
nothing_made chunks post items none = (ap (map (λ p. p.0)) (sym none), subst (All (Gave chunks post)) (sym none) (All-nil (Gave chunks post)))

-- the chunk that a team begins with is claimed
pub begun_there : (begun : Option ℕ) → IfSome begun (λ c. 0 < times c (as_list begun))
begun_there None = tt
begun_there (Some c) = (let there = one_same c in omega arith)

pub still_there : (begun : Option ℕ) (xs ys : List ℕ) → IfSome begun (λ c. 0 < times c xs) → IfSome begun (λ c. 0 < times c (xs ++ ys))
still_there None xs ys h = tt
still_there (Some c) xs ys h = omega (arith, times-append c xs ys, h)

pub made_of_both : {B E : Type 0} (chunks : ℕ) (post : ℕ → Result B E → Type 0) (xs ys : List ℕ) (one two r : Result (Vec (ℕ × B)) E) → AreMade chunks post xs one → AreMade chunks post ys two
    → IfOk r (λ v. IsOkAnd one (λ x. IsOkAnd two (λ y. v.items ≡ x.items ++ y.items))) → AreMade chunks post (xs ++ ys) r
made_of_both chunks post xs ys one two (Err e) h k is = tt
made_of_both chunks post xs ys (Err e) two (Ok v) h k is = absurd is
made_of_both chunks post xs ys (Ok x) (Err e) (Ok v) h k is = absurd is
made_of_both chunks post xs ys (Ok x) (Ok y) (Ok v) h k is =
    ((λ i. h.0 i ++ k.0 i) ∙ sym (map-append (λ p. p.0) x.items y.items) ∙ ap (map (λ p. p.0)) (sym is), subst (All (Gave chunks post)) (sym is) (All-append (Gave chunks post) x.items y.items h.1 k.1))

-- two groups of workers are one
pub both_work : {B : Type 0} (chunks : ℕ) (post : ℕ → Result B AllocError → Type 0) (board : TableId) (begun : Option ℕ) (rest half workers : ℕ) (s t u : Held) (one two w : Result (Vec (ℕ × B)) AllocError)
    → rest + half ≡ workers → Works chunks post board begun rest s one → Works chunks post board None half t two → u ≡ held s.board (joining s.view t.view)
    → IfOk w (λ v. IsOkAnd one (λ x. IsOkAnd two (λ y. v.items ≡ x.items ++ y.items))) → Works chunks post board begun workers u w
both_work chunks post board begun rest half workers s t u one two w whole a b is all =
    let claimed : u.view.claimed ≡ s.view.claimed ++ t.view.claimed = ap (λ h. h.view.claimed) is in
    record {
      board_is = ap (λ h. h.board) is ∙ a.board_is;
      weight = ap (λ h. h.view.weight) is ∙ (λ i. a.weight i + b.weight i) ∙ whole;
      spent = ap (λ h. h.view.share) is ∙ ap (λ n. shares n t.view.share) a.spent;
      undone = ap (λ h. h.view.done) is ∙ (λ i. a.undone i ++ b.undone i);
      begins = subst (λ l. IfSome begun (λ c. 0 < times c l)) (sym claimed) (still_there begun s.view.claimed t.view.claimed a.begins);
      are_made = subst (λ l. AreMade chunks post l w) (sym claimed) (made_of_both chunks post s.view.claimed t.view.claimed one two w a.are_made b.are_made all);
    }
