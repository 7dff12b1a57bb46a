-- Going on with what a run gives.
use Rattle.std.proofs.Common.{◌≡◌, ℕ, zero, suc, ◌≤◌, List, [], ◌∷◌, ◌++◌, Option, Result, Ok, Err, refl, ap, ◌∙◌, arith}
use Rattle.source_meaning.specs.Meaning.{Run, gave, stopped, behind_one, behind_all, ◌>>=◌, Table, End, loop}
use Rattle.tree_interpreter.specs.Resuming.{behind_said, onwards, turned}
use Rattle.tree_interpreter.specs.Walking.{Went}
use Rattle.tree_interpreter.specs.declared.interpreter.Stop.{Stop}
use Rattle.tree_interpreter.specs.declared.interpreter.Stop.TheVariants.{Deep, More, NoMemory}
use Rattle.tree_interpreter.specs.declared.interpreter.Walker.{Walker}

-- numbers that were printed before a run
onwards_one : {A : Type 0} (n : ℕ) (r : Run A) (next : A → Table → End) → onwards (behind_one n r) next ≡ behind_said (n ∷ []) (onwards r next)
onwards_one n (gave x t ns) next = refl
onwards_one n (stopped s ns) next = refl

onwards_behind : {A : Type 0} (ns : List ℕ) (r : Run A) (next : A → Table → End) → onwards (behind_all ns r) next ≡ behind_said ns (onwards r next)
onwards_behind [] r next = refl
onwards_behind (n ∷ ns) r next = onwards_one n (behind_all ns r) next ∙ ap (behind_said (n ∷ [])) (onwards_behind ns r next)

bound_one : {A B : Type 0} (n : ℕ) (r : Run A) (f : A → Table → Run B) → (behind_one n r >>= f) ≡ behind_one n (r >>= f)
bound_one n (gave x t ns) f = refl
bound_one n (stopped s ns) f = refl

bound_behind : {A B : Type 0} (ns : List ℕ) (r : Run A) (f : A → Table → Run B) → (behind_all ns r >>= f) ≡ behind_all ns (r >>= f)
bound_behind [] r f = refl
bound_behind (n ∷ ns) r f = bound_one n (behind_all ns r) f ∙ ap (behind_one n) (bound_behind ns r f)

-- one run after the other
pub onwards_after : {A B : Type 0} (r : Run A) (f : A → Table → Run B) (next : B → Table → End) → onwards (r >>= f) next ≡ onwards r (λ x t. onwards (f x t) next)
onwards_after (gave x t ns) f next = onwards_behind ns (f x t) next
onwards_after (stopped s ns) f next = refl

-- what goes on alike from each value
pub onwards_alike : {A : Type 0} (r : Run A) (f g : A → Table → End) → ((x : A) (t : Table) → f x t ≡ g x t) → onwards r f ≡ onwards r g
onwards_alike (gave x t ns) f g h = ap (behind_said ns) (h x t)
onwards_alike (stopped s ns) f g h = refl

-- one run after the other, and runs that go on alike
pub bound_after : {A B C : Type 0} (r : Run A) (f : A → Table → Run B) (g : B → Table → Run C) → (r >>= f) >>= g ≡ r >>= λ x t. f x t >>= g
bound_after (gave x t ns) f g = bound_behind ns (f x t) g
bound_after (stopped s ns) f g = refl

pub bound_alike : {A B : Type 0} (r : Run A) (f g : A → Table → Run B) → ((x : A) (t : Table) → f x t ≡ g x t) → r >>= f ≡ r >>= g
bound_alike (gave x t ns) f g h = ap (behind_all ns) (h x t)
bound_alike (stopped s ns) f g h = refl

-- the same was meant, and no more is left
pub went_as : (o q : End) (m n : ℕ) (y : Result (Unit {0}) Stop) (w : Walker) → Went q m y w → o ≡ q → m ≤ n → Went o n y w
went_as o q m n (Ok _) w (same, few) is less = (is ∙ same, omega arith)
went_as o q m n (Err Deep) w h is less = is ∙ h
went_as o q m n (Err More) w h is less = is ∙ h
went_as o q m n (Err NoMemory) w h is less = tt

-- a loop is its condition, and then its turns
pub loop_turned : (c : Table → Run ℕ) (b : Table → Run (Option ℕ)) (n : ℕ) (t : Table) → loop c b n t ≡ c t >>= λ x u. turned c b n x u
loop_turned c b zero t = refl
loop_turned c b (suc n) t = refl
