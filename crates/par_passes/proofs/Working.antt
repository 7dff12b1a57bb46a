-- Answers of the chunks, as workers go on.
use Rattle.std.proofs.Common.{◌≡◌, ℕ, List, [], ◌∷◌, ◌++◌, map, All, sym, ap, ◌∙◌, subst, append_assoc}
use Rattle.std.proofs.lemmas.List.{map-append}
use Rattle.std.proofs.lemmas.List.Elements.{All-push}

-- one more chunk among the answers
pub answers_more : {L : Type 0} (from to old : List ℕ) (all all' : List (ℕ × L)) (c : ℕ) (x : L) → from ≡ old ++ map (λ (p : ℕ × L). p.0) all → to ≡ from ++ c ∷ [] → all' ≡ all ++ (c, x) ∷ [] → to ≡ old ++ map (λ (p : ℕ × L). p.0) all'
answers_more {L} from to old all all' c x so_far more added =
    more ∙ (ap (λ (l : List ℕ). l ++ c ∷ []) so_far
    ∙ (append_assoc old (map (λ (p : ℕ × L). p.0) all) (c ∷ [])
    ∙ ap (λ (l : List ℕ). old ++ l) (sym (ap (map (λ (p : ℕ × L). p.0)) added ∙ map-append (λ (p : ℕ × L). p.0) all ((c, x) ∷ [])))))

pub all_more : {A : Type 0} (P : A → Type 0) (xs ys : List A) (x : A) → ys ≡ xs ++ x ∷ [] → All P xs → P x → All P ys
all_more P xs ys x is ps p = subst (All P) (sym is) (All-push P xs x ps p)
