-- Tables of pairs that are filled row by row.
use Rattle.std.proofs.Common.{◌≡◌, ℕ, suc, ◌+◌, ◌*◌, ◌<◌, ◌≤◌, ◌⊎◌, inl, inr, List, [], ◌∷◌, ◌++◌, length, get_or, Bool, true, false, ◌&&◌, nat_lt, if◌then◌else◌, Option, None, refl, sym, ap, ◌∙◌, subst, arith, length-append}
use Rattle.std.proofs.lemmas.Bool.{cases_lt, ltb-true, lt-ltb, true≢false}
use Rattle.std.proofs.lemmas.List.{get_or_append_left, get_or_at}
use Rattle.std.proofs.Math.Nat.{mul-le-mul_right}
use Rattle.ll1_sets.specs.Laws.FormTests.{both, and}

row_below : (w b d : ℕ) → b < d → b * w + w ≤ d * w
row_below w b d l = let m : suc b ≤ d = omega arith in let p = mul-le-mul_right w m in omega arith

same_place : (w a b c d : ℕ) → a < w → c < w → b * w + a ≡ d * w + c → (a ≡ c) × (b ≡ d)
same_place w a b c d k l e = go (cases_lt b d) (cases_lt d b)
  where
    go : (b < d) ⊎ (d ≤ b) → (d < b) ⊎ (b ≤ d) → (a ≡ c) × (b ≡ d)
    go (inl m) n = let p = row_below w b d m in absurd (omega arith)
    go (inr m) (inl n) = let p = row_below w d b n in absurd (omega arith)
    go (inr m) (inr n) = let same : b ≡ d = omega arith in let rows = ap (λ t. t * w) same in (omega arith, same)

module _ {E : Type 0} (w : ℕ) (P : ℕ → ℕ → Option E → Type 0) where
  -- each entry that is there is that of its pair
  abbrev pub IsFilled : List (Option E) → Type 0
  IsFilled es = (a b : ℕ) → a < w → b * w + a < length es → P a b (get_or es (b * w + a) None)

  pub filled_more : (a b : ℕ) (es : List (Option E)) (e : Option E) → a < w → length es ≡ b * w + a → IsFilled es → P a b e → IsFilled (es ++ e ∷ [])
  filled_more a b es e lt place h p c d l m = go (cases_lt (d * w + c) (length es))
    where
      go : (d * w + c < length es) ⊎ (length es ≤ d * w + c) → P c d (get_or (es ++ e ∷ []) (d * w + c) None)
      go (inl n) = subst (P c d) (sym (get_or_append_left es (e ∷ []) None (d * w + c) n)) (h c d l n)
      go (inr n) =
          let more = length-append es (e ∷ []) in
          let at : length es ≡ d * w + c = omega arith in
          let same = same_place w a b c d lt l (sym place ∙ at) in
          let here = get_or_at es e [] None (d * w + c) at in
          subst (P c d) (sym here) (subst (λ n. P n d e) same.0 (subst (λ n. P a n e) same.1 p))

  -- the whole table, where nothing is said of pairs outside of it
  pub filled_table : (es : List (Option E)) → length es ≡ w * w → IsFilled es → ((a b : ℕ) → ((a < w) × (b < w) → ⊥) → P a b None)
      → (a b : ℕ) → P a b (if nat_lt a w && nat_lt b w then get_or es (b * w + a) None else None)
  filled_table es len h out a b = go (nat_lt a w && nat_lt b w) refl
    where
      within : a < w → b < w → b * w + a < length es
      within k l = let p = row_below w b w l in omega (arith, len)

      go : (x : Bool) → (nat_lt a w && nat_lt b w) ≡ x → P a b (if x then get_or es (b * w + a) None else None)
      go true e = let k = both (nat_lt a w) (nat_lt b w) e in h a b (ltb-true a w k.0) (within (ltb-true a w k.0) (ltb-true b w k.1))
      go false e = out a b (λ r. true≢false (sym (and (nat_lt a w) (nat_lt b w) (lt-ltb a w r.0) (lt-ltb b w r.1)) ∙ e))

-- within the table an entry is read at its place
pub table_at : {E : Type 0} (w : ℕ) (es : List (Option E)) (a b : ℕ) → a < w → b < w
    → (if nat_lt a w && nat_lt b w then get_or es (b * w + a) None else None) ≡ get_or es (b * w + a) None
table_at w es a b p q = ap (λ c. if c then get_or es (b * w + a) None else None) (and (nat_lt a w) (nat_lt b w) (lt-ltb a w p) (lt-ltb b w q))
