-- A text that is cut at the first place of a byte.
use Rattle.std.proofs.Common.{◌≡◌, ℕ, ◌+◌, ◌-◌, ◌<◌, ◌≤◌, List, [], ◌∷◌, length, take, drop, Bool, true, false, cond, eqb, ltb, suc, Some, None, refl, sym, ap, ◌∙◌, subst, arith}
use Rattle.std.specs.List.{position, position_or_len, before_first, after_first, slice_split, onto_first}
use Rattle.std.specs.Str.Lines.{lines, lines_of_parts, strip_carriage_return}
use Rattle.std.specs.Prelude.{◌==◌}
use Rattle.std.proofs.lemmas.List.{take_all, length-drop}
use Rattle.std.proofs.lemmas.List.Splits.{slice_split_first, slice_split_none}
use Rattle.std.proofs.lemmas.List.Sums.{fails_before_first}

module _ {X : Type 0} (p : X → Bool) (xs : List X) where
  pub position_some : (i : ℕ) → position p xs ≡ Some i → (position_or_len p xs ≡ i) × (i < length xs)
  position_some i h = go (ltb (position_or_len p xs) (length xs)) refl h
    where
      go : (b : Bool) → ltb (position_or_len p xs) (length xs) ≡ b → cond b (Some (position_or_len p xs)) None ≡ Some i → (position_or_len p xs ≡ i) × (i < length xs)
      go true e h = let same : position_or_len p xs ≡ i = cc in let lt : position_or_len p xs < length xs = grind (arith, e) in (same, subst (λ n. n < length xs) same lt)
      go false e h = absurd (cc)

  pub position_none : position p xs ≡ None → length xs ≤ position_or_len p xs
  position_none h = go (ltb (position_or_len p xs) (length xs)) refl h
    where
      go : (b : Bool) → ltb (position_or_len p xs) (length xs) ≡ b → cond b (Some (position_or_len p xs)) None ≡ None → length xs ≤ position_or_len p xs
      go true e h = absurd (cc)
      go false e h = grind (arith, e)

pub some_of : (n : ℕ) → eqb n 0 ≡ false → 0 < n
some_of n h = grind arith

-- parts are never none
pub some_part : {X : Type 0} (p : X → Bool) (xs : List X) → 0 < length (slice_split p xs)
some_part p [] = omega arith
some_part p (x ∷ xs) = go (p x) (slice_split p xs)
  where
    go : (b : Bool) (parts : List (List _)) → 0 < length (cond b ([] ∷ parts) (onto_first x parts))
    go true parts = omega arith
    go false [] = omega arith
    go false (q ∷ parts) = omega arith

pub parts_more : (x : List ℕ) (parts : List (List ℕ)) → 0 < length parts → lines_of_parts (x ∷ parts) ≡ strip_carriage_return x ∷ lines_of_parts parts
parts_more x [] h = absurd (omega arith)
parts_more x (y ∷ more) h = refl

pub lines_some : (text : List ℕ) (i : ℕ) → position (λ b. b == 10) text ≡ Some i → lines text ≡ strip_carriage_return (take i text) ∷ lines (drop (i + 1) text)
lines_some text i h =
    let at = position_some (λ b. b == 10) text i h in
    let cut : slice_split (λ b. b == 10) text ≡ before_first (λ b. b == 10) text ∷ slice_split (λ b. b == 10) (after_first (λ b. b == 10) text) =
    slice_split_first (λ b. b == 10) text 0 (subst (λ n. n < length text) (sym at.0) at.1) in
    ap lines_of_parts cut ∙ (parts_more (before_first (λ b. b == 10) text) (slice_split (λ b. b == 10) (after_first (λ b. b == 10) text)) (some_part (λ b. b == 10) (after_first (λ b. b == 10) text))
    ∙ ap (λ n. strip_carriage_return (take n text) ∷ lines (drop (n + 1) text)) at.0)

pub lines_none : (text : List ℕ) → 0 < length text → position (λ b. b == 10) text ≡ None → lines text ≡ text ∷ []
lines_none text some none = ap lines_of_parts whole ∙ go text some
  where
    whole : slice_split (λ b. b == 10) text ≡ text ∷ []
    whole = slice_split_none (λ b. b == 10) text (λ k d k<len. fails_before_first (λ b. b == 10) text k d (let all = position_none (λ b. b == 10) text none in omega arith))

    go : (t : List ℕ) → 0 < length t → lines_of_parts (t ∷ []) ≡ t ∷ []
    go [] h = absurd (omega arith)
    go (x ∷ t) h = let some : eqb (suc (length t)) 0 ≡ false = grind arith in ap (λ b. cond b [] ((x ∷ t) ∷ [])) some

-- `&text[n..]` and `&text[..n]`, at the end of a run
pub rest_is : (n : ℕ) (s : List ℕ) → take (length s - n) (drop n s) ≡ drop n s
rest_is n s = take_all (length s - n) (drop n s) (omega (arith, length-drop n s))
