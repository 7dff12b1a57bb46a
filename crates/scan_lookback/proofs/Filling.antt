-- A list that is filled piece by piece.
use Rattle.std.proofs.Common.{◌≡◌, ℕ, ◌+◌, ◌*◌, ◌<◌, ◌≤◌, List, [], ◌∷◌, length, get_or, map, refl, sym, ap, ◌∙◌, subst, arith}
use Rattle.std.specs.List.{range_with_len}
use Rattle.std.proofs.lemmas.List.{ext_get_or}
use Rattle.std.proofs.lemmas.List.FromFn.{length-map-range_with_len, get_or-map-range_with_len}
use Rattle.word_monoid.specs.Monoid.{Ops, IsItem, IsMonoid}
use Rattle.word_monoid.specs.Folds.{prefix_of, prefixes_from}
use Rattle.word_monoid.specs.Laws.Folds.{prefix_item}
use Rattle.scan_lookback.specs.Cuts.{Scans}
use Rattle.scan_lookback.specs.Laws.Cutting.{piece_near, piece_starts}

-- a list whose values are those of a function
listed : {X : Type 0} (f : ℕ → X) (xs : List X) → ((i : ℕ) (d : X) → i < length xs → get_or xs i d ≡ f i) → xs ≡ map f (range_with_len 0 (length xs))
listed f [] at = refl
listed f (y ∷ ys) at = ext_get_or y (y ∷ ys) (map f (range_with_len 0 (length (y ∷ ys)))) (sym (length-map-range_with_len f 0 (length (y ∷ ys))))
    (λ i h. at i y h ∙ sym (get_or-map-range_with_len f 0 (length (y ∷ ys)) i i y h (omega arith)))

pub all_filled : {X : Type 0} (f : ℕ → X) (n : ℕ) (xs : List X) → length xs ≡ n → ((i : ℕ) (d : X) → i < n → get_or xs i d ≡ f i) → xs ≡ map f (range_with_len 0 n)
all_filled f n xs is at = listed f xs (λ i d h. at i d (omega arith)) ∙ ap (λ (m : ℕ). map f (range_with_len 0 m)) is

-- a value that stands in a piece
pub in_piece : {X : Type 0} (f : ℕ → X) (from n k i : ℕ) (piece : List X) (d x : X) → piece ≡ map f (range_with_len from n) → k < n → from + k ≡ i → get_or piece k d ≡ x → x ≡ f i
in_piece {X} f from n k i piece d x is less at there = sym there ∙ (ap (λ (l : List X). get_or l k d) is ∙ get_or-map-range_with_len f from n k i d less at)

-- the join before the items of a piece that begins where the chunk c does
module _ {T I : Type 0} (ops : Ops I) (post : T → I → Type 0) (size : ℕ) (items : List T) (lifted sums : List I) (scans : Scans ops post size items lifted sums) (laws : IsMonoid ops) (pos : 0 < size)
    (c a n : ℕ) (begins : c * size ≡ a) (some : 0 < n) (inside : a + n ≤ length items) (starts : List I) (all : starts ≡ prefixes_from ops sums 0 (length sums)) where
  near : c < length sums
  near = piece_near ops post size items lifted sums scans laws pos c a n begins inside some

  pub start_near : c < length starts
  start_near = omega (arith, near, ap length all, length-map-range_with_len (prefix_of ops sums) 0 (length sums))

  pub start_is : (start : I) → start ≡ get_or starts c start → start ≡ prefix_of ops sums c
  start_is start is = is ∙ (ap (λ (l : List I). get_or l c start) all ∙ get_or-map-range_with_len (prefix_of ops sums) 0 (length sums) c c start near (omega arith))

  pub start_item : (start : I) → start ≡ get_or starts c start → IsItem ops start
  start_item start is =
      subst (IsItem ops) (sym (start_is start is ∙ piece_starts ops post size items lifted sums scans laws pos c a n begins inside some)) (prefix_item ops laws lifted a scans.accepted)
