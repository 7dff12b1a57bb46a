-- The end of a scan: the join of all items, and the whole list.
use Rattle.std.proofs.Common.{◌≡◌, ℕ, suc, ◌+◌, List, [], ◌∷◌, ◌++◌, length, get_or, take, All, Some, slice_get, sym, ap, ◌∙◌, subst, arith, add-one}
use Rattle.std.proofs.lemmas.List.{take_all}
use Rattle.std.proofs.Math.Seq.{take-append_seam}
use Rattle.std.proofs.lemmas.List.FromFn.{length-map-range_with_len, get_or-map-range_with_len, map-range_with_len_more}
use Rattle.chunk_seats.specs.Chunks.{chunk_count}
use Rattle.word_monoid.specs.Monoid.{Ops, IsItem, IsMonoid}
use Rattle.word_monoid.specs.Folds.{fold_of, prefix_of, prefixes_from, prefixes}
use Rattle.word_monoid.specs.Laws.Folds.{all_at, prefix_item, prefix_next}
use Rattle.scan_lookback.specs.Cuts.{Scans}
use Rattle.scan_lookback.specs.Laws.Cutting.{count_is}
use Rattle.scan_lookback.proofs.Working.{StartsAt}

-- as many chunks as there are sums
pub count_named : {T I : Type 0} (ops : Ops I) (post : T → I → Type 0) (size : ℕ) (items : List T) (lifted sums : List I) → Scans ops post size items lifted sums → (count : ℕ) → count ≡ chunk_count size (length items) → count ≡ length sums
count_named ops post size items lifted sums scans count is = is ∙ (ap (chunk_count size) (sym scans.lifts.as_many) ∙ sym (count_is ops post size items lifted sums scans))

module _ {T I : Type 0} (ops : Ops I) (laws : IsMonoid ops) (post : T → I → Type 0) (size : ℕ) (items : List T) (lifted sums : List I) (scans : Scans ops post size items lifted sums) where
  pub length-out : (out : List I) → out ≡ prefixes_from ops lifted 0 (length lifted) → length out ≡ length items
  length-out out is = ap length is ∙ (length-map-range_with_len (prefix_of ops lifted) 0 (length lifted) ∙ scans.lifts.as_many)

  all_of : prefix_of ops lifted (length lifted) ≡ fold_of ops lifted
  all_of = ap (fold_of ops) (take_all (length lifted) lifted (omega arith))

  -- the join before the last item, and what is made of that item
  pub last_two : (k : ℕ) → suc k ≡ length items → (out : List I) → out ≡ prefixes_from ops lifted 0 (length lifted) → (x : I) → x ≡ get_or out k x → (item : T) (y : I) → slice_get items k ≡ Some item → post item y
      → IsItem ops x × IsItem ops y × (ops.join x y ≡ fold_of ops lifted)
  last_two k next out is x at item y there gives =
      let as_many = scans.lifts.as_many in
      let same : x ≡ prefix_of ops lifted k = at ∙ (ap (λ (l : List I). get_or l k x) is ∙ get_or-map-range_with_len (prefix_of ops lifted) 0 (length lifted) k k x (omega arith) (omega arith)) in
      let last : slice_get lifted k ≡ Some y = scans.lifts.each k item y there gives in
      let n : k + 1 ≡ length lifted = omega arith in (
        subst (IsItem ops) (sym same) (prefix_item ops laws lifted k scans.accepted),
        all_at (IsItem ops) lifted k y scans.accepted last,
        ap (λ (z : I). ops.join z y) same ∙ (sym (prefix_next ops lifted k y last) ∙ (ap (prefix_of ops lifted) n ∙ all_of)),
      )

  pub whole : (out all : List I) (last : I) → out ≡ prefixes_from ops lifted 0 (length lifted) → last ≡ fold_of ops lifted → all ≡ out ++ last ∷ [] → all ≡ prefixes ops lifted
  whole out all last is total added =
      added
      ∙ (ap (λ (l : List I). l ++ last ∷ []) is
      ∙ (ap (λ (x : I). prefixes_from ops lifted 0 (length lifted) ++ x ∷ []) (total ∙ sym all_of)
      ∙ (sym (map-range_with_len_more (prefix_of ops lifted) 0 (length lifted) (length lifted) (omega arith)) ∙ ap (prefixes_from ops lifted 0) (add-one (length lifted)))))

-- a list at the front of another
pub take_front : {X : Type 0} (n : ℕ) (xs ys : List X) → length xs ≡ n → take n (xs ++ ys) ≡ xs
take_front n xs ys is = ap (λ (m : ℕ). take m (xs ++ ys)) (sym is) ∙ take-append_seam xs ys

-- the starts, where the board names the monoid
pub starts_as : {M I : Type 0} (ops : M → Ops I) (sums : List I) (k m : M) → k ≡ m → (all : List (ℕ × I)) → All (StartsAt (ops k) sums) all → All (StartsAt (ops m) sums) all
starts_as {M} {I} ops sums k m e all = subst (λ (n : M). All (StartsAt (ops n) sums) all) e
