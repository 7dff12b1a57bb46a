-- What one worker does alone: chunk after chunk, the joins before its items are put behind those of the chunks before.
use Rattle.std.proofs.Common.{◌≡◌, ℕ, ◌+◌, ◌-◌, ◌*◌, ◌<◌, ◌≤◌, min, List, [], ◌∷◌, ◌++◌, length, fold, refl, subst, sym, ap, ◌∙◌, arith, add-one, suc-mul}
use Rattle.std.proofs.lemmas.List.{take_all}
use Rattle.std.proofs.lemmas.List.FromFn.{map-range_with_len_more}
use Rattle.chunk_seats.specs.Chunks.{chunk_of, chunk_count}
use Rattle.word_monoid.specs.Monoid.{Ops}
use Rattle.word_monoid.specs.Folds.{fold_of, prefix_of, prefixes, prefixes_from}
use Rattle.word_monoid.specs.Laws.Folds.{range-append}
use Rattle.scan_lookback.specs.Cuts.{running}
use Rattle.chunk_seats.specs.Laws.Counted.{chunks_all}
use Rattle.scan_lookback.specs.Laws.Cutting.{fold_on, length-chunk, runs_from}

pub next_chunk : (c size : ℕ) → c * size + size ≡ (c + 1) * size
next_chunk c size = sym (suc-mul c size) ∙ ap (λ (k : ℕ). k * size) (sym (add-one c))

module _ {I : Type 0} (ops : Ops I) (size : ℕ) (items : List I) where
  -- the joins before the items of the first c chunks
  abbrev pub before_chunk : ℕ → List I
  before_chunk c = prefixes_from ops items 0 (min (c * size) (length items))

  pub before_none : [] ≡ before_chunk 0
  before_none = let z : 0 ≡ min (0 * size) (length items) = omega arith in ap (prefixes_from ops items 0) z

  pub joined_none : ops.unit ≡ prefix_of ops items (0 * size)
  joined_none = let z : 0 ≡ 0 * size = omega arith in ap (prefix_of ops items) z

  pub before_next : (c : ℕ) (sum : I) (list more : List I) → c * size < length items → list ≡ before_chunk c → sum ≡ prefix_of ops items (c * size) → more ≡ list ++ running ops sum (chunk_of size items c) → more ≡ before_chunk (c + 1)
  before_next c sum list more inside so_far is added =
      let part : ℕ = length (chunk_of size items c) in
      let front : min (c * size) (length items) ≡ c * size = omega arith in
      let behind : running ops sum (chunk_of size items c) ≡ prefixes_from ops items (c * size) part = runs_from ops items (c * size) size sum is (running ops sum (chunk_of size items c)) refl in
      let x : ℕ = c * size in let y : ℕ = (c + 1) * size in
      let step : x + size ≡ y = next_chunk c size in
      let wide : part ≡ min size (length items - x) = length-chunk size items c in
      let end : x + part ≡ min y (length items) = omega arith in
      let z : x ≡ 0 + x = omega arith in
      added ∙ (ap (λ (l : List I). l ++ running ops sum (chunk_of size items c)) (so_far ∙ ap (prefixes_from ops items 0) front)
      ∙ (ap (λ (l : List I). prefixes_from ops items 0 x ++ l) behind
      ∙ (ap (λ (k : ℕ). prefixes_from ops items 0 x ++ prefixes_from ops items k part) z
      ∙ (range-append (prefix_of ops items) 0 x part ∙ ap (prefixes_from ops items 0) end))))

  pub join_next : (c : ℕ) (sum joined : I) → sum ≡ prefix_of ops items (c * size) → joined ≡ fold ops.join sum (chunk_of size items c) → joined ≡ prefix_of ops items ((c + 1) * size)
  join_next c sum joined is more = more ∙ (ap (λ (x : I). fold ops.join x (chunk_of size items c)) is ∙ (fold_on ops items (c * size) size ∙ ap (prefix_of ops items) (next_chunk c size)))

  pub before_all : (count : ℕ) (sum : I) (list all : List I) → 0 < size → count ≡ chunk_count size (length items) → list ≡ before_chunk count → sum ≡ prefix_of ops items (count * size) → all ≡ list ++ sum ∷ [] → all ≡ prefixes ops items
  before_all count sum list all pos counted so_far is added =
      let n : ℕ = length items in
      let x : ℕ = count * size in
      let whole : n ≤ x = subst (λ (k : ℕ). n ≤ k * size) (sym counted) (chunks_all n size pos) in
      let front : min x n ≡ n = omega arith in
      let end : sum ≡ prefix_of ops items n = is ∙ ap (fold_of ops) (take_all x items whole ∙ sym (take_all n items (omega arith))) in
      added ∙ (ap (λ (l : List I). l ++ sum ∷ []) (so_far ∙ ap (prefixes_from ops items 0) front)
      ∙ (ap (λ (y : I). prefixes_from ops items 0 n ++ y ∷ []) end
      ∙ (sym (map-range_with_len_more (prefix_of ops items) 0 n n (omega arith)) ∙ ap (prefixes_from ops items 0) (add-one n))))
