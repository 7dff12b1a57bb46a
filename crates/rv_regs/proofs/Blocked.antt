-- Stretches of rows by blocks.
use Rattle.std.proofs.Common.{◌≡◌, ℕ, zero, suc, ◌+◌, ◌*◌, ◌/◌, ◌<◌, ◌≤◌, All, true, List, [], ◌∷◌, length, map, get_or, Some, slice_get, refl, sym, ap, ◌∙◌, subst, arith}
use Rattle.std.specs.List.{range_with_len}
use Rattle.std.proofs.lemmas.Option.{slice_get-get_or}
use Rattle.std.proofs.lemmas.List.FromFn.{length-map-range_with_len, get_or-map-range_with_len, length-range_with_len}
use Rattle.word_monoid.specs.Monoid.{IsItem}
use Rattle.word_monoid.specs.Folds.{prefix_of, prefixes}
use Rattle.word_monoid.specs.Laws.Folds.{get_below, prefix_next, prefix_item}
use Rattle.par_passes.specs.Passes.{Gives}
use Rattle.source_meaning.specs.declared.kinds.Kind.{Kind}
use Rattle.depth_rules.specs.declared.segments.Segment.{Segment}
use Rattle.depth_rules.specs.Segments.{joined, segments, segment_at, segments_by, stretches_by, no_slots}
use Rattle.depth_rules.specs.Lawful.{segments_are_monoid}
use Rattle.rv_regs.specs.Blocks.{AreStarts, IsBlock, Reaches, stretch_before}
use Rattle.rv_regs.proofs.Steps.{segments_accepted}

pub same_items : {X : Type 0} (xs : List X) → map (λ x. x) xs ≡ xs
same_items [] = refl
same_items (x ∷ xs) = ap (λ l. x ∷ l) (same_items xs)

range_get : (a n k : ℕ) → k < n → slice_get (range_with_len a n) k ≡ Some (a + k)
range_get a zero k h = absurd (omega arith)
range_get a (suc n) zero h = ap Some (let e : a ≡ a + 0 = omega arith in e)
range_get a (suc n) (suc k) h = range_get (a + 1) n k (omega arith) ∙ ap Some (let e : a + 1 + k ≡ a + suc k = omega arith in e)

-- what was given for each number
pub given_at : {U : Type 0} (post : ℕ → U → Type 0) (n : ℕ) (out : List U) → Gives post (range_with_len 0 n) out → (k : ℕ) (y : U) → slice_get out k ≡ Some y → post k y
given_at post n out gives k y h =
    let l = get_below out k y h in
    let m = gives.as_many ∙ length-range_with_len 0 n in
    gives.each k k y (range_get 0 n k (omega arith) ∙ ap Some (let e : 0 + k ≡ k = omega arith in e)) h

module _ (kinds : List Kind) (depths : List ℕ) where
  many_rows : length (segments_by kinds depths) ≡ length kinds
  many_rows = length-map-range_with_len (segment_at kinds depths) 0 (length kinds)

  row_there : (k : ℕ) → k < length kinds → slice_get (segments_by kinds depths) k ≡ Some (segment_at kinds depths k)
  row_there k lt =
      let many = many_rows in
      slice_get-get_or (segments_by kinds depths) k no_slots (omega arith)
      ∙ ap Some (get_or-map-range_with_len (segment_at kinds depths) 0 (length kinds) k k no_slots (omega arith) (omega arith))

  before_next : (k : ℕ) → k < length kinds → stretch_before kinds depths (k + 1) ≡ joined (stretch_before kinds depths k) (segment_at kinds depths k)
  before_next k lt = prefix_next segments (segments_by kinds depths) k (segment_at kinds depths k) (row_there k lt)

  pub before_item : (k : ℕ) → IsItem segments (stretch_before kinds depths k)
  before_item k = prefix_item segments segments_are_monoid (segments_by kinds depths) k (segments_accepted kinds depths)

  pub reaches_next : (from k : ℕ) (before all row next : Segment) → k < length kinds → IsItem segments all → IsItem segments row → Reaches kinds depths from k before all → row ≡ segment_at kinds depths k → next ≡ joined all row
      → IsItem segments next × Reaches kinds depths from (k + 1) before next
  reaches_next from k before all row next lt p q so_far is joins = (
    subst (IsItem segments) (sym joins) (segments_are_monoid.join_is_item all row p q),
    λ a r e.
        ap (joined a) joins
        ∙ (sym (segments_are_monoid.associative a all row r p q)
        ∙ (ap (λ (x : Segment). joined x row) (so_far a r e)
        ∙ (ap (joined (stretch_before kinds depths k)) is
        ∙ sym (before_next k lt)))),
  )

  -- behind the rows before `from`
  pub whole : (from to : ℕ) (unit x : Segment) → unit ≡ segments.unit → Reaches kinds depths from to unit x → joined (stretch_before kinds depths from) x ≡ stretch_before kinds depths to
  whole from to unit x is reaches =
      let here : IsItem segments (stretch_before kinds depths from) = before_item from in
      reaches (stretch_before kinds depths from) here (ap (joined (stretch_before kinds depths from)) is ∙ segments_are_monoid.unit_right (stretch_before kinds depths from) here)

  -- from the first row on
  pub part : (from to : ℕ) (start x : Segment) → start ≡ stretch_before kinds depths from → IsItem segments x → Reaches kinds depths from to start x → x ≡ stretch_before kinds depths to
  part from to start x is item reaches =
      sym (segments_are_monoid.unit_left x item)
      ∙ reaches segments.unit segments_are_monoid.unit_is_item (ap (joined segments.unit) is ∙ segments_are_monoid.unit_left (stretch_before kinds depths from) (before_item from))

  module _ (bs : List Segment) (many : length bs ≡ length kinds / 32) (each : (b : ℕ) (x : Segment) → slice_get bs b ≡ Some x → IsBlock kinds depths b x) where
    pub blocks_accepted : All (λ x. segments.accepts x ≡ true) bs
    blocks_accepted k d lt = (each k (get_or bs k d) (slice_get-get_or bs k d lt)).0

    blocks_before : (b : ℕ) → b ≤ length bs → prefix_of segments bs b ≡ stretch_before kinds depths (b * 32)
    blocks_before zero le = refl
    blocks_before (suc b) le =
        let x = get_or bs b no_slots in
        let at : slice_get bs b ≡ Some x = slice_get-get_or bs b no_slots (omega arith) in
        ap (prefix_of segments bs) (let e : suc b ≡ b + 1 = omega arith in e)
        ∙ (prefix_next segments bs b x at
        ∙ (ap (λ (s : Segment). joined s x) (blocks_before b (omega arith))
        ∙ ((each b x at).1
        ∙ ap (stretch_before kinds depths) (let e : b * 32 + 32 ≡ suc b * 32 = omega arith in e))))

    pub starts_are : (starts : List Segment) → starts ≡ prefixes segments (map (λ x. x) bs) → AreStarts kinds depths starts
    starts_are starts is b le =
        ap (λ (l : List Segment). get_or l b no_slots) (is ∙ ap (prefixes segments) (same_items bs))
        ∙ (get_or-map-range_with_len (prefix_of segments bs) 0 (suc (length bs)) b b no_slots (omega arith) (omega arith)
        ∙ blocks_before b (omega arith))

  pub stretch_is : (k : ℕ) → k ≤ length kinds → get_or (stretches_by kinds depths) k no_slots ≡ stretch_before kinds depths k
  stretch_is k le =
      let many = many_rows in
      ap (λ (l : List Segment). get_or (prefixes segments l) k no_slots) (same_items (segments_by kinds depths))
      ∙ get_or-map-range_with_len (prefix_of segments (segments_by kinds depths)) 0 (suc (length (segments_by kinds depths))) k k no_slots (omega arith) (omega arith)
