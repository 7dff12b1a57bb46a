-- Items that are cut into chunks, and what is made of them.
use Rattle.std.specs.Prelude.{◌≡◌, ℕ, ◌<◌, ◌≤◌, ◌^◌, All, List, length, map, fold, slice_get, Some, take}
use Rattle.std.specs.List.{range_with_len}
use Rattle.chunk_seats.specs.Chunks.{chunk_of, chunk_count}
use Rattle.word_monoid.specs.Monoid.{Ops, IsItem}
use Rattle.word_monoid.specs.Folds.{fold_of}
use Rattle.scan_lookback.specs.declared.scanned.Scanned.{Scanned}

-- each of `lifted` is what a call at the item of its place gives
pub record Lifts {T I : Type 0} (post : T → I → Type 0) (items : List T) (lifted : List I) : Type 0 where
  pub as_many : length lifted ≡ length items
  pub each : (i : ℕ) (x : T) (r : I) → slice_get items i ≡ Some x → post x r → slice_get lifted i ≡ Some r

-- what a call at an item gives is one of the monoid's items
abbrev pub GivesItems : {T I : Type 0} → (T → I → Type 0) → Ops I → List T → Type 0
GivesItems {T} {I} post ops items = (i : ℕ) (x : T) (r : I) → slice_get items i ≡ Some x → post x r → IsItem ops r

-- the sum of each chunk
abbrev pub sums_of : {I : Type 0} → Ops I → ℕ → List I → List I
sums_of ops size items = map (λ c. fold_of ops (chunk_of size items c)) (range_with_len 0 (chunk_count size (length items)))

-- the joins of a with the items before each, where more items follow on a
abbrev pub running : {I : Type 0} → Ops I → I → List I → List I
running ops a items = map (λ k. fold ops.join a (take k items)) (range_with_len 0 (length items))

-- a scan: `lifted` is what the calls give for the items, all of them items of the monoid, and `sums` are the sums of their chunks
pub record Scans {T I : Type 0} (ops : Ops I) (post : T → I → Type 0) (size : ℕ) (items : List T) (lifted sums : List I) : Type 0 where
  pub lifts : Lifts post items lifted
  pub accepted : All (IsItem ops) lifted
  pub cut : sums ≡ sums_of ops size lifted

-- what may be scanned, where `lifted` is what the items are in the monoid and `sums` are the sums of the chunks
pub record IsScan {T I M F : Type 0} (ops : M → Ops I) (pre : F → T → Type 0) (post : F → T → I → Type 0) (lifted sums : List I) (s : Scanned T M F) : Type 0 where
  pub callable : All (pre s.lift.now) s.items.now
  pub scans : Scans (ops s.monoid.now) (post s.lift.now) s.size s.items.now lifted sums
  pub sized : (0 < s.size) × (s.size ≤ 65536)
  pub short : length s.items.now < 2 ^ 62
