-- What a read from memory gives.
use Rattle.std.proofs.Common.{◌≡◌, ℕ, ◌+◌, ◌<◌, ◌≤◌, arith, min, List, [], ◌++◌, length, take, drop, sym, ap, ◌∙◌, length-append, length-take-le, length-drop}
use Rattle.std.proofs.lemmas.List.{take-append-drop, drop-drop, nil_from_length}
use Rattle.std.proofs.Math.Seq.{take-append_seam, drop-nil}

pub read_is : (bytes left copied buf : List ℕ) (start count most step : ℕ) → left ≡ drop start bytes → copied ≡ take count left → most ≡ min (length buf) step → count ≡ min most (length left) → 1 ≤ step
    → (left ≡ take count (copied ++ drop count buf) ++ drop (start + count) bytes) × (count ≡ 0 → 0 < length (copied ++ drop count buf) → drop (start + count) bytes ≡ [])
read_is bytes left copied buf start count most step l c m n s =
    let fits : count ≤ length left = omega arith in
    let long : length copied ≡ count = ap length c ∙ length-take-le count left fits in
    let front : take count (copied ++ drop count buf) ≡ copied = ap (λ k. take k (copied ++ drop count buf)) (sym long) ∙ take-append_seam copied (drop count buf) in
    let rest : drop (start + count) bytes ≡ drop count left = sym (drop-drop count start bytes) ∙ ap (drop count) (sym l) in (
      sym (take-append-drop count left) ∙ (λ i. (sym c ∙ sym front) i ++ sym rest i),
      λ zero_is some.
          let all : length (copied ++ drop count buf) ≡ length copied + length (drop count buf) = length-append copied (drop count buf) in
          let behind = length-drop count buf in
          let empty : length left ≡ 0 = omega arith in
          rest ∙ ap (drop count) (nil_from_length left empty) ∙ drop-nil count,
    )
