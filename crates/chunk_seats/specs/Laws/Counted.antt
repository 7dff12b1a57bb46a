-- How many chunks of a size this many items make: each begins before the end, and they have all items.
use Rattle.std.proofs.Common.{◌≡◌, ℕ, suc, ◌+◌, ◌-◌, ◌*◌, ◌%◌, ◌<◌, ◌≤◌, arith, suc-mul, mul-le-mul_right, div-add-mod'}
use mathlib.Core.Logic.{dite}
use native.Mathlib.Decide.{dec_le}
use Rattle.chunk_seats.specs.Chunks.{chunk_count}

pub chunk_inside : (n size c : ℕ) → 0 < size → c < chunk_count size n → c * size < n
chunk_inside n size c pos h =
    let q : ℕ = chunk_count size n in
    let d : q * size + (n + (size - 1)) % size ≡ n + (size - 1) = div-add-mod' (n + (size - 1)) size in
    let le : suc c ≤ q = omega arith in
    let m : suc c * size ≤ q * size = mul-le-mul_right size le in
    let s : suc c * size ≡ c * size + size = suc-mul c size in
    let x : ℕ = q * size in let y : ℕ = suc c * size in let z : ℕ = c * size in let r : ℕ = (n + (size - 1)) % size in
    let d' : x + r ≡ n + (size - 1) = d in let m' : y ≤ x = m in let s' : y ≡ z + size = s in
    omega arith

pub chunks_all : (n size : ℕ) → 0 < size → n ≤ chunk_count size n * size
chunks_all n size pos =
    let q : ℕ = chunk_count size n in
    let d : q * size + (n + (size - 1)) % size ≡ n + (size - 1) = div-add-mod' (n + (size - 1)) size in
    let x : ℕ = q * size in let r : ℕ = (n + (size - 1)) % size in
    let d' : x + r ≡ n + (size - 1) = d in
    let less : r < size = omega arith in
    omega arith

-- a place that begins a chunk lies in one of the chunks
pub chunk_near : (n size c : ℕ) → 0 < size → c * size < n → c < chunk_count size n
chunk_near n size c pos h =
    let q : ℕ = chunk_count size n in
    let all : n ≤ q * size = chunks_all n size pos in
    dite (dec_le q c)
    (λ le. let m : q * size ≤ c * size = mul-le-mul_right size le in let x : ℕ = q * size in let y : ℕ = c * size in let a : n ≤ x = all in let b : x ≤ y = m in let d : y < n = h in absurd (omega arith))
    (λ over. omega arith)
