-- The instructions that are kept of regions that no store changes: each stands for a word that is fetched.
use Rattle.std.proofs.Common.{◌≡◌, ℕ, zero, suc, ◌+◌, ◌-◌, ◌*◌, ◌/◌, ◌%◌, ◌<◌, ◌≤◌, List, [], ◌∷◌, ◌++◌, length, take, drop, get_or, Bool, true, false, cond, Option, Some, None, subst, sym, ap, ◌∙◌, arith, below_more, refl}
use Rattle.std.proofs.lemmas.Bool.Decides.{nat_tests}
use Rattle.std.proofs.lemmas.List.{get_or_append_left, get_or_default}
use Rattle.std.proofs.Math.Seq.{get_or-append_seam}
use Rattle.std.specs.Prelude.{◌&&◌, nat_le, MatchOption, option_map}
use Rattle.rv_isa.specs.declared.instructions.Instr.{Instr}
use Rattle.rv_isa.specs.Memory.{Region, has, number_of, fetched}
use Rattle.rv_isa.specs.Encoding.{decoded, InRange}
use Rattle.rv32_emul.specs.Stretches.{stretches, AreApart}
use Rattle.rv32_emul.specs.Fixed.{fixed}
use Rattle.rv32_emul.specs.Kept.{Kept, nothing, nowhere, IsDecoded, IsFixed, IsKeptOf, AreKeptOf, StandsFor, IsCode, AreCode}
use Rattle.rv32_emul.proofs.Apart.{only}

-- the word of a region that may be run and not written
fixed-some : (xs : List Region) (i a : ℕ) (r : Region) → i < length xs → r ≡ get_or xs i r → (has r a 4 && r.executable) ≡ true → r.writable ≡ false → ((d : Region) (k : ℕ) → k < i → has (get_or xs k d) a 4 ≡ false)
    → fixed xs a ≡ Some (number_of (take 4 (drop (a - r.start) r.bytes)))
fixed-some [] i a r lt is here stays before = absurd (omega arith)
fixed-some (x ∷ xs) zero a r lt is here stays before = let e : x ≡ r = sym is in rw (e, here, stays) refl
fixed-some (x ∷ xs) (suc i) a r lt is here stays before = let t : has x a 4 ≡ false = before x 0 (omega arith) in rw t (fixed-some xs i a r (omega arith) is here stays (λ d k h. before d (suc k) (omega arith)))

fixed-case : (b c : Bool) (x w : ℕ) (f g : Option ℕ) → cond b (cond c None (Some x)) f ≡ Some w → (f ≡ Some w → g ≡ Some w) → cond b (Some x) g ≡ Some w
fixed-case true true x w f g h k = absurd (cc)
fixed-case true false x w f g h k = h
fixed-case false c x w f g h k = k h

-- a fixed word is fetched
fixed-fetched : (xs : List Region) (a w : ℕ) → fixed xs a ≡ Some w → fetched xs a ≡ Some w
fixed-fetched [] a w h = absurd (cc)
fixed-fetched (x ∷ xs) a w h = fixed-case (has x a 4 && x.executable) x.writable (number_of (take 4 (drop (a - x.start) x.bytes))) w (fixed xs a) (fetched xs a) h (fixed-fetched xs a w)

stands : (o : Option Instr) (w : ℕ) → o ≡ decoded w → MatchOption o (Unit {0}) InRange → StandsFor o (Some w)
stands None w h range = tt
stands (Some i) w h range = (ap Some (sym h), range)

has_word : (s l a k : ℕ) → a ≡ s + 4 * k → 4 * k + 4 ≤ l → (nat_le s a && nat_le (a + 4) (s + l)) ≡ true
has_word s l a k is room = grind (arith, nat_tests)

-- a kept instruction of one region stands for its word in all of memory
kept-code : (kept : Kept) (regions : List Region) (j : ℕ) → AreApart (stretches regions) → j < length regions → IsKeptOf kept (get_or regions j nowhere) → IsCode kept (fixed regions)
kept-code kept regions j apart inside of_it = λ k lt.
    let r : Region = get_or regions j nowhere in
    let stays : IsFixed r = of_it.2 (omega arith) in
    let a : ℕ = kept.start + 4 * k in
    let place : a ≡ r.start + 4 * k = ap (λ (s : ℕ). s + 4 * k) of_it.0 in
    let inside_r : has r a 4 ≡ true = has_word r.start (length r.bytes) a k place (of_it.1 k lt).0 in
    let runs : (has r a 4 && r.executable) ≡ true = rw (inside_r, stays.0) refl in
    let word : fixed regions a ≡ Some (number_of (take 4 (drop (a - r.start) r.bytes))) =
    fixed-some regions j a r inside (get_or_default regions j nowhere r inside) runs stays.1 (λ d i before. only regions j i a 4 d nowhere apart before inside (omega arith) inside_r) in
    let offset : a - r.start ≡ 4 * k = omega (arith, place) in
    let here : IsDecoded (get_or kept.instructions k None) r.bytes (a - r.start) = rw offset (of_it.1 k lt).1 in
    (rw of_it.0 stays.2, rw word (stands (get_or kept.instructions k None) (number_of (take 4 (drop (a - r.start) r.bytes))) here.0 here.1))

pub all-code : (code : List Kept) (regions : List Region) → AreApart (stretches regions) → AreKeptOf code regions → AreCode code (fixed regions)
all-code code regions apart all = λ k lt. kept-code (get_or code k nothing) regions k apart (omega (arith, lt, all.0)) (all.1 k lt)

-- the kept instructions of one region more
pub region-more : (code new : List Kept) (x : Kept) (regions : List Region) (n : ℕ) (r : Region) → new ≡ code ++ x ∷ [] → length code ≡ n → n < length regions → r ≡ get_or regions n r → IsKeptOf x r
    → ((k : ℕ) → k < n → IsKeptOf (get_or code k nothing) (get_or regions k nowhere)) → (k : ℕ) → k < n + 1 → IsKeptOf (get_or new k nothing) (get_or regions k nowhere)
region-more code new x regions n r pushed long inside is here all = below_more (λ k. IsKeptOf (get_or new k nothing) (get_or regions k nowhere)) n
    (λ k lt. rw (pushed, get_or_append_left code (x ∷ []) nothing k (omega (arith, lt, long))) (all k lt))
    (rw (pushed, sym long, get_or-append_seam code x [] nothing, long, get_or_default regions n nowhere r inside, sym is) here)

-- the pc of an instruction
place-of : (pc start : ℕ) → pc % 4 ≡ 0 → start % 4 ≡ 0 → start ≤ pc → start + 4 * ((pc - start) / 4) ≡ pc
place-of pc start p s h = omega arith

mapped : (regions : List Region) (pc : ℕ) (f : Option ℕ) (i : Instr) → fixed regions pc ≡ f → option_map decoded f ≡ Some (Some i) → option_map decoded (fetched regions pc) ≡ Some (Some i)
mapped regions pc None i is h = absurd (cc)
mapped regions pc (Some w) i is h = rw (fixed-fetched regions pc w is) h

-- the instruction at a pc
pub code-at : (start : ℕ) (instructions : List (Option Instr)) (regions : List Region) (pc : ℕ) (i : Instr) → IsCode (record { start = start; instructions = instructions }) (fixed regions) → pc % 4 ≡ 0 → start ≤ pc → (pc - start) / 4 < length instructions
    → get_or instructions ((pc - start) / 4) None ≡ Some i → (option_map decoded (fetched regions pc) ≡ Some (Some i)) × InRange i
code-at start instructions regions pc i code even late lt is =
    let k : ℕ = (pc - start) / 4 in
    let here = code k lt in
    let place : start + 4 * k ≡ pc = place-of pc start even here.0 late in
    let stood : StandsFor (Some i) (fixed regions pc) = subst (λ (q : Option Instr). StandsFor q (fixed regions pc)) is (subst (λ (a : ℕ). StandsFor (get_or instructions k None) (fixed regions a)) place here.1) in
    (mapped regions pc (fixed regions pc) i refl stood.0, stood.1)

pub code-index : (code : List Kept) (i : ℕ) (kept : Kept) (words : ℕ → Option ℕ) → AreCode code words → i < length code → kept ≡ get_or code i kept → IsCode kept words
code-index code i kept words all lt is = subst (λ (q : Kept). IsCode q words) (get_or_default code i nothing kept lt ∙ sym is) (all i lt)
