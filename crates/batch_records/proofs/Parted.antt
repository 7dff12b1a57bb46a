-- Bytes are whole records, and what is left behind them, in one way.
use Rattle.std.proofs.Common.{◌≡◌, ◌⊎◌, ℕ, ◌/◌, ◌%◌, ◌^◌, ◌<◌, List, [], ◌∷◌, ◌++◌, length, inl, inr, refl, sym, ap, ◌∙◌, subst, arith, length-append, append_assoc}
use Rattle.std.proofs.lemmas.List.{append-nil}
use Rattle.byteorder.specs.Endian.{little_bytes, little_number}
use Rattle.batch_records.specs.declared.fault.BatchFault.{BatchFault}
use Rattle.batch_records.specs.declared.fault.BatchFault.TheVariants.{Record}
use Rattle.batch_records.specs.Batch.{record_bytes, AreShort, Records, IsBroken, no_length, cut_off, IsBatch, IsBatchFault, too_large, not_whole, too_many}

abbrev head_or : ℕ → List ℕ → ℕ
head_or d [] = d
head_or d (x ∷ xs) = x

abbrev tail : List ℕ → List ℕ
tail [] = []
tail (x ∷ xs) = xs

same_number : (m n : ℕ) (xs ys : List ℕ) → m < 2 ^ 32 → n < 2 ^ 32 → little_bytes 4 m ++ xs ≡ little_bytes 4 n ++ ys → (m ≡ n) × (xs ≡ ys)
same_number m n xs ys hm hn e =
    let a : m % 256 ≡ n % 256 = ap (head_or 0) e in
    let b : m / 256 % 256 ≡ n / 256 % 256 = ap (λ l. head_or 0 (tail l)) e in
    let c : m / 65536 % 256 ≡ n / 65536 % 256 = ap (λ l. head_or 0 (tail (tail l))) e in
    let d : m / 16777216 % 256 ≡ n / 16777216 % 256 = ap (λ l. head_or 0 (tail (tail (tail l)))) e in
    (omega arith, ap (λ l. tail (tail (tail (tail l)))) e)

cut : (xs ys us vs : List ℕ) → length xs ≡ length ys → xs ++ us ≡ ys ++ vs → (xs ≡ ys) × (us ≡ vs)
cut [] [] us vs l e = (refl, e)
cut [] (y ∷ ys) us vs l e = absurd (omega arith)
cut (x ∷ xs) [] us vs l e = absurd (omega arith)
cut (x ∷ xs) (y ∷ ys) us vs l e =
    let r = cut xs ys us vs (omega arith) (ap tail e) in
    let p : x ≡ y = ap (head_or 0) e in
    ((λ i. p i ∷ r.0 i), r.1)

number_again : (n : ℕ) (rest : List ℕ) → n < 2 ^ 32 → little_number 4 (little_bytes 4 n ++ rest) ≡ n
number_again n rest h = omega arith

-- what may be left where no whole record follows
abbrev IsLeft : List ℕ → Type 0
IsLeft rest = IsBroken rest ⊎ (rest ≡ [])

record_is_whole : (source rest : List ℕ) → length source < 2 ^ 32 → IsLeft (little_bytes 4 (length source) ++ (source ++ rest)) → ⊥
record_is_whole source rest h (inl (no_length some few)) = omega arith
record_is_whole source rest h (inl (cut_off long short)) =
    omega (arith, number_again (length source) (source ++ rest) h, length-append source rest)
record_is_whole source rest h (inr e) = let none : length (little_bytes 4 (length source) ++ (source ++ rest)) ≡ 0 = ap length e in omega arith

-- a record and the rest, with more behind
behind_record : (y : List ℕ) (ys : List (List ℕ)) (u : List ℕ) → record_bytes (y ∷ ys) ++ u ≡ little_bytes 4 (length y) ++ (y ++ (record_bytes ys ++ u))
behind_record y ys u = ap (λ l. little_bytes 4 (length y) ++ l) (append_assoc y (record_bytes ys) u)

pub parted : (s t : List (List ℕ)) (r u : List ℕ) → AreShort s → AreShort t → IsLeft r → IsLeft u → record_bytes s ++ r ≡ record_bytes t ++ u → (s ≡ t) × (r ≡ u)
parted [] [] r u h k left_r left_u e = (refl, e)
parted [] (y ∷ ys) r u h k left_r left_u e = absurd (record_is_whole y (record_bytes ys ++ u) k.0 (subst IsLeft (e ∙ behind_record y ys u) left_r))
parted (x ∷ xs) [] r u h k left_r left_u e = absurd (record_is_whole x (record_bytes xs ++ r) h.0 (subst IsLeft (sym e ∙ behind_record x xs r) left_u))
parted (x ∷ xs) (y ∷ ys) r u h k left_r left_u e =
    let f = sym (behind_record x xs r) ∙ e ∙ behind_record y ys u in
    let n = same_number (length x) (length y) (x ++ (record_bytes xs ++ r)) (y ++ (record_bytes ys ++ u)) h.0 k.0 f in
    let c = cut x y (record_bytes xs ++ r) (record_bytes ys ++ u) n.0 n.1 in
    let rest = parted xs ys r u h.1 k.1 left_r left_u c.1 in
    ((λ i. c.0 i ∷ rest.0 i), rest.1)

whole : {bytes : List ℕ} {sources : List (List ℕ)} → Records bytes sources → bytes ≡ record_bytes sources ++ []
whole a = a.spelled ∙ sym (append-nil _)

pub same_records : (bytes : List ℕ) (s t : List (List ℕ)) → Records bytes s → Records bytes t → s ≡ t
same_records bytes s t a b = (parted s t [] [] a.short b.short (inr refl) (inr refl) (sym (whole a) ∙ whole b)).0

front_and_rest : {bytes front : List ℕ} (rest : List ℕ) {sources : List (List ℕ)} → bytes ≡ front ++ rest → Records front sources → bytes ≡ record_bytes sources ++ rest
front_and_rest rest is a = is ∙ ap (λ l. l ++ rest) a.spelled

empty_is_whole : {rest : List ℕ} → rest ≡ [] → IsBroken rest → ⊥
empty_is_whole e (no_length some few) = let none = ap length e in omega arith
empty_is_whole e (cut_off long short) = let none = ap length e in omega arith

pub broken_or_whole : (bytes front rest : List ℕ) (s t : List (List ℕ)) → bytes ≡ front ++ rest → Records front s → IsBroken rest → Records bytes t → ⊥
broken_or_whole bytes front rest s t is a broken b =
    let one = parted s t rest [] a.short b.short (inl broken) (inr refl) (sym (front_and_rest rest is a) ∙ whole b) in
    empty_is_whole one.1 broken

pub same_faults : (bytes : List ℕ) (f g : BatchFault) → IsBatchFault bytes f → IsBatchFault bytes g → f ≡ g
same_faults bytes f g (too_large a) (too_large b) = refl
same_faults bytes f g (too_large a) (not_whole b is r broken) = absurd (omega arith)
same_faults bytes f g (too_large a) (too_many b r many) = absurd (omega arith)
same_faults bytes f g (not_whole a is r broken) (too_large b) = absurd (omega arith)
same_faults bytes f g (not_whole {rest = u} {sources = s} a is r broken) (not_whole {rest = v} {sources = t} b is' r' broken') =
    let one = parted s t u v r.short r'.short (inl broken) (inl broken') (sym (front_and_rest u is r) ∙ front_and_rest v is' r') in
    ap (λ (l : List (List ℕ)). Record (length l)) one.0
same_faults bytes f g (not_whole a is r broken) (too_many b r' many) = absurd (broken_or_whole _ _ _ _ _ is r broken r')
same_faults bytes f g (too_many a r many) (too_large b) = absurd (omega arith)
same_faults bytes f g (too_many a r many) (not_whole b is r' broken) = absurd (broken_or_whole _ _ _ _ _ is r' broken r)
same_faults bytes f g (too_many a r many) (too_many b r' many') = refl

pub fault_or_batch : (bytes : List ℕ) (f : BatchFault) (sources : List (List ℕ)) → IsBatchFault bytes f → IsBatch bytes sources → ⊥
fault_or_batch bytes f sources (too_large large) b = let small = b.small in omega arith
fault_or_batch bytes f sources (not_whole small is r broken) b = broken_or_whole _ _ _ _ _ is r broken b.records
fault_or_batch bytes f sources (too_many {sources = s} small r many) b =
    let same : length s ≡ length sources = ap length (same_records bytes s sources r b.records) in
    let few = b.few in omega arith
