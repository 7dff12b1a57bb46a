-- What is read of a batch, up to a place.
use Rattle.std.proofs.Common.{◌≡◌, ℕ, zero, suc, ◌+◌, ◌-◌, ◌*◌, ◌/◌, ◌%◌, ◌^◌, ◌<◌, ◌≤◌, List, [], ◌∷◌, ◌++◌, length, take, drop, All, refl, sym, ap, ◌∙◌, subst, arith, length-append, append_assoc}
use Rattle.std.specs.Prelude.{map}
use Rattle.std.proofs.Math.Seq.{take-add, take-length, drop-nil}
use Rattle.std.proofs.lemmas.List.{append-nil, take-map, take_all, take-append-drop, length-take, length-drop, length-map, map-append}
use Rattle.std.proofs.lemmas.List.Elements.{All-drop}
use Rattle.byteorder.specs.Endian.{little_bytes, little_number}
use Rattle.batch_records.specs.declared.fault.BatchFault.TheVariants as faults
use Rattle.batch_records.specs.declared.reading.Record.{Record}
use Rattle.batch_records.specs.Batch.{record_bytes, AreShort, Records, IsBroken, IsBatch, IsBatchFault, not_whole, too_many, most_batch, most_records}
use Rattle.batch_records.specs.Answering.{source_at, IsRecordAt}

-- the records before a place are those of these sources, and the first of them are kept
pub record IsReached (input : List ℕ) (place count : ℕ) (kept : List Record) : Type 0 where
  pub sources : List (List ℕ)
  pub records : Records (take place input) sources
  pub many : length sources ≡ count
  pub are_kept : map (source_at input) kept ≡ take most_records sources
  pub within : place ≤ length input
  pub long : 4 * count ≤ place

pub nothing_reached : (input : List ℕ) → IsReached input 0 0 []
nothing_reached input = record {
  sources = [];
  records = record { spelled = refl; short = tt };
  many = refl;
  are_kept = refl;
  within = omega arith;
  long = omega arith;
}

drop_more : {A : Type 0} (m n : ℕ) (xs : List A) → drop (m + n) xs ≡ drop n (drop m xs)
drop_more zero n xs = let e : zero + n ≡ n = omega arith in rw e refl
drop_more (suc m) n [] = drop-nil (suc m + n) ∙ sym (drop-nil n)
drop_more (suc m) n (x ∷ xs) = let e : suc m + n ≡ suc (m + n) = omega arith in ap (λ k. drop k (x ∷ xs)) e ∙ drop_more m n xs

take_twice : {A : Type 0} (n : ℕ) (xs ys : List A) → take n (take n xs ++ ys) ≡ take n (xs ++ ys)
take_twice zero xs ys = refl
take_twice (suc n) [] ys = refl
take_twice (suc n) (x ∷ xs) ys = ap (λ l. x ∷ l) (take_twice n xs ys)

-- four bytes are those of their number
spelled_again : (bytes : List ℕ) → All (λ b. b < 256) bytes → 4 ≤ length bytes → little_bytes 4 (little_number 4 bytes) ≡ take 4 bytes
spelled_again [] all h = absurd (omega arith)
spelled_again (a ∷ []) all h = absurd (omega arith)
spelled_again (a ∷ b ∷ []) all h = absurd (omega arith)
spelled_again (a ∷ b ∷ c ∷ []) all h = absurd (omega arith)
spelled_again (a ∷ b ∷ c ∷ d ∷ rest) all h =
    let low_a : a < 256 = all 0 0 (omega arith) in
    let low_b : b < 256 = all 1 0 (omega arith) in
    let low_c : c < 256 = all 2 0 (omega arith) in
    let low_d : d < 256 = all 3 0 (omega arith) in
    let n = little_number 4 (a ∷ b ∷ c ∷ d ∷ rest) in
    let e : n % 256 ≡ a = omega arith in
    let e_b : n / 256 % 256 ≡ b = omega arith in
    let e_c : n / 65536 % 256 ≡ c = omega arith in
    let e_d : n / 16777216 % 256 ≡ d = omega arith in
    λ i. e i ∷ e_b i ∷ e_c i ∷ e_d i ∷ []

four_small : (bytes : List ℕ) → All (λ b. b < 256) bytes → 4 ≤ length bytes → little_number 4 bytes < 2 ^ 32
four_small [] all h = absurd (omega arith)
four_small (a ∷ []) all h = absurd (omega arith)
four_small (a ∷ b ∷ []) all h = absurd (omega arith)
four_small (a ∷ b ∷ c ∷ []) all h = absurd (omega arith)
four_small (a ∷ b ∷ c ∷ d ∷ rest) all h =
    let low_a : a < 256 = all 0 0 (omega arith) in
    let low_b : b < 256 = all 1 0 (omega arith) in
    let low_c : c < 256 = all 2 0 (omega arith) in
    let low_d : d < 256 = all 3 0 (omega arith) in
    omega arith

bytes_more : (s t : List (List ℕ)) → record_bytes (s ++ t) ≡ record_bytes s ++ record_bytes t
bytes_more [] t = refl
bytes_more (x ∷ xs) t =
    ap (λ l. little_bytes 4 (length x) ++ (x ++ l)) (bytes_more xs t) ∙ sym (ap (λ l. little_bytes 4 (length x) ++ l) (append_assoc x (record_bytes xs) (record_bytes t)))

short_more : (s t : List (List ℕ)) → AreShort s → AreShort t → AreShort (s ++ t)
short_more [] t h k = k
short_more (x ∷ xs) t h k = (h.0, short_more xs t h.1 k)

-- a record more
module _ (input : List ℕ) (place : ℕ) (r : Record) (bytes : All (λ b. b < 256) input) (inside : place ≤ length input) (at : IsRecordAt input place r) where
  abbrev pub rest : List ℕ
  rest = drop place input

  abbrev pub count : ℕ
  count = little_number 4 rest

  rest_long : 4 + count ≤ length rest
  rest_long =
      let start = at.start_is in
      let end = at.end_is in
      let fits = at.within in
      let long : length rest ≡ length input - place = length-drop place input in
      omega arith

  pub source_is : source_at input r ≡ take count (drop 4 rest)
  source_is =
      let start = at.start_is in
      let end = at.end_is in
      let e : r.end - r.start ≡ count = omega arith in
      (λ i. take (e i) (drop (start i) input)) ∙ ap (take count) (drop_more place 4 input)

  pub source_long : length (source_at input r) ≡ count
  source_long =
      ap length source_is ∙ length-take count (drop 4 rest)
      ∙ (let long : length (drop 4 rest) ≡ length rest - 4 = length-drop 4 rest in let enough = rest_long in omega arith)

  pub end_beyond : r.end ≡ place + (4 + count)
  end_beyond = let start = at.start_is in let end = at.end_is in omega arith

  pub one_record : take r.end input ≡ take place input ++ record_bytes (source_at input r ∷ [])
  one_record =
      ap (λ n. take n input) end_beyond ∙ take-add place (4 + count) input
      ∙ ap (λ l. take place input ++ l)
      (take-add 4 count rest
      ∙ (λ i. sym (spelled_again rest (All-drop (λ b. b < 256) place input bytes) (let enough = rest_long in omega arith)) i ++ sym source_is i)
      ∙ ap (λ n. little_bytes 4 n ++ source_at input r) (sym source_long)
      ∙ ap (λ l. little_bytes 4 (length (source_at input r)) ++ l) (sym (append-nil (source_at input r))))

  pub number_small : count < 2 ^ 32
  number_small = four_small rest (All-drop (λ b. b < 256) place input bytes) (let enough = rest_long in omega arith)

pub next_reached : (input : List ℕ) (place number : ℕ) (kept more : List Record) (r : Record) → All (λ b. b < 256) input → IsReached input place number kept
    → IsRecordAt input place r → more ≡ take most_records (kept ++ r ∷ []) → IsReached input r.end (number + 1) more
next_reached input place number kept more r bytes so_far at is_more =
    let s = so_far.sources in
    let source = source_at input r in
    let short : length source < 2 ^ 32 = (let e = source_long input place r bytes so_far.within at in let l = number_small input place r bytes so_far.within at in omega arith) in
    record {
      sources = s ++ source ∷ [];
      records = record {
        spelled =
            one_record input place r bytes so_far.within at ∙ ap (λ l. l ++ record_bytes (source ∷ [])) so_far.records.spelled
            ∙ sym (bytes_more s (source ∷ []));
        short = short_more s (source ∷ []) so_far.records.short (short, tt);
      };
      many = length-append s (source ∷ []) ∙ ap (λ n. n + 1) so_far.many;
      are_kept =
          ap (map (source_at input)) is_more ∙ sym (take-map (source_at input) most_records (kept ++ r ∷ []))
          ∙ ap (take most_records) (map-append (source_at input) kept (r ∷ []) ∙ ap (λ l. l ++ source ∷ []) so_far.are_kept)
          ∙ take_twice most_records s (source ∷ []);
      within = at.within;
      long = (let e = end_beyond input place r bytes so_far.within at in let l = so_far.long in omega arith);
    }

pub few_kept : (input : List ℕ) (place number : ℕ) (kept : List Record) → IsReached input place number kept → length kept ≤ most_records
few_kept input place number kept so_far =
    let e : length kept ≡ length (take most_records so_far.sources) = sym (length-map kept (source_at input)) ∙ ap length so_far.are_kept in
    omega (arith, length-take most_records so_far.sources)

-- a record that isn't whole
pub broken_at : (input : List ℕ) (place number : ℕ) (kept : List Record) → length input ≤ most_batch → IsReached input place number kept → IsBroken (drop place input)
    → IsBatchFault input (faults.Record number)
broken_at input place number kept small so_far broken =
    subst (λ n. IsBatchFault input (faults.Record n)) so_far.many (not_whole small (sym (take-append-drop place input)) so_far.records broken)

-- at the end
all_read : (input : List ℕ) (place : ℕ) → place ≤ length input → (place < length input → ⊥) → take place input ≡ input
all_read input place within ended = (let e : place ≡ length input = omega arith in ap (λ n. take n input) e) ∙ take-length input

pub all_records : (input : List ℕ) (place number : ℕ) (kept : List Record) (so_far : IsReached input place number kept) → (place < length input → ⊥) → Records input so_far.sources
all_records input place number kept so_far ended = subst (λ l. Records l so_far.sources) (all_read input place so_far.within ended) so_far.records

pub too_many_records : (input : List ℕ) (place number : ℕ) (kept : List Record) → length input ≤ most_batch → IsReached input place number kept → (place < length input → ⊥)
    → most_records < number → IsBatchFault input faults.Count
too_many_records input place number kept small so_far ended many =
    too_many small (all_records input place number kept so_far ended) (let e = so_far.many in omega arith)

pub batch_read : (input : List ℕ) (place number : ℕ) (kept : List Record) → length input ≤ most_batch → IsReached input place number kept → (place < length input → ⊥)
    → number ≤ most_records → IsBatch input (map (source_at input) kept)
batch_read input place number kept small so_far ended few =
    let few' : length so_far.sources ≤ most_records = (let e = so_far.many in omega arith) in
    subst (IsBatch input) (sym (so_far.are_kept ∙ take_all most_records so_far.sources few'))
    (record { records = all_records input place number kept so_far ended; small = small; few = few' })
