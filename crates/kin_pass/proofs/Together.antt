-- What stretches know by themselves, in parts one behind the other, is what is known of all.
use Rattle.std.proofs.Common.{◌≡◌, ℕ, suc, ◌+◌, ◌*◌, ◌≤◌, List, [], ◌∷◌, ◌++◌, length, map, flat_map, Some, slice_get, refl, sym, ap, subst, ◌∙◌, arith, length-append}
use Rattle.std.specs.List.{range_with_len}
use Rattle.std.proofs.lemmas.List.{map-append, append-nil}
use denote.RawPtr.{Ptr, ◌+ₚ◌}
use Rattle.list_cuts.specs.Cuts.{number_at, start_of, AreCuts}
use Rattle.list_parts.specs.Laws.Chains.{get_below}
use Rattle.list_parts.specs.Parts.{part_items, part_start, Chain, Fits, SamePlaces}
use Rattle.row_kin.specs.Alone.{ties_alone, ties_by_stretches}
use Rattle.row_kin.specs.declared.stretches.Stretches.{Stretches}
use Rattle.row_kin.specs.declared.stretches.Ties.{Ties}
use Rattle.kin_pass.specs.declared.kin_parts.KinParts.{KinParts}
use Rattle.kin_pass.specs.Kin.{AreTies}
use Rattle.kin_pass.specs.Lists.{AreTiesIn, AreWritten, Column, EachList, IsLent}
use Rattle.kin_pass.proofs.Ranges.{some_is, some_less}

-- parts that lie where the ones before them lay
abbrev pub Stay : (list : Column) (xs ys : List KinParts) → Type 0
Stay list xs ys = (c : ℕ) (x y : KinParts) → slice_get xs c ≡ Some x → slice_get ys c ≡ Some y → SamePlaces (list x) (list y)

pub chain_stays : (list : Column) (xs ys : List KinParts) → length ys ≡ length xs → Stay list xs ys → (p : Ptr) → Chain 4 p (map list xs) → Chain 4 p (map list ys)
chain_stays list [] [] many same p chain = tt
chain_stays list [] (y ∷ ys) many same p chain = absurd (omega arith)
chain_stays list (x ∷ xs) [] many same p chain = absurd (omega arith)
chain_stays list (x ∷ xs) (y ∷ ys) many same p chain =
    let here : SamePlaces (list x) (list y) = same 0 x y refl refl in (
      here.start ∙ chain.0,
      subst (λ n. Chain 4 (p +ₚ n * 4) (map list ys)) (sym here.count) (chain_stays list xs ys (omega arith) (λ c. same (suc c)) (p +ₚ length (part_items (list x)) * 4) chain.1),
    )

pub count_stays : (list : Column) (xs ys : List KinParts) → length ys ≡ length xs → Stay list xs ys → length (flat_map part_items (map list ys)) ≡ length (flat_map part_items (map list xs))
count_stays list [] [] many same = refl
count_stays list [] (y ∷ ys) many same = absurd (omega arith)
count_stays list (x ∷ xs) [] many same = absurd (omega arith)
count_stays list (x ∷ xs) (y ∷ ys) many same =
    let here : SamePlaces (list x) (list y) = same 0 x y refl refl in
    let count = here.count in
    let rest = count_stays list xs ys (omega arith) (λ c. same (suc c)) in
    let a = length-append (part_items (list x)) (flat_map part_items (map list xs)) in
    let b = length-append (part_items (list y)) (flat_map part_items (map list ys)) in
    omega arith

-- the values of parts, each of which has what a stretch knows
joined : (get : Ties → ℕ) (known : ℕ → List Ties) (list : Column) (ys : List KinParts) (a : ℕ) → ((c : ℕ) (y : KinParts) → slice_get ys c ≡ Some y → part_items (list y) ≡ map get (known (a + c)))
    → flat_map part_items (map list ys) ≡ map get (flat_map known (range_with_len a (length ys)))
joined get known list [] a has = refl
joined get known list (y ∷ ys) a has =
    let here : part_items (list y) ≡ map get (known a) = has 0 y refl ∙ ap (λ k. map get (known k)) (let z : a + 0 ≡ a = omega arith in z) in
    let more = joined get known list ys (a + 1) (λ c z at. has (suc c) z at ∙ ap (λ k. map get (known k)) (let e : a + suc c ≡ a + 1 + c = omega arith in e)) in
    (λ i. here i ++ more i) ∙ sym (map-append get (known a) (flat_map known (range_with_len (a + 1) (length ys))))

pub ties_joined : (lows ends : List ℕ) (ys : List KinParts) (whole : KinParts) → length ys ≡ length ends → ((c : ℕ) (y : KinParts) → slice_get ys c ≡ Some y → AreTiesIn (ties_alone lows (start_of ends c) (number_at ends c)) y)
    → EachList (λ list. part_items (list whole) ≡ flat_map part_items (map list ys)) → AreTiesIn (ties_by_stretches lows ends) whole
ties_joined lows ends ys whole many has all =
    let known : ℕ → List Ties = λ c. ties_alone lows (start_of ends c) (number_at ends c) in
    let z : (c : ℕ) → c ≡ 0 + c = λ c. omega arith in
    let count : (get : Ties → ℕ) → map get (flat_map known (range_with_len 0 (length ys))) ≡ map get (flat_map known (range_with_len 0 (length ends))) = λ get. ap (λ n. map get (flat_map known (range_with_len 0 n))) many in
    record {
      parents_are = all.parents ∙ joined (λ t. t.parent) known (λ p. p.parents) ys 0 (λ c y at. (has c y at).parents_are ∙ ap (λ k. map (λ (t : Ties). t.parent) (known k)) (z c)) ∙ count (λ t. t.parent);
      lows_are = all.lows ∙ joined (λ t. t.low) known (λ p. p.lows) ys 0 (λ c y at. (has c y at).lows_are ∙ ap (λ k. map (λ (t : Ties). t.low) (known k)) (z c)) ∙ count (λ t. t.low);
      places_are = all.places ∙ joined (λ t. t.place) known (λ p. p.places) ys 0 (λ c y at. (has c y at).places_are ∙ ap (λ k. map (λ (t : Ties). t.place) (known k)) (z c)) ∙ count (λ t. t.place);
    }

-- where there is one stretch at most, it has all rows
pub ties_of_one : (lows ends : List ℕ) → AreCuts ends (length lows) → length ends ≤ 1 → ties_alone lows 0 (length lows) ≡ ties_by_stretches lows ends
ties_of_one lows [] cuts few = none lows (sym cuts.all)
  where
    none : (ls : List ℕ) → length ls ≡ 0 → ties_alone ls 0 (length ls) ≡ []
    none [] h = refl
    none (x ∷ xs) h = absurd (omega arith)
ties_of_one lows (e ∷ []) cuts few = ap (ties_alone lows 0) (sym cuts.all) ∙ sym (append-nil (ties_alone lows 0 e))
ties_of_one lows (e ∷ d ∷ ends) cuts few = absurd (omega arith)

pub tied_alone : (lows ends : List ℕ) → AreCuts ends (length lows) → length ends ≤ 1 → (ps fs ls : List ℕ) → AreTies (ties_alone lows 0 (length lows)) ps fs ls → AreTies (ties_by_stretches lows ends) ps fs ls
tied_alone lows ends cuts few ps fs ls known = subst (λ ts. AreTies ts ps fs ls) (ties_of_one lows ends cuts few) known

-- ---- the parts that come back, from what was cut and written
pub cuts_of : (lows ends : List ℕ) (whole : KinParts) → AreCuts ends (length lows) → (list : Column) → IsLent (length lows) (list whole) → AreCuts ends (length (part_items (list whole)))
cuts_of lows ends whole cuts list lent = subst (AreCuts ends) (sym lent.wide) cuts

abbrev pub Written : (s : Stretches) (xs ys : List KinParts) → Type 0
Written s xs ys = (c : ℕ) (x y : KinParts) → slice_get xs c ≡ Some x → slice_get ys c ≡ Some y → AreWritten s c x y

pub written_stay : (s : Stretches) (xs ys : List KinParts) → Written s xs ys → EachList (λ list. Stay list xs ys)
written_stay s xs ys written = record {
  parents = λ c x y at there. (written c x y at there).place.parents;
  lows = λ c x y at there. (written c x y at there).place.lows;
  places = λ c x y at there. (written c x y at there).place.places;
}

pub written_ties : (s : Stretches) (xs ys : List KinParts) → length ys ≡ length xs → Written s xs ys → (c : ℕ) (y : KinParts) → slice_get ys c ≡ Some y
    → AreTiesIn (ties_alone s.lows.now (start_of s.ends.now c) (number_at s.ends.now c)) y
written_ties s xs ys many written c y at =
    let less = some_less ys c y at in
    let x = get_below xs c (omega arith) in
    (written c x.0 y x.1 at).ties

same_stay : (list : Column) (xs ys : List KinParts) → ys ≡ xs → Stay list xs ys
same_stay list xs ys is = λ c x y at there.
    let e : y ≡ x = some_is y x (sym there ∙ ap (λ l. slice_get l c) is ∙ at) in record {
      start = ap (λ p. part_start (list p)) e;
      count = ap (λ p. length (part_items (list p))) e;
    }

pub back_stay : (xs ys : List KinParts) → ys ≡ xs → EachList (λ list. Stay list xs ys)
back_stay xs ys is = record {
  parents = same_stay (λ p. p.parents) xs ys is;
  lows = same_stay (λ p. p.lows) xs ys is;
  places = same_stay (λ p. p.places) xs ys is;
}

module _ (whole : KinParts) (xs ys : List KinParts) (many : length ys ≡ length xs) where
  pub chained : (list : Column) → Stay list xs ys → Chain 4 (part_start (list whole)) (map list xs) → (start : Ptr) × Chain 4 start (map list ys)
  chained list stay chain = (part_start (list whole), chain_stays list xs ys many stay (part_start (list whole)) chain)

  pub fitting : (n : ℕ) (list : Column) → Stay list xs ys → flat_map part_items (map list xs) ≡ part_items (list whole) → IsLent n (list whole) → Fits 4 (length (flat_map part_items (map list ys)))
  fitting n list stay has lent = subst (Fits 4) (sym (count_stays list xs ys many stay ∙ ap length has ∙ lent.wide)) lent.fits

  -- the parts that come back, as one, lie where the whole lay
  pub whole_stays : (back : KinParts) → EachList (λ list. Stay list xs ys) → EachList (λ list. Chain 4 (part_start (list whole)) (map list xs))
      → EachList (λ list. flat_map part_items (map list xs) ≡ part_items (list whole)) → EachList (λ list. (start : Ptr) → Chain 4 start (map list ys) → part_start (list back) ≡ start)
      → EachList (λ list. part_items (list back) ≡ flat_map part_items (map list ys)) → EachList (λ list. SamePlaces (list whole) (list back))
  whole_stays back stay chain has place items = record {
    parents = by _ stay.parents chain.parents has.parents place.parents items.parents;
    lows = by _ stay.lows chain.lows has.lows place.lows items.lows;
    places = by _ stay.places chain.places has.places place.places items.places;
  }
    where
      by : (list : Column) → Stay list xs ys → Chain 4 (part_start (list whole)) (map list xs) → flat_map part_items (map list xs) ≡ part_items (list whole)
          → ((start : Ptr) → Chain 4 start (map list ys) → part_start (list back) ≡ start) → part_items (list back) ≡ flat_map part_items (map list ys) → SamePlaces (list whole) (list back)
      by list stay chain has place items = record {
        start = place (part_start (list whole)) (chain_stays list xs ys many stay (part_start (list whole)) chain);
        count = ap length items ∙ count_stays list xs ys many stay ∙ ap length has;
      }
