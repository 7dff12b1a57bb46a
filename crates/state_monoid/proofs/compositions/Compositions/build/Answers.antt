use Rattle.std.proofs.Common.{◌≡◌, ◌∙◌, ◌<◌, ℕ, List, [], Vec, Global, length, map, All, sym, subst, arith}
use Rattle.std.specs.Prelude.{slice_index, slice_index_or}
use Rattle.std.proofs.lemmas.List.{length-map}
use Rattle.word_monoid.specs.Laws.Folds.{get_below}
use Rattle.state_monoid.specs.Automaton.{Automaton}
use Rattle.state_monoid.specs.Image.{IsNumbering}
use Rattle.state_monoid.proofs.Searching.{both}
use Rattle.state_monoid.proofs.Joining.{column_read}
use Rattle.state_monoid.proofs.Complete.{all_numbered, byte_numbers, letters_below}
use Rattle.state_monoid.proofs.compositions.Compositions.build.Goals as goal

abbrev items_of : Vec ℕ Global → List ℕ
items_of v = v.items

pub followed-requires : goal.followed-requires
followed-requires c =
    let d : Automaton = c.in_ok-letters.letters.dfa in
    let letters : List (List ℕ) = c.in_ok-letters.letters.functions.keys in
    let of_byte : List ℕ = c.in_ok-letters.letters.of_byte.items in
    let fs : List (List ℕ) = c.in_ok-explored.explored.functions.keys in
    let rows : List (List ℕ) = map items_of c.in_ok-explored.explored.rows.items in
    let found = c.in_ok-explored.ensures in
    let all : length rows ≡ length fs = length-map c.in_ok-explored.explored.rows.items items_of ∙ found.all in
    let some : 0 < length c.in_ok-explored.explored.rows.items = (let below = get_below fs 0 _ found.explored.first in let same = found.all in omega arith) in
    let first : c.deref-2.result.now ≡ slice_index_or rows 0 [] = c.deref-2.ensures.value ∙ column_read items_of c.in_ok-explored.explored.rows.items 0 c.index.result.now c.index.ensures some in
    both (λ codes row. All (λ code. code < length row) codes) (sym c.deref.ensures.value) (sym first)
    (letters_below d letters fs c.in_ok-explored.explored.origins.items rows of_byte c.in_ok-letters.ensures.letters found.explored found.rows all)

pub invariant_of-result : goal.invariant_of-result
invariant_of-result c =
    let d : Automaton = c.in_ok-letters.letters.dfa in
    let letters : List (List ℕ) = c.in_ok-letters.letters.functions.keys in
    let of_byte : List ℕ = c.in_ok-letters.letters.of_byte.items in
    let fs : List (List ℕ) = c.in_ok-explored.explored.functions.keys in
    let rows : List (List ℕ) = map items_of c.in_ok-explored.explored.rows.items in
    let found = c.in_ok-explored.ensures in
    let all : length rows ≡ length fs = length-map c.in_ok-explored.explored.rows.items items_of ∙ found.all in (
      c.in_ok-letters.ensures.letters.valid,
      (
        found.explored.few,
        (∣ all_numbered d letters fs c.in_ok-explored.explored.origins.items rows of_byte c.in_ok-letters.ensures.letters found.explored found.rows all found.distinct ∣₁, tt),
      ),
    )

pub invariant_of-result-2 : goal.invariant_of-result-2
invariant_of-result-2 c =
    let d : Automaton = c.in_ok-letters.letters.dfa in
    let letters : List (List ℕ) = c.in_ok-letters.letters.functions.keys in
    let of_byte : List ℕ = c.in_ok-letters.letters.of_byte.items in
    let fs : List (List ℕ) = c.in_ok-explored.explored.functions.keys in
    let rows : List (List ℕ) = map items_of c.in_ok-explored.explored.rows.items in
    let found = c.in_ok-explored.ensures in
    let all : length rows ≡ length fs = length-map c.in_ok-explored.explored.rows.items items_of ∙ found.all in
    let some : 0 < length c.in_ok-explored.explored.rows.items = (let below = get_below fs 0 _ found.explored.first in let same = found.all in omega arith) in
    let first : c.deref-2.result.now ≡ slice_index_or rows 0 [] = c.deref-2.ensures.value ∙ column_read items_of c.in_ok-explored.explored.rows.items 0 c.index.result.now c.index.ensures some in
    let is : c.in_ok-bytes.bytes.items ≡ map (slice_index (slice_index_or rows 0 [])) of_byte =
    both (λ row codes. c.in_ok-bytes.bytes.items ≡ map (slice_index row) codes) first c.deref.ensures.value c.in_ok-bytes.ensures in
    byte_numbers d letters fs c.in_ok-explored.explored.origins.items rows of_byte c.in_ok-letters.ensures.letters found.explored found.rows all
    c.in_ok-bytes.bytes.items c.in_ok-joins.joins.items is c.in_ok-joins.ensures

pub returns-clause-numbering : goal.returns-clause-numbering
returns-clause-numbering c =
    let d : Automaton = c.in_ok-letters.letters.dfa in
    let letters : List (List ℕ) = c.in_ok-letters.letters.functions.keys in
    let of_byte : List ℕ = c.in_ok-letters.letters.of_byte.items in
    let fs : List (List ℕ) = c.in_ok-explored.explored.functions.keys in
    let rows : List (List ℕ) = map items_of c.in_ok-explored.explored.rows.items in
    let found = c.in_ok-explored.ensures in
    let all : length rows ≡ length fs = length-map c.in_ok-explored.explored.rows.items items_of ∙ found.all in
    subst (λ (a : Automaton). IsNumbering a fs) c.in_ok-letters.ensures.automaton
    (all_numbered d letters fs c.in_ok-explored.explored.origins.items rows of_byte c.in_ok-letters.ensures.letters found.explored found.rows all found.distinct)
