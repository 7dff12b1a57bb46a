-- The rows of columns, from their parents and places.
use Rattle.std.proofs.Common.{◌≡◌, ℕ, ◌+◌, ◌<◌, ◌≤◌, Bool, true, false, List, ◌∷◌, [], ◌++◌, length, map, get_or, Option, Some, None, refl, sym, ap, ◌∙◌, subst, arith}
use Rattle.std.specs.Prelude.{if◌then◌else◌, nat_eq}
use Rattle.std.specs.List.{range_with_len}
use Rattle.std.proofs.lemmas.Bool.Decides.{nat_tests}
use Rattle.std.proofs.lemmas.List.{length-map, length-append}
use Rattle.std.proofs.lemmas.List.FromFn.{get_or-map-range_with_len}
use Rattle.source_meaning.specs.declared.kinds.Kind.{Kind}
use Rattle.source_meaning.specs.Grammar.{Prog, Tree, leaves, left_parse, number_of}
use Rattle.ast_rows.specs.NodeRows.{token_word, token_of}
use Rattle.row_laws.specs.Marks.{Mark, mark}
use Rattle.source_meaning.specs.declared.kinds.Kind.TheVariants.{Program as ProgramKind}
use Rattle.row_laws.specs.Climbed.{mark_at, parent_at, parents_by, place_at, settled_at}
use Rattle.row_laws.specs.Laws.Climbed.{lows_many}
use Rattle.row_walk.specs.Walk.{made_by, start}
use Rattle.row_walk.specs.Marks.{mark_of}
use Rattle.row_pieces.specs.Pieces.{closes_all, stood}
use Rattle.row_pieces.specs.Sound.{AreSingle}
use Rattle.row_pieces.specs.Stretches.{pieces_in}
use Rattle.row_pieces.specs.declared.piece.Piece.{Piece}
use Rattle.row_pieces.specs.declared.piece.Piece.TheVariants.{Cut}
use Rattle.row_pieces.specs.Laws.Walks.{all_made}
use Rattle.row_pieces.specs.Laws.Together.{parse_whole}
use Rattle.row_pieces.specs.Laws.Weighed.{acts_weigh, counts, stretch_plain, weights_more}
use Rattle.row_columns.specs.TokensOf.{no_token}
use Rattle.row_columns.specs.Stretches.{AreRowColumns, AreSmall, IsSmall, tree_marks}
use Rattle.tree_passes.specs.Columns.{AreColumns, numbers_of}
use Rattle.tree_passes.proofs.Ranges.{many_of}
use Rattle.tree_passes.proofs.RowColumns.{parents_upward}

-- ---- as many of each
module _ (ms : List Mark) (kinds : List Kind) (lows words : List ℕ) (known : AreRowColumns ms kinds lows words) where
  pub kinds_many : length kinds ≡ length ms
  kinds_many = many_of (λ k. (mark_at ms k).kind) (length ms) kinds known.kinds_are

  pub lows_as_many : length lows ≡ length kinds
  lows_as_many = ap length known.lows_are ∙ lows_many 0 ms ∙ sym kinds_many

  pub words_as_many : length words ≡ length kinds
  words_as_many = many_of (λ k. token_word (settled_at ms k)) (length ms) words known.tokens_are ∙ sym kinds_many

-- ---- parents
pub parents_many : (lows parents : List ℕ) → parents ≡ parents_by lows → length parents ≡ length lows
parents_many lows parents e = many_of (parent_at lows) (length lows) parents e

pub places_many : (lows places : List ℕ) → places ≡ map (place_at (parents_by lows)) (range_with_len 0 (length lows)) → length places ≡ length lows
places_many lows places e = many_of (place_at (parents_by lows)) (length lows) places e

pub parents_up : (lows parents : List ℕ) → parents ≡ parents_by lows → (k : ℕ) → k < length parents → k ≤ get_or parents k 0
parents_up lows parents e k h =
    let n = parents_many lows parents e in
    let l : k < length lows = omega arith in
    let is : get_or parents k 0 ≡ parent_at lows k = ap (λ ps. get_or ps k 0) e ∙ get_or-map-range_with_len (parent_at lows) 0 (length lows) k k 0 l (omega arith) in
    subst (λ (j : ℕ). k ≤ j) (sym is) (parents_upward lows k)

-- ---- words
word_back : (o : Option ℕ) → IsSmall o → token_of (token_word o) ≡ o
word_back None h = refl
word_back (Some t) h = by (nat_eq t 4294967295) other
  where
    other : nat_eq t 4294967295 ≡ false
    other = let l : t < 4294967295 = h in grind (arith, nat_tests)

    by : (b : Bool) → b ≡ false → (if b then None else Some t) ≡ Some t
    by true e = absurd (cc)
    by false e = refl

pub laid_are : (ms : List Mark) (kinds : List Kind) (lows words parents places : List ℕ) → AreRowColumns ms kinds lows words → AreSmall ms → parents ≡ parents_by lows → places ≡ map (place_at (parents_by lows)) (range_with_len 0 (length lows)) → AreColumns ms kinds parents words places
laid_are ms kinds lows words parents places known small e p =
    record {
      kinds_are = known.kinds_are;
      parents_are = e ∙ ap parents_by known.lows_are;
      tokens_are = known.tokens_are;
      places_are =
          p
          ∙ ap (λ (n : ℕ). map (place_at (parents_by lows)) (range_with_len 0 n)) (ap length known.lows_are ∙ lows_many 0 ms)
          ∙ ap (λ ls. map (place_at (parents_by ls)) (numbers_of ms)) known.lows_are;
      words = λ k h. word_back (settled_at ms k) (small k h);
    }

-- ---- how many rows there are
pub single_more : (xs ys : List Piece) → AreSingle xs → AreSingle ys → AreSingle (xs ++ ys)
single_more [] ys a b = b
single_more (x ∷ xs) ys a b = (a.0, single_more xs ys a.1 b)

pub made_few : (r : Tree Prog) → length (made_by (left_parse r)) ≤ length (left_parse r)
made_few r =
    let ps = left_parse r in
    let numbers = map number_of ps in
    let xs = pieces_in numbers (length ps) 0 1 0 in
    let all = xs ++ Cut 0 false ∷ [] in
    let plain = stretch_plain numbers (length ps) 0 1 0 in
    let is : made_by ps ≡ closes_all all (stood start.rows) = all_made ps ∙ ap (λ ys. closes_all (ys ++ Cut 0 false ∷ []) (stood start.rows)) (sym (parse_whole ps 1 0)) in
    let n = ap length is in
    let c = counts all (stood start.rows) (single_more xs (Cut 0 false ∷ []) plain.0.1 (tt, tt)) in
    let w = acts_weigh all (stood start.rows) in
    let m = weights_more xs (Cut 0 false ∷ []) in
    let f = plain.1 in
    omega arith

pub marks_few : (r : Tree Prog) → length (tree_marks r) ≤ length (left_parse r) + 1
marks_few r =
    let n = length-map (made_by (left_parse r)) (mark_of no_token (left_parse r) (leaves r)) in
    let f = made_few r in
    let a = length-append (map (mark_of no_token (left_parse r) (leaves r)) (made_by (left_parse r))) (mark ProgramKind None (length (made_by (left_parse r)) + 1) ∷ []) in
    omega arith
