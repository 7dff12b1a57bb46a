-- Rows by symbol that show that a grammar is LL(1) and LLP(1,1), and their tests: the lemma below the rules of a certificate.
use Rattle.std.specs.Prelude.{◌≡◌, ℕ, List, [], ◌∷◌, ◌++◌, Bool, true, false, not, ◌&&◌, ◌||◌, ◌==◌, slice_index_or, map}
use Rattle.std.specs.List.{list_all}
use Rattle.grammar_file.specs.declared.symbols.Symbol.{Symbol}
use Rattle.grammar_file.specs.declared.symbols.Symbol.TheVariants.{Terminal, Nonterminal}
use Rattle.grammar_file.specs.Grammar.{Grammar, Production, begin_mark, end_mark}
use Rattle.llp_tables.specs.Certificate.{Row, has, says, is_function, when}

pub record SymbolRows : Type 0 where
  -- the nonterminals that may be empty
  pub nullable : List ℕ
  -- FIRST of each nonterminal
  pub first : List (List ℕ)
  -- what is closed behind each nonterminal, and behind each terminal from the begin mark on
  pub nonterminals : List Row
  pub terminals : List Row

module _ (c : SymbolRows) where
  abbrev pub may_be_empty : Symbol → Bool
  may_be_empty (Terminal a) = false
  may_be_empty (Nonterminal a) = has c.nullable a

  abbrev pub first_of : Symbol → List ℕ
  first_of (Terminal a) = a ∷ []
  first_of (Nonterminal a) = slice_index_or c.first a []

  abbrev pub row_of : Symbol → Row
  row_of (Terminal a) = slice_index_or c.terminals a []
  row_of (Nonterminal a) = slice_index_or c.nonterminals a []

  -- each look-ahead behind the symbols so far, in a right side of `left`, has what it closes in the row
  abbrev pub closes_all : Row → ℕ → List Symbol → List Symbol → Bool
  closes_all row left above [] = list_all (λ e. says row e.0 (above ++ e.1)) (row_of (Nonterminal left))
  closes_all row left above (x ∷ after) =
      list_all (λ b. says row b (above ++ x ∷ [])) (first_of x) && (not (may_be_empty x) || closes_all row left (above ++ x ∷ []) after)

  -- the rows are closed under a production's right side
  abbrev pub closed_under : ℕ → List Symbol → Bool
  closed_under left [] = true
  closed_under left (s ∷ after) = closes_all (row_of s) left [] after && closed_under left after

  -- each symbol of the form may be empty
  abbrev pub all_empty : List Symbol → Bool
  all_empty [] = true
  all_empty (x ∷ xs) = may_be_empty x && all_empty xs

  -- what a right side begins with is in FIRST of its left side
  abbrev pub first_within : ℕ → List Symbol → Bool
  first_within left [] = true
  first_within left (x ∷ xs) = list_all (λ b. has (slice_index_or c.first left []) b) (first_of x) && (not (may_be_empty x) || first_within left xs)

  -- one production's tests
  abbrev pub is_closed : Production → Bool
  is_closed r = (not (all_empty r.right) || has c.nullable r.left) && first_within r.left r.right && closed_under r.left r.right

module _ (c : SymbolRows) where
  -- the terminals that a form may begin with
  abbrev pub beginnings : List Symbol → List ℕ
  beginnings [] = []
  beginnings (x ∷ xs) = first_of c x ++ when (may_be_empty c x) (beginnings xs)

  -- the look-aheads of a row
  abbrev pub keys : Row → List ℕ
  keys row = map (λ e. e.0) row

  -- what predicts a production: what its right side begins with, and where it may be empty what comes behind its left side
  abbrev pub predicts : Production → ℕ × List ℕ
  predicts r = (r.left, beginnings r.right ++ when (all_empty c r.right) (keys (row_of c (Nonterminal r.left))))

-- two productions of one nonterminal, with nothing that predicts both
abbrev pub apart : ℕ × List ℕ → ℕ × List ℕ → Bool
apart p q = not (p.0 == q.0) || list_all (λ b. not (has q.1 b)) p.1

abbrev pub all_apart : List (ℕ × List ℕ) → Bool
all_apart [] = true
all_apart (p ∷ ps) = list_all (apart p) ps && all_apart ps

-- the tests of the rows for a grammar
pub record AcceptsRows (c : SymbolRows) (g : Grammar) : Type 0 where
  pub productions : list_all (is_closed c) g.productions ≡ true
  pub start : says (row_of c (Nonterminal 0)) (end_mark g) (Terminal (end_mark g) ∷ []) ≡ true
  pub begin : closes_all c (row_of c (Terminal begin_mark)) 0 [] (Nonterminal 0 ∷ Terminal (end_mark g) ∷ []) ≡ true
  pub predictions : all_apart (map (predicts c) g.productions) ≡ true
  pub rows : list_all is_function c.terminals ≡ true
