-- The rows of a left parse by one walk over its productions. Rows that are open stand on a stack, each with how many nonterminals may still be
-- open where it is closed; a row is written down when it is closed, so the rows come in postorder.
use Rattle.std.specs.Prelude.{ℕ, suc, ◌+◌, ◌-◌, List, [], ◌∷◌, ◌++◌, length, Bool, false, ◌&&◌, ◌||◌, nat_lt, nat_eq, if◌then◌else◌}
use Rattle.source_meaning.specs.Grammar.{Production, left, right}
use Rattle.row_laws.specs.Emitted.{is_if, is_else, is_early}
use Rattle.row_laws.specs.Levels.{after, kids}
use Rattle.row_laws.specs.Owned.{reads_count}
use Rattle.row_laws.specs.Joins.{starts_else}
use Rattle.row_laws.specs.Shifts.{is_call}
use Rattle.row_laws.specs.Along.{has_row, reaches_back}

-- A row that is open: `begin` rows were closed before the first of its subtree, and it is closed where at most `bound` nonterminals are open.
-- `place` is that of its production in the left parse, and `own` that of its own token among the owned ones. An else may still join an if
pub record Open : Type 0 where
  pub bound : ℕ
  pub begin : ℕ
  pub place : ℕ
  pub own : ℕ
  pub joinable : Bool

-- a row that is closed, with how many rows its subtree has
pub record Made : Type 0 where
  pub place : ℕ
  pub own : ℕ
  pub size : ℕ

-- The rows that are open, the uppermost first, and those that are closed, in order
pub record Rows : Type 0 where
  pub stack : List Open
  pub made : List Made

abbrev pub closed : Open → List Made → List Made
closed o ms = ms ++ record { place = o.place; own = o.own; size = suc (length ms) - o.begin } ∷ []

-- A row stays open where fewer nonterminals are open than close it, and an if also where just as many are and an else comes next
abbrev pub stays : (level : ℕ) (waits : Bool) → Open → Bool
stays level waits o = nat_lt o.bound level || (waits && (o.joinable && nat_eq o.bound level))

-- what is left where this many nonterminals are open, with an else next or not
abbrev pub cut : (level : ℕ) (waits : Bool) → List Open → List Made → Rows
cut level waits [] ms = record { stack = []; made = ms }
cut level waits (o ∷ os) ms = if stays level waits o then record { stack = o ∷ os; made = ms } else cut level waits os (closed o ms)

-- how many rows the subtree of the last row has
abbrev pub last_size : List Made → ℕ
last_size [] = 0
last_size (m ∷ []) = m.size
last_size (m ∷ (n ∷ ms)) = last_size (n ∷ ms)

-- The row of a production that begins at a place, where this many nonterminals are open and this many owned tokens are read: behind all closed rows,
-- or before the operand on its left, which is the last of them with its subtree. A call has the token of the name right before it
abbrev pub opened : Production → (place level read : ℕ) → List Made → Open
opened p place level read ms = record {
  bound = if is_early p then level else level - 1;
  begin = length ms - (if reaches_back p false then last_size ms else 0);
  place = place;
  own = if is_call (left p) then read - 1 else read;
  joinable = is_if p;
}

-- an else: it takes the place of the if that waits for it, or opens a row of its own
abbrev pub turned : Production → (place level read : ℕ) → List Open → List Made → List Open
turned p place level read [] ms = opened p place level read ms ∷ []
turned p place level read (o ∷ os) ms =
    if o.joinable && nat_eq (suc o.bound) level
    then record { bound = o.bound; begin = o.begin; place = place; own = o.own; joinable = false } ∷ os
    else opened p place level read ms ∷ (o ∷ os)

-- what a production does to the rows: a row without parts is closed at once
abbrev pub entered : Production → (place level read : ℕ) → Rows → Rows
entered p place level read rs =
    if is_else p then record { stack = turned p place level read rs.stack rs.made; made = rs.made }
    else (if nat_eq (has_row p false) 0 then rs
    else (if nat_eq (kids (right p)) 0 then record { stack = rs.stack; made = closed (opened p place level read rs.made) rs.made }
    else record { stack = opened p place level read rs.made ∷ rs.stack; made = rs.made }))

-- How far a walk has come: the place of the next production, the nonterminals that are open before it, the owned tokens read before it, and the rows
pub record Walk : Type 0 where
  pub place : ℕ
  pub level : ℕ
  pub read : ℕ
  pub rows : Rows

abbrev pub step : Production → (waits : Bool) → Walk → Walk
step p waits w = record {
  place = suc w.place;
  level = after w.level p;
  read = w.read + reads_count p;
  rows = entered p w.place w.level w.read (cut w.level waits w.rows.stack w.rows.made);
}

-- over these productions; an else comes next where the first is a cell and the second an else
abbrev pub walked : List Production → Walk → Walk
walked [] w = w
walked (p ∷ ps) w = walked ps (step p (starts_else (p ∷ ps)) w)

abbrev pub start : Walk
start = record { place = 0; level = 1; read = 0; rows = record { stack = []; made = [] } }

-- the rows of a whole left parse, in the order in which they are closed
abbrev pub made_by : List Production → List Made
made_by ps = let w = walked ps start in (cut 0 false w.rows.stack w.rows.made).made
