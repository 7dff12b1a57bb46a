-- Each kind of step of a running board, as its one atomic operation and the clauses of its call say: what the call asks of the seat's view,
-- what the operation makes of the word, and what the call says of its answer and of the view afterwards.
use Rattle.std.specs.Prelude.{◌≡◌, ℕ, ◌+◌, ◌*◌, ◌<◌, ◌≤◌, List, [], ◌∷◌, ◌++◌, length, Option, Some, None, MatchOption, nat_lt, if◌then◌else◌, slice_get, slice_set, slice_index}
use Rattle.atomic_table.specs.Table.{State}
use Rattle.word_monoid.specs.Monoid.{Ops}
use Rattle.chunk_seats.specs.Tallies.{times}
use Rattle.chunk_seats.specs.declared.views.ClaimView.{ClaimView}
use Rattle.chunk_seats.specs.Claims.{fresh, claiming, spending, finishing, giving, joining}
use Rattle.scan_lookback.specs.declared.views.LookView.{LookView}
use Rattle.scan_lookback.specs.declared.look.Look.{Look}
use Rattle.scan_lookback.specs.Views.{blank, showing, sealing, looking, leaving, uniting}
use Rattle.scan_lookback.specs.Found.{IsSum, IsPrefix, Found}
use Rattle.deal_board.specs.Held.{settled}
use Rattle.board_steps.specs.Parts.{ClaimTable, DealTable, StatusTable}

module _ {V : Type 0} where
  -- the seat of this number has this view
  abbrev pub HasView : State (Unit {0}) V → ℕ → V → Type 0
  HasView s a v = slice_get s.views a ≡ Some v

  -- the word i and the view of the seat a are others
  abbrev pub moved : State (Unit {0}) V → ℕ → ℕ → ℕ → V → State (Unit {0}) V
  moved s i word a v = record { words = slice_set s.words i word; homes = s.homes; views = slice_set s.views a v }

  -- the views are others
  abbrev pub seated : State (Unit {0}) V → List V → State (Unit {0}) V
  seated s views = record { words = s.words; homes = s.homes; views = views }

-- `claim` by the seat a, where there are this many chunks: the counter is raised by one, and the number found is the answer where it is a chunk's
pub record RunsClaim (chunks a : ℕ) (s : ClaimTable) (answer : Option ℕ) (t : ClaimTable) : Type 0 where
  pub old : ClaimView
  pub new : ClaimView
  pub seat : HasView s a old
  pub weighs : 0 < old.weight
  pub unspent : 0 < old.share
  pub drawn : answer ≡ (if nat_lt (slice_index s.words 0) chunks then Some (slice_index s.words 0) else None)
  pub told : MatchOption answer (new ≡ spending old) (λ c. new ≡ claiming old c)
  pub after : t ≡ moved s 0 (slice_index s.words 0 + 1) a new

-- `done` by the seat a: the count of finished chunks is raised by one
pub record RunsDone (a c : ℕ) (s t : ClaimTable) : Type 0 where
  pub old : ClaimView
  pub seat : HasView s a old
  pub weighs : 0 < old.weight
  pub claimed : 0 < times c old.claimed
  pub not_done : times c old.done ≡ 0
  pub after : t ≡ moved s 1 (slice_index s.words 1 + 1) a (finishing old c)

-- `split` of the claim board: the new seat has the next number
pub record RunsClaimSplit (a n : ℕ) (s : ClaimTable) (number : ℕ) (t : ClaimTable) : Type 0 where
  pub old : ClaimView
  pub seat : HasView s a old
  pub weighs : 0 < old.weight
  pub some_part : 1 ≤ n
  pub less : n < old.share
  pub next : number ≡ length s.views
  pub after : t ≡ seated s (slice_set s.views a (giving old n) ++ fresh n ∷ [])

-- `join` of the claim board
pub record RunsClaimJoin (a b : ℕ) (s t : ClaimTable) : Type 0 where
  pub old : ClaimView
  pub other : ClaimView
  pub seat : HasView s a old
  pub that : HasView s b other
  pub apart : ¬ (a ≡ b)
  pub weighs : 0 < old.weight
  pub that_weighs : 0 < other.weight
  pub after : t ≡ seated s (slice_set (slice_set s.views a (joining old other)) b (fresh 0))

-- a seat with this in its hand has put back all that it drew, or all but this, which it drew last
abbrev pub Holds : Option ℕ → ClaimView → Type 0
Holds None v = v.done ≡ v.claimed
Holds (Some n) v = (v.claimed ≡ v.done ++ n ∷ []) × (times n v.done ≡ 0)

module _ {T : Type 0} where
  -- `deal` by the seat a with this in its hand, where there are this many items: what is in the hand goes back, the counter is raised by one, and
  -- the number found is the answer where it is an item's
  pub record RunsDeal (items a : ℕ) (hand : Option ℕ) (s : DealTable T) (answer : Option ℕ) (t : DealTable T) : Type 0 where
    pub old : ClaimView
    pub new : ClaimView
    pub seat : slice_get s.views a ≡ Some old
    pub weighs : 0 < old.weight
    pub unspent : 0 < old.share
    pub holds : Holds hand old
    pub drawn : answer ≡ (if nat_lt (slice_index s.words 0) items then Some (slice_index s.words 0) else None)
    pub told : MatchOption answer (new ≡ spending (settled old)) (λ n. new ≡ claiming (settled old) n)
    pub words : t.words ≡ slice_set s.words 0 (slice_index s.words 0 + 1)
    pub views : t.views ≡ slice_set s.views a new

  -- `split` of a seat whose hand is empty: the new seat has the next number
  pub record RunsDealSplit (a n : ℕ) (s : DealTable T) (number : ℕ) (t : DealTable T) : Type 0 where
    pub old : ClaimView
    pub seat : slice_get s.views a ≡ Some old
    pub weighs : 0 < old.weight
    pub empty : Holds None old
    pub some_part : 1 ≤ n
    pub less : n < old.share
    pub next : number ≡ length s.views
    pub words : t.words ≡ s.words
    pub views : t.views ≡ slice_set s.views a (giving old n) ++ fresh n ∷ []

  -- `join` of seats whose hands are empty
  pub record RunsDealJoin (a b : ℕ) (s t : DealTable T) : Type 0 where
    pub old : ClaimView
    pub other : ClaimView
    pub seat : slice_get s.views a ≡ Some old
    pub that : slice_get s.views b ≡ Some other
    pub apart : ¬ (a ≡ b)
    pub weighs : 0 < old.weight
    pub that_weighs : 0 < other.weight
    pub empty : Holds None old × Holds None other
    pub words : t.words ≡ s.words
    pub views : t.views ≡ slice_set (slice_set s.views a (joining old other)) b (fresh 0)

module _ {I : Type 0} (ops : Ops I) (sums : List I) where
  -- `show` by the seat a: a store of the word that says the chunk's sum
  pub record RunsShow (a c : ℕ) (s t : StatusTable) : Type 0 where
    pub old : LookView
    pub seat : HasView s a old
    pub weighs : 0 < old.share
    pub chunk : c < length sums
    pub sum : I
    pub is_sum : IsSum ops sums c sum
    pub after : t ≡ moved s c (4 * ops.code sum + 1) a (showing old c)

  -- `seal` by the seat a: a store of the word that says the join up to the chunk
  pub record RunsSeal (a c : ℕ) (s t : StatusTable) : Type 0 where
    pub old : LookView
    pub seat : HasView s a old
    pub weighs : 0 < old.share
    pub chunk : c < length sums
    pub shown : 0 < times c old.shown
    pub prefix : I
    pub is_prefix : IsPrefix ops sums c prefix
    pub after : t ≡ moved s c (4 * ops.code prefix + 2) a (sealing old c)

  -- `look` by the seat a: a load, of which the answer says what was found
  pub record RunsLook (a j : ℕ) (s : StatusTable) (answer : Look I) (t : StatusTable) : Type 0 where
    pub old : LookView
    pub seat : HasView s a old
    pub weighs : 0 < old.share
    pub chunk : j < length sums
    pub found : Found ops sums j (slice_index s.words j) answer
    pub after : t ≡ moved s j (slice_index s.words j) a (looking old j (slice_index s.words j))

-- `split` of the status board: the new seat has the next number
pub record RunsStatusSplit (a n : ℕ) (s : StatusTable) (number : ℕ) (t : StatusTable) : Type 0 where
  pub old : LookView
  pub seat : HasView s a old
  pub some_part : 1 ≤ n
  pub less : n < old.share
  pub next : number ≡ length s.views
  pub after : t ≡ seated s (slice_set s.views a (leaving old n) ++ blank n ∷ [])

-- `join` of the status board
pub record RunsStatusJoin (a b : ℕ) (s t : StatusTable) : Type 0 where
  pub old : LookView
  pub other : LookView
  pub seat : HasView s a old
  pub that : HasView s b other
  pub apart : ¬ (a ≡ b)
  pub weighs : 0 < old.share
  pub that_weighs : 0 < other.share
  pub after : t ≡ seated s (slice_set (slice_set s.views a (uniting old other)) b (blank 0))
