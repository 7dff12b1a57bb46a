-- What the words of a row are made from, by its kind.
use Rattle.std.specs.Prelude.{ℕ, Option, None}
use Rattle.source_meaning.specs.declared.kinds.Kind.{Kind}
use Rattle.source_meaning.specs.declared.kinds.Kind.TheVariants.{Function, Var, While, Return, Assign, Call, Name}
use Rattle.code_rules.specs.RowPieces.{Spots}
use Rattle.rv_select.specs.declared.known.Known.{Known}
use Rattle.rv_select.specs.declared.known.Start.{Start}

-- the number of the variable that it names, assigns or declares
abbrev pub numbered_by : Kind → ℕ → ℕ
numbered_by Name number = number
numbered_by Assign number = number
numbered_by (Var ty) number = number
numbered_by kind number = 0

-- how many arguments are passed: none but by a call
abbrev pub passed_by : Kind → ℕ → ℕ
passed_by Call count = count
passed_by kind count = 0

-- the function that begins behind the row: none but where one ends
abbrev pub begun_by : Kind → Option Start → Option Start
begun_by (Function ty) next = next
begun_by kind next = None

-- what is known of it
abbrev pub read_by : Kind → Known → Known
read_by kind k = record {
  kind = k.kind;
  parent = k.parent;
  place = k.place;
  depth = k.depth;
  frame = k.frame;
  number = numbered_by kind k.number;
  count = passed_by kind k.count;
  next = begun_by kind k.next;
}

-- a place that a loop refers to, a call, and a return
abbrev pub looped_by : Kind → ℕ → ℕ
looped_by While place = place
looped_by kind place = 0

abbrev pub called_by : Kind → ℕ → ℕ
called_by Call place = place
called_by kind place = 0

abbrev pub returned_by : Kind → ℕ → ℕ
returned_by Return place = place
returned_by kind place = 0

-- the places that it refers to
abbrev pub referred_by : Kind → Spots → Spots
referred_by kind s = record { at = s.at; over = s.over; back = looped_by kind s.back; callee = called_by kind s.callee; label = returned_by kind s.label }
