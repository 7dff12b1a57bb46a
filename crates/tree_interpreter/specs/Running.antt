-- How the plain interpreter's answers stand to the meaning: the variables in scope, and how a call ends.
use Rattle.std.specs.Prelude.{◌≡◌, ℕ, ℤ, List, [], ◌∷◌, ◌++◌, map, Option, Some, None, option_map, Result, Ok, Err, bytes_eq, find, slice_index, slice_set, reverse}
use Rattle.source_meaning.specs.Scope.{Scope, Variable}
use Rattle.source_meaning.specs.Meaning.{Deep as AtDeep, More as AtMore, Outcome as Ending, Ended as EndedWith, Stopped, End, Table}
use Rattle.source_meaning.specs.Operators.{word_of}
use Rattle.source_meaning.specs.declared.kinds.ValueType.TheVariants.{Int}
use Rattle.tree_interpreter.specs.declared.names.Named.{Named}
use Rattle.tree_interpreter.specs.declared.names.Names.{Names}
use Rattle.tree_interpreter.specs.declared.interpreter.Stop.{Stop}
use Rattle.tree_interpreter.specs.declared.interpreter.Stop.TheVariants.{Deep, More, NoMemory}
use Rattle.tree_interpreter.specs.declared.interpreter.Outcome.{Outcome}
use Rattle.tree_interpreter.specs.declared.interpreter.Outcome.TheVariants.{Ended, Deep as DeepAnswer, More as MoreAnswer}

-- the names in scope with their numbers, the innermost first
abbrev pub named_in : List Named → List (List ℕ × ℕ)
named_in vs = map (λ v. (v.name.now, v.number)) (reverse vs)

abbrev pub named : Names → List (List ℕ × ℕ)
named ns = named_in ns.all.items

-- the number of the innermost variable of a name
abbrev pub number_named : List (List ℕ × ℕ) → List ℕ → Option ℕ
number_named ns x = option_map (λ n. n.1) (find (λ n. bytes_eq n.0 x) ns)

-- the names that are left where the innermost goes out of scope
abbrev pub outer : List (List ℕ × ℕ) → List (List ℕ × ℕ)
outer [] = []
outer (n ∷ ns) = ns

-- what of a variable decides where its value stands
abbrev pub name_of : Variable → List ℕ × ℕ
name_of v = (v.name, v.number)

abbrev pub variable_named : List ℕ × ℕ → Variable
variable_named n = record { name = n.0; type = Int; number = n.1; level = 0; at = 0 }

-- a scope with these names, where this many variables were declared
abbrev pub scope_with : List (List ℕ × ℕ) → ℕ → Scope
scope_with ns next = record { variables = map variable_named ns; next = next; level = 0 }

-- these words were put behind a list of numbers
abbrev pub AreAdded : List ℤ → List ℕ → List ℤ → Type 0
AreAdded old words new = map word_of new ≡ map word_of old ++ words

-- the first ones of these words were
pub record AreBegun (old : List ℤ) (words : List ℕ) (new : List ℤ) : Type 0 where
  pub said : List ℕ
  pub unsaid : List ℕ
  pub all : words ≡ said ++ unsaid
  pub added : AreAdded old said new

-- a word was put behind the others, or nothing has changed
abbrev pub HasSaid : {E : Type 0} → List ℤ → ℕ → Result (Unit {0}) E → List ℤ → Type 0
HasSaid old word (Ok done) new = AreAdded old (word ∷ []) new
HasSaid old word (Err fault) new = new ≡ old

-- The answer of a call is its value, or where it stops, and the numbers that it prints are behind those of before.
-- Out of memory, the first ones of them are.
abbrev pub CallsTo : End → List ℤ → List ℤ → Result ℕ Stop → Type 0
CallsTo e old new (Ok v) = (e.outcome ≡ EndedWith v) × AreAdded old e.printed new
CallsTo e old new (Err Deep) = (e.outcome ≡ Stopped AtDeep) × AreAdded old e.printed new
CallsTo e old new (Err More) = (e.outcome ≡ Stopped AtMore) × AreAdded old e.printed new
CallsTo e old new (Err NoMemory) = AreBegun old e.printed new

-- the outcome that an answer stands for, values as words
abbrev pub told : Outcome → Ending
told (Ended v) = EndedWith (word_of v)
told DeepAnswer = Stopped AtDeep
told MoreAnswer = Stopped AtMore

-- what a walk answers, with the numbers before it and behind it: the outcome, with all that is printed; or out of
-- memory, with the first of it
abbrev pub WalksTo : {E : Type 0} → End → List ℤ → List ℤ → Result Outcome E → Type 0
WalksTo e old new (Ok o) = (told o ≡ e.outcome) × AreAdded old e.printed new
WalksTo e old new (Err fault) = AreBegun old e.printed new

-- the value of the variable of a number, and the table with another value there; without a number 0, and the same table
abbrev pub value_numbered : Option ℕ → Table → ℕ
value_numbered None t = 0
value_numbered (Some n) t = slice_index t n

abbrev pub stored_numbered : Option ℕ → ℕ → Table → Table
stored_numbered None x t = t
stored_numbered (Some n) x t = slice_set t n x
