-- The arrays of the compiler's passes as columns, and as tables of text. Lexemes, terminals, productions and left parses are named as by Aho, Lam, Sethi
-- and Ullman; the kinds of nodes as the source language's grammar and its operators are written; registers, spills and frames as in `source_meaning`, and
-- an instruction as in the listings of `rv_text`. The first column has the numbers of the lines. Texts of any length stand last, where no column is padded
-- to them: so a table is linear in what it shows.
use Rattle.std.specs.Prelude.{ℕ, zero, suc, ◌+◌, ◌*◌, Bool, true, false, List, [], ◌∷◌, ◌++◌, length, take, drop, map, filter, flat_map, Option, Some, None, unwrap_or, slice_index_or, codes, decimal, if◌then◌else◌}
use Rattle.std.specs.List.{range_with_len, zip}
use Rattle.std.specs.Option.{option_map_or}
use Rattle.text_columns.specs.Columns.{Column, table_text}
use Rattle.text_columns.specs.declared.column.Align.TheVariants.{Left, Right}
use Rattle.grammar_file.specs.Grammar.{Grammar, Production, begin_mark, production, name_of}
use Rattle.grammar_file.specs.declared.symbols.Symbol.{Symbol}
use Rattle.grammar_file.specs.declared.symbols.Symbol.TheVariants.{Terminal, Nonterminal}
use Rattle.llp_tables.specs.Tables.{Entry}
use Rattle.source_meaning.specs.declared.kinds.ValueType.{ValueType}
use Rattle.source_meaning.specs.declared.kinds.ValueType.TheVariants.{Int, Bool as BoolType}
use Rattle.source_meaning.specs.declared.kinds.UnaryOp.{UnaryOp}
use Rattle.source_meaning.specs.declared.kinds.UnaryOp.TheVariants.{Negate, LogicalNot, BitwiseNot}
use Rattle.source_meaning.specs.declared.kinds.BinaryOp.{BinaryOp}
use Rattle.source_meaning.specs.declared.kinds.BinaryOp.TheVariants.{Plus, Minus, Times, Divide, Remainder, BitwiseAnd, BitwiseOr, BitwiseXor, ShiftLeft, ShiftRight, Less, LessOrEqual, Greater, GreaterOrEqual, Equal, NotEqual}
use Rattle.source_meaning.specs.declared.kinds.Kind.{Kind}
use Rattle.source_meaning.specs.declared.kinds.Kind.TheVariants.{Program, Function, Param, Var, Block, If, IfElse, While, Return, Eval, Print, Assign, And, Or, Binary, Unary, Call, Name, Num, Truth}
use Rattle.source_meaning.specs.Grammar.{terminal_name}
use Rattle.source_meaning.specs.Rows.{Row, parents, is_function}
use Rattle.source_meaning.specs.Frames.{Frame}
use Rattle.ast_rows.specs.NodeRows.{lows_of, parent_numbers}
use Rattle.ast_rows.specs.TokenRows.{TokenRow}
use Rattle.state_monoid.specs.Automaton.{Automaton, run, step}
use Rattle.rv_text.specs.Written.{hexadecimal, line_of}

-- ---- columns

abbrev pub texts : List ℕ → List (List ℕ) → Column
texts title cells = record { title = title; align = Left; cells = cells }

abbrev pub numbers : List ℕ → List ℕ → Column
numbers title ns = record { title = title; align = Right; cells = map decimal ns }

-- a number, or a dash where there is none
abbrev pub number_or_dash : Option ℕ → List ℕ
number_or_dash None = codes "-"
number_or_dash (Some n) = decimal n

abbrev pub numbers_or_dashes : List ℕ → List (Option ℕ) → Column
numbers_or_dashes title ns = record { title = title; align = Right; cells = map number_or_dash ns }

-- the numbers of this many places, from 0 on
abbrev pub places : List ℕ → ℕ → Column
places title count = numbers title (range_with_len 0 count)

-- ---- the states of an automaton

-- the state behind each byte of a text, from state 0 before the first one
abbrev pub states_behind : Automaton → List ℕ → List ℕ
states_behind d text = map (λ k. run d 0 (take (k + 1) text)) (range_with_len 0 (length text))

-- the state behind each byte where this state is before it; the title is the state's number
abbrev pub next_states : Automaton → List ℕ → ℕ → Column
next_states d text s = numbers (decimal s) (map (step d s) text)

-- each byte: its value, the state behind it, and for each state the one behind the byte where that state is before it
abbrev pub state_columns : Automaton → List ℕ → List Column
state_columns d text =
    places (codes "byte") (length text)
    ∷ numbers (codes "value") text
    ∷ numbers (codes "state") (states_behind d text)
    ∷ map (next_states d text) (range_with_len 0 d.states)

-- ---- tokens

-- the bytes of a token of a text
abbrev pub lexeme_of : List ℕ → TokenRow → List ℕ
lexeme_of text t = take t.length (drop t.start text)

-- each token: its terminal as the grammar's text names it, the place of its first byte, how many bytes it has, and these bytes
abbrev pub token_columns : List ℕ → List TokenRow → List Column
token_columns text ts =
    places (codes "token") (length ts)
    ∷ texts (codes "terminal") (map (λ t. terminal_name t.terminal) ts)
    ∷ numbers (codes "start") (map (λ t. t.start) ts)
    ∷ numbers (codes "length") (map (λ t. t.length) ts)
    ∷ texts (codes "text") (map (lexeme_of text) ts) ∷ []

-- ---- the left parse

-- a symbol's name, or nothing where the grammar has no such symbol
abbrev pub symbol_text : Grammar → Symbol → List ℕ
symbol_text g s = unwrap_or (name_of g s) []

-- symbols, each behind a space
abbrev pub symbols_text : Grammar → List Symbol → List ℕ
symbols_text g ss = flat_map (λ s. 32 ∷ symbol_text g s) ss

-- a production as a grammar's text has it
abbrev pub production_text : Grammar → Production → List ℕ
production_text g rule = symbol_text g (Nonterminal rule.left) ++ codes " ->" ++ symbols_text g rule.right

-- the production with a number, or nothing where there is none
abbrev pub rule_text : Grammar → ℕ → List ℕ
rule_text g p = option_map_or (production_text g) (production g p) []

-- each step of a left parse: the number of its production, and the production
abbrev pub parse_columns : Grammar → List ℕ → List Column
parse_columns g ps =
    places (codes "step") (length ps)
    ∷ numbers (codes "production") ps
    ∷ texts (codes "rule") (map (rule_text g) ps) ∷ []

-- ---- pairs of terminals, and what a parse table has for them

-- symbols' names, with one space between two
abbrev pub names_text : Grammar → List Symbol → List ℕ
names_text g [] = []
names_text g (s ∷ ss) = symbol_text g s ++ symbols_text g ss

-- numbers, each behind a space
abbrev pub spaced_text : List ℕ → List ℕ
spaced_text ns = flat_map (λ n. 32 ∷ decimal n) ns

-- numbers, with one space between two
abbrev pub numbers_text : List ℕ → List ℕ
numbers_text [] = []
numbers_text (n ∷ ns) = decimal n ++ spaced_text ns

-- what an entry closes and opens, the uppermost symbol of the stack first, and by which productions; nothing where there is no entry
abbrev pub closes_text : Grammar → Option Entry → List ℕ
closes_text g e = option_map_or (λ x. names_text g x.closes) e []

abbrev pub opens_text : Grammar → Option Entry → List ℕ
opens_text g e = option_map_or (λ x. names_text g x.opens) e []

abbrev pub productions_text : Option Entry → List ℕ
productions_text e = option_map_or (λ x. numbers_text x.productions) e []

-- each terminal of a word, behind the one before it; the mark before a text stands before the first one
abbrev pub pairs_in : List ℕ → List (ℕ × ℕ)
pairs_in word = zip (begin_mark ∷ word) word

-- each of these pairs: the names of both terminals, and its entry
abbrev pub pair_columns : Grammar → (ℕ → ℕ → Option Entry) → List ℕ → List Column
pair_columns g entry word =
    places (codes "pair") (length word)
    ∷ texts (codes "before") (map (λ p. symbol_text g (Terminal p.0)) (pairs_in word))
    ∷ texts (codes "next") (map (λ p. symbol_text g (Terminal p.1)) (pairs_in word))
    ∷ texts (codes "closes") (map (λ p. closes_text g (entry p.0 p.1)) (pairs_in word))
    ∷ texts (codes "opens") (map (λ p. opens_text g (entry p.0 p.1)) (pairs_in word))
    ∷ texts (codes "productions") (map (λ p. productions_text (entry p.0 p.1)) (pairs_in word)) ∷ []

-- ---- rows of the syntax tree

abbrev pub type_text : ValueType → List ℕ
type_text Int = codes "int"
type_text BoolType = codes "bool"

abbrev pub truth_text : Bool → List ℕ
truth_text true = codes "true"
truth_text false = codes "false"

abbrev pub unary_text : UnaryOp → List ℕ
unary_text Negate = codes "-"
unary_text LogicalNot = codes "!"
unary_text BitwiseNot = codes "~"

abbrev pub binary_text : BinaryOp → List ℕ
binary_text Plus = codes "+"
binary_text Minus = codes "-"
binary_text Times = codes "*"
binary_text Divide = codes "/"
binary_text Remainder = codes "%"
binary_text BitwiseAnd = codes "&"
binary_text BitwiseOr = codes "|"
binary_text BitwiseXor = codes "^"
binary_text ShiftLeft = codes "<<"
binary_text ShiftRight = codes ">>"
binary_text Less = codes "<"
binary_text LessOrEqual = codes "<="
binary_text Greater = codes ">"
binary_text GreaterOrEqual = codes ">="
binary_text Equal = codes "=="
binary_text NotEqual = codes "!="

-- what a node is
abbrev pub kind_text : Kind → List ℕ
kind_text Program = codes "program"
kind_text (Function ty) = codes "function " ++ type_text ty
kind_text (Param ty) = codes "parameter " ++ type_text ty
kind_text (Var ty) = codes "variable " ++ type_text ty
kind_text Block = codes "block"
kind_text If = codes "if"
kind_text IfElse = codes "if else"
kind_text While = codes "while"
kind_text Return = codes "return"
kind_text Eval = codes "value"
kind_text Print = codes "print"
kind_text Assign = codes "assign"
kind_text And = codes "and"
kind_text Or = codes "or"
kind_text (Binary op) = codes "binary " ++ binary_text op
kind_text (Unary op) = codes "unary " ++ unary_text op
kind_text Call = codes "call"
kind_text Name = codes "name"
kind_text (Num n) = codes "number " ++ decimal n
kind_text (Truth b) = truth_text b

-- the kind of a row, and its own token; behind the last row, those of the root
abbrev pub kind_in : List Row → ℕ → Kind
kind_in rs k = slice_index_or (map (λ r. r.kind) rs) k Program

abbrev pub token_in : List Row → ℕ → Option ℕ
token_in rs k = slice_index_or (map (λ r. r.token) rs) k None

-- the rows' numbers and what they are, and other columns
abbrev pub rows_with : List Row → List Column → List Column
rows_with rs more = places (codes "row") (length rs) ∷ texts (codes "kind") (map (λ r. kind_text r.kind) rs) ∷ more

-- the bytes of the token with a number, or nothing where there is none
abbrev pub token_text : List ℕ → List TokenRow → ℕ → List ℕ
token_text text [] k = []
token_text text (t ∷ ts) zero = lexeme_of text t
token_text text (t ∷ ts) (suc k) = token_text text ts k

abbrev pub token_text_or_nothing : List ℕ → List TokenRow → Option ℕ → List ℕ
token_text_or_nothing text ts None = []
token_text_or_nothing text ts (Some k) = token_text text ts k

-- the bytes of a row's own token, where it has one
abbrev pub own_text : List ℕ → List TokenRow → Row → List ℕ
own_text text ts r = token_text_or_nothing text ts r.token

-- each row: the numbers of its parent and of its own token, its place among its siblings, the number of the first row of its subtree, and the token's bytes
abbrev pub row_columns : List ℕ → List TokenRow → List Row → List Column
row_columns text ts rs = rows_with rs
    (numbers_or_dashes (codes "parent") (parents 0 rs)
    ∷ numbers_or_dashes (codes "token") (map (λ r. r.token) rs)
    ∷ numbers (codes "place") (map (λ r. r.place) rs)
    ∷ numbers (codes "first") (lows_of (parent_numbers 0 rs))
    ∷ texts (codes "text") (map (own_text text ts) rs) ∷ [])

-- ---- what names mean

-- a row that uses what another one declares, and one that declares a variable
abbrev pub is_use : Kind → Bool
is_use Name = true
is_use Call = true
is_use kind = false

abbrev pub is_declaration : Kind → Bool
is_declaration (Param ty) = true
is_declaration (Var ty) = true
is_declaration kind = false

-- the own token of the row that is meant
abbrev pub token_meant : List Row → Option ℕ → Option ℕ
token_meant rs None = None
token_meant rs (Some j) = token_in rs j

-- the token of the declaration that row k means, by the rows that rows mean
abbrev pub bound_at : List Row → List (Option ℕ) → ℕ → Option ℕ
bound_at rs meant k = if is_use (kind_in rs k) then token_meant rs (slice_index_or meant k None) else None

abbrev pub bound_tokens : List Row → List (Option ℕ) → List (Option ℕ)
bound_tokens rs meant = map (bound_at rs meant) (range_with_len 0 (length rs))

-- the number of the variable that row k declares, by a list with a number for each row
abbrev pub declared_at : List Row → List ℕ → ℕ → Option ℕ
declared_at rs ns k = if is_declaration (kind_in rs k) then Some (slice_index_or ns k 0) else None

abbrev pub declared_numbers : List Row → List ℕ → List (Option ℕ)
declared_numbers rs ns = map (declared_at rs ns) (range_with_len 0 (length rs))

-- each row: the token of the declaration that it means, and the number of the variable that it declares
abbrev pub name_columns : List Row → List (Option ℕ) → List (Option ℕ) → List Column
name_columns rs bound declared = rows_with rs (numbers_or_dashes (codes "declared at token") bound ∷ numbers_or_dashes (codes "variable") declared ∷ [])

-- ---- types

abbrev pub type_or_dash : Option ValueType → List ℕ
type_or_dash None = codes "-"
type_or_dash (Some ty) = type_text ty

-- each row: the type of its value
abbrev pub type_columns : List Row → List (Option ValueType) → List Column
type_columns rs types = rows_with rs (texts (codes "type") (map type_or_dash types) ∷ [])

-- ---- frames

-- the names of functions: the own tokens' bytes of the rows that are functions
abbrev pub function_names : List ℕ → List TokenRow → List Row → List (List ℕ)
function_names text ts rs = map (own_text text ts) (filter (λ r. is_function r.kind) rs)

-- Each function's frame and name: how many slots are registers and how many are words of the frame, how many variables there are, and the bytes
abbrev pub frame_columns : List (List ℕ) → List Frame → List Column
frame_columns names fs =
    places (codes "function") (length fs)
    ∷ numbers (codes "registers") (map (λ f. f.registers) fs)
    ∷ numbers (codes "spills") (map (λ f. f.spills) fs)
    ∷ numbers (codes "variables") (map (λ f. f.locals) fs)
    ∷ numbers (codes "bytes") (map (λ f. f.bytes) fs)
    ∷ texts (codes "name") names ∷ []

-- ---- the pieces of the code

-- each row: how many operands wait while it is computed, how many words its piece of the code has, and the number of the first of them
abbrev pub place_columns : List Row → List ℕ → List ℕ → List ℕ → List Column
place_columns rs ds sizes firsts = rows_with rs (numbers (codes "depth") ds ∷ numbers (codes "words") sizes ∷ numbers (codes "first word") firsts ∷ [])

-- ---- the code

-- where the first word stands in memory
abbrev pub code_start : ℕ
code_start = 0x10054

-- and where the k-th one stands
abbrev pub address : ℕ → ℕ
address k = code_start + 4 * k

abbrev pub hexadecimal_text : ℕ → List ℕ
hexadecimal_text w = codes "0x" ++ hexadecimal w

abbrev pub address_text : ℕ → List ℕ
address_text k = hexadecimal_text (address k)

-- each word: its address, itself, and its instruction
abbrev pub code_columns : List ℕ → List Column
code_columns ws =
    places (codes "word") (length ws)
    ∷ texts (codes "address") (map address_text (range_with_len 0 (length ws)))
    ∷ texts (codes "code") (map hexadecimal_text ws)
    ∷ texts (codes "instruction") (map line_of ws) ∷ []

-- ---- the tables

abbrev pub state_table : Automaton → List ℕ → List ℕ
state_table d text = table_text (state_columns d text)

abbrev pub token_table : List ℕ → List TokenRow → List ℕ
token_table text ts = table_text (token_columns text ts)

abbrev pub pair_table : Grammar → (ℕ → ℕ → Option Entry) → List ℕ → List ℕ
pair_table g entry word = table_text (pair_columns g entry word)

abbrev pub parse_table : Grammar → List ℕ → List ℕ
parse_table g ps = table_text (parse_columns g ps)

abbrev pub row_table : List ℕ → List TokenRow → List Row → List ℕ
row_table text ts rs = table_text (row_columns text ts rs)

abbrev pub name_table : List Row → List (Option ℕ) → List (Option ℕ) → List ℕ
name_table rs bound declared = table_text (name_columns rs bound declared)

abbrev pub type_table : List Row → List (Option ValueType) → List ℕ
type_table rs types = table_text (type_columns rs types)

abbrev pub frame_table : List (List ℕ) → List Frame → List ℕ
frame_table names fs = table_text (frame_columns names fs)

abbrev pub place_table : List Row → List ℕ → List ℕ → List ℕ → List ℕ
place_table rs ds sizes firsts = table_text (place_columns rs ds sizes firsts)

abbrev pub code_table : List ℕ → List ℕ
code_table ws = table_text (code_columns ws)
