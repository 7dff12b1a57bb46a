-- The type that a declaration names stands where the walk looks for it.
use Rattle.std.proofs.Common.{◌≡◌, Bool, true, false, List, [], ◌∷◌, ◌++◌, refl, ap, ◌∙◌, append_assoc}
use Rattle.std.specs.Prelude.{if◌then◌else◌}
use Rattle.source_meaning.specs.Grammar.{Nonterminal, Params, PTail, Parameter, TypeName, Block, Symbol, t, n, Production, left, right, Tree, node, Forest, done, leaf, tree, left_parse, forest_parse, fn, param, stmt_var, params_some, params_none, ptail_some, ptail_none, type_int, type_bool, block_braces}
use Rattle.row_laws.specs.Emitted.{type_of, part, parts}
use Rattle.row_laws.specs.Joins.{first_is}
use Rattle.row_laws.specs.Along.{type_below}
use Rattle.row_laws.specs.Types.{first_type}
use Rattle.row_walk.specs.Marks.{is_block, body_type, type_ahead}

-- nonterminals below which no block stands
abbrev is_plain : Nonterminal → Bool
is_plain Params = true
is_plain PTail = true
is_plain Parameter = true
is_plain TypeName = true
is_plain a = false

abbrev are_plain : List Symbol → Bool
are_plain [] = true
are_plain (t k ∷ ss) = are_plain ss
are_plain (n a ∷ ss) = if is_plain a then are_plain ss else false

both_plain : (b c : Bool) → (if b then c else false) ≡ true → (b ≡ true) × (c ≡ true)
both_plain true c e = (refl, e)
both_plain false c e = absurd (cc)

plain_parts : (p : Production) → is_plain (left p) ≡ true → (are_plain (right p) ≡ true) × (is_block p ≡ false)
plain_parts params_some e = (refl, refl)
plain_parts params_none e = (refl, refl)
plain_parts ptail_some e = (refl, refl)
plain_parts ptail_none e = (refl, refl)
plain_parts param e = (refl, refl)
plain_parts type_int e = (refl, refl)
plain_parts type_bool e = (refl, refl)
plain_parts p e = absurd (cc)

no_block : {a : Nonterminal} (r : Tree a) (qs : List Production) → is_plain a ≡ true → first_is is_block (left_parse r ++ qs) ≡ false
no_block (node p f) qs e = (plain_parts p e).1

forest_no_block : {ss : List Symbol} (f : Forest ss) (qs : List Production) → are_plain ss ≡ true → first_is is_block qs ≡ false → first_is is_block (forest_parse f ++ qs) ≡ false
forest_no_block done qs e h = h
forest_no_block (leaf l f) qs e h = forest_no_block f qs e h
forest_no_block (tree {a} {ss} r f) qs e h = ap (λ l. first_is is_block l) (append_assoc (left_parse r) (forest_parse f) qs) ∙ no_block r (forest_parse f ++ qs) (both_plain (is_plain a) (are_plain ss) e).0

mutual
  past_plain : {a : Nonterminal} (r : Tree a) (qs : List Production) → is_plain a ≡ true → first_is is_block qs ≡ false → body_type (left_parse r ++ qs) ≡ body_type qs
  past_plain (node p f) qs e h =
      let q = plain_parts p e in
      ap (λ (b : Bool). if b then type_of p else body_type (forest_parse f ++ qs)) (forest_no_block f qs q.0 h)
      ∙ forest_past f qs q.0 h

  forest_past : {ss : List Symbol} (f : Forest ss) (qs : List Production) → are_plain ss ≡ true → first_is is_block qs ≡ false → body_type (forest_parse f ++ qs) ≡ body_type qs
  forest_past done qs e h = refl
  forest_past (leaf l f) qs e h = forest_past f qs e h
  forest_past (tree {a} {ss} r f) qs e h =
      let q = both_plain (is_plain a) (are_plain ss) e in
      ap body_type (append_assoc (left_parse r) (forest_parse f) qs)
      ∙ past_plain r (forest_parse f ++ qs) q.0 (forest_no_block f qs q.1 h)
      ∙ forest_past f qs q.1 h

abbrev is_type : Nonterminal → Bool
is_type TypeName = true
is_type a = false

abbrev is_body : Nonterminal → Bool
is_body Block = true
is_body a = false

block_first : (p : Production) → is_body (left p) ≡ true → is_block p ≡ true
block_first block_braces e = refl
block_first p e = absurd (cc)

body_first : {a : Nonterminal} (r : Tree a) (qs : List Production) → is_body a ≡ true → first_is is_block (left_parse r ++ qs) ≡ true
body_first (node p f) qs e = block_first p e

type_by : (p : Production) (f : Forest (right p)) (qs : List Production) → is_type (left p) ≡ true → first_is is_block qs ≡ true → body_type (p ∷ (forest_parse f ++ qs)) ≡ type_of p
type_by type_int (leaf l done) qs e h = ap (λ (b : Bool). if b then type_of type_int else body_type qs) h
type_by type_bool (leaf l done) qs e h = ap (λ (b : Bool). if b then type_of type_bool else body_type qs) h
type_by p f qs e h = absurd (cc)

before_body : {a : Nonterminal} (r : Tree a) (qs : List Production) → is_type a ≡ true → first_is is_block qs ≡ true → body_type (left_parse r ++ qs) ≡ type_of (part r).root
before_body (node p f) qs e h = type_by p f qs e h

root_type : {a : Nonterminal} (r : Tree a) (qs : List Production) → first_type (left_parse r ++ qs) ≡ type_of (part r).root
root_type (node p f) qs = refl

pub ahead_is : (p : Production) (f : Forest (right p)) (qs : List Production) → type_ahead p (forest_parse f ++ qs) ≡ type_below p (parts f)
ahead_is fn (leaf k (leaf x (leaf o (tree ps (leaf c (leaf d (tree ty (tree b done)))))))) qs =
    ap body_type (append_assoc (left_parse ps) (left_parse ty ++ (left_parse b ++ [])) qs)
    ∙ ap (λ l. body_type (left_parse ps ++ l)) (append_assoc (left_parse ty) (left_parse b ++ []) qs ∙ ap (λ l. left_parse ty ++ l) (append_assoc (left_parse b) [] qs))
    ∙ past_plain ps (left_parse ty ++ (left_parse b ++ qs)) refl (no_block ty (left_parse b ++ qs) refl)
    ∙ before_body ty (left_parse b ++ qs) refl (body_first b qs refl)
ahead_is param (leaf k (leaf x (leaf c (tree ty done)))) qs = ap first_type (append_assoc (left_parse ty) [] qs) ∙ root_type ty qs
ahead_is stmt_var (leaf k (leaf x (leaf c (tree ty (leaf z (tree e (leaf m done))))))) qs = ap first_type (append_assoc (left_parse ty) (left_parse e ++ []) qs) ∙ root_type ty ((left_parse e ++ []) ++ qs)
ahead_is p f qs = refl
