-- A certificate passes as a whole exactly where it passes in each of its parts.
use Rattle.std.proofs.Common.{◌≡◌, Bool, true, false, ◌&&◌, refl}
use Rattle.grammar_file.specs.Grammar.{Grammar}
use Rattle.llp_tables.specs.Certificate.{Certificate, Accepts, accepted, start_part, productions_from, terminals_part, nonterminals_part}

both : (a b : Bool) → (a && b) ≡ true → (a ≡ true) × (b ≡ true)
both true b h = (refl, h)
both false b h = absurd (cc)

and_both : (a b : Bool) → a ≡ true → b ≡ true → (a && b) ≡ true
and_both true b h k = k
and_both false b h k = absurd (cc)

pub parts_of : (c : Certificate) (g : Grammar) → accepted c g ≡ true → Accepts c g
parts_of c g all =
    let start = both (start_part c g) (productions_from c 1 g.productions && (terminals_part c g && nonterminals_part c g)) all in
    let productions = both (productions_from c 1 g.productions) (terminals_part c g && nonterminals_part c g) start.1 in
    let terminals = both (terminals_part c g) (nonterminals_part c g) productions.1 in
    record { start = start.0; productions = productions.0; terminals = terminals.0; nonterminals = terminals.1 }

pub whole_of : (c : Certificate) (g : Grammar) → Accepts c g → accepted c g ≡ true
whole_of c g parts =
    let nonterminals = and_both (terminals_part c g) (nonterminals_part c g) parts.terminals parts.nonterminals in
    let productions = and_both (productions_from c 1 g.productions) (terminals_part c g && nonterminals_part c g) parts.productions nonterminals in
    and_both (start_part c g) (productions_from c 1 g.productions && (terminals_part c g && nonterminals_part c g)) parts.start productions
