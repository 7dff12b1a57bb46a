use Rattle.std.proofs.Common.{◌∙◌, ◌+◌, ◌++◌, ℕ, List, [], drop, refl, sym, ap, subst, arith, append_assoc, append-nil}
use Rattle.glue_summary.specs.declared.behind.Behind.{Behind}
use Rattle.glue_summary.specs.Pieces.{at_begin}
use Rattle.table_text.specs.Members.{members_of}
use Rattle.table_text.specs.Readings.{AreWritten}
use Rattle.table_text.proofs.Growing.{first_of_rest, no_rest}
use Rattle.table_text.proofs.readings.readings.Goals as goal

pub loop-b-preserved : goal.loop-b-preserved
loop-b-preserved c = λ rest more.
    let g = c.args.grammar.now in
    let member = members_of c.args.outlines.now.sets in
    let tokens = c.args.tokens.now in
    let i = c.loop-b.b-index in
    let w = c.in_ok-write_token.ensures in
    let test = c.loop-b-test.true in
    subst (λ (ps : List ℕ). AreWritten g member at_begin tokens ps) (sym (ap (λ (ps : List ℕ). ps ++ rest) w.1 ∙ append_assoc c.loop-b.productions.items w.0 rest))
    (c.loop-b.invariant (w.0 ++ rest) (subst (λ (ts : List ℕ). AreWritten g member c.loop-b.last ts (w.0 ++ rest)) (sym (first_of_rest tokens i _ (omega arith)))
    (w.0, rest, refl, w.2, subst (λ (k : Behind). AreWritten g member k (drop (i + 1) tokens) rest) c.next-last.ensures more)))

pub returns : goal.returns
returns c =
    let g = c.args.grammar.now in
    let member = members_of c.args.outlines.now.sets in
    let tokens = c.args.tokens.now in
    let test = c.loop-b-test.false in
    subst (λ (ps : List ℕ). AreWritten g member at_begin tokens ps) (append-nil c.loop-b.productions.items)
    (c.loop-b.invariant [] (subst (λ (ts : List ℕ). AreWritten g member c.loop-b.last ts []) (sym (no_rest tokens c.loop-b.b-index (omega arith))) refl))
