use Rattle.std.proofs.Common.{◌≡◌, ◌∙◌, ℕ, List, map, ap, sym, subst, arith}
use Rattle.source_meaning.specs.Lexemes.{tokens}
use Rattle.source_meaning.specs.Grammar.{grammar, terminal_number}
use Rattle.grammar_file.specs.Derivation.{IsLeftParse}
use Rattle.grammar_file.specs.SyntaxPlace.{IsSyntaxPlace}
use Rattle.grammar_file.specs.declared.file.TheConstants.{G2}
use Rattle.glue_summary.specs.Parsing.{IsFaultBy}
use Rattle.glue_summary.specs.declared.fault.ParseFault.TheVariants.{Syntax}
use Rattle.ast_rows.specs.TokenRows.{TokenRow}
use Rattle.verdict.specs.Verdict.{IsVerdict, Diagnosed, syntactic}
use Rattle.front_end.specs.Laws.Counting.{rows_few}
use Rattle.front_end.proofs.Placing.{terminals_of}
use Rattle.front_end.proofs.phases.parsed.Goals as goal

pub word_of-requires-after_bounds : goal.word_of-requires-after_bounds
word_of-requires-after_bounds g c = let h = rows_few c.args.source.now c.args.tokens.now c.requires.lexed in omega arith

pub returns-in-Ok-clause-ok : goal.returns-in-Ok-clause-ok
returns-in-Ok-clause-ok g c =
    let text = c.args.source.now in
    let well = c.spelled_grammars_are_well_formed.ensures G2.now grammar c.grammar_is_spelled.ensures in
    let is = c.in-Ok.ensures.ok grammar c.requires.tables well c.requires.reduced in
    let word : c.as_slice.result.now ≡ map (λ t. terminal_number t.terminal) (tokens text) =
    c.as_slice.ensures.value ∙ (c.in_ok-word.ensures ∙ (ap (λ (rs : List TokenRow). map (λ r. terminal_number r.terminal) rs) c.requires.lexed.are ∙ terminals_of (tokens text))) in
    let r = c.derivations_have_trees.ensures c.in-Ok.productions.items (tokens text) (subst (λ w. IsLeftParse grammar w c.in-Ok.productions.items) word is.0) in
    (r.0, (r.1, r.2))

pub returns-in-Err-Syntax-clause-refused : goal.returns-in-Err-Syntax-clause-refused
returns-in-Err-Syntax-clause-refused g c = λ fold.
    let text = c.args.source.now in
    let well = c.spelled_grammars_are_well_formed.ensures G2.now grammar c.grammar_is_spelled.ensures in
    let faulty : IsFaultBy c.args.tables.now c.as_slice.result.now (Syntax c.in-Err-Syntax.at) = subst (IsFaultBy c.args.tables.now c.as_slice.result.now) c.in-Err-Syntax.field-0-is c.in-Err-Syntax.ensures.fault in
    let is = faulty grammar c.requires.tables well c.requires.reduced in
    let word : c.as_slice.result.now ≡ map (λ t. terminal_number t.terminal) (tokens text) =
    c.as_slice.ensures.value ∙ (c.in_ok-word.ensures ∙ (ap (λ (rs : List TokenRow). map (λ r. terminal_number r.terminal) rs) c.requires.lexed.are ∙ terminals_of (tokens text))) in
    subst (λ (k : ℕ). IsVerdict fold text (Diagnosed 201 k)) (sym (c.place.ensures c.requires.lexed))
    (syntactic c.in-Err-Syntax.at c.requires.lexed.fits c.requires.lexed.lexical (subst (λ w. IsSyntaxPlace grammar w c.in-Err-Syntax.at) word is))

pub returns-in-Err-Syntax-clause-faulty : goal.returns-in-Err-Syntax-clause-faulty
returns-in-Err-Syntax-clause-faulty g c = λ t tree.
    let text = c.args.source.now in
    let well = c.spelled_grammars_are_well_formed.ensures G2.now grammar c.grammar_is_spelled.ensures in
    let is : IsFaultBy c.args.tables.now c.as_slice.result.now (Syntax c.in-Err-Syntax.at) = subst (IsFaultBy c.args.tables.now c.as_slice.result.now) c.in-Err-Syntax.field-0-is c.in-Err-Syntax.ensures.fault in
    let word : c.as_slice.result.now ≡ map (λ t. terminal_number t.terminal) (tokens text) =
    c.as_slice.ensures.value ∙ (c.in_ok-word.ensures ∙ (ap (λ (rs : List TokenRow). map (λ r. terminal_number r.terminal) rs) c.requires.lexed.are ∙ terminals_of (tokens text))) in
    c.syntax_errors_leave_no_tree.ensures text c.in-Err-Syntax.at (subst (λ w. IsSyntaxPlace grammar w c.in-Err-Syntax.at) word (is grammar c.requires.tables well c.requires.reduced)) t tree
