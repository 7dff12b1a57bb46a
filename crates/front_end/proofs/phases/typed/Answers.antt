use Rattle.std.proofs.Common.{◌∙◌, ℕ, sym, subst, ap, Err}
use Rattle.source_meaning.specs.Grammar.{ast}
use Rattle.source_meaning.specs.Scope.{Fault}
use Rattle.source_meaning.specs.Lexemes.{tokens, place_of}
use Rattle.source_meaning.specs.Typing.{type_faults}
use Rattle.verdict.specs.Verdict.{IsVerdict, Diagnosed}
use Rattle.front_end.proofs.Faulty.{some_fault}
use Rattle.front_end.proofs.Judging.{type_told}
use Rattle.front_end.proofs.phases.typed.Goals as goal

pub returns-in-Err-Diagnostic-clause-refused : goal.returns-in-Err-Diagnostic-clause-refused
returns-in-Err-Diagnostic-clause-refused g c = λ t are scoped names fold.
    let text = c.args.source.now in
    let f : Fault = record { at = c.in-Err-Diagnostic.at; code = c.in-Err-Diagnostic.code } in
    let e = c.in-Err-Diagnostic.ensures.fault c.in-Err-Diagnostic.code c.in-Err-Diagnostic.at (ap Err c.in-Err-Diagnostic.field-0-is) (ast t) are.are are.shaped names in
    subst (λ (k : ℕ). IsVerdict fold text (Diagnosed c.in-Err-Diagnostic.code k)) (sym (c.place.ensures c.requires.lexed ∙ ap (place_of text (tokens text)) c.from.ensures))
    (type_told fold text t c.requires.lexed.fits c.requires.lexed.lexical are.tree f are.shaped scoped e)

pub returns-in-Err-Diagnostic-clause-faulty : goal.returns-in-Err-Diagnostic-clause-faulty
returns-in-Err-Diagnostic-clause-faulty g c = λ t are scoped names none.
    let f : Fault = record { at = c.in-Err-Diagnostic.at; code = c.in-Err-Diagnostic.code } in
    let e = c.in-Err-Diagnostic.ensures.fault c.in-Err-Diagnostic.code c.in-Err-Diagnostic.at (ap Err c.in-Err-Diagnostic.field-0-is) (ast t) are.are are.shaped names in
    some_fault (type_faults (ast t)) f e none
