use Rattle.std.proofs.Common.{ap, Err}
use Rattle.source_meaning.specs.Lexemes.{lexical_fault}
use Rattle.verdict.specs.Verdict.{lexical}
use Rattle.front_end.proofs.Faulty.{there}
use Rattle.front_end.proofs.phases.lexed.Goals as goal

pub returns-in-Err-Diagnostic-clause-refused : goal.returns-in-Err-Diagnostic-clause-refused
returns-in-Err-Diagnostic-clause-refused g c = λ fold. lexical c.in-Err-Diagnostic.code c.in-Err-Diagnostic.at c.requires.fits (c.in-Err-Diagnostic.ensures.fault c.in-Err-Diagnostic.code c.in-Err-Diagnostic.at (ap Err c.in-Err-Diagnostic.field-0-is))

pub returns-in-Err-Diagnostic-clause-faulty : goal.returns-in-Err-Diagnostic-clause-faulty
returns-in-Err-Diagnostic-clause-faulty g c = λ none.
    there (lexical_fault c.args.source.now) (c.in-Err-Diagnostic.code, c.in-Err-Diagnostic.at) (c.in-Err-Diagnostic.ensures.fault c.in-Err-Diagnostic.code c.in-Err-Diagnostic.at (ap Err c.in-Err-Diagnostic.field-0-is)) none
