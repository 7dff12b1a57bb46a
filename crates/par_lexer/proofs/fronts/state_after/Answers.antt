use Rattle.std.proofs.Common.{ap, subst, ◌∙◌}
use Rattle.std.specs.Prelude.{slice_index}
use Rattle.state_monoid.specs.Numbering.{function_of}
use Rattle.par_lexer.specs.Known.{IsBehind, LeadsOver}
use Rattle.par_lexer.proofs.fronts.state_after.Goals as goal

pub returns-in-State : goal.returns-in-State
returns-in-State c = λ text from to part before. subst (IsBehind c.args.functions.now.compositions text from to) c.in-State.is part.behind

pub returns-in-Function : goal.returns-in-Function
returns-in-Function c = λ text from to part before.
    let m = c.args.functions.now.compositions in
    let over : LeadsOver m text from to c.in-Function.number = subst (IsBehind m text from to) c.in-Function.is part.behind in
    c.apply.ensures.value ∙ (ap (slice_index (function_of m c.in-Function.number)) before ∙ over.leads)
