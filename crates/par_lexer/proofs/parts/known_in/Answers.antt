use Rattle.std.proofs.Common.{◌<◌, length, sym, ◌∙◌, arith}
use Rattle.par_lexer.proofs.Running.{bytes_of}
use Rattle.par_lexer.proofs.Leading.{constant_leads, stretch_leads}
use Rattle.par_lexer.proofs.parts.known_in.Goals as goal

pub returns-then-is_marked : goal.returns-then-is_marked
returns-then-is_marked c =
    let text = c.args.text.now in
    let functions = c.requires.functions in
    let front = c.until_constant-count in
    let below : front.result.1 < length c.args.functions.now.compositions.functions = omega (arith, front.ensures.below, functions.constants.all) in
    constant_leads text (bytes_of text c.type_inv.text) c.args.functions.now.compositions functions.automaton c.args.from c.args.to c.requires.places.0 c.requires.places.1 front.result.0 front.result.1
    front.ensures.count front.ensures.number (functions.constants.each front.result.1 below (sym c.is_marked.ensures ∙ c.if-is_marked.true)) c.apply-state.result _ c.from-then-is_marked.ensures c.apply-state.ensures.value

pub returns-else-is_marked : goal.returns-else-is_marked
returns-else-is_marked c =
    let text = c.args.text.now in
    let functions = c.requires.functions in
    let front = c.until_constant-count in
    let below : front.result.1 < length c.args.functions.now.compositions.functions = omega (arith, front.ensures.below, functions.constants.all) in
    stretch_leads text (bytes_of text c.type_inv.text) c.args.functions.now.compositions functions.automaton c.args.from c.args.to c.requires.places.0 c.requires.places.1 front.result.0 front.result.1
    (front.ensures.all (sym c.is_marked.ensures ∙ c.if-is_marked.false)) front.ensures.number below
