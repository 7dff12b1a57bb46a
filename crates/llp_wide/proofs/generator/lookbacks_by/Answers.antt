use Rattle.std.proofs.Common.{sym, ap, subst, ◌∙◌}
use Rattle.ll1_sets.specs.Width.{width_of}
use Rattle.llp_wide.specs.Triples.{AreLayers}
use Rattle.llp_wide.specs.WideLookbacks.{AreWideLookbacksOf}
use Rattle.llp_wide.proofs.TripleLists.{lookbacks_of_layers}
use Rattle.llp_wide.proofs.generator.lookbacks_by.Goals as goal

pub returns-in-Some : goal.returns-in-Some
returns-in-Some c =
    let g = c.args.grammar.now in
    let t = c.in-Some.triples in
    let layers : AreLayers g (width_of g) t.numbers.items t.stacks.items = rw c.in-Some.is at c.requires.triples in
    let same = c.new.ensures ∙ ap (λ w. record { width = w; numbers = t.numbers.items; stacks = t.stacks.items }) c.width_of.ensures in
    subst (AreWideLookbacksOf g) (sym same) (lookbacks_of_layers g c.requires.well_formed c.requires.ll1 c.requires.llp t.numbers.items t.stacks.items layers)
