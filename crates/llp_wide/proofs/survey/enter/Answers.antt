use Rattle.std.proofs.Common.{◌≡◌, ℕ, List, true, false, set, get_or, sym, subst, ap, ◌∙◌}
use Rattle.llp_wide.specs.declared.places.Entrance.{Entrance}
use Rattle.llp_wide.specs.Surveys.{Finds, place_of}
use Rattle.llp_wide.proofs.Finding.{finds_new, other_default}
use Rattle.llp_wide.proofs.survey.enter.Goals as goal

pub returns : goal.returns
returns c =
    let e0 = c.args.entrance in
    let marks = c.args.marks.now.items in
    let at : c.place_of-at.result ≡ place_of c.args.count e0 = c.place_of-at.ensures in
    subst (λ (t : ℕ × List Entrance). Finds c.args.count (λ e. e ≡ e0) marks c.args.waiting.now.items (set marks t.0 true) t.1) (λ i. (sym at i, sym c.in_ok-push.ensures.items i))
    (finds_new c.args.count e0 marks c.args.waiting.now.items c.requires.nonterminal c.requires.within
    (other_default marks (place_of c.args.count e0) false c.index.result.now c.requires.within ∙ (ap (λ (n : ℕ). get_or marks n c.index.result.now) (sym at) ∙ (sym c.index.ensures ∙ c.if-index.false))))
