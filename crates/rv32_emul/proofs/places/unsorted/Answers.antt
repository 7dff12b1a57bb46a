use Rattle.std.proofs.Common.{◌≡◌, ◌+◌, ℕ, List, Vec, Global, sym, ap, subst, ◌∙◌}
use Rattle.std.proofs.lemmas.List.{get_or_default}
use Rattle.rv_isa.specs.Memory.{Region}
use Rattle.rv32_emul.specs.declared.places.Place.{Place}
use Rattle.rv32_emul.specs.Stretches.{stretches, HavePlaces}
use Rattle.rv32_emul.proofs.Placed.{region-skip, region-more}
use Rattle.rv32_emul.proofs.places.unsorted.Goals.{then-not-is_empty+in_ok-push, else-not-is_empty}
use Rattle.rv32_emul.proofs.places.unsorted.Goals as goal

pub loop-region-preserved : goal.loop-region-preserved
loop-region-preserved c =
    let xs : List Region = c.args.regions.now in
    let n : ℕ = c.loop-region.region in
    let r : Region = c.index-regions-region.result in
    elim c.if-not-is_empty.branch [
      | then-not-is_empty+in_ok-push w ↦
          let again : Region = w.index-regions-region-then-not-is_empty.result in
          let same : again ≡ r = w.index-regions-region-then-not-is_empty.is ∙ get_or_default xs n again r c.loop-region-test.true ∙ sym c.index-regions-region.is in
          let begins : w.start.result ≡ r.start = w.start.ensures ∙ ap (λ (q : Region). q.start) same in
          subst (λ (v : Vec Place Global). HavePlaces (stretches xs) (n + 1) v.items) (sym w.places-is)
          (region-more xs n c.loop-region.places.items w.push.new.self.items r w.start.result c.loop-region.invariant c.loop-region-test.true c.index-regions-region.is w.if-not-is_empty.ensures begins w.in_ok-push.ensures.items)
      | else-not-is_empty w ↦
          subst (λ (v : Vec Place Global). HavePlaces (stretches xs) (n + 1) v.items) (sym w.places-is)
          (region-skip xs n c.loop-region.places.items r c.loop-region.invariant c.loop-region-test.true c.index-regions-region.is w.if-not-is_empty.ensures)
    ]
