use Rattle.kin_pass.specs.Dealt.{IsChanged}
use Rattle.kin_pass.proofs.dealt.work_in_place.Given as goal

abbrev pub ghosts-deal_items : goal.ghosts-deal_items
ghosts-deal_items g a = record { items = a.items.items; good = IsChanged g.F.Fn a.f.now a.items.items }
