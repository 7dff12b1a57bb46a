use Rattle.std.specs.List.{range_with_len}
use Rattle.par_passes.specs.Dealt.{IsFilled}
use Rattle.par_passes.proofs.dealt.deal_parts.Given as goal

abbrev pub ghosts-fill_parts : goal.ghosts-fill_parts
ghosts-fill_parts g a = record { items = a.parts.items; good = IsFilled (λ x r. g.F.Fn.post a.filling.now.f.now (x, tt) r) a.filling.now.plan.chunk (range_with_len 0 a.filling.now.len) a.parts.items }
