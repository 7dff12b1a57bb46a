use Rattle.std.proofs.Common.{List, Some, subst, ◌≡◌, rules}
use Rattle.std.specs.Prelude.{MatchOption, option_map}
use Rattle.rv_isa.specs.Memory.{Region, fetched}
use Rattle.rv_isa.specs.Encoding.{decoded, InRange}
use Rattle.rv32_emul.proofs.Keeping.{fetched-at}
use Rattle.rv32_emul.proofs.regions.Regions.kept.Goals as goal

pub returns-then-region-len : goal.returns-then-region-len
returns-then-region-len c =
    subst (λ (rs : List Region). MatchOption c.kept.result (Unit {0}) (λ i. (option_map decoded (fetched rs c.args.pc) ≡ Some (Some i)) × InRange i)) c.self.view_is
    (fetched-at c.self.inside.regions.items c.args.region c.args.pc c.index.result.now c.kept.result c.self.invariant.0 (search rules) c.index.ensures c.kept.ensures)
