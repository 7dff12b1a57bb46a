use Rattle.std.proofs.Common.{List, Some, ◌≡◌, subst}
use Rattle.std.specs.Prelude.{MatchOption, option_map}
use Rattle.rv_isa.specs.Memory.{Region, fetched}
use Rattle.rv_isa.specs.Encoding.{decoded, InRange}
use Rattle.rv32_emul.proofs.Beside.{segments-kept}
use Rattle.rv32_emul.proofs.memory.MachineMemory.kept.Goals as goal

pub returns : goal.returns
returns c =
    subst (λ (rs : List Region). MatchOption c.kept.result (Unit {0}) (λ i. (option_map decoded (fetched rs c.args.pc) ≡ Some (Some i)) × InRange i)) c.self.view_is
    (segments-kept c.kept.result c.self.inside.segments.value c.self.inside.stack.items c.args.pc
    (subst (λ (rs : List Region). MatchOption c.kept.result (Unit {0}) (λ i. (option_map decoded (fetched rs c.args.pc) ≡ Some (Some i)) × InRange i)) c.deref.ensures c.kept.ensures))
