use Rattle.std.proofs.Common.{List, ap, sym, ◌∙◌}
use Rattle.rv_isa.specs.Memory.{Region, fetched}
use Rattle.rv32_emul.proofs.Beside.{segments-fetched}
use Rattle.rv32_emul.proofs.memory.MachineMemoryMemory.fetch.Goals as goal

pub returns : goal.returns
returns c =
    c.number.ensures.number ∙ (ap (λ (rs : List Region). fetched rs c.args.address) c.deref.ensures ∙ (sym (segments-fetched c.self.inside.segments.value c.self.inside.stack.items c.args.address) ∙ ap (λ (rs : List Region). fetched rs c.args.address) c.self.view_is))
