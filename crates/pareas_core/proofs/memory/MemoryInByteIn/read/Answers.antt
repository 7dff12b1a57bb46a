use Rattle.std.proofs.Common.{drop, sym, ap, ◌∙◌}
use Rattle.pareas_core.specs.Memory.{InMemory}
use Rattle.pareas_core.proofs.Rest.{rest_all}
use Rattle.pareas_core.proofs.MemoryReads.{read_is}
use Rattle.pareas_core.proofs.memory.MemoryInByteIn.read.Goals as goal

pub returns-clause-bytes : goal.returns-clause-bytes
returns-clause-bytes c =
    let left = rest_all c.self.inside.start c.deref-2.result.now ∙ ap (drop c.self.inside.start) c.deref-2.ensures.value in
    let r = read_is c.self.inside.bytes.items _ c.copy_from_slice.new.self c.args.buf.now c.self.inside.start c.min-count.result c.min.result c.self.inside.step left c.copy_from_slice.ensures.after c.min.ensures c.min-count.ensures c.self.invariant.1 in
    (sym (ap (λ (m : InMemory). m.left) c.self.view_is) ∙ sym left ∙ r.0, r.1)
