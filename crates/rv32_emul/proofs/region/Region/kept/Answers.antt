use Rattle.std.proofs.Common.{subst, rules}
use Rattle.std.specs.Prelude.{MatchOption}
use Rattle.rv_isa.specs.Memory.{Region}
use Rattle.rv32_emul.specs.Kept.{IsInstruction}
use Rattle.rv32_emul.proofs.Keeping.{kept-at}
use Rattle.rv32_emul.proofs.region.Region.kept.Goals as goal

pub returns-then-index-len : goal.returns-then-index-len
returns-then-index-len c =
    let r : Region = record { start = c.self.inside.start; bytes = c.self.inside.bytes.items; readable = c.self.inside.readable; writable = c.self.inside.writable; executable = c.self.inside.executable } in
    subst (λ (q : Region). MatchOption c.index.result.now (Unit {0}) (λ i. IsInstruction i q c.args.address)) c.self.view_is
    (kept-at c.self.inside.code.items r c.args.address c.index.result.now c.self.invariant c.requires c.if-address-self.false (search rules) c.index.ensures)
