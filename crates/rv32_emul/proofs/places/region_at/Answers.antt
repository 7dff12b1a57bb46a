use Rattle.std.proofs.Common.{ℕ, ◌<◌, ◌≤◌, ◌-◌, List, length, get_or, leb, subst, arith, rules}
use Rattle.std.proofs.lemmas.List.{get_or_default}
use Rattle.std.proofs.lemmas.List.Sorted.{IsPartitionPoint-from_clause, IsPartitionedBy-leb}
use Rattle.rv32_emul.specs.declared.places.Place.{Place}
use Rattle.rv32_emul.proofs.Placed.{Parted, none-before, last-only}
use Rattle.rv32_emul.proofs.places.region_at.Goals as goal

pub returns-then-count-eq0 : goal.returns-then-count-eq0
returns-then-count-eq0 c = λ ss apart places.
    let ps : List Place = c.args.places.now in
    let parted = IsPartitionPoint-from_clause (λ (p : Place). leb p.start c.args.address) ps c.partition_point-count.result c.partition_point-count.ensures.partitioned (IsPartitionedBy-leb (λ (p : Place). p.start) ps c.args.address places.0) (λ a r q k. search rules) in
    none-before ss ps c.args.address places (subst (Parted ps c.args.address) c.if-count-eq0.true parted)

pub returns-else-count-eq0 : goal.returns-else-count-eq0
returns-else-count-eq0 c = λ ss apart places.
    let ps : List Place = c.args.places.now in
    let parted = IsPartitionPoint-from_clause (λ (p : Place). leb p.start c.args.address) ps c.partition_point-count.result c.partition_point-count.ensures.partitioned (IsPartitionedBy-leb (λ (p : Place). p.start) ps c.args.address places.0) (λ a r q k. search rules) in
    let first : Place = record { start = 0; region = 0 } in
    let n : ℕ = c.partition_point-count.result in
    let some : 0 < n = omega (arith, c.if-count-eq0.false) in
    let few : n ≤ length ps = c.partition_point-count.ensures.bound in
    last-only ss ps c.args.address n (get_or ps (n - 1) first) apart places parted some few (get_or_default ps (n - 1) first (get_or ps (n - 1) first) (omega (arith, some, few)))
