use Rattle.std.proofs.Common.{◌≡◌, ◌+◌, ◌≤◌, ◌++◌, [], ◌∷◌, length, false, arith}
use Rattle.std.specs.Prelude.{sum_by}
use Rattle.std.specs.Ordering.{nat_cmp}
use Rattle.std.specs.BTreeMap.{insert_entry}
use Rattle.elf_file.specs.Load.{most}
use Rattle.elf_file.specs.Earlier.{touches_segment}
use Rattle.elf_file.proofs.Apart.{keeps_more}
use Rattle.elf_file.proofs.earlier.Earlier.with.Goals as goal

pub invariant_of-result : goal.invariant_of-result
invariant_of-result c =
    let pushed : c.push.new.self.items ≡ c.self.inside.segments.items ++ c.args.segment ∷ [] = c.in_ok-push.ensures.items in
    let put : c.insert.new.self.entries ≡ insert_entry nat_cmp c.self.inside.ends.entries c.from.result c.end.result = c.in_ok-insert.ensures.entries in
    let first : c.from.result ≡ c.args.segment.start = grind (arith, c.from.ensures, c.start.ensures) in
    let last : c.end.result ≡ c.args.segment.start + length c.args.segment.bytes = c.end.ensures in
    let clear : touches_segment c.self.inside.segments.items c.args.segment.start (c.args.segment.start + length c.args.segment.bytes) ≡ false = grind (arith, c.requires.apart, c.self.view_is) in
    let few : sum_by (λ s. length s.bytes) c.self.inside.segments.items + length c.args.segment.bytes ≤ most = grind (arith, c.requires.few, c.self.view_is) in
    rw (pushed, put, first, last, c.bytes.ensures) (keeps_more c.self.inside.segments.items c.self.inside.ends.entries c.self.inside.total c.args.segment c.self.invariant c.requires.some clear few)
