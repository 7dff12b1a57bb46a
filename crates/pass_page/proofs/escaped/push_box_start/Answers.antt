use Rattle.std.proofs.Common.{◌≡◌, ◌++◌}
use Rattle.std.proofs.lemmas.Result.{on_ok_weaker}
use Rattle.std.specs.Prelude.{codes}
use Rattle.std.specs.Result.{OnOk}
use Rattle.pass_page.proofs.Told.{behind, last_part}
use Rattle.pass_page.proofs.escaped.push_box_start.Goals as goal

pub returns : goal.returns
returns c =
    let old = c.args.out.now.items in
    let first = codes "<section><h2>" in
    let second = c.args.name.now in
    let third = codes "</h2>" in
    let written_second : c.extend_from_slice-2.new.self.items ≡ old ++ (first ++ second) = behind old (first) second c.extend_from_slice.new.self.items c.extend_from_slice-2.new.self.items c.in_ok-extend_from_slice.ensures.items c.in_ok-extend_from_slice-2.ensures.items in
    let last : OnOk c.extend_from_slice-3.result (c.extend_from_slice-3.new.self.items ≡ c.extend_from_slice-2.new.self.items ++ third) = last_part c.extend_from_slice-3.result c.extend_from_slice-2.new.self.items third c.extend_from_slice-3.new.self.items c.extend_from_slice-3.ensures.items in
    on_ok_weaker c.extend_from_slice-3.result (λ h. behind old (first ++ second) third c.extend_from_slice-2.new.self.items c.extend_from_slice-3.new.self.items written_second h) last
