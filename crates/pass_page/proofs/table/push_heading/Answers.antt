use Rattle.std.proofs.Common.{◌≡◌, ◌++◌}
use Rattle.std.proofs.lemmas.Result.{on_ok_weaker}
use Rattle.std.specs.Prelude.{codes, flat_map}
use Rattle.std.specs.Result.{OnOk}
use Rattle.pass_page.specs.Page.{title_cell}
use Rattle.pass_page.proofs.Told.{behind, last_part}
use Rattle.pass_page.proofs.table.push_heading.Goals as goal

pub returns : goal.returns
returns c =
    let old = c.args.out.now.items in
    let first = codes "<table id=" in
    let second = c.args.name.now in
    let third = codes "><thead><tr>" in
    let fourth = flat_map title_cell c.args.columns.now in
    let fifth = codes "</thead><tbody>\n" in
    let written_second : c.extend_from_slice-2.new.self.items ≡ old ++ (first ++ second) = behind old (first) second c.extend_from_slice.new.self.items c.extend_from_slice-2.new.self.items c.in_ok-extend_from_slice.ensures.items c.in_ok-extend_from_slice-2.ensures.items in
    let written_third : c.extend_from_slice-3.new.self.items ≡ old ++ (first ++ second ++ third) = behind old (first ++ second) third c.extend_from_slice-2.new.self.items c.extend_from_slice-3.new.self.items written_second c.in_ok-extend_from_slice-3.ensures.items in
    let written_fourth : c.push_titles.new.out.items ≡ old ++ (first ++ second ++ third ++ fourth) = behind old (first ++ second ++ third) fourth c.extend_from_slice-3.new.self.items c.push_titles.new.out.items written_third c.in_ok-push_titles.ensures in
    let last : OnOk c.extend_from_slice-4.result (c.extend_from_slice-4.new.self.items ≡ c.push_titles.new.out.items ++ fifth) = last_part c.extend_from_slice-4.result c.push_titles.new.out.items fifth c.extend_from_slice-4.new.self.items c.extend_from_slice-4.ensures.items in
    on_ok_weaker c.extend_from_slice-4.result (λ h. behind old (first ++ second ++ third ++ fourth) fifth c.push_titles.new.out.items c.extend_from_slice-4.new.self.items written_fourth h) last
