use Rattle.std.proofs.Common.{◌≡◌, ◌++◌, ◌+◌, ◌*◌, ℕ, ◌∙◌, ap, length, rules}
use Rattle.std.proofs.lemmas.Result.{on_ok_weaker}
use Rattle.std.specs.Prelude.{codes, decimal}
use Rattle.std.specs.Result.{OnOk}
use Rattle.pass_page.specs.Page.{deepest}
use Rattle.pass_page.proofs.Told.{behind, last_part}
use Rattle.pass_page.proofs.tree.push_canvas.Goals as goal

pub returns : goal.returns
returns c =
    let old = c.args.out.now.items in
    let first = codes "<svg id=tree width=" in
    let second = decimal (16 * deepest c.args.levels.now + 180) in
    let third = codes " height=" in
    let fourth = decimal (20 * length c.args.levels.now) in
    let fifth = codes ">\n" in
    let wide : c.from.result ≡ deepest c.args.levels.now = search rules in
    let width = c.in_ok-push_decimal.ensures ∙ ap (λ (n : ℕ). c.extend_from_slice.new.self.items ++ decimal (16 * n + 180)) wide in
    let written_second : c.push_decimal.new.out.items ≡ old ++ (first ++ second) = behind old (first) second c.extend_from_slice.new.self.items c.push_decimal.new.out.items c.in_ok-extend_from_slice.ensures.items width in
    let written_third : c.extend_from_slice-2.new.self.items ≡ old ++ (first ++ second ++ third) = behind old (first ++ second) third c.push_decimal.new.out.items c.extend_from_slice-2.new.self.items written_second c.in_ok-extend_from_slice-2.ensures.items in
    let written_fourth : c.push_decimal-2.new.out.items ≡ old ++ (first ++ second ++ third ++ fourth) = behind old (first ++ second ++ third) fourth c.extend_from_slice-2.new.self.items c.push_decimal-2.new.out.items written_third c.in_ok-push_decimal-2.ensures in
    let last : OnOk c.extend_from_slice-3.result (c.extend_from_slice-3.new.self.items ≡ c.push_decimal-2.new.out.items ++ fifth) = last_part c.extend_from_slice-3.result c.push_decimal-2.new.out.items fifth c.extend_from_slice-3.new.self.items c.extend_from_slice-3.ensures.items in
    on_ok_weaker c.extend_from_slice-3.result (λ h. behind old (first ++ second ++ third ++ fourth) fifth c.push_decimal-2.new.out.items c.extend_from_slice-3.new.self.items written_fourth h) last
