use Rattle.std.proofs.Common.{◌≡◌, ◌++◌, ◌+◌, ◌*◌, ℕ, ◌∙◌, ap, rules}
use Rattle.std.proofs.lemmas.Result.{on_ok_weaker}
use Rattle.std.specs.Prelude.{codes, decimal}
use Rattle.std.specs.Result.{OnOk}
use Rattle.pass_page.specs.Page.{escaped}
use Rattle.pass_page.proofs.Told.{behind, last_part}
use Rattle.pass_page.proofs.tree.push_node.Goals as goal

pub returns : goal.returns
returns c =
    let old = c.args.out.now.items in
    let first = codes "<g transform='translate(" in
    let second = decimal (16 * c.args.spot.level + 20) in
    let third = codes "," in
    let fourth = decimal (20 * c.args.spot.line + 14) in
    let fifth = codes ")'><path d='M-4-4h-16v" in
    let sixth = decimal (20 * c.args.spot.up) in
    let seventh = codes "'/><text>" in
    let eighth = escaped c.args.kind.now in
    let ninth = codes "</text></g>\n" in
    let across : c.from.result ≡ c.args.spot.level = search rules in
    let down : c.from-2.result ≡ c.args.spot.line = search rules in
    let long : c.from-3.result ≡ c.args.spot.up = search rules in
    let x = c.in_ok-push_decimal.ensures ∙ ap (λ (n : ℕ). c.extend_from_slice.new.self.items ++ decimal (16 * n + 20)) across in
    let y = c.in_ok-push_decimal-2.ensures ∙ ap (λ (n : ℕ). c.push.new.self.items ++ decimal (20 * n + 14)) down in
    let path = c.in_ok-push_decimal-3.ensures ∙ ap (λ (n : ℕ). c.extend_from_slice-2.new.self.items ++ decimal (20 * n)) long in
    let written_second : c.push_decimal.new.out.items ≡ old ++ (first ++ second) = behind old (first) second c.extend_from_slice.new.self.items c.push_decimal.new.out.items c.in_ok-extend_from_slice.ensures.items x in
    let written_third : c.push.new.self.items ≡ old ++ (first ++ second ++ third) = behind old (first ++ second) third c.push_decimal.new.out.items c.push.new.self.items written_second c.in_ok-push.ensures.items in
    let written_fourth : c.push_decimal-2.new.out.items ≡ old ++ (first ++ second ++ third ++ fourth) = behind old (first ++ second ++ third) fourth c.push.new.self.items c.push_decimal-2.new.out.items written_third y in
    let written_fifth : c.extend_from_slice-2.new.self.items ≡ old ++ (first ++ second ++ third ++ fourth ++ fifth) = behind old (first ++ second ++ third ++ fourth) fifth c.push_decimal-2.new.out.items c.extend_from_slice-2.new.self.items written_fourth c.in_ok-extend_from_slice-2.ensures.items in
    let written_sixth : c.push_decimal-3.new.out.items ≡ old ++ (first ++ second ++ third ++ fourth ++ fifth ++ sixth) = behind old (first ++ second ++ third ++ fourth ++ fifth) sixth c.extend_from_slice-2.new.self.items c.push_decimal-3.new.out.items written_fifth path in
    let written_seventh : c.extend_from_slice-3.new.self.items ≡ old ++ (first ++ second ++ third ++ fourth ++ fifth ++ sixth ++ seventh) = behind old (first ++ second ++ third ++ fourth ++ fifth ++ sixth) seventh c.push_decimal-3.new.out.items c.extend_from_slice-3.new.self.items written_sixth c.in_ok-extend_from_slice-3.ensures.items in
    let written_eighth : c.push_escaped.new.out.items ≡ old ++ (first ++ second ++ third ++ fourth ++ fifth ++ sixth ++ seventh ++ eighth) = behind old (first ++ second ++ third ++ fourth ++ fifth ++ sixth ++ seventh) eighth c.extend_from_slice-3.new.self.items c.push_escaped.new.out.items written_seventh c.in_ok-push_escaped.ensures in
    let last : OnOk c.extend_from_slice-4.result (c.extend_from_slice-4.new.self.items ≡ c.push_escaped.new.out.items ++ ninth) = last_part c.extend_from_slice-4.result c.push_escaped.new.out.items ninth c.extend_from_slice-4.new.self.items c.extend_from_slice-4.ensures.items in
    on_ok_weaker c.extend_from_slice-4.result (λ h. behind old (first ++ second ++ third ++ fourth ++ fifth ++ sixth ++ seventh ++ eighth) ninth c.push_escaped.new.out.items c.extend_from_slice-4.new.self.items written_eighth h) last
