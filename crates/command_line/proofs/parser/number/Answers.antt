use Rattle.std.proofs.Common.{◌≡◌, ◌∙◌, ap, sym, subst, List, [], ℕ, unwrap_or}
use Rattle.std.specs.Str.Parse.{digits_value, without_leading_plus}
use Rattle.clap.specs.Values.{IsUnsignedIn}
use Rattle.clap.specs.Words.{found_of}
use Rattle.clap.proofs.WalkLemmas.{first_value-rows}
use Rattle.command_line.proofs.Numbers.{shown, is_some_of, number_read, is_ok_of, ok_same}
use Rattle.command_line.proofs.parser.number.Goals as goal

pub unwrap-requires : goal.unwrap-requires
unwrap-requires c =
    let got = shown _ c.get_str.result c.requires.text (c.get_str.ensures ∙ first_value-rows (found_of c.args.matches.now) c.args.name.now ∙ c.requires.is_first) in
    is_some_of c.get_str.result got.0 got.1

pub unwrap-requires-2 : goal.unwrap-requires-2
unwrap-requires-2 c =
    let got = shown _ c.get_str.result c.requires.text (c.get_str.ensures ∙ first_value-rows (found_of c.args.matches.now) c.args.name.now ∙ c.requires.is_first) in
    let same : c.unwrap.result.now ≡ c.requires.text = ap (λ o. (unwrap_or o got.0).now) (sym c.unwrap.ensures ∙ got.1) ∙ got.2 in
    is_ok_of c.parse.result _ (number_read c.unwrap.result.now c.parse.result c.parse.ensures.value.0 (subst (λ (t : List ℕ). IsUnsignedIn 0 4294967295 t) (sym same) c.requires.in_range))

pub returns : goal.returns
returns c =
    let got = shown _ c.get_str.result c.requires.text (c.get_str.ensures ∙ first_value-rows (found_of c.args.matches.now) c.args.name.now ∙ c.requires.is_first) in
    let same : c.unwrap.result.now ≡ c.requires.text = ap (λ o. (unwrap_or o got.0).now) (sym c.unwrap.ensures ∙ got.1) ∙ got.2 in
    let whole = number_read c.unwrap.result.now c.parse.result c.parse.ensures.value.0 (subst (λ (t : List ℕ). IsUnsignedIn 0 4294967295 t) (sym same) c.requires.in_range) in
    let number : c.unwrap-2.result ≡ digits_value 10 (without_leading_plus c.unwrap.result.now) = ok_same c.parse.result _ _ c.unwrap-2.ensures whole in
    number ∙ ap (λ (t : List ℕ). digits_value 10 (without_leading_plus t)) (same ∙ sym (ap (λ o. unwrap_or o []) c.requires.is_first))
