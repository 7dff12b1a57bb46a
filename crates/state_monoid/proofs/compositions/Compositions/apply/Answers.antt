use Rattle.std.proofs.Common.{◌≡◌, ◌∙◌, ℕ, List, [], length, ap, sym, arith}
use Rattle.std.specs.Prelude.{slice_index_or}
use Rattle.state_monoid.specs.Numbering.{Numbering}
use Rattle.state_monoid.specs.Lawful.{function_length}
use Rattle.state_monoid.specs.Places.{item_at, get_value}
use Rattle.state_monoid.proofs.compositions.Compositions.apply.Goals as goal

pub apply-requires : goal.apply-requires
apply-requires c =
    let fs : List (List ℕ) = c.args.self.now.functions in
    let keys : c.as_slice.result.now ≡ fs = c.as_slice.ensures.keys ∙ ap (λ (m : Numbering). m.functions) c.self.view_is in
    let is : slice_index_or fs c.args.code [] ≡ c.index-as_slice-code.result = get_value fs c.args.code c.index-as_slice-code.result [] (item_at fs c.as_slice.result.now c.args.code c.index-as_slice-code.result c.index-as_slice-code.is keys c.requires.code) in
    let len : length c.index-as_slice-code.result ≡ c.args.self.now.automaton.states = ap (λ (f : List ℕ). length f) (sym is) ∙ function_length c.args.self.now c.args.code c.requires.code in
    let h = c.requires.state in
    omega arith

pub returns-clause-within : goal.returns-clause-within
returns-clause-within c =
    let fs : List (List ℕ) = c.args.self.now.functions in
    let keys : c.as_slice.result.now ≡ fs = c.as_slice.ensures.keys ∙ ap (λ (m : Numbering). m.functions) c.self.view_is in
    let is : slice_index_or fs c.args.code [] ≡ c.index-as_slice-code.result = get_value fs c.args.code c.index-as_slice-code.result [] (item_at fs c.as_slice.result.now c.args.code c.index-as_slice-code.result c.index-as_slice-code.is keys c.requires.code) in
    let len : length c.index-as_slice-code.result ≡ c.args.self.now.automaton.states = ap (λ (f : List ℕ). length f) (sym is) ∙ function_length c.args.self.now c.args.code c.requires.code in
    let h = c.apply.ensures.within in
    omega arith
