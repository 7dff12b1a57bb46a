use Rattle.std.proofs.Common.{◌≡◌, ◌∙◌, ◌+◌, ◌*◌, ◌<◌, ℕ, List, slice_get, length, ap, sym, arith}
use Rattle.std.specs.Prelude.{slice_index, slice_index_or}
use Rattle.state_monoid.specs.Numbering.{Numbering}
use Rattle.state_monoid.specs.Lawful.{join_is}
use Rattle.state_monoid.specs.Places.{read_is, pair_below}
use Rattle.state_monoid.proofs.compositions.Compositions.join.Goals as goal

pub returns-clause-value : goal.returns-clause-value
returns-clause-value c =
    let fs : List (List ℕ) = c.self.inside.functions.keys in
    let joins : List ℕ = c.self.inside.joins.items in
    let same : length fs ≡ length c.args.self.now.functions = ap (λ (m : Numbering). length m.functions) c.self.view_is in
    let first : c.args.a < length fs = (let h = c.requires.first in omega arith) in
    let second : c.args.b < length fs = (let h = c.requires.second in omega arith) in
    let count : c.len.result ≡ length fs = c.len.ensures.len in
    let is : c.index.result.now ≡ slice_index_or joins (c.args.b * length fs + c.args.a) c.index.result.now =
    c.index.ensures ∙ ap (λ (n : ℕ). slice_index_or joins (c.args.b * n + c.args.a) c.index.result.now) count in
    let inside : c.args.b * length fs + c.args.a < length joins = (let below = pair_below (length fs) c.args.a c.args.b first second in let len = c.self.invariant.joined.one_for_each in omega (arith, below, len)) in
    let at : slice_index joins (c.args.b * length fs + c.args.a) ≡ c.index.result.now = read_is joins (c.args.b * length fs + c.args.a) c.index.result.now 0 is inside in
    join_is _ c.args.self.now c.self.view_is c.args.a c.args.b c.index.result.now (ap (slice_get fs) (sym at) ∙ c.self.invariant.joined.each_pair c.args.a c.args.b first second)
