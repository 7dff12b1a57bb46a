use Rattle.std.proofs.Common.{◌≡◌, ◌∙◌, ◌<◌, [], ◌∷◌, slice_get, length, ap, sym, arith}
use Rattle.std.specs.Prelude.{slice_index}
use Rattle.state_monoid.specs.Lawful.{word_is}
use Rattle.state_monoid.specs.Places.{read_is}
use Rattle.state_monoid.proofs.compositions.Compositions.of_byte.Goals as goal

pub returns-clause-value : goal.returns-clause-value
returns-clause-value c =
    let inside : c.args.byte < length c.self.inside.bytes.items = (let len = c.self.invariant.one_for_each in omega arith) in
    let at : slice_index c.self.inside.bytes.items c.args.byte ≡ c.index.result.now = read_is c.self.inside.bytes.items c.args.byte c.index.result.now 0 c.index.ensures inside in
    word_is _ c.args.self.now c.self.view_is (c.args.byte ∷ []) c.index.result.now (ap (slice_get c.self.inside.functions.keys) (sym at) ∙ c.self.invariant.each_byte c.args.byte (omega arith))
