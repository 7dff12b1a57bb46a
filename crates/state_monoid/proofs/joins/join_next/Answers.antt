use Rattle.std.proofs.Common.{◌≡◌, ◌∙◌, ◌++◌, ◌*◌, ◌<◌, List, ℕ, [], Vec, Global, OnOk, length, take, drop, map, All, sym, subst}
use Rattle.std.specs.Prelude.{slice_index, slice_index_or}
use Rattle.state_monoid.proofs.Joining.{column_read}
use Rattle.state_monoid.proofs.joins.join_next.Goals as goal

pub append-requires-clause-codes : goal.append-requires-clause-codes
append-requires-clause-codes c =
    let is : c.deref.result.now ≡ slice_index_or (map (λ (column : Vec ℕ Global). column.items) c.args.columns.now) c.args.origin.letter [] =
    c.deref.ensures.value ∙ column_read (λ (column : Vec ℕ Global). column.items) c.args.columns.now c.args.origin.letter c.index-columns-origin.result c.index-columns-origin.is c.requires.letter in
    subst (λ (l : List ℕ). All (λ code. code < length l) c.args.joins.now.items) (sym is) c.requires.codes

pub returns : goal.returns
returns c =
    let is : c.deref.result.now ≡ slice_index_or (map (λ (column : Vec ℕ Global). column.items) c.args.columns.now) c.args.origin.letter [] =
    c.deref.ensures.value ∙ column_read (λ (column : Vec ℕ Global). column.items) c.args.columns.now c.args.origin.letter c.index-columns-origin.result c.index-columns-origin.is c.requires.letter in
    subst (λ (l : List ℕ). OnOk c.append.result (c.append.new.joins.items ≡ c.args.joins.now.items ++ map (slice_index l) (take c.args.count (drop (c.args.origin.before * c.args.count) c.args.joins.now.items)))) is c.append.ensures
