use Rattle.std.proofs.Common.{◌≡◌, ◌<◌, ◌+◌, ◌++◌, ◌∷◌, [], ℕ, List, Option, length, sym, ap, subst, arith}
use Rattle.ll1_sets.specs.Width.{width_of}
use Rattle.llp_wide.specs.Triples.{AreTriplesUpTo}
use Rattle.llp_wide.specs.WideEntries.{triple_place}
use Rattle.llp_wide.proofs.TripleLists.{next_row, next_triple, triples_more}
use Rattle.llp_wide.proofs.triples.Triples.add_row.Goals as goal

pub loop-a-preserved : goal.loop-a-preserved
loop-a-preserved c =
    let g = c.args.grammar.now in
    let w = width_of g in
    let b = c.args.layer.now.b in
    let start = c.args.layer.now.start in
    let t = c.loop-a.self in
    let test = c.loop-a-test.true in
    let within : c.loop-a.a < w = (let e = ap length c.terminals.ensures.names in omega arith) in
    let told = c.in_ok-number.ensures g c.requires.llp c.requires.classes c.loop-a.invariant.here in
    let stacks = c.triple_number.new.stacks.items in
    subst (λ (ns : List (Option ℕ)). AreTriplesUpTo g b start (triple_place w c.args.z (c.loop-a.a + 1) b) ns stacks) (sym c.in_ok-push.ensures.items)
    (subst (λ (n : ℕ). AreTriplesUpTo g b start n (t.numbers.items ++ c.in_ok-number.number ∷ []) stacks) (next_triple w c.args.z c.loop-a.a b)
    (triples_more g c.args.z c.loop-a.a b start t.numbers.items t.stacks.items stacks c.in_ok-number.number c.requires.before within c.loop-a.invariant told))

pub returns : goal.returns
returns c =
    let g = c.args.grammar.now in
    let w = width_of g in
    let b = c.args.layer.now.b in
    let start = c.args.layer.now.start in
    let t = c.loop-a.self in
    let end = c.loop-a-test.false in
    let bound = c.loop-a.auto.a-end in
    let same : c.loop-a.a ≡ w = (let e = ap length c.terminals.ensures.names in omega arith) in
    subst (λ (n : ℕ). AreTriplesUpTo g b start n t.numbers.items t.stacks.items) (next_row w c.args.z b)
    (subst (λ (a : ℕ). AreTriplesUpTo g b start (triple_place w c.args.z a b) t.numbers.items t.stacks.items) same c.loop-a.invariant)
