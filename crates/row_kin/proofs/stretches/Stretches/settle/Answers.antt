-- The goals of `Stretches::settle` that stay open.
use Rattle.std.proofs.Common.{◌≡◌, ℕ, length, ◌∙◌, subst, arith}
use Rattle.list_cuts.specs.Cuts.{start_of}
use Rattle.row_kin.proofs.Starts.{start_more}
use Rattle.row_kin.specs.Settles.{Done}
use Rattle.row_kin.proofs.Along.{stretches_left}
use Rattle.row_kin.proofs.Told.{parents_told, firsts_told, places_told}
use Rattle.row_kin.proofs.stretches.Stretches.settle.Goals as goal

pub loop-end-preserved : goal.loop-end-preserved
loop-end-preserved c = record {
  here = start_more c.args.self.now.ends.now c.loop-end.end-index;
  done = c.settle.ensures.done;
  rest = stretches_left c.args.self.now.lows.now c.loop-end.parents c.loop-end.firsts c.loop-end.places c.settle.new.parents c.settle.new.firsts c.settle.new.places c.args.self.now.ends.now c.loop-end.end-index (length c.args.self.now.ends.now) c.loop-end-test.true c.loop-end.invariant.rest c.settle.ensures.kept_parents c.settle.ensures.kept_firsts c.settle.ensures.kept_places;
}

pub returns-clause-parents : goal.returns-clause-parents
returns-clause-parents c =
    let e : c.loop-end.end-index ≡ length c.args.self.now.ends.now = (let f = c.loop-end-test.false in omega arith) in
    let q : c.loop-end.from ≡ length c.args.self.now.lows.now = subst (λ (n : ℕ). c.loop-end.from ≡ start_of c.args.self.now.ends.now n) e c.loop-end.invariant.here ∙ c.requires.all in
    let d : Done c.args.self.now.lows.now c.loop-end.parents c.loop-end.firsts c.loop-end.places (length c.args.self.now.lows.now) = subst (Done c.args.self.now.lows.now c.loop-end.parents c.loop-end.firsts c.loop-end.places) q c.loop-end.invariant.done in
    parents_told c.args.self.now.lows.now c.loop-end.parents (omega arith) d.up

pub returns-clause-firsts : goal.returns-clause-firsts
returns-clause-firsts c =
    let e : c.loop-end.end-index ≡ length c.args.self.now.ends.now = (let f = c.loop-end-test.false in omega arith) in
    let q : c.loop-end.from ≡ length c.args.self.now.lows.now = subst (λ (n : ℕ). c.loop-end.from ≡ start_of c.args.self.now.ends.now n) e c.loop-end.invariant.here ∙ c.requires.all in
    let d : Done c.args.self.now.lows.now c.loop-end.parents c.loop-end.firsts c.loop-end.places (length c.args.self.now.lows.now) = subst (Done c.args.self.now.lows.now c.loop-end.parents c.loop-end.firsts c.loop-end.places) q c.loop-end.invariant.done in
    firsts_told c.args.self.now.lows.now c.loop-end.firsts (omega arith) d.first

pub returns-clause-places : goal.returns-clause-places
returns-clause-places c =
    let e : c.loop-end.end-index ≡ length c.args.self.now.ends.now = (let f = c.loop-end-test.false in omega arith) in
    let q : c.loop-end.from ≡ length c.args.self.now.lows.now = subst (λ (n : ℕ). c.loop-end.from ≡ start_of c.args.self.now.ends.now n) e c.loop-end.invariant.here ∙ c.requires.all in
    let d : Done c.args.self.now.lows.now c.loop-end.parents c.loop-end.firsts c.loop-end.places (length c.args.self.now.lows.now) = subst (Done c.args.self.now.lows.now c.loop-end.parents c.loop-end.firsts c.loop-end.places) q c.loop-end.invariant.done in
    places_told c.args.self.now.lows.now c.loop-end.places (omega arith) d.place
