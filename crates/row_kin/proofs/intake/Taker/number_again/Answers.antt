-- The goals of `number_again` that stay open.
use Rattle.std.proofs.Common.{◌≡◌, ℕ, ◌<◌, ◌≤◌, ◌⊎◌, inl, inr, sym, ◌∙◌, arith}
use Rattle.std.proofs.lemmas.Bool.{cases_lt}
use Rattle.list_cuts.specs.Cuts.{number_at}
use Rattle.row_kin.specs.Taken.{taker, taken_by, placed_by}
use Rattle.row_kin.proofs.Looking.{none_counted, place_new, place_same}
use Rattle.row_kin.proofs.intake.Taker.number_again.Goals as goal

pub returns-else-intake-gt0-clause-placed : goal.returns-else-intake-gt0-clause-placed
returns-else-intake-gt0-clause-placed c = λ k a. by k a (cases_lt k c.args.start) (cases_lt (taker c.args.self.now.lows.now k) c.args.self.now.row) (cases_lt c.args.self.now.row (taker c.args.self.now.lows.now k))
  where
    by : (k : ℕ) → k < c.args.self.now.row → (k < c.args.start) ⊎ (c.args.start ≤ k) → (taker c.args.self.now.lows.now k < c.args.self.now.row) ⊎ (c.args.self.now.row ≤ taker c.args.self.now.lows.now k) → (c.args.self.now.row < taker c.args.self.now.lows.now k) ⊎ (taker c.args.self.now.lows.now k ≤ c.args.self.now.row) → number_at c.args.places.now k ≡ placed_by c.args.self.now.lows.now c.args.self.now.row k (number_at c.args.places.now k)
    by k a side (inl less) any = sym (place_same c.args.self.now.lows.now c.args.self.now.row k (number_at c.args.places.now k) (omega arith))
    by k a side (inr ge) (inl more) = sym (place_same c.args.self.now.lows.now c.args.self.now.row k (number_at c.args.places.now k) (omega arith))
    by k a (inl before) (inr ge) (inr le) =
        let n = c.if-intake-gt0.false in
        let e = c.requires.count in
        let none : taken_by c.args.self.now.lows.now c.args.self.now.row c.args.start ≡ 0 = omega arith in
        let is : taker c.args.self.now.lows.now k ≡ c.args.self.now.row = omega arith in
        absurd (none_counted c.args.self.now.lows.now c.args.self.now.row c.args.start k none before is)
    by k a (inr own) (inr ge) (inr le) =
        let n = c.if-intake-gt0.false in
        let is : taker c.args.self.now.lows.now k ≡ c.args.self.now.row = omega arith in
        let there = c.requires.own k own a is in
        let same : number_at c.args.places.now k ≡ taken_by c.args.self.now.lows.now c.args.self.now.row k = omega arith in
        same ∙ sym (place_new c.args.self.now.lows.now c.args.self.now.row k (number_at c.args.places.now k) is)
