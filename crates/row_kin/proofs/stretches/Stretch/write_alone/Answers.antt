-- The goals of `write_alone` that stay open.
use Rattle.std.proofs.Common.{◌≡◌, ℕ, ◌+◌, ◌-◌, ◌<◌, List, length, take, drop, ◌∙◌, ap, arith}
use Rattle.row_kin.proofs.Told.{parent_told, first_told, place_told, parent_within, first_within}
use Rattle.row_kin.proofs.Joined.{sub_many}
use Rattle.row_kin.proofs.Parts.{field_list}
use Rattle.row_kin.proofs.stretches.Stretch.write_alone.Goals as goal

pub shift-requires-clause-fits : goal.shift-requires-clause-fits
shift-requires-clause-fits c = λ k lt.
    let s = c.args.self.now in
    let own : List ℕ = take (s.to - s.from) (drop s.from s.lows.now) in
    let many : length own ≡ s.to - s.from = sub_many s.lows.now s.from s.to c.requires.order c.requires.within in
    let few : k < length own = omega arith in
    let t = parent_told own c.kin_into.new.parents c.kin_into.ensures.parents k few in
    let w = parent_within own k few in
    let f = c.requires.few in
    let i = c.requires.within in
    omega arith

pub shift-requires-2-clause-fits : goal.shift-requires-2-clause-fits
shift-requires-2-clause-fits c = λ k lt.
    let s = c.args.self.now in
    let own : List ℕ = take (s.to - s.from) (drop s.from s.lows.now) in
    let many : length own ≡ s.to - s.from = sub_many s.lows.now s.from s.to c.requires.order c.requires.within in
    let few : k < length own = omega arith in
    let t = first_told own c.kin_into.new.firsts c.kin_into.ensures.firsts k few in
    let w = first_within own k few in
    let f = c.requires.few in
    let i = c.requires.within in
    omega arith

pub returns-clause-parents : goal.returns-clause-parents
returns-clause-parents c =
    let s = c.args.self.now in
    let own : List ℕ = take (s.to - s.from) (drop s.from s.lows.now) in
    let many : length own ≡ s.to - s.from = sub_many s.lows.now s.from s.to c.requires.order c.requires.within in
    field_list s.from own (λ t. t.parent) c.shift.new.numbers (omega arith)
    (λ j lt. c.shift.ensures j (omega arith) ∙ ap (λ (n : ℕ). s.from + n) (parent_told own c.kin_into.new.parents c.kin_into.ensures.parents j lt))

pub returns-clause-firsts : goal.returns-clause-firsts
returns-clause-firsts c =
    let s = c.args.self.now in
    let own : List ℕ = take (s.to - s.from) (drop s.from s.lows.now) in
    let many : length own ≡ s.to - s.from = sub_many s.lows.now s.from s.to c.requires.order c.requires.within in
    field_list s.from own (λ t. t.low) c.shift-2.new.numbers (omega arith)
    (λ j lt. c.shift-2.ensures j (omega arith) ∙ ap (λ (n : ℕ). s.from + n) (first_told own c.kin_into.new.firsts c.kin_into.ensures.firsts j lt))

pub returns-clause-places : goal.returns-clause-places
returns-clause-places c =
    let s = c.args.self.now in
    let own : List ℕ = take (s.to - s.from) (drop s.from s.lows.now) in
    let many : length own ≡ s.to - s.from = sub_many s.lows.now s.from s.to c.requires.order c.requires.within in
    field_list s.from own (λ t. t.place) c.kin_into.new.places (omega arith)
    (place_told own c.kin_into.new.places c.kin_into.ensures.places)
