use Rattle.std.proofs.Common.{◌≡◌, ℕ, ◌-◌, ◌<◌, ◌^◌, ◌∙◌, false, List, length, map, refl, ap₂, sym, subst, arith}
use Rattle.par_passes.specs.Laws.Calling.{if_ok}
use Rattle.pointer_jumping.specs.declared.jump.Jump.{Jump}
use Rattle.pointer_jumping.specs.Jumps.{StandsBelow, is_open, jump_at, onwards, found_by}
use Rattle.pointer_jumping.proofs.Jumping.{AreRounds, rounds_none, standing_all, within_all, round_more, round_less, found_out}
use Rattle.pointer_jumping.proofs.ancestors.nearest.Goals as goal

pub loop-jumps-init : goal.loop-jumps-init
loop-jumps-init g c = record {
  counted = omega arith;
  rounds = rounds_none c.args.parents.now c.args.marks.now (c.args.steps.now - c.args.steps.now) (omega arith) c.in_ok-jumps.jumps.items c.in_ok-jumps.ensures;
}

pub returns-in_err-any_open-clause-rounds : goal.returns-in_err-any_open-clause-rounds
returns-in_err-any_open-clause-rounds g c =
    let counted = c.loop-jumps.invariant.counted in
    (c.loop-jumps.steps - c.args.steps.now, omega arith, c.loop-jumps.invariant.rounds.few)

pub jump_on-requires-clause-standing : goal.jump_on-requires-clause-standing
jump_on-requires-clause-standing g c κs within =
    let seen = c.as_slice-in-loop-jumps in
    let ahead = c.as_slice-in-loop-jumps-2 in
    let all = standing_all c.args.parents.now c.args.marks.now c.requires.upward (2 ^ (c.loop-jumps.steps - c.args.steps.now)) c.loop-jumps.jumps.items c.loop-jumps.invariant.rounds.jumps_are in
    subst (λ (l : List Jump). (i : ℕ) → i < length seen.result.now → StandsBelow (length l) (jump_at seen.result.now i)) (seen.ensures.value ∙ sym ahead.ensures.value)
    (subst (λ (l : List Jump). (i : ℕ) → i < length l → StandsBelow (length l) (jump_at l i)) (sym seen.ensures.value) all)

pub loop-jumps-smaller : goal.loop-jumps-smaller
loop-jumps-smaller g c =
    let counted = c.loop-jumps.invariant.counted in
    let tick = c.tick.ensures in
    let r = c.loop-jumps.steps - c.args.steps.now in
    let left = c.in_ok-any_open.ensures.left c.if-branch.true in
    round_less c.args.parents.now c.args.marks.now c.requires.upward r c.as_slice.result.now
    (subst (AreRounds c.args.parents.now c.args.marks.now r) (sym c.as_slice.ensures.value) c.loop-jumps.invariant.rounds)
    left.0 left.1 left.2 (c.tick.new.self - c.args.steps.now) (omega arith)

pub loop-jumps-preserved : goal.loop-jumps-preserved
loop-jumps-preserved g c =
    let counted = c.loop-jumps.invariant.counted in
    let tick = c.tick.ensures in
    let r = c.loop-jumps.steps - c.args.steps.now in
    let left = c.in_ok-any_open.ensures.left c.if-branch.true in
    let seen = c.as_slice.result.now in
    record {
      counted = omega arith;
      rounds =
          round_more c.args.parents.now c.args.marks.now c.requires.upward r seen
          (subst (AreRounds c.args.parents.now c.args.marks.now r) (sym c.as_slice.ensures.value) c.loop-jumps.invariant.rounds)
          left.0 left.1 left.2 (c.tick.new.self - c.args.steps.now) (omega arith) c.in_ok-jumps-2.jumps.items
          (c.in_ok-jumps-2.ensures ∙ ap₂ (λ (a b : List Jump). map (onwards a) b) (c.as_slice-in-loop-jumps-2.ensures.value ∙ sym c.as_slice.ensures.value) (c.as_slice-in-loop-jumps.ensures.value ∙ sym c.as_slice.ensures.value));
    }

pub returns-in_err-jumps-2-clause-rounds : goal.returns-in_err-jumps-2-clause-rounds
returns-in_err-jumps-2-clause-rounds g c =
    let counted = c.loop-jumps.invariant.counted in
    let tick = c.tick.ensures in
    let r = c.loop-jumps.steps - c.args.steps.now in
    let left = c.in_ok-any_open.ensures.left c.if-branch.true in
    let seen = c.as_slice.result.now in
    let more =
    round_more c.args.parents.now c.args.marks.now c.requires.upward r seen
    (subst (AreRounds c.args.parents.now c.args.marks.now r) (sym c.as_slice.ensures.value) c.loop-jumps.invariant.rounds)
    left.0 left.1 left.2 (c.tick.new.self - c.args.steps.now) (omega arith) (map (onwards seen) seen) refl in
    (c.tick.new.self - c.args.steps.now, omega arith, more.few)

pub returns-clause-ancestors : goal.returns-clause-ancestors
returns-clause-ancestors g c = if_ok c.answers.result c.answers.ensures (λ v is.
    found_out c.args.parents.now c.args.marks.now c.requires.upward (c.loop-jumps.steps - c.args.steps.now) c.loop-jumps.jumps.items c.loop-jumps.invariant.rounds v.items
    (subst (λ (l : List Jump). v.items ≡ map found_by l) c.as_slice-2.ensures.value is)
    (subst (λ (l : List Jump). (i : ℕ) → i < length l → is_open (jump_at l i) ≡ false) c.as_slice.ensures.value (c.in_ok-any_open.ensures.settled c.if-branch.false)))

pub returns-clause-enough : goal.returns-clause-enough
returns-clause-enough g c =
    let counted = c.loop-jumps.invariant.counted in
    let r = c.loop-jumps.steps - c.args.steps.now in
    if_ok c.answers.result c.answers.ensures (λ v is. (
      r,
      omega arith,
      within_all c.args.parents.now c.args.marks.now c.requires.upward (2 ^ r) c.loop-jumps.jumps.items c.loop-jumps.invariant.rounds.jumps_are
          (subst (λ (l : List Jump). (i : ℕ) → i < length l → is_open (jump_at l i) ≡ false) c.as_slice.ensures.value (c.in_ok-any_open.ensures.settled c.if-branch.false)),
    ))

pub returns-clause-rounds : goal.returns-clause-rounds
returns-clause-rounds g c =
    let counted = c.loop-jumps.invariant.counted in
    (c.loop-jumps.steps - c.args.steps.now, omega arith, c.loop-jumps.invariant.rounds.few)
