-- Steps of the boards' tables are what their calls are said to do.
use Rattle.std.proofs.Common.{◌≡◌, ℕ, zero, suc, ◌+◌, ◌*◌, ◌%◌, ◌<◌, ◌≤◌, ⊎_elim, List, [], ◌∷◌, length, get_or, set, Bool, true, false, Some, None, slice_get, refl, sym, ap, ◌∙◌, arith, lt_of_not-le}
use Rattle.std.specs.Prelude.{min, nat_lt, if◌then◌else◌, MatchOption}
use Rattle.std.proofs.lemmas.Bool.{ltb-true, ltb-false}
use mathlib.Core.Logic.{dite}
use native.Mathlib.Decide.{dec_le}
use mathlib.Core.Option.{some, some-injective, some-ne-none}
use lib.ListN.{get_elem?}
use Rattle.word_monoid.specs.Monoid.{Ops, IsMonoid}
use Rattle.word_monoid.specs.Folds.{prefix_of}
use Rattle.chunk_seats.specs.declared.views.ClaimView.{ClaimView}
use Rattle.chunk_seats.specs.Tallies.{times}
use Rattle.chunk_seats.specs.Dealing.{Dealt}
use Rattle.chunk_seats.specs.Claims.{claiming, spending}
use Rattle.chunk_seats.specs.Laws.Totals.{total_le, total_part, within_length, times_snoc, one_same}
use Rattle.deal_board.specs.Held.{settled}
use Rattle.deal_board.specs.Rule.{claim_board, Carries}
use Rattle.scan_lookback.specs.declared.views.LookView.{LookView}
use Rattle.scan_lookback.specs.Laws.Lists.{get_there}
use Rattle.scan_lookback.specs.Laws.Coded.{sum_coded, prefix_coded}
use Rattle.board_steps.specs.Parts.{DealTable}
use Rattle.board_steps.specs.Running.{moved, Holds}
use Rattle.board_steps.specs.Ties.{DrawsAreClaims, FinishesAreDone, hand_of, DrawsAreDeals, StoresAreShown, StoresAreSealed, LoadsAreLooks}

-- a view at a place, by the library's words
seat_is : {V : Type 0} (xs : List V) (a : ℕ) (v : V) → get_elem? xs a ≡ some v → slice_get xs a ≡ Some v
seat_is [] a v e = absurd (some-ne-none v (sym e))
seat_is (x ∷ xs) zero v e = ap Some (some-injective x v e)
seat_is (x ∷ xs) (suc a) v e = seat_is xs a v e

told_by : (b : Bool) (k n : ℕ) (old new : ClaimView) → nat_lt n k ≡ b → (n < k → new ≡ claiming old n) → (k ≤ n → new ≡ spending old)
    → MatchOption (if b then Some n else None) (new ≡ spending old) (λ c. new ≡ claiming old c)
told_by true k n old new e below above = below (ltb-true n k e)
told_by false k n old new e below above = above (ltb-false n k e)

pub draws_are_claims : DrawsAreClaims
draws_are_claims d a s t rule r unspent =
    let n : ℕ = get_or s.words 0 0 in
    let found : n ≡ rule.counter = ap (λ (ws : List ℕ). get_or ws 0 0) rule.words in
    let mine = rule.each a r.old r.seat in
    let room = rule.room in let limits = rule.small in
    let next : (n + 1) % 18446744073709551616 ≡ n + 1 = omega arith in
    record {
      old = r.old;
      new = r.new;
      seat = seat_is s.views a r.old r.seat;
      weighs = ⊎_elim (λ (e : r.old.share ≡ 0). omega arith) (λ (e : r.old.share ≡ r.old.weight). omega arith) mine.share_is;
      unspent = unspent;
      drawn = refl;
      told = told_by (nat_lt n d.chunks) d.chunks n r.old r.new refl (λ h. (r.played.1 h).0) (λ h. r.played.2 h);
      after = r.after ∙ ap (λ (w : ℕ). moved s 0 w a r.new) next;
    }

not_zero : (w : ℕ) → (w ≡ 0 → ⊥) → 0 < w
not_zero zero never = absurd (never refl)
not_zero (suc w) never = omega arith

pub finishes_are_done : FinishesAreDone
finishes_are_done d a c s t rule r claimed not_done =
    let n : ℕ = get_or s.words 1 0 in
    let found : n ≡ rule.finished = ap (λ (ws : List ℕ). get_or ws 1 0) rule.words in
    let mine = rule.each a r.old r.seat in
    let fewer = total_le (λ (u : ClaimView). length u.done) (λ (u : ClaimView). length u.claimed) s.views (λ i u e. within_length u.done u.claimed (rule.each i u e).within) in
    let lengths = rule.lengths in let dones = rule.all_done in let limits = rule.small in
    let next : (n + 1) % 18446744073709551616 ≡ n + 1 = omega arith in
    record {
      old = r.old;
      seat = seat_is s.views a r.old r.seat;
      weighs = not_zero r.old.weight (λ e. let idle : times c r.old.claimed ≡ 0 = ap (times c) (mine.idle e).0 in omega arith);
      claimed = claimed;
      not_done = not_done;
      after = r.after ∙ (λ i. moved s 1 (next i) a (r.played.1 i));
    }

-- what is in the hand was not put back before, since each number is claimed once
holds : {T : Type 0} (v : ClaimView) (held : List (ℕ × T)) → Carries v held → ((n : ℕ) → times n v.claimed ≤ 1) → Holds (hand_of held) v
holds v [] carries most = carries
holds v (x ∷ []) carries most =
    (carries, omega (arith, most x.0, ap (times x.0) carries, times_snoc x.0 v.done x.0, one_same x.0))
holds v (x ∷ y ∷ xs) carries most = absurd carries

once_each : (end count : ℕ) (n : ℕ) → (n < end → count ≡ 1) × (end ≤ n → count ≡ 0) → count ≤ 1
once_each end count n h = dite (dec_le end n) (λ over. omega (arith, h.1 over)) (λ under. omega (arith, h.0 (lt_of_not-le under)))

pub draws_are_deals : {T : Type 0} (good : ℕ → T → Type 0) → DrawsAreDeals good
draws_are_deals {T} good items d a s t rule r carries unspent =
    let n : ℕ = get_or s.words 0 0 in
    let dealt : Dealt d (claim_board rule.counter s.views) = rule.dealt in
    let found : n ≡ rule.counter = ap (λ (ws : List ℕ). get_or ws 0 0) rule.words in
    let counted : rule.counter ≡ dealt.counter = ap (λ (ws : List ℕ). get_or ws 0 0) dealt.words in
    let mine = dealt.each a r.old r.seat in
    let room = dealt.room in let limits = dealt.small in
    let next : (n + 1) % 18446744073709551616 ≡ n + 1 = omega arith in
    let most : (m : ℕ) → times m r.old.claimed ≤ 1 = λ m.
    omega (arith, total_part (λ (u : ClaimView). times m u.claimed) s.views a r.old r.seat, once_each (min dealt.counter d.chunks) _ m (dealt.once m)) in
    record {
      old = r.old;
      new = r.new;
      seat = seat_is s.views a r.old r.seat;
      weighs = ⊎_elim (λ (e : r.old.share ≡ 0). omega arith) (λ (e : r.old.share ≡ r.old.weight). omega arith) mine.share_is;
      unspent = unspent;
      holds = holds r.old r.held carries most;
      drawn = refl;
      told = told_by (nat_lt n d.chunks) d.chunks n (settled r.old) r.new refl (λ h. (r.played.0 h).0) (λ h. (r.played.1 h).0);
      words = ap (λ (x : DealTable T). x.words) r.after ∙ ap (λ (w : ℕ). set s.words 0 w) next;
      views = ap (λ (x : DealTable T). x.views) r.after;
    }

module _ {I : Type 0} (ops : Ops I) (laws : IsMonoid ops) where
  pub stores_are_shown : StoresAreShown ops
  stores_are_shown sums sum_codes prefix_codes names a c code s t near is r weighs =
      let x = get_there sums c near in
      let coded : ops.code x.0 ≡ get_or sum_codes c 0 = (sum_coded ops laws sums sum_codes prefix_codes names c x.0 x.1).1 in
      let word : 4 * code + 1 ≡ 4 * ops.code x.0 + 1 = omega arith in
      record {
        old = r.old;
        seat = seat_is s.views a r.old r.seat;
        weighs = weighs;
        chunk = near;
        sum = x.0;
        is_sum = x.1;
        after = r.after ∙ (λ i. moved s c (word i) a (r.played.1 i));
      }

  pub stores_are_sealed : StoresAreSealed ops
  stores_are_sealed sums sum_codes prefix_codes names a c code s t near is r weighs shown =
      let x : I = prefix_of ops sums (c + 1) in
      let coded : ops.code x ≡ get_or prefix_codes c 0 = (prefix_coded ops laws sums sum_codes prefix_codes names c x near refl).2 in
      let word : 4 * code + 2 ≡ 4 * ops.code x + 2 = omega arith in
      record {
        old = r.old;
        seat = seat_is s.views a r.old r.seat;
        weighs = weighs;
        chunk = near;
        shown = shown;
        prefix = x;
        is_prefix = refl;
        after = r.after ∙ (λ i. moved s c (word i) a (r.played.1 i));
      }

  pub loads_are_looks : LoadsAreLooks ops
  loads_are_looks sums sum_codes prefix_codes a j answer s t near r weighs found =
      let w : ℕ = get_or s.words j 0 in
      record {
        old = r.old;
        seat = seat_is s.views a r.old r.seat;
        weighs = weighs;
        chunk = near;
        found = found;
        after = r.after ∙ ap (λ (v : LookView). moved s j w a v) r.played.1;
      }
