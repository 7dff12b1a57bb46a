-- Steps of a status board are events of the core.
use Rattle.std.proofs.Common.{◌≡◌, ℕ, zero, suc, ◌+◌, ◌-◌, ◌*◌, ◌<◌, ◌≤◌, List, [], ◌∷◌, ◌++◌, length, map, get_or, set, true, not, ◌==◌, refl, sym, ap, ◌∙◌, subst, arith, length-set}
use Rattle.std.specs.Prelude.{nat_lt, nat_le}
use Rattle.std.proofs.lemmas.List.{length-map, map-set, map-append, set-get_or}
use Rattle.std.proofs.lemmas.Bool.Decides.{nat_tests}
use Rattle.word_monoid.specs.Monoid.{Ops}
use Rattle.chunk_seats.specs.Tallies.{times}
use Rattle.scan_lookback.specs.declared.views.LookView.{LookView}
use Rattle.scan_lookback.specs.declared.look.Look.{Look}
use Rattle.scan_lookback.specs.declared.look.Look.TheVariants.{Nothing, Sum, Prefix}
use Rattle.scan_lookback.specs.Views as views
use Rattle.scan_lookback.specs.Found.{Found}
use Rattle.board_core.specs.declared.steps.Event.TheVariants.{Show, Look as Looks, Seal, Split, Join}
use Rattle.board_core.specs.declared.steps.Reply.TheVariants.{Looked, Did, NewSeat}
use Rattle.board_core.specs.declared.steps.Status.{Status}
use Rattle.board_core.specs.declared.steps.Status.TheVariants.{X, A, P}
use Rattle.board_core.specs.State.{Seat, State, has, fresh, gone, seat_at, status_at, is_there}
use Rattle.board_core.specs.Steps as core
use Rattle.board_core.specs.Schedules.{is_lawful, does, sum_at, through}
use Rattle.board_core.specs.Sound.{IsTrueOf}
use Rattle.board_core.specs.Laws.Lists.{each-set, each-snoc}
use Rattle.board_steps.specs.Parts.{StatusTable, at_least_one, word_of, look_view, status_part, IsStatusPart}
use Rattle.board_steps.specs.Running.{RunsShow, RunsSeal, RunsLook, RunsStatusSplit, RunsStatusJoin}
use Rattle.board_steps.specs.Events.{seen, IsStatusEvent}
use Rattle.board_steps.proofs.Lists.{value_at, mapped_at, words_set, words_get}
use Rattle.board_steps.proofs.Claiming.{both, three, there_is, apart_is, played, replied}

-- a share that is not spent
abbrev IsWhole : {I : Type 0} → Seat I → Type 0
IsWhole s = s.share ≡ s.weight

shares_whole : (m n : ℕ) → 0 < m → 0 < n → core.shares m n ≡ m + n
shares_whole zero n a b = absurd (omega arith)
shares_whole (suc m) zero a b = absurd (omega arith)
shares_whole (suc m) (suc n) a b = refl

module _ {I : Type 0} (ops : Ops I) (sums : List I) where
  -- what a look tells is the status, since a status says one thing
  same_status : (j word : ℕ) (st : Status I) (found : Look I) → word ≡ word_of ops st → IsTrueOf ops sums j st → Found ops sums j word found → seen found ≡ st
  same_status j word X Nothing e h f = refl
  same_status j word X (Sum x) e h f = absurd (omega (arith, f.0))
  same_status j word X (Prefix x) e h f = absurd (omega (arith, f.0))
  same_status j word (A v) Nothing e h f = absurd (omega (arith, f))
  same_status j word (A v) (Sum x) e h f = ap A (value_at sums j ops.unit x f.1 ∙ sym h)
  same_status j word (A v) (Prefix x) e h f = absurd (omega (arith, f.0))
  same_status j word (P v) Nothing e h f = absurd (omega (arith, f))
  same_status j word (P v) (Sum x) e h f = absurd (omega (arith, f.0))
  same_status j word (P v) (Prefix x) e h f = ap P (f.1 ∙ sym h)

  module _ (c : State I) where
    -- a status is published: the word of its chunk, and the view of the seat
    stored : (a n word : ℕ) (st : Status I) (seat' : Seat I) (v : LookView) (t : StatusTable) → n < length c.statuses → word ≡ word_of ops st → v ≡ look_view ops seat'
        → t ≡ record { words = set (at_least_one (map (word_of ops) c.statuses)) n word; homes = []; views = set (map (look_view ops) c.seats) a v }
        → t ≡ status_part ops record { counter = c.counter; finished = c.finished; statuses = set c.statuses n st; seats = set c.seats a seat' }
    stored a n word st seat' v t near is view e =
        e ∙ ((λ i. record { words = set (at_least_one (map (word_of ops) c.statuses)) n (is i); homes = []; views = set (map (look_view ops) c.seats) a (view i) })
        ∙ (λ i. record { words = words_set ops c.statuses n st near i; homes = []; views = sym (map-set (look_view ops) c.seats a seat') i }))

    module _ (s : StatusTable) (part : IsStatusPart ops sums c s) where
      pub shows : (a n : ℕ) (t : StatusTable) → RunsShow ops sums a n s t → IsStatusEvent ops sums c (Show a n) Did t
      shows a n t r' =
          let r : RunsShow ops sums a n (status_part ops c) t = subst (λ (x : StatusTable). RunsShow ops sums a n x t) part.is r' in
          let seat : Seat I = seat_at c a in
          let is : r.old ≡ look_view ops seat = mapped_at (look_view ops) c.seats a gone r.old r.seat in
          let weight : 0 < seat.weight = subst (λ (v : LookView). 0 < v.share) is r.weighs in
          let chunk : n < length sums = r.chunk in
          let near : n < length c.statuses = omega (arith, part.wide) in
          let in_range : nat_lt n (length sums) ≡ true = grind (arith, nat_tests) in
          let lawful : is_lawful ops sums c (Show a n) ≡ true = both (is_there seat) (nat_lt n (length sums)) (there_is seat.weight weight) in_range in
          let word : 4 * ops.code r.sum + 1 ≡ word_of ops (A (sum_at ops sums n)) = ap (λ (x : I). 4 * ops.code x + 1) (value_at sums n ops.unit r.sum r.is_sum) in
          let leads : t ≡ status_part ops (does ops sums c (Show a n)) = stored a n (4 * ops.code r.sum + 1) (A (sum_at ops sums n)) (core.showing n seat) (views.showing r.old n) t near word (ap (λ (v : LookView). views.showing v n) is) r.after in
          let after : IsStatusPart ops sums (does ops sums c (Show a n)) t = record {
            is = leads;
            wide = length-set c.statuses n (A (sum_at ops sums n)) ∙ part.wide;
            says = each-set (λ j st. IsTrueOf ops sums j st) c.statuses n (A (sum_at ops sums n)) X refl part.says;
            unspent = each-set (λ j u. IsWhole u) c.seats a (core.showing n seat) gone (part.unspent a) part.unspent;
          } in
          record { lawful = lawful; answers = replied ops sums c (Show a n) lawful; leads = subst (λ (x : State I). IsStatusPart ops sums x t) (sym (played ops sums c (Show a n) lawful)) after }

      pub seals : (a n : ℕ) (t : StatusTable) → RunsSeal ops sums a n s t → IsStatusEvent ops sums c (Seal a n) Did t
      seals a n t r' =
          let r : RunsSeal ops sums a n (status_part ops c) t = subst (λ (x : StatusTable). RunsSeal ops sums a n x t) part.is r' in
          let seat : Seat I = seat_at c a in
          let is : r.old ≡ look_view ops seat = mapped_at (look_view ops) c.seats a gone r.old r.seat in
          let weight : 0 < seat.weight = subst (λ (v : LookView). 0 < v.share) is r.weighs in
          let shown : 0 < times n seat.shown = subst (λ (v : LookView). 0 < times n v.shown) is r.shown in
          let chunk : n < length sums = r.chunk in
          let near : n < length c.statuses = omega (arith, part.wide) in
          let lawful : is_lawful ops sums c (Seal a n) ≡ true = both (is_there seat) (has n seat.shown) (there_is seat.weight weight) (there_is (times n seat.shown) shown) in
          let word : 4 * ops.code r.prefix + 2 ≡ word_of ops (P (through ops sums n)) = ap (λ (x : I). 4 * ops.code x + 2) r.is_prefix in
          let leads : t ≡ status_part ops (does ops sums c (Seal a n)) = stored a n (4 * ops.code r.prefix + 2) (P (through ops sums n)) (core.sealing n seat) (views.sealing r.old n) t near word (ap (λ (v : LookView). views.sealing v n) is) r.after in
          let after : IsStatusPart ops sums (does ops sums c (Seal a n)) t = record {
            is = leads;
            wide = length-set c.statuses n (P (through ops sums n)) ∙ part.wide;
            says = each-set (λ j st. IsTrueOf ops sums j st) c.statuses n (P (through ops sums n)) X refl part.says;
            unspent = each-set (λ j u. IsWhole u) c.seats a (core.sealing n seat) gone (part.unspent a) part.unspent;
          } in
          record { lawful = lawful; answers = replied ops sums c (Seal a n) lawful; leads = subst (λ (x : State I). IsStatusPart ops sums x t) (sym (played ops sums c (Seal a n) lawful)) after }

      pub looks : (a j : ℕ) (answer : Look I) (t : StatusTable) → RunsLook ops sums a j s answer t → IsStatusEvent ops sums c (Looks a j) (Looked (seen answer)) t
      looks a j answer t r' =
          let r : RunsLook ops sums a j (status_part ops c) answer t = subst (λ (x : StatusTable). RunsLook ops sums a j x answer t) part.is r' in
          let seat : Seat I = seat_at c a in
          let st : Status I = status_at c j in
          let ws : List ℕ = at_least_one (map (word_of ops) c.statuses) in
          let is : r.old ≡ look_view ops seat = mapped_at (look_view ops) c.seats a gone r.old r.seat in
          let weight : 0 < seat.weight = subst (λ (v : LookView). 0 < v.share) is r.weighs in
          let chunk : j < length sums = r.chunk in
          let in_range : nat_lt j (length sums) ≡ true = grind (arith, nat_tests) in
          let lawful : is_lawful ops sums c (Looks a j) ≡ true = both (is_there seat) (nat_lt j (length sums)) (there_is seat.weight weight) in_range in
          let word : get_or ws j 0 ≡ word_of ops st = words_get ops c.statuses j in
          let noted : map (λ p. (p.0, word_of ops p.1)) (seat.looked ++ (j, st) ∷ []) ≡ map (λ p. (p.0, word_of ops p.1)) seat.looked ++ (j, word_of ops st) ∷ [] = map-append (λ p. (p.0, word_of ops p.1)) seat.looked ((j, st) ∷ []) in
          let view : views.looking r.old j (get_or ws j 0) ≡ look_view ops (core.looking j st seat) =
          (λ i. views.looking (is i) j (word i)) ∙ ap (λ (l : List (ℕ × ℕ)). views.looks seat.shown seat.sealed l seat.weight) (sym noted) in
          let leads : t ≡ status_part ops (does ops sums c (Looks a j)) =
          r.after ∙ ((λ i. record { words = set-get_or ws j 0 i; homes = []; views = set (map (look_view ops) c.seats) a (view i) }) ∙ ap (λ (vs : List LookView). record { words = ws; homes = []; views = vs }) (sym (map-set (look_view ops) c.seats a (core.looking j st seat)))) in
          let after : IsStatusPart ops sums (does ops sums c (Looks a j)) t = record {
            is = leads;
            wide = part.wide;
            says = part.says;
            unspent = each-set (λ k u. IsWhole u) c.seats a (core.looking j st seat) gone (part.unspent a) part.unspent;
          } in
          record {
            lawful = lawful;
            answers = replied ops sums c (Looks a j) lawful ∙ ap Looked (sym (same_status j (get_or ws j 0) st answer word (part.says j) r.found));
            leads = subst (λ (x : State I). IsStatusPart ops sums x t) (sym (played ops sums c (Looks a j) lawful)) after;
          }

      pub splits : (a n number : ℕ) (t : StatusTable) → RunsStatusSplit a n s number t → IsStatusEvent ops sums c (Split a n) (NewSeat number) t
      splits a n number t r' =
          let r : RunsStatusSplit a n (status_part ops c) number t = subst (λ (x : StatusTable). RunsStatusSplit a n x number t) part.is r' in
          let seat : Seat I = seat_at c a in
          let is : r.old ≡ look_view ops seat = mapped_at (look_view ops) c.seats a gone r.old r.seat in
          let below : n < seat.weight = subst (λ (v : LookView). n < v.share) is r.less in
          let weight : 0 < seat.weight = omega arith in
          let less : n < seat.share = omega (arith, part.unspent a) in
          let some : 1 ≤ n = r.some_part in
          let one : nat_le 1 n ≡ true = grind (arith, nat_tests) in
          let few : nat_lt n seat.share ≡ true = grind (arith, nat_tests) in
          let lawful : is_lawful ops sums c (Split a n) ≡ true = three (is_there seat) (nat_le 1 n) (nat_lt n seat.share) (there_is seat.weight weight) one few in
          let seats : List LookView → StatusTable = λ vs. record { words = at_least_one (map (word_of ops) c.statuses); homes = []; views = vs } in
          let all = map-append (look_view ops) (set c.seats a (core.giving n seat)) (fresh n ∷ []) ∙ ap (λ (l : List LookView). l ++ views.blank n ∷ []) (map-set (look_view ops) c.seats a (core.giving n seat)) in
          let leads : t ≡ status_part ops (does ops sums c (Split a n)) = r.after ∙ (ap (λ (v : LookView). seats (set (map (look_view ops) c.seats) a (views.leaving v n) ++ views.blank n ∷ [])) is ∙ ap seats (sym all)) in
          let after : IsStatusPart ops sums (does ops sums c (Split a n)) t = record {
            is = leads;
            wide = part.wide;
            says = part.says;
            unspent = each-snoc (λ u. IsWhole u) (set c.seats a (core.giving n seat)) (fresh n) gone refl (each-set (λ k u. IsWhole u) c.seats a (core.giving n seat) gone (ap (λ (x : ℕ). x - n) (part.unspent a)) part.unspent);
          } in
          record {
            lawful = lawful;
            answers = replied ops sums c (Split a n) lawful ∙ ap NewSeat (sym (r.next ∙ length-map c.seats (look_view ops)));
            leads = subst (λ (x : State I). IsStatusPart ops sums x t) (sym (played ops sums c (Split a n) lawful)) after;
          }

      united_view : (x y : Seat I) → views.uniting (look_view ops x) (look_view ops y) ≡ look_view ops (core.joining x y)
      united_view x y = ap (λ (l : List (ℕ × ℕ)). views.looks (x.shown ++ y.shown) (x.sealed ++ y.sealed) l (x.weight + y.weight)) (sym (map-append (λ p. (p.0, word_of ops p.1)) x.looked y.looked))

      pub joins : (a b : ℕ) (t : StatusTable) → RunsStatusJoin a b s t → IsStatusEvent ops sums c (Join a b) Did t
      joins a b t r' =
          let r : RunsStatusJoin a b (status_part ops c) t = subst (λ (x : StatusTable). RunsStatusJoin a b x t) part.is r' in
          let one : Seat I = seat_at c a in let two : Seat I = seat_at c b in
          let is : r.old ≡ look_view ops one = mapped_at (look_view ops) c.seats a gone r.old r.seat in
          let is' : r.other ≡ look_view ops two = mapped_at (look_view ops) c.seats b gone r.other r.that in
          let weight : 0 < one.weight = subst (λ (v : LookView). 0 < v.share) is r.weighs in
          let weight' : 0 < two.weight = subst (λ (v : LookView). 0 < v.share) is' r.that_weighs in
          let lawful : is_lawful ops sums c (Join a b) ≡ true = three (is_there one) (is_there two) (not (a == b)) (there_is one.weight weight) (there_is two.weight weight') (apart_is a b r.apart) in
          let seats : List LookView → StatusTable = λ vs. record { words = at_least_one (map (word_of ops) c.statuses); homes = []; views = vs } in
          let view : views.uniting r.old r.other ≡ look_view ops (core.joining one two) = (λ i. views.uniting (is i) (is' i)) ∙ united_view one two in
          let all = map-set (look_view ops) (set c.seats a (core.joining one two)) b gone ∙ ap (λ (l : List LookView). set l b (views.blank 0)) (map-set (look_view ops) c.seats a (core.joining one two)) in
          let leads : t ≡ status_part ops (does ops sums c (Join a b)) = r.after ∙ (ap (λ (v : LookView). seats (set (set (map (look_view ops) c.seats) a v) b (views.blank 0))) view ∙ ap seats (sym all)) in
          let share : 0 < one.share = omega (arith, part.unspent a) in let share' : 0 < two.share = omega (arith, part.unspent b) in
          let whole : core.shares one.share two.share ≡ one.weight + two.weight = shares_whole one.share two.share share share' ∙ (λ i. part.unspent a i + part.unspent b i) in
          let after : IsStatusPart ops sums (does ops sums c (Join a b)) t = record {
            is = leads;
            wide = part.wide;
            says = part.says;
            unspent = each-set (λ k u. IsWhole u) (set c.seats a (core.joining one two)) b gone gone refl (each-set (λ k u. IsWhole u) c.seats a (core.joining one two) gone whole part.unspent);
          } in
          record { lawful = lawful; answers = replied ops sums c (Join a b) lawful; leads = subst (λ (x : State I). IsStatusPart ops sums x t) (sym (played ops sums c (Join a b) lawful)) after }
