-- What holds of each of the three lists.
use Rattle.kin_pass.specs.Lists.{Column, EachList}

pub of_each : {P Q : Column → Type 0} → ((list : Column) → P list → Q list) → EachList P → EachList Q
of_each follows p = record { parents = follows _ p.parents; lows = follows _ p.lows; places = follows _ p.places }

pub of_both : {P Q R : Column → Type 0} → ((list : Column) → P list → Q list → R list) → EachList P → EachList Q → EachList R
of_both follows p q = record { parents = follows _ p.parents q.parents; lows = follows _ p.lows q.lows; places = follows _ p.places q.places }

pub of_three : {P Q R S : Column → Type 0} → ((list : Column) → P list → Q list → R list → S list) → EachList P → EachList Q → EachList R → EachList S
of_three follows p q r = record {
  parents = follows _ p.parents q.parents r.parents;
  lows = follows _ p.lows q.lows r.lows;
  places = follows _ p.places q.places r.places;
}
