use Rattle.std.proofs.Common.{◌≡◌, ◌+◌, ◌*◌, ◌<◌, ℕ, List, Bool, [], ◌∷◌, ◌++◌, length, set, sym, refl, ap, subst, ◌∙◌}
use Rattle.grammar_file.specs.Grammar.{Production}
use Rattle.llp_wide.specs.declared.places.Entrance.{Entrance}
use Rattle.llp_wide.specs.Added.{IsIn, Adds}
use Rattle.llp_wide.specs.Places.{Spot, IsSpotOn}
use Rattle.llp_wide.specs.Surveys.{place_of, Finds, OpensIn, HaveRoom}
use Rattle.llp_wide.proofs.Additions.{in_last}
use Rattle.llp_wide.proofs.Surveying.{IsSurvey, survey_start, owner_within, have_room, survey_on, survey_end}
use Rattle.llp_wide.proofs.survey.places.Goals as goal

pub loop-entrance-init : goal.loop-entrance-init
loop-entrance-init c =
    let g = c.args.grammar.now in
    let marks : List Bool = c.in_ok-marks.marks.items in
    let first : Entrance = record { before = 0; nonterminal = 0 } in
    let waiting_is : c.push.new.self.items ≡ first ∷ [] = c.in_ok-push.ensures.items ∙ ap (λ (xs : List Entrance). xs ++ first ∷ []) c.new-waiting.ensures.items in
    let owners : (length c.terminals.result.now + 3) * c.nonterminal_count-count.result ≡ (length g.terminals + 3) * length g.nonterminals = λ i. (length (c.terminals.ensures.names i) + 3) * c.nonterminal_count-count.ensures i in
    subst (λ (xs : List Entrance). IsSurvey g c.args.nullable.now c.args.all.now marks xs c.in_ok-groups.groups.items) (sym waiting_is)
    (survey_start g c.args.nullable.now c.args.all.now c.requires.well_formed c.requires.reduced c.requires.nullable c.requires.endings marks c.in_ok-groups.groups.items (c.in_ok-marks.ensures.len ∙ owners) (c.in_ok-groups.ensures.len ∙ owners)
    c.in_ok-marks.ensures.none c.in_ok-groups.ensures.none)

pub enter_places-requires : goal.enter_places-requires
enter_places-requires c =
    let g = c.args.grammar.now in
    let i = c.loop-entrance.invariant in
    let e0 = c.in-Some.entrance in
    let own : List Spot = c.add_places.new.places.items in
    let adds : Adds (IsSpotOn c.args.nullable.now c.args.all.now g.productions e0) [] own =
    subst (λ (t : List Production × List Spot). Adds (IsSpotOn c.args.nullable.now c.args.all.now t.0 e0) t.1 own) (λ j. (c.productions.ensures.rules j, c.new-own.ensures.items j)) c.in_ok-add_places.ensures in
    let there : IsIn c.loop-entrance.waiting.items e0 = subst (λ (xs : List Entrance). IsIn xs e0) (sym c.in-Some.ensures) (in_last c.next_entrance.new.waiting.items e0 e0 refl) in
    subst (λ (t : ℕ × List Spot). HaveRoom t.0 t.1 (length c.loop-entrance.marks.items)) (λ j. (sym c.nonterminal_count-count.ensures j, sym c.as_slice.ensures.value j))
    (have_room g c.args.nullable.now c.args.all.now c.requires.well_formed c.requires.reduced c.requires.nullable c.requires.endings e0 own (length c.loop-entrance.marks.items) i.size (i.entered e0 there) adds)

pub loop-entrance-preserved : goal.loop-entrance-preserved
loop-entrance-preserved c =
    let g = c.args.grammar.now in
    let e0 = c.in-Some.entrance in
    let own : List Spot = c.add_places.new.places.items in
    let adds : Adds (IsSpotOn c.args.nullable.now c.args.all.now g.productions e0) [] own =
    subst (λ (t : List Production × List Spot). Adds (IsSpotOn c.args.nullable.now c.args.all.now t.0 e0) t.1 own) (λ j. (c.productions.ensures.rules j, c.new-own.ensures.items j)) c.in_ok-add_places.ensures in
    let marks0 = c.loop-entrance.marks.items in
    let marks1 = c.enter_places.new.marks.items in
    let rest = c.next_entrance.new.waiting.items in
    let waiting = c.enter_places.new.waiting.items in
    let finds : Finds (length g.nonterminals) (OpensIn own (length own)) marks0 rest marks1 waiting =
    subst (λ (t : ℕ × List Spot). Finds t.0 (OpensIn t.1 (length t.1)) marks0 rest marks1 waiting) (λ j. (c.nonterminal_count-count.ensures j, c.as_slice.ensures.value j)) c.in_ok-enter_places.ensures in
    let h : IsSurvey g c.args.nullable.now c.args.all.now marks0 (rest ++ e0 ∷ []) c.loop-entrance.groups.items =
    subst (λ (xs : List Entrance). IsSurvey g c.args.nullable.now c.args.all.now marks0 xs c.loop-entrance.groups.items) c.in-Some.ensures c.loop-entrance.invariant in
    subst (IsSurvey g c.args.nullable.now c.args.all.now marks1 waiting) (sym (c.keep.ensures ∙ ap (λ (n : ℕ). set c.loop-entrance.groups.items n own) (c.place_of.ensures ∙ ap (λ (n : ℕ). place_of n e0) c.nonterminal_count-count.ensures)))
    (survey_on g c.args.nullable.now c.args.all.now c.requires.well_formed c.requires.reduced c.requires.nullable c.requires.endings marks0 marks1 rest waiting e0 c.loop-entrance.groups.items own h adds finds)

pub returns : goal.returns
returns c =
    let g = c.args.grammar.now in
    let none : c.loop-entrance.waiting.items ≡ [] = c.in_default.ensures in
    survey_end g c.args.nullable.now c.args.all.now c.requires.well_formed c.requires.reduced c.requires.nullable c.requires.endings c.loop-entrance.marks.items c.loop-entrance.groups.items
    (subst (λ (xs : List Entrance). IsSurvey g c.args.nullable.now c.args.all.now c.loop-entrance.marks.items xs c.loop-entrance.groups.items) none c.loop-entrance.invariant)

pub keep-requires : goal.keep-requires
keep-requires c =
    let g = c.args.grammar.now in
    let i = c.loop-entrance.invariant in
    let e0 = c.in-Some.entrance in
    let there : IsIn c.loop-entrance.waiting.items e0 = subst (λ (xs : List Entrance). IsIn xs e0) (sym c.in-Some.ensures) (in_last c.next_entrance.new.waiting.items e0 e0 refl) in
    subst (λ (n : ℕ). n < length c.loop-entrance.groups.items) (sym (c.place_of.ensures ∙ ap (λ (n : ℕ). place_of n e0) c.nonterminal_count-count.ensures))
    (owner_within g c.args.nullable.now c.args.all.now c.requires.well_formed c.requires.reduced c.requires.nullable c.requires.endings e0 (length c.loop-entrance.groups.items) i.owners (i.entered e0 there))
