use Rattle.std.proofs.Common.{◌≡◌, ◌+◌, ◌++◌, ◌<◌, ⊎_elim, inl, inr, ℕ, suc, List, [], length, refl, sym, ap, subst, ◌∙◌}
use Rattle.grammar_file.specs.declared.symbols.Symbol.{Symbol}
use Rattle.llp_tables.specs.Lookbacks.{cells_at}
use Rattle.llp_tables.specs.Slots.{Slots, add, room}
use Rattle.llp_wide.specs.Added.{Adds}
use Rattle.llp_wide.specs.Claims.{Claim, IsLeastClaim, IsPassOf}
use Rattle.llp_wide.specs.Classes.{HasOpened, room_in}
use Rattle.llp_wide.specs.Places.{spots_behind}
use Rattle.llp_wide.proofs.Additions.{adds_behind}
use Rattle.llp_wide.proofs.ClassLists.{any_below, behind_has_cell, wide_room_less}
use Rattle.llp_wide.proofs.WideSettling.{least_of_all, wide_settling_on, wide_room_left, still_left}
use Rattle.llp_wide.proofs.search.take.Goals as goal

pub open-requires : goal.open-requires
open-requires c =
    let g = c.args.ground.now in
    let s = c.requires.taken in
    let waiting = s.1.3.from c.args.claim s.2.least.waiting in
    let below = any_below g.grammar.now c.requires.ground.well_formed c.args.claim.before c.args.claim.symbol g.b c.args.claim.stack (s.1.2.waits c.args.claim waiting) in
    subst (λ (t : ℕ × ℕ). t.0 < t.1) (λ i. (sym (ap (λ (x : Claim). x.before) c.claim.view_is) i, sym c.requires.classes.count i)) below

pub add-requires-2 : goal.add-requires-2
add-requires-2 c =
    let g = c.args.ground.now in
    let p : Claim = c.args.claim in
    let s = c.requires.taken in
    let waiting = s.1.3.from p s.2.least.waiting in
    let h : HasOpened (length g.grammar.now.terminals + 3) (length g.grammar.now.nonterminals) c.args.classes.now.items c.open.new.classes.items p.before =
    subst (λ (t : ℕ × ℕ × ℕ). HasOpened t.0 t.1 c.args.classes.now.items c.open.new.classes.items t.2) (λ i. (length (c.terminals.ensures.names i) + 3, c.nonterminal_count-count.ensures i, ap (λ (x : Claim). x.before) c.claim.view_is i)) c.in_ok-open.ensures in
    behind_has_cell g.grammar.now c.requires.ground.well_formed c.open.new.classes.items p.before (h.classes c.requires.classes) (h.open_now c.requires.classes) p.symbol g.b p.stack (s.1.2.waits p waiting)

pub returns-clause-classes : goal.returns-clause-classes
returns-clause-classes c =
    let g = c.args.ground.now in
    let p : Claim = c.args.claim in
    let h : HasOpened (length g.grammar.now.terminals + 3) (length g.grammar.now.nonterminals) c.args.classes.now.items c.open.new.classes.items p.before =
    subst (λ (t : ℕ × ℕ × ℕ). HasOpened t.0 t.1 c.args.classes.now.items c.open.new.classes.items t.2) (λ i. (length (c.terminals.ensures.names i) + 3, c.nonterminal_count-count.ensures i, ap (λ (x : Claim). x.before) c.claim.view_is i)) c.in_ok-open.ensures in
    c.add-2.ensures.cells _ _ (h.classes c.requires.classes)

pub returns-clause-filling : goal.returns-clause-filling
returns-clause-filling c =
    let g = c.args.ground.now in
    let p : Claim = c.args.claim in
    let h : HasOpened (length g.grammar.now.terminals + 3) (length g.grammar.now.nonterminals) c.args.classes.now.items c.open.new.classes.items p.before =
    subst (λ (t : ℕ × ℕ × ℕ). HasOpened t.0 t.1 c.args.classes.now.items c.open.new.classes.items t.2) (λ i. (length (c.terminals.ensures.names i) + 3, c.nonterminal_count-count.ensures i, ap (λ (x : Claim). x.before) c.claim.view_is i)) c.in_ok-open.ensures in
    let old : ℕ → Symbol → Slots = cells_at c.args.classes.now.items in
    let half : ℕ → Symbol → Slots = cells_at c.open.new.classes.items in
    let new : ℕ → Symbol → Slots = cells_at c.add-2.new.classes.items in
    let passed : List Claim = c.in_ok-passed.passed.items in
    let added : Adds (IsPassOf g.nullable.now p (spots_behind (length g.grammar.now.nonterminals) g.groups.now p.before p.symbol)) [] passed =
    subst (λ (n : ℕ). Adds (IsPassOf g.nullable.now p (spots_behind n g.groups.now p.before p.symbol)) [] passed) c.nonterminal_count-count.ensures c.in_ok-passed.ensures in
    let s = c.requires.taken in
    let last = s.1.0 in
    let claims : List Claim = s.1.1 in
    let settling = s.1.2 in
    let least : IsLeastClaim claims old p = least_of_all old claims s.0 p s.1.3 s.2.least in
    let more : List Claim = claims ++ passed in
    let at = c.add-2.ensures.at ∙ ap (add p.stack) (h.same p.before p.symbol) in
    let there = λ (z : ℕ) (t : Symbol). ⊎_elim (λ (e : (z ≡ p.before) × (t ≡ p.symbol)). inl e) (λ (e : new z t ≡ half z t). inr (e ∙ h.same z t)) (c.add-2.ensures.there z t) in
    let grown = adds_behind (IsPassOf g.nullable.now p (spots_behind (length g.grammar.now.nonterminals) g.groups.now p.before p.symbol)) claims passed added in (
      p.stack,
      more,
      wide_settling_on g.grammar.now g.nullable.now g.first.now g.b g.groups.now c.requires.ground.well_formed c.requires.ground.nullable c.requires.ground.first c.requires.ground.places last old new claims more p settling least at there grown,
      still_left g.grammar.now g.nullable.now g.first.now g.b g.groups.now c.requires.ground.well_formed c.requires.ground.nullable c.requires.ground.first c.requires.ground.places last old new claims more p settling least at there grown
          s.0 c.args.queue.now c.add.new.self passed s.1.3 s.2 c.in_ok-add.ensures refl,
    )

pub returns-clause-room : goal.returns-clause-room
returns-clause-room c =
    let g = c.args.ground.now in
    let p : Claim = c.args.claim in
    let t : ℕ = length g.grammar.now.terminals + 3 in
    let n : ℕ = length g.grammar.now.nonterminals in
    let h : HasOpened t n c.args.classes.now.items c.open.new.classes.items p.before =
    subst (λ (t : ℕ × ℕ × ℕ). HasOpened t.0 t.1 c.args.classes.now.items c.open.new.classes.items t.2) (λ i. (length (c.terminals.ensures.names i) + 3, c.nonterminal_count-count.ensures i, ap (λ (x : Claim). x.before) c.claim.view_is i)) c.in_ok-open.ensures in
    let s = c.requires.taken in
    let old : ℕ → Symbol → Slots = cells_at c.args.classes.now.items in
    let claims : List Claim = s.1.1 in
    let left = wide_room_left g.grammar.now g.nullable.now g.first.now g.b g.groups.now c.requires.ground.well_formed c.requires.ground.nullable c.requires.ground.first c.requires.ground.places s.1.0 old (cells_at c.add-2.new.classes.items) claims claims p s.1.2
    (least_of_all old claims s.0 p s.1.3 s.2.least) in
    let left_now : room (cells_at c.open.new.classes.items p.before p.symbol) ≡ suc (room (add p.stack (cells_at c.open.new.classes.items p.before p.symbol))) = subst (λ (x : Slots). room x ≡ suc (room (add p.stack x))) (sym (h.same p.before p.symbol)) left in
    subst (λ (m : ℕ). room_in t n c.add-2.new.classes.items < m) h.room_is (wide_room_less t n c.open.new.classes.items c.add-2.new.classes.items p c.add-2.ensures left_now)
