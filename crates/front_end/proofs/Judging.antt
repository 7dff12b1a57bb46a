-- What the compiler says of a source, phase by phase.
use Rattle.std.proofs.Common.{◌≡◌, ℕ, ◌*◌, ◌<◌, ◌≤◌, Bool, true, false, List, [], length, Option, Some, None, if◌then◌else◌, nat_lt, refl, ap, subst, ◌∙◌, arith}
use Rattle.std.proofs.lemmas.Bool.Decides.{nat_tests}
use Rattle.std.specs.List.{find}
use Rattle.limits.specs.Limits.{most_source, most_frame, most_code}
use Rattle.source_meaning.specs.Lexemes.{tokens, lexical_fault, place_of}
use Rattle.source_meaning.specs.Grammar.{Tree, Prog, ast, leaves}
use Rattle.source_meaning.specs.Ast.{Program, Function}
use Rattle.source_meaning.specs.Scope.{Fault, scope_faults, earliest}
use Rattle.source_meaning.specs.Shape.{shape_faults}
use Rattle.source_meaning.specs.Typing.{type_faults}
use Rattle.source_meaning.specs.Frames.{frame}
use Rattle.rv_code.specs.Code.{instructions}
use Rattle.verdict.specs.Verdict.{Verdict, Diagnosed, Limited, Accepted, IsVerdict, parsed, folded_if, unless_fault, limits}

abbrev phases : List ℕ → Option Fault → Option Fault → Option Fault → Verdict → Verdict
phases text shape scope typing last = let ts = tokens text in unless_fault text ts shape (unless_fault text ts scope (unless_fault text ts typing last))

abbrev at_end : Bool → List ℕ → Program → Verdict
at_end fold text p = let q = folded_if fold p in limits text (tokens text) q (find (λ f. nat_lt most_frame (frame f).bytes) q)

abbrev told : List ℕ → Fault → Verdict
told text f = Diagnosed f.code (place_of text (tokens text) f.at)

module _ (fold : Bool) (text : List ℕ) (t : Tree Prog) (fits : length text ≤ most_source) (lex : lexical_fault text ≡ None) (tree : leaves t ≡ tokens text) where
  judged_is : (a b c : Option Fault) (v : Verdict) → earliest (shape_faults (ast t)) ≡ a → earliest (scope_faults (length (tokens text)) (ast t)) ≡ b → earliest (type_faults (ast t)) ≡ c → phases text a b c (at_end fold text (ast t)) ≡ v → IsVerdict fold text v
  judged_is a b c v ea eb ec e = subst (λ w. IsVerdict fold text w) ((λ i. phases text (ea i) (eb i) (ec i) (at_end fold text (ast t))) ∙ e) (parsed t fits lex tree)

  pub shape_told : (f : Fault) → earliest (shape_faults (ast t)) ≡ Some f → IsVerdict fold text (told text f)
  shape_told f e = judged_is (Some f) (earliest (scope_faults (length (tokens text)) (ast t))) (earliest (type_faults (ast t))) (told text f) e refl refl refl

  pub scope_told : (f : Fault) → shape_faults (ast t) ≡ [] → earliest (scope_faults (length (tokens text)) (ast t)) ≡ Some f → IsVerdict fold text (told text f)
  scope_told f s e = judged_is None (Some f) (earliest (type_faults (ast t))) (told text f) (ap earliest s) e refl refl

  pub type_told : (f : Fault) → shape_faults (ast t) ≡ [] → scope_faults (length (tokens text)) (ast t) ≡ [] → earliest (type_faults (ast t)) ≡ Some f → IsVerdict fold text (told text f)
  type_told f s k e = judged_is None None (Some f) (told text f) (ap earliest s) (ap earliest k) e refl

  limits_are : (v : Verdict) → shape_faults (ast t) ≡ [] → scope_faults (length (tokens text)) (ast t) ≡ [] → type_faults (ast t) ≡ [] → at_end fold text (ast t) ≡ v → IsVerdict fold text v
  limits_are v s k y e = judged_is None None None v (ap earliest s) (ap earliest k) (ap earliest y) e

  pub frame_told : (f : Function) → shape_faults (ast t) ≡ [] → scope_faults (length (tokens text)) (ast t) ≡ [] → type_faults (ast t) ≡ [] → find (λ g. nat_lt most_frame (frame g).bytes) (folded_if fold (ast t)) ≡ Some f → IsVerdict fold text (Limited 602 (place_of text (tokens text) f.at) (frame f).bytes)
  frame_told f s k y e = limits_are (Limited 602 (place_of text (tokens text) f.at) (frame f).bytes) s k y (ap (limits text (tokens text) (folded_if fold (ast t))) e)

  pub code_told : shape_faults (ast t) ≡ [] → scope_faults (length (tokens text)) (ast t) ≡ [] → type_faults (ast t) ≡ [] → find (λ g. nat_lt most_frame (frame g).bytes) (folded_if fold (ast t)) ≡ None → most_code < 4 * length (instructions (folded_if fold (ast t))) → IsVerdict fold text (Limited 603 (length text) (4 * length (instructions (folded_if fold (ast t)))))
  code_told s k y e h =
      let size = 4 * length (instructions (folded_if fold (ast t))) in
      let b : nat_lt most_code size ≡ true = grind (arith, nat_tests) in
      limits_are (Limited 603 (length text) size) s k y (ap (limits text (tokens text) (folded_if fold (ast t))) e ∙ ap (λ c. if c then Limited 603 (length text) size else Accepted (folded_if fold (ast t))) b)

  pub accepted : shape_faults (ast t) ≡ [] → scope_faults (length (tokens text)) (ast t) ≡ [] → type_faults (ast t) ≡ [] → find (λ g. nat_lt most_frame (frame g).bytes) (folded_if fold (ast t)) ≡ None → 4 * length (instructions (folded_if fold (ast t))) ≤ most_code → IsVerdict fold text (Accepted (folded_if fold (ast t)))
  accepted s k y e h =
      let size = 4 * length (instructions (folded_if fold (ast t))) in
      let b : nat_lt most_code size ≡ false = grind (arith, nat_tests) in
      limits_are (Accepted (folded_if fold (ast t))) s k y (ap (limits text (tokens text) (folded_if fold (ast t))) e ∙ ap (λ c. if c then Limited 603 (length text) size else Accepted (folded_if fold (ast t))) b)
