-- Whatever is said of a source has one of the codes that are explained.
use Rattle.std.proofs.Common.{◌≡◌, ◌∙◌, ℕ, Bool, cond, true, false, refl, sym, ap, subst, List, [], ◌∷◌, length, map, Option, Some, None, unwrap_or}
use Rattle.std.specs.Prelude.{◌==◌, ◌*◌, ◌||◌, find, is_some, nat_lt}
use Rattle.std.specs.List.{list_any}
use Rattle.limits.specs.Limits.{most_code, most_frame}
use Rattle.source_meaning.specs.Ast.{Program, Function}
use Rattle.source_meaning.specs.Frames.{frame}
use Rattle.source_meaning.specs.Grammar.{ast}
use Rattle.source_meaning.specs.Lexemes.{Token, is_large, lexemes_end, lexical_fault, tokens}
use Rattle.source_meaning.specs.Scope.{Fault, earliest, scope_faults}
use Rattle.source_meaning.specs.Shape.{shape_faults}
use Rattle.source_meaning.specs.Typing.{type_faults}
use Rattle.rv_code.specs.Code.{instructions}
use Rattle.verdict.specs.Verdict.{Verdict, Diagnosed, Limited, Accepted, IsVerdict, too_large, lexical, syntactic, parsed, code_limit, folded_if, judged, limits, unless_fault}
use Rattle.diagnostic_texts.specs.Explained.{Explained, codes_explained, explanation_of, explanations}
use Rattle.explained_verdicts.proofs.Faults.{AreTold, first_told, is_told, scope_told, shape_told, type_told}

abbrev IsTold : Verdict → Type 0
IsTold (Diagnosed code place) = is_told code ≡ true
IsTold (Limited code place bytes) = is_told code ≡ true
IsTold (Accepted p) = Unit {0}

unless_told : (text : List ℕ) (ts : List Token) (fs : List Fault) (later : Verdict) → AreTold fs → IsTold later → IsTold (unless_fault text ts (earliest fs) later)
unless_told text ts [] later all told = told
unless_told text ts (f ∷ fs) later all told = first_told f fs all.0 all.1

code_told : (text : List ℕ) (p : Program) → IsTold (code_limit text p)
code_told text p = go (nat_lt most_code (4 * length (instructions p)))
  where
    go : (b : Bool) → IsTold (cond b (Limited 603 (length text) (4 * length (instructions p))) (Accepted p))
    go true = refl
    go false = tt

limits_told : (text : List ℕ) (ts : List Token) (p : Program) (o : Option Function) → IsTold (limits text ts p o)
limits_told text ts p (Some f) = refl
limits_told text ts p None = code_told text p

judged_told : (fold : Bool) (text : List ℕ) (ts : List Token) (p : Program) → IsTold (judged fold text ts p)
judged_told fold text ts p =
    unless_told text ts (shape_faults p) _ (shape_told p)
    (unless_told text ts (scope_faults (length ts) p) _ (scope_told (length ts) p)
    (unless_told text ts (type_faults p) _ (type_told p)
    (limits_told text ts (folded_if fold p) (find (λ f. nat_lt most_frame (frame f).bytes) (folded_if fold p)))))

same_told : (known code : ℕ) (at place : ℕ) → is_told known ≡ true → ◌≡◌ {A = Option (ℕ × ℕ)} (Some (known, at)) (Some (code, place)) → is_told code ≡ true
same_told known code at place is e =
    let same : known ≡ code = ap (λ (o : Option (ℕ × ℕ)). (unwrap_or o (0, 0)).0) e in
    subst (λ c. is_told c ≡ true) same is

lexical_told : (text : List ℕ) (code place : ℕ) → lexical_fault text ≡ Some (code, place) → is_told code ≡ true
lexical_told text code place e = go (find is_large (tokens text)) (nat_lt (lexemes_end text) (length text)) e
  where
    go : (o : Option Token) (b : Bool) → ◌≡◌ {A = Option (ℕ × ℕ)} (elim o [
      | Some t ↦ Some (102, t.start)
      | None ↦ cond b (Some (101, lexemes_end text)) None
    ]) (Some (code, place)) → is_told code ≡ true
    go (Some t) b h = same_told 102 code t.start place refl h
    go None true h = same_told 101 code (lexemes_end text) place refl h
    go None false h = cc

verdict_told : (fold : Bool) (text : List ℕ) (v : Verdict) → IsVerdict fold text v → IsTold v
verdict_told fold text _ (too_large large) = refl
verdict_told fold text _ (lexical code place small e) = lexical_told text code place e
verdict_told fold text _ (syntactic i small none at) = refl
verdict_told fold text _ (parsed t small none is) = judged_told fold text (tokens text) (ast t)

-- ---- the codes are those of the explanations

found : (code : ℕ) (es : List Explained) → list_any (λ c. c == code) (map (λ e. e.code) es) ≡ true → is_some (find (λ e. e.code == code) es) ≡ true
found code [] h = cc
found code (e ∷ es) h = go (e.code == code) h (found code es)
  where
    go : (b : Bool) → (b || list_any (λ c. c == code) (map (λ e. e.code) es)) ≡ true
        → (list_any (λ c. c == code) (map (λ e. e.code) es) ≡ true → is_some (find (λ e. e.code == code) es) ≡ true)
        → is_some (cond b (Some e) (find (λ e. e.code == code) es)) ≡ true
    go true h rec = refl
    go false h rec = rec h

module _ (are : codes_explained ≡ 101 ∷ 102 ∷ 201 ∷ 301 ∷ 302 ∷ 303 ∷ 401 ∷ 402 ∷ 403 ∷ 404 ∷ 405 ∷ 406 ∷ 501 ∷ 502 ∷ 503 ∷ 504 ∷ 505 ∷ 506 ∷ 507 ∷ 601 ∷ 602 ∷ 603 ∷ []) where
  explained : (code : ℕ) → is_told code ≡ true → is_some (explanation_of code) ≡ true
  explained code h = found code explanations (ap (list_any (λ c. c == code)) are ∙ h)

  pub diagnostic_explained : (fold : Bool) (text : List ℕ) (code place : ℕ) → IsVerdict fold text (Diagnosed code place) → is_some (explanation_of code) ≡ true
  diagnostic_explained fold text code place is = explained code (verdict_told fold text (Diagnosed code place) is)

  pub limit_explained : (fold : Bool) (text : List ℕ) (code place bytes : ℕ) → IsVerdict fold text (Limited code place bytes) → is_some (explanation_of code) ≡ true
  limit_explained fold text code place bytes is = explained code (verdict_told fold text (Limited code place bytes) is)
