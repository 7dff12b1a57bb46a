-- How many words linked items have, which layout is used, and which word writes the lowest one of a frame.
use Rattle.std.proofs.Common.{◌≡◌, ℕ, ◌+◌, ◌<◌, ◌≤◌, List, [], ◌∷◌, length, refl, ap, ◌∙◌, arith, length-append}
use Rattle.std.specs.Prelude.{if◌then◌else◌}
use Rattle.std.proofs.lemmas.Bool.{le-ltb, lt-ltb}
use Rattle.source_meaning.specs.Ast.{Function, Program}
use Rattle.source_meaning.specs.Frames.{frame}
use Rattle.rv_code.specs.Laws.Widths.{linked_long}
use Rattle.rv_code.specs.Code.{Layout, Short, Long, most_short, near_frame, wide, function_code, stub, linked, label_of, linked_functions, place_of, instructions_in, layout_of, lowest_store}
use Rattle.rv_code.specs.Widths.{functions_width, program_width}

functions_long : (layout : Layout) (places : List ℕ → ℕ) (at : ℕ) (fs : Program) → length (linked_functions layout places at fs) ≡ functions_width layout fs
functions_long layout places at [] = refl
functions_long layout places at (f ∷ fs) =
    length-append (linked layout places (label_of layout at f) at (function_code layout f)) (linked_functions layout places (at + wide layout (function_code layout f)) fs)
    ∙ omega (arith, linked_long layout places (label_of layout at f) at (function_code layout f), functions_long layout places (at + wide layout (function_code layout f)) fs)

pub widths : (layout : Layout) (p : Program) → length (instructions_in layout p) ≡ program_width layout p
widths layout p =
    let places = place_of layout p in
    length-append (linked layout places 0 0 stub) (linked_functions layout places (wide layout stub) p)
    ∙ omega (arith, linked_long layout places 0 0 stub, functions_long layout places (wide layout stub) p)

pub is_short : (p : Program) → length (instructions_in Short p) ≤ most_short → layout_of p ≡ Short
is_short p h = ap (λ b. if b then Long else Short) (le-ltb most_short (length (instructions_in Short p)) h)

pub is_long : (p : Program) → most_short < length (instructions_in Short p) → layout_of p ≡ Long
is_long p h = ap (λ b. if b then Long else Short) (lt-ltb most_short (length (instructions_in Short p)) h)

pub near_second : (f : Function) → (frame f).bytes ≤ near_frame → lowest_store f ≡ 1
near_second f h = let e = le-ltb near_frame (frame f).bytes h in rw e refl

pub far_fourth : (f : Function) → near_frame < (frame f).bytes → lowest_store f ≡ 3
far_fourth f h = let e = lt-ltb near_frame (frame f).bytes h in rw e refl
