use Rattle.std.proofs.Common.{◌≡◌, ◌∙◌, ◌++◌, ℕ, List, ap}
use Rattle.std.proofs.lemmas.Result.{on_ok_weaker}
use Rattle.std.specs.Prelude.{codes}
use Rattle.pass_page.specs.Page.{closing, table_box}
use Rattle.text_columns.specs.Columns.{Column}
use Rattle.pass_views.proofs.Joining.{eight_parts, further}
use Rattle.pass_views.proofs.show.push_tables.Goals as goal

pub returns : goal.returns
returns c = λ states pairs.
    let old = c.args.page.now.items in
    let arrays = c.args.arrays.now in
    let box1 = table_box (codes "tokens") arrays.syntax.tokens.items in
    let box2 = table_box (codes "parse") arrays.syntax.parse.items in
    let box3 = table_box (codes "rows") arrays.syntax.rows.items in
    let box4 = table_box (codes "names") arrays.meaning.names.items in
    let box5 = table_box (codes "types") arrays.meaning.types.items in
    let box6 = table_box (codes "frames") arrays.code.frames.items in
    let box7 = table_box (codes "places") arrays.code.places.items in
    let box8 = table_box (codes "code") arrays.code.code.items in
    let put1 : c.push_table_box.new.out.items ≡ c.args.page.now.items ++ box1 = c.in_ok-push_table_box.ensures ∙ ap (λ (columns : List Column). c.args.page.now.items ++ table_box (codes "tokens") columns) c.deref.ensures.value in
    let put2 : c.push_table_box-2.new.out.items ≡ c.push_table_box.new.out.items ++ box2 = c.in_ok-push_table_box-2.ensures ∙ ap (λ (columns : List Column). c.push_table_box.new.out.items ++ table_box (codes "parse") columns) c.deref-2.ensures.value in
    let put3 : c.push_table_box-3.new.out.items ≡ c.push_table_box-2.new.out.items ++ box3 = c.in_ok-push_table_box-3.ensures ∙ ap (λ (columns : List Column). c.push_table_box-2.new.out.items ++ table_box (codes "rows") columns) c.deref-3.ensures.value in
    let put4 : c.push_table_box-4.new.out.items ≡ c.push_table_box-3.new.out.items ++ box4 = c.in_ok-push_table_box-4.ensures ∙ ap (λ (columns : List Column). c.push_table_box-3.new.out.items ++ table_box (codes "names") columns) c.deref-4.ensures.value in
    let put5 : c.push_table_box-5.new.out.items ≡ c.push_table_box-4.new.out.items ++ box5 = c.in_ok-push_table_box-5.ensures ∙ ap (λ (columns : List Column). c.push_table_box-4.new.out.items ++ table_box (codes "types") columns) c.deref-5.ensures.value in
    let put6 : c.push_table_box-6.new.out.items ≡ c.push_table_box-5.new.out.items ++ box6 = c.in_ok-push_table_box-6.ensures ∙ ap (λ (columns : List Column). c.push_table_box-5.new.out.items ++ table_box (codes "frames") columns) c.deref-6.ensures.value in
    let put7 : c.push_table_box-7.new.out.items ≡ c.push_table_box-6.new.out.items ++ box7 = c.in_ok-push_table_box-7.ensures ∙ ap (λ (columns : List Column). c.push_table_box-6.new.out.items ++ table_box (codes "places") columns) c.deref-7.ensures.value in
    let put8 : c.push_table_box-8.new.out.items ≡ c.push_table_box-7.new.out.items ++ box8 = c.in_ok-push_table_box-8.ensures ∙ ap (λ (columns : List Column). c.push_table_box-7.new.out.items ++ table_box (codes "code") columns) c.deref-8.ensures.value in
    let all2 = further old box1 box2 _ _ put1 put2 in
    let all3 = further old (box1 ++ box2) box3 _ _ all2 put3 in
    let all4 = further old (box1 ++ box2 ++ box3) box4 _ _ all3 put4 in
    let all5 = further old (box1 ++ box2 ++ box3 ++ box4) box5 _ _ all4 put5 in
    let all6 = further old (box1 ++ box2 ++ box3 ++ box4 ++ box5) box6 _ _ all5 put6 in
    let all7 = further old (box1 ++ box2 ++ box3 ++ box4 ++ box5 ++ box6) box7 _ _ all6 put7 in
    let all8 = further old (box1 ++ box2 ++ box3 ++ box4 ++ box5 ++ box6 ++ box7) box8 _ _ all7 put8 in
    on_ok_weaker c.push_closing.result (λ h. h ∙ ap (λ (l : List ℕ). l ++ closing) (all8 ∙ ap (λ (l : List ℕ). old ++ l) (eight_parts box1 box2 box3 box4 box5 box6 box7 box8))) c.push_closing.ensures
