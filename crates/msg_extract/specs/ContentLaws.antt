-- What a set of contents rests on: the same contents are hashed alike, and being the same content is an equivalence.
-- Example: the prints of `{$a}{$a }` have the same content, and its hash is the same.
use Rattle.std.specs.Prelude.{◌≡◌, ℤ, pos, negsuc, ℕ, Bool, true, false, ◌&&◌, List, [], ◌∷◌, ◌++◌, bytes_eq}
use Rattle.std.specs.Hash as fed
use mathlib.Core.Path.{refl, sym, ap, ◌∙◌}
use mathlib.Core.Bool.{true≢false}
use borrow.Author.Tests.{eqb-true}
use Rattle.std.specs.Cmp.{IsEquivalence, IsPartialEquivalence, equiv}
use Rattle.soy_tree.specs.Expressions.{Expr, NullLiteral, BoolLiteral, IntLiteral, StringLiteral, Variable, Member}
use Rattle.soy_tree.specs.Expressions.{Index, Minus, Not, Binary, Coalesce, Conditional}
use Rattle.soy_rules.specs.SameExpression.{is_same_expr, is_same_op, op_number}
use Rattle.soy_rules.specs.Val.{is_same_bool, is_same_int}
use Rattle.soy_tree.specs.MessageText.{MessageItem, Character, Printed}
use Rattle.soy_rules.specs.Placeholders.{Content, ExprContent, TagContent, are_same_message_items, is_same_content}
use Rattle.soy_rules.specs.Placeholders.{is_same_message_item}
use Rattle.soy_tree.proofs.SameNames.{both, same_name}
use Rattle.soy_rules.proofs.SameContents.{content_itself, content_shared, content_turned}
use Rattle.msg_extract.specs.ContentHash.{bool_input, content_input, expr_input, item_input, items_input, name_input}

int_alike : (m n : ℤ) → is_same_int m n ≡ true → fed.i64 m ≡ fed.i64 n
int_alike (pos m) (pos n) h = ap (λ k. fed.i64 (pos k)) (eqb-true m n h)
int_alike (negsuc m) (negsuc n) h = ap (λ k. fed.i64 (negsuc k)) (eqb-true m n h)
int_alike _ _ h = absurd (true≢false (sym h))

bool_alike : (a b : Bool) → is_same_bool a b ≡ true → bool_input a ≡ bool_input b
bool_alike true true h = refl
bool_alike false false h = refl
bool_alike _ _ h = absurd (true≢false (sym h))

joined : {as_ bs cs ds : List (List ℕ)} → as_ ≡ bs → cs ≡ ds → as_ ++ cs ≡ bs ++ ds
joined {as_} {bs} {cs} {ds} e f = ap (λ xs. xs ++ cs) e ∙ ap (λ xs. bs ++ xs) f

-- the three parts of a conjunction that holds
three : (a b c : Bool) → (a && b && c) ≡ true → (a ≡ true) × ((b ≡ true) × (c ≡ true))
three a b c h =
    let p : ((a && b) ≡ true) × (c ≡ true) = both (a && b) c h in
    let q : (a ≡ true) × (b ≡ true) = both a b p.0 in
    (q.0, (q.1, p.1))

expr_alike : (e f : Expr) → is_same_expr e f ≡ true → expr_input e ≡ expr_input f
expr_alike (NullLiteral s) (NullLiteral t) h = refl
expr_alike (BoolLiteral a s) (BoolLiteral b t) h = ap (λ xs. fed.u8 1 ++ xs) (bool_alike a b h)
expr_alike (IntLiteral m s) (IntLiteral n t) h = int_alike m n h
expr_alike (StringLiteral a s) (StringLiteral b t) h = ap (λ x. fed.u8 2 ++ name_input x) (same_name a b h)
expr_alike (Variable x s) (Variable y t) h = ap (λ z. fed.u8 3 ++ name_input z) (same_name x y h)
expr_alike (Member a x p s) (Member b y q t) h =
    let k : (is_same_expr a b ≡ true) × ((bytes_eq x y ≡ true) × (is_same_bool p q ≡ true)) =
    three (is_same_expr a b) (bytes_eq x y) (is_same_bool p q) h in
    ap (λ xs. fed.u8 4 ++ xs)
    (joined (bool_alike p q k.1.1) (joined (expr_alike a b k.0) (ap name_input (same_name x y k.1.0))))
expr_alike (Index a i p s) (Index b j q t) h =
    let k : (is_same_expr a b ≡ true) × ((is_same_expr i j ≡ true) × (is_same_bool p q ≡ true)) =
    three (is_same_expr a b) (is_same_expr i j) (is_same_bool p q) h in
    ap (λ xs. fed.u8 5 ++ xs) (joined (bool_alike p q k.1.1) (joined (expr_alike a b k.0) (expr_alike i j k.1.0)))
expr_alike (Minus a s) (Minus b t) h = ap (λ xs. fed.u8 6 ++ xs) (expr_alike a b h)
expr_alike (Not a s) (Not b t) h = ap (λ xs. fed.u8 7 ++ xs) (expr_alike a b h)
expr_alike (Binary f a c s) (Binary g b d t) h =
    let k : (is_same_op f g ≡ true) × ((is_same_expr a b ≡ true) × (is_same_expr c d ≡ true)) =
    three (is_same_op f g) (is_same_expr a b) (is_same_expr c d) h in
    joined (ap (λ n. fed.u8 n) (eqb-true (op_number f) (op_number g) k.0))
    (joined (expr_alike a b k.1.0) (expr_alike c d k.1.1))
expr_alike (Coalesce a c s) (Coalesce b d t) h =
    let k : (is_same_expr a b ≡ true) × (is_same_expr c d ≡ true) = both (is_same_expr a b) (is_same_expr c d) h in
    ap (λ xs. fed.u8 8 ++ xs) (joined (expr_alike a b k.0) (expr_alike c d k.1))
expr_alike (Conditional a c e s) (Conditional b d f t) h =
    let k : (is_same_expr a b ≡ true) × ((is_same_expr c d ≡ true) × (is_same_expr e f ≡ true)) =
    three (is_same_expr a b) (is_same_expr c d) (is_same_expr e f) h in
    ap (λ xs. fed.u8 9 ++ xs) (joined (expr_alike a b k.0) (joined (expr_alike c d k.1.0) (expr_alike e f k.1.1)))
expr_alike _ _ h = absurd (true≢false (sym h))

item_alike : (p q : MessageItem) → is_same_message_item p q ≡ true → item_input p ≡ item_input q
item_alike (Character c s) (Character d t) h = ap (λ k. fed.char k) (eqb-true c d h)
item_alike (Printed e m s) (Printed f n t) h = expr_alike e f h
item_alike _ _ h = absurd (true≢false (sym h))

items_alike : (ps qs : List MessageItem) → are_same_message_items ps qs ≡ true → items_input ps ≡ items_input qs
items_alike [] [] h = refl
items_alike (p ∷ ps) (q ∷ qs) h =
    let first : (is_same_message_item p q ≡ true) × (are_same_message_items ps qs ≡ true) =
    both (is_same_message_item p q) (are_same_message_items ps qs) h in
    joined (item_alike p q first.0) (items_alike ps qs first.1)
items_alike _ _ h = absurd (true≢false (sym h))

pub content_alike : (c d : Content) → is_same_content c d ≡ true → content_input c ≡ content_input d
content_alike (ExprContent e) (ExprContent f) h = expr_alike e f h
content_alike (TagContent ps) (TagContent qs) h = items_alike ps qs h
content_alike _ _ h = absurd (true≢false (sym h))

-- being the same content is an equivalence

as_true : (a b : Bool) → (a ≡ true → b ≡ true) → (b ≡ true → a ≡ true) → a ≡ b
as_true true b f g = sym (f refl)
as_true false true f g = g refl
as_true false false f g = refl

pub contents_partial : IsPartialEquivalence is_same_content
contents_partial = record {
  symm = λ c d. as_true (is_same_content c d) (is_same_content d c) (content_turned c d) (content_turned d c);
  trans = λ c d e h k. content_shared d c e (content_turned c d h) k;
}

pub contents_equivalence : IsEquivalence is_same_content
contents_equivalence = equiv contents_partial content_itself
