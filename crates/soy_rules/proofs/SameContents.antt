-- Contents are the same where they are equal apart from spans and `phname`s; so being the same is an equivalence.
use Rattle.std.proofs.Common.{◌≡◌, ℕ, Bool, true, false, ◌&&◌, ◌==◌, List, [], ◌∷◌, refl, ap, sym, ◌∙◌}
use Rattle.std.proofs.Common.{eqb-true, arith}
use Rattle.std.specs.Prelude.{ℤ, pos, negsuc, None, bytes_eq}
use Rattle.std.proofs.lemmas.Bool.Decides.{nat_tests}
use Rattle.std.proofs.lemmas.Slice.Eq.{bytes_eq-Decides}
use Rattle.soy_base.specs.declared.fault.Span.{Span}
use Rattle.soy_tree.specs.declared.expr.BinaryOp.{BinaryOp}
use Rattle.soy_tree.specs.declared.expr.BinaryOp.TheVariants as op
use Rattle.soy_tree.specs.Expressions.{Expr, NullLiteral, BoolLiteral, IntLiteral, StringLiteral, Variable, Member}
use Rattle.soy_tree.specs.Expressions.{Index, Minus, Not, Binary, Coalesce, Conditional}
use Rattle.soy_rules.specs.Val.{is_same_bool, is_same_int}
use Rattle.soy_rules.specs.SameExpression.{op_number, is_same_op, is_same_expr}
use Rattle.soy_tree.specs.MessageText.{MessageItem, Character, Printed}
use Rattle.soy_rules.specs.Placeholders.{Content, ExprContent, TagContent, are_same_message_items}
use Rattle.soy_rules.specs.Placeholders.{is_same_content}
use Rattle.soy_tree.proofs.SameNames.{both, same_name}

abbrev nowhere : Span
nowhere = record { start = 0; end = 0 }

-- an expression without its spans
abbrev bare : Expr → Expr
bare (NullLiteral s) = NullLiteral nowhere
bare (BoolLiteral b s) = BoolLiteral b nowhere
bare (IntLiteral n s) = IntLiteral n nowhere
bare (StringLiteral text s) = StringLiteral text nowhere
bare (Variable x s) = Variable x nowhere
bare (Member e x p s) = Member (bare e) x p nowhere
bare (Index e i p s) = Index (bare e) (bare i) p nowhere
bare (Minus e s) = Minus (bare e) nowhere
bare (Not e s) = Not (bare e) nowhere
bare (Binary f a b s) = Binary f (bare a) (bare b) nowhere
bare (Coalesce a b s) = Coalesce (bare a) (bare b) nowhere
bare (Conditional c a b s) = Conditional (bare c) (bare a) (bare b) nowhere

eq_itself : (n : ℕ) → (n == n) ≡ true
eq_itself n = grind (arith, nat_tests)

name_itself : (x : List ℕ) → bytes_eq x x ≡ true
name_itself x = (bytes_eq-Decides x x).1 refl

bool_itself : (b : Bool) → is_same_bool b b ≡ true
bool_itself true = refl
bool_itself false = refl

same_bool : (a b : Bool) → is_same_bool a b ≡ true → a ≡ b
same_bool true true h = refl
same_bool false false h = refl
same_bool _ _ h = absurd (cc h)

int_itself : (n : ℤ) → is_same_int n n ≡ true
int_itself (pos n) = eq_itself n
int_itself (negsuc n) = eq_itself n

same_int : (m n : ℤ) → is_same_int m n ≡ true → m ≡ n
same_int (pos m) (pos n) h = ap (λ k. pos k) (eqb-true m n h)
same_int (negsuc m) (negsuc n) h = ap (λ k. negsuc k) (eqb-true m n h)
same_int _ _ h = absurd (cc h)

op_itself : (f : BinaryOp) → is_same_op f f ≡ true
op_itself f = eq_itself (op_number f)

same_op : (f g : BinaryOp) → is_same_op f g ≡ true → f ≡ g
same_op op.Mul op.Mul h = refl
same_op op.Rem op.Rem h = refl
same_op op.Add op.Add h = refl
same_op op.Sub op.Sub h = refl
same_op op.Lt op.Lt h = refl
same_op op.Gt op.Gt h = refl
same_op op.Le op.Le h = refl
same_op op.Ge op.Ge h = refl
same_op op.Eq op.Eq h = refl
same_op op.Ne op.Ne h = refl
same_op op.And op.And h = refl
same_op op.Or op.Or h = refl
same_op _ _ h = absurd (cc h)

expr_itself : (e : Expr) → is_same_expr e e ≡ true
expr_itself (NullLiteral s) = refl
expr_itself (BoolLiteral b s) = bool_itself b
expr_itself (IntLiteral n s) = int_itself n
expr_itself (StringLiteral text s) = name_itself text
expr_itself (Variable x s) = name_itself x
expr_itself (Member e x p s) = rw (expr_itself e, name_itself x, bool_itself p) refl
expr_itself (Index e i p s) = rw (expr_itself e, expr_itself i, bool_itself p) refl
expr_itself (Minus e s) = expr_itself e
expr_itself (Not e s) = expr_itself e
expr_itself (Binary f a b s) = rw (op_itself f, expr_itself a, expr_itself b) refl
expr_itself (Coalesce a b s) = rw (expr_itself a, expr_itself b) refl
expr_itself (Conditional c a b s) = rw (expr_itself c, expr_itself a, expr_itself b) refl

same_as_bare : (e f : Expr) → is_same_expr e f ≡ is_same_expr (bare e) (bare f)
same_as_bare (NullLiteral s) (NullLiteral t) = refl
same_as_bare (BoolLiteral a s) (BoolLiteral b t) = refl
same_as_bare (IntLiteral m s) (IntLiteral n t) = refl
same_as_bare (StringLiteral a s) (StringLiteral b t) = refl
same_as_bare (Variable x s) (Variable y t) = refl
same_as_bare (Member a x p s) (Member b y q t) =
    ap (λ z. z && bytes_eq x y && is_same_bool p q) (same_as_bare a b)
same_as_bare (Index a i p s) (Index b j q t) =
    ap (λ z. z && is_same_expr i j && is_same_bool p q) (same_as_bare a b)
    ∙ ap (λ z. is_same_expr (bare a) (bare b) && z && is_same_bool p q) (same_as_bare i j)
same_as_bare (Minus a s) (Minus b t) = same_as_bare a b
same_as_bare (Not a s) (Not b t) = same_as_bare a b
same_as_bare (Binary f a c s) (Binary g b d t) =
    ap (λ z. is_same_op f g && z && is_same_expr c d) (same_as_bare a b)
    ∙ ap (λ z. is_same_op f g && is_same_expr (bare a) (bare b) && z) (same_as_bare c d)
same_as_bare (Coalesce a c s) (Coalesce b d t) =
    ap (λ z. z && is_same_expr c d) (same_as_bare a b)
    ∙ ap (λ z. is_same_expr (bare a) (bare b) && z) (same_as_bare c d)
same_as_bare (Conditional a c e s) (Conditional b d f t) =
    ap (λ z. z && is_same_expr c d && is_same_expr e f) (same_as_bare a b)
    ∙ (ap (λ z. is_same_expr (bare a) (bare b) && z && is_same_expr e f) (same_as_bare c d)
    ∙ ap (λ z. is_same_expr (bare a) (bare b) && is_same_expr (bare c) (bare d) && z) (same_as_bare e f))
same_as_bare _ _ = refl

-- the three parts of a conjunction that holds
three : (a b c : Bool) → (a && b && c) ≡ true → (a ≡ true) × ((b ≡ true) × (c ≡ true))
three a b c h =
    let p = both (a && b) c h in
    let q = both a b p.0 in
    (q.0, (q.1, p.1))

same_bare : (e f : Expr) → is_same_expr e f ≡ true → bare e ≡ bare f
same_bare (NullLiteral s) (NullLiteral t) h = refl
same_bare (BoolLiteral a s) (BoolLiteral b t) h = ap (λ x. BoolLiteral x nowhere) (same_bool a b h)
same_bare (IntLiteral m s) (IntLiteral n t) h = ap (λ x. IntLiteral x nowhere) (same_int m n h)
same_bare (StringLiteral a s) (StringLiteral b t) h = ap (λ x. StringLiteral x nowhere) (same_name a b h)
same_bare (Variable x s) (Variable y t) h = ap (λ z. Variable z nowhere) (same_name x y h)
same_bare (Member a x p s) (Member b y q t) h =
    let k = three (is_same_expr a b) (bytes_eq x y) (is_same_bool p q) h in
    let d : bare a ≡ bare b = same_bare a b k.0 in
    let n : x ≡ y = same_name x y k.1.0 in
    let m : p ≡ q = same_bool p q k.1.1 in
    rw (d, n, m) refl
same_bare (Index a i p s) (Index b j q t) h =
    let k = three (is_same_expr a b) (is_same_expr i j) (is_same_bool p q) h in
    let d : bare a ≡ bare b = same_bare a b k.0 in
    let n : bare i ≡ bare j = same_bare i j k.1.0 in
    let m : p ≡ q = same_bool p q k.1.1 in
    rw (d, n, m) refl
same_bare (Minus a s) (Minus b t) h = ap (λ x. Minus x nowhere) (same_bare a b h)
same_bare (Not a s) (Not b t) h = ap (λ x. Not x nowhere) (same_bare a b h)
same_bare (Binary f a c s) (Binary g b d t) h =
    let k = three (is_same_op f g) (is_same_expr a b) (is_same_expr c d) h in
    let m : f ≡ g = same_op f g k.0 in
    let n : bare a ≡ bare b = same_bare a b k.1.0 in
    let q : bare c ≡ bare d = same_bare c d k.1.1 in
    rw (m, n, q) refl
same_bare (Coalesce a c s) (Coalesce b d t) h =
    let k = both (is_same_expr a b) (is_same_expr c d) h in
    let n : bare a ≡ bare b = same_bare a b k.0 in
    let q : bare c ≡ bare d = same_bare c d k.1 in
    rw (n, q) refl
same_bare (Conditional a c e s) (Conditional b d f t) h =
    let k = three (is_same_expr a b) (is_same_expr c d) (is_same_expr e f) h in
    let m : bare a ≡ bare b = same_bare a b k.0 in
    let n : bare c ≡ bare d = same_bare c d k.1.0 in
    let q : bare e ≡ bare f = same_bare e f k.1.1 in
    rw (m, n, q) refl
same_bare _ _ h = absurd (cc h)

bare_same : (e f : Expr) → bare e ≡ bare f → is_same_expr e f ≡ true
bare_same e f h =
    same_as_bare e f ∙ (ap (λ x. is_same_expr x (bare f)) h ∙ expr_itself (bare f))

abbrev bare_items : List MessageItem → List MessageItem
bare_items [] = []
bare_items (Character c s ∷ rest) = Character c nowhere ∷ bare_items rest
bare_items (Printed e phname s ∷ rest) = Printed (bare e) None nowhere ∷ bare_items rest

same_bare_items : (ps qs : List MessageItem) → are_same_message_items ps qs ≡ true → bare_items ps ≡ bare_items qs
same_bare_items [] [] h = refl
same_bare_items (Character c s ∷ ps) (Character d t ∷ qs) h =
    let k = both (c == d) (are_same_message_items ps qs) h in
    let m : c ≡ d = eqb-true c d k.0 in
    let n : bare_items ps ≡ bare_items qs = same_bare_items ps qs k.1 in
    rw (m, n) refl
same_bare_items (Printed e m s ∷ ps) (Printed f n t ∷ qs) h =
    let k = both (is_same_expr e f) (are_same_message_items ps qs) h in
    let i : bare e ≡ bare f = same_bare e f k.0 in
    let j : bare_items ps ≡ bare_items qs = same_bare_items ps qs k.1 in
    rw (i, j) refl
same_bare_items _ _ h = absurd (cc h)

items_itself : (ps : List MessageItem) → are_same_message_items ps ps ≡ true
items_itself [] = refl
items_itself (Character c s ∷ ps) = rw (eq_itself c, items_itself ps) refl
items_itself (Printed e m s ∷ ps) = rw (expr_itself e, items_itself ps) refl

same_as_bare_items : (ps qs : List MessageItem)
    → are_same_message_items ps qs ≡ are_same_message_items (bare_items ps) (bare_items qs)
same_as_bare_items [] [] = refl
same_as_bare_items (Character c s ∷ ps) (Character d t ∷ qs) = ap (λ z. c == d && z) (same_as_bare_items ps qs)
same_as_bare_items (Printed e m s ∷ ps) (Printed f n t ∷ qs) =
    ap (λ z. z && are_same_message_items ps qs) (same_as_bare e f)
    ∙ ap (λ z. is_same_expr (bare e) (bare f) && z) (same_as_bare_items ps qs)
same_as_bare_items [] (Character d t ∷ qs) = refl
same_as_bare_items [] (Printed f n t ∷ qs) = refl
same_as_bare_items (Character c s ∷ ps) [] = refl
same_as_bare_items (Printed e m s ∷ ps) [] = refl
same_as_bare_items (Character c s ∷ ps) (Printed f n t ∷ qs) = refl
same_as_bare_items (Printed e m s ∷ ps) (Character d t ∷ qs) = refl

abbrev bare_content : Content → Content
bare_content (ExprContent e) = ExprContent (bare e)
bare_content (TagContent ps) = TagContent (bare_items ps)

same_bare_content : (c d : Content) → is_same_content c d ≡ true → bare_content c ≡ bare_content d
same_bare_content (ExprContent e) (ExprContent f) h = ap (λ x. ExprContent x) (same_bare e f h)
same_bare_content (TagContent ps) (TagContent qs) h = ap (λ x. TagContent x) (same_bare_items ps qs h)
same_bare_content _ _ h = absurd (cc h)

pub content_itself : (c : Content) → is_same_content c c ≡ true
content_itself (ExprContent e) = expr_itself e
content_itself (TagContent ps) = items_itself ps

same_as_bare_content : (c d : Content) → is_same_content c d ≡ is_same_content (bare_content c) (bare_content d)
same_as_bare_content (ExprContent e) (ExprContent f) = same_as_bare e f
same_as_bare_content (TagContent ps) (TagContent qs) = same_as_bare_items ps qs
same_as_bare_content _ _ = refl

bare_same_content : (c d : Content) → bare_content c ≡ bare_content d → is_same_content c d ≡ true
bare_same_content c d h =
    same_as_bare_content c d
    ∙ (ap (λ x. is_same_content x (bare_content d)) h ∙ content_itself (bare_content d))

pub content_turned : (c d : Content) → is_same_content c d ≡ true → is_same_content d c ≡ true
content_turned c d h = bare_same_content d c (sym (same_bare_content c d h))

-- two contents that are each the same as a third one
pub content_shared : (x c d : Content) → is_same_content x c ≡ true → is_same_content x d ≡ true
    → is_same_content c d ≡ true
content_shared x c d h k =
    bare_same_content c d (sym (same_bare_content x c h) ∙ same_bare_content x d k)
