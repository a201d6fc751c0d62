-- The spans of commands and of the expressions that they say, where their tokens stand in order.
use Rattle.std.proofs.Common.{◌≡◌, ℕ, ◌≤◌, Bool, List, [], ◌∷◌, ◌++◌, Option, Some, None, refl, subst, sym, ◌∙◌}
use Rattle.std.proofs.Common.{ap, arith, append_assoc, append-nil}
use Rattle.std.specs.Prelude.{option_map, unwrap_or}
use Rattle.soy_base.specs.declared.fault.Span.{Span}
use Rattle.soy_base.specs.declared.kind.Kind.{Kind}
use Rattle.soy_lexer.specs.InOrder.{InOrder}
use Rattle.soy_lexer.specs.declared.token.Token.{Token}
use Rattle.soy_tree.specs.Expressions.{Expr, NullLiteral, BoolLiteral, IntLiteral, StringLiteral, Variable, Member}
use Rattle.soy_tree.specs.Expressions.{Index, Minus, Not, Binary, Coalesce, Conditional, span_of}
use Rattle.soy_tree.specs.ViewExpressions.{view_expr, view_exprs}
use Rattle.soy_tree.specs.declared.expr.Expr as code
use Rattle.expr_parser.specs.Operands.{joined}
use Rattle.expr_parser.specs.SpansInOrder.{AreWithinSpan, SpansAscend, SpansInOrder}
use Rattle.expr_parser.proofs.ExprSpans.{around, spans_in_order}
use Rattle.soy_parser.specs.declared.attributes.Attributes.{Attributes}
use Rattle.soy_parser.specs.declared.command.Command.{Command}
use Rattle.soy_parser.specs.declared.command.CommandForm.{CommandForm}
use Rattle.soy_parser.specs.declared.command.CommandForm.TheVariants as says
use Rattle.soy_parser.specs.declared.command.Middle.{Middle}
use Rattle.soy_parser.specs.declared.command.Middle.TheVariants as middle
use Rattle.soy_parser.specs.declared.command.Opening.{Opening}
use Rattle.soy_parser.specs.declared.command.Opening.TheVariants as opening
use Rattle.soy_parser.specs.declared.command.Single.{Single}
use Rattle.soy_parser.specs.declared.command.Single.TheVariants as single
use Rattle.soy_parser.specs.declared.head.Head.{Head}
use Rattle.soy_parser.specs.declared.head.Head.TheVariants as head
use Rattle.soy_parser.specs.declared.terminal.BlockName.TheVariants as block
use Rattle.soy_parser.specs.declared.terminal.CommandTerminal.{CommandTerminal}
use Rattle.soy_parser.specs.declared.terminal.CommandTerminal.TheVariants as terminal
use Rattle.soy_parser.specs.declared.terminal.CommandWord.TheVariants as word
use Rattle.soy_parser.specs.CommandTerminals.{command_terminal_of}
use Rattle.soy_parser.specs.FileSpans.{Ascend, held, expr_offsets, exprs_offsets}
use Rattle.soy_parser.specs.Heads.{form_at, plain_form, slash_form}
use Rattle.soy_parser.specs.SpellsCommand.{SpellsCommand, SpellsCommands}
use Rattle.soy_parser.specs.SpellsHead.{bare_head, expr_head, SpellsValues, SpellsHead}

-- offsets that ascend

ascend_from : (from later to : ℕ) (os : List ℕ) → from ≤ later → Ascend later to os → Ascend from to os
ascend_from from later to [] h a = omega (arith, h, a)
ascend_from from later to (o ∷ os) h a = (omega (arith, h, a.0), a.1)

ascend_append : (from mid to : ℕ) (os ps : List ℕ) → Ascend from mid os → Ascend mid to ps → Ascend from to (os ++ ps)
ascend_append from mid to [] ps a b = ascend_from from mid to ps a b
ascend_append from mid to (o ∷ os) ps a b = (a.0, ascend_append o mid to os ps a.1 b)

ascend_held : (from to : ℕ) (s : Span) (os : List ℕ) → from ≤ s.start → Ascend s.start s.end os → s.end ≤ to
    → Ascend from to (held s os)
ascend_held from to s os h a k =
    let same : s.end ≤ s.end = omega arith in
    (h, ascend_append s.start s.end to os (s.end ∷ []) a (same, k))

-- the spans of an expression

two_parts : (a b : Expr) (s : Span)
    → AreWithinSpan s (span_of a ∷ (span_of b ∷ [])) × SpansAscend a × SpansAscend b
    → SpansInOrder s.start (span_of a).end a × SpansInOrder (span_of a).end s.end b
two_parts a b s h =
    let w = h.0 in let same : (span_of a).end ≤ (span_of a).end = omega arith in
    (((w.0, w.1, same), h.1), (w.2, h.2))

two_ascend : (a b : Expr) (from to : ℕ) (s : Span) → from ≤ s.start → s.end ≤ to
    → Ascend s.start (span_of a).end (expr_offsets a) → Ascend (span_of a).end s.end (expr_offsets b)
    → Ascend from to (held s (expr_offsets a ++ expr_offsets b))
two_ascend a b from to s first last p q =
    ascend_held from to s (expr_offsets a ++ expr_offsets b) first
    (ascend_append s.start (span_of a).end s.end (expr_offsets a) (expr_offsets b) p q) last

expr_ascends : (e : Expr) (from to : ℕ) → SpansInOrder from to e → Ascend from to (expr_offsets e)
expr_ascends (NullLiteral s) from to h =
    let m = h.0.1 in ascend_held from to s [] h.0.0 (omega (arith, m)) h.0.2
expr_ascends (BoolLiteral b s) from to h =
    let m = h.0.1 in ascend_held from to s [] h.0.0 (omega (arith, m)) h.0.2
expr_ascends (IntLiteral n s) from to h =
    let m = h.0.1 in ascend_held from to s [] h.0.0 (omega (arith, m)) h.0.2
expr_ascends (StringLiteral text s) from to h =
    let m = h.0.1 in ascend_held from to s [] h.0.0 (omega (arith, m)) h.0.2
expr_ascends (Variable name s) from to h =
    let m = h.0.1 in ascend_held from to s [] h.0.0 (omega (arith, m)) h.0.2
expr_ascends (Member e name takes_null s) from to h =
    ascend_held from to s (expr_offsets e) h.0.0 (expr_ascends e s.start s.end h.1) h.0.2
expr_ascends (Minus e s) from to h =
    ascend_held from to s (expr_offsets e) h.0.0 (expr_ascends e s.start s.end h.1) h.0.2
expr_ascends (Not e s) from to h =
    ascend_held from to s (expr_offsets e) h.0.0 (expr_ascends e s.start s.end h.1) h.0.2
expr_ascends (Index a b takes_null s) from to h =
    let p = two_parts a b s h.1 in
    two_ascend a b from to s h.0.0 h.0.2 (expr_ascends a s.start (span_of a).end p.0)
    (expr_ascends b (span_of a).end s.end p.1)
expr_ascends (Binary op a b s) from to h =
    let p = two_parts a b s h.1 in
    two_ascend a b from to s h.0.0 h.0.2 (expr_ascends a s.start (span_of a).end p.0)
    (expr_ascends b (span_of a).end s.end p.1)
expr_ascends (Coalesce a b s) from to h =
    let p = two_parts a b s h.1 in
    two_ascend a b from to s h.0.0 h.0.2 (expr_ascends a s.start (span_of a).end p.0)
    (expr_ascends b (span_of a).end s.end p.1)
expr_ascends (Conditional c a b s) from to h =
    let w = h.1.0 in let v = w.2 in
    let one : (span_of c).end ≤ (span_of c).end = omega arith in
    let two : (span_of a).end ≤ (span_of a).end = omega arith in
    ascend_held from to s (expr_offsets c ++ (expr_offsets a ++ expr_offsets b)) h.0.0
    (ascend_append s.start (span_of c).end s.end (expr_offsets c) (expr_offsets a ++ expr_offsets b)
    (expr_ascends c s.start (span_of c).end ((w.0, w.1, one), h.1.1))
    (ascend_append (span_of c).end (span_of a).end s.end (expr_offsets a) (expr_offsets b)
    (expr_ascends a (span_of c).end (span_of a).end ((v.0, v.1, two), h.1.2))
    (expr_ascends b (span_of a).end s.end (v.2, h.1.3)))) h.0.2

-- what commands and heads say

abbrev single_offsets : Single → List ℕ
single_offsets (single.Print e) = expr_offsets (view_expr e)
single_offsets (single.MessagePrint e phname) = expr_offsets (view_expr e)
single_offsets (single.Let n e) = expr_offsets (view_expr e)
single_offsets (single.Call n all) = []
single_offsets (single.Param n e) = expr_offsets (view_expr e)

abbrev opening_offsets : Opening → List ℕ
opening_offsets (opening.If e) = expr_offsets (view_expr e)
opening_offsets (opening.Switch e) = expr_offsets (view_expr e)
opening_offsets (opening.For n index e) = expr_offsets (view_expr e)
opening_offsets (opening.Plural e offset) = expr_offsets (view_expr e)
opening_offsets (opening.Select e) = expr_offsets (view_expr e)
opening_offsets _ = []

abbrev middle_offsets : Middle → List ℕ
middle_offsets (middle.ElseIf e) = expr_offsets (view_expr e)
middle_offsets (middle.Case values) = exprs_offsets (view_exprs values)
middle_offsets _ = []

abbrev pub form_offsets : CommandForm → List ℕ
form_offsets (says.Single of) = single_offsets of
form_offsets (says.Opens of) = opening_offsets of
form_offsets (says.GoesOn m) = middle_offsets m
form_offsets _ = []

abbrev head_offsets : Head → List ℕ
head_offsets (head.Whole of) = form_offsets of
head_offsets (head.Alone of) = single_offsets of
head_offsets (head.MessagePrint e) = expr_offsets (view_expr e)
head_offsets (head.Plural e) = expr_offsets (view_expr e)
head_offsets _ = []

-- tokens in order

in_order_within : (from to : ℕ) (ts : List Token) → InOrder from to ts → from ≤ to
in_order_within from to [] o = o
in_order_within from to (t ∷ ts) o =
    let l = in_order_within t.span.end to ts o.2 in omega (arith, o.0, o.1, l)

in_order_to : (from to later : ℕ) (ts : List Token) → to ≤ later → InOrder from to ts → InOrder from later ts
in_order_to from to later [] h o = omega (arith, h, o)
in_order_to from to later (t ∷ ts) h o = (o.0, o.1, in_order_to t.span.end to later ts h o.2)

in_order_right : (from to : ℕ) (ts us : List Token) → InOrder from to (ts ++ us) → InOrder from to us
in_order_right from to [] us o = o
in_order_right from to (t ∷ ts) us o = sooner us (in_order_right t.span.end to ts us o.2)
  where
    sooner : (us : List Token) → InOrder t.span.end to us → InOrder from to us
    sooner [] k = omega (arith, o.0, o.1, k)
    sooner (u ∷ us) k = (omega (arith, o.0, o.1, k.0), k.1, k.2)

-- tokens in order in two parts
record Parted (from to : ℕ) (ts us : List Token) : Type 0 where
  pub mid : ℕ
  pub first : InOrder from mid ts
  pub second : InOrder mid to us

parted : (from to : ℕ) (ts us : List Token) → InOrder from to (ts ++ us) → Parted from to ts us
parted from to [] us o = record { mid = from; first = omega arith; second = o }
parted from to (t ∷ ts) us o =
    let p = parted t.span.end to ts us o.2 in
    record { mid = p.mid; first = (o.0, o.1, p.first); second = p.second }

-- the spans of what a head says

exprs_append : (values : List code.Expr) (e : code.Expr) → exprs_offsets (view_exprs (values ++ (e ∷ [])))
    ≡ exprs_offsets (view_exprs values) ++ expr_offsets (view_expr e)
exprs_append [] e = append-nil (expr_offsets (view_expr e))
exprs_append (v ∷ values) e =
    ap (λ os. expr_offsets (view_expr v) ++ os) (exprs_append values e)
    ∙ sym (append_assoc (expr_offsets (view_expr v)) (exprs_offsets (view_exprs values)) (expr_offsets (view_expr e)))

values_ascend : (ts : List Token) (ds : List ℕ) (values : List code.Expr) (from to : ℕ) → InOrder from to ts
    → SpellsValues ts ds values → Ascend from to (exprs_offsets (view_exprs values))
values_ascend _ _ _ from to o (SpellsValues.one_ ts ds x s) =
    subst (Ascend from to) (sym (append-nil (expr_offsets (view_expr x.expr))))
    (expr_ascends (view_expr x.expr) from to (spans_in_order ts ds x from to o s))
values_ascend _ _ _ from to o (SpellsValues.more_ ts us ds es values comma x s c r) =
    let a = around from to ts comma us o in
    let m = a.some in
    subst (Ascend from to) (sym (exprs_append values x.expr))
    (ascend_append from comma.span.start to (exprs_offsets (view_exprs values)) (expr_offsets (view_expr x.expr))
    (values_ascend ts ds values from comma.span.start a.before s)
    (ascend_from comma.span.start comma.span.end to (expr_offsets (view_expr x.expr)) (omega (arith, m))
    (expr_ascends (view_expr x.expr) comma.span.end to (spans_in_order us es x comma.span.end to a.after r))))

-- a head says these
abbrev SaysIf : List ℕ → Option Head → Type 0
SaysIf os None = Unit {0}
SaysIf os (Some h) = os ≡ head_offsets h

bare_says : (m : CommandTerminal) → SaysIf [] (bare_head m)
bare_says (terminal.Word word.Space) = refl
bare_says (terminal.Word word.Nil) = refl
bare_says (terminal.Word word.LeftBrace) = refl
bare_says (terminal.Word word.RightBrace) = refl
bare_says (terminal.Word word.NoBreakSpace) = refl
bare_says (terminal.Word word.Else) = refl
bare_says (terminal.Word word.Default) = refl
bare_says (terminal.Word word.Msg) = refl
bare_says (terminal.Word word.FallbackMsg) = refl
bare_says (terminal.Word _) = tt
bare_says (terminal.Close block.Other) = tt
bare_says (terminal.Close _) = refl
bare_says terminal.LineFeed = refl
bare_says terminal.CarriageReturn = refl
bare_says terminal.Tab = refl
bare_says _ = tt

expr_says : (m : CommandTerminal) (e : code.Expr) → SaysIf (expr_offsets (view_expr e)) (expr_head m e)
expr_says (terminal.Word word.Print) e = refl
expr_says (terminal.Word word.If) e = refl
expr_says (terminal.Word word.ElseIf) e = refl
expr_says (terminal.Word word.Switch) e = refl
expr_says (terminal.Word word.Plural) e = refl
expr_says (terminal.Word word.Select) e = refl
expr_says (terminal.Word _) e = tt
expr_says _ e = tt

head_ascends : (ts : List Token) (ds : List ℕ) (ws : List Bool) (h : Head) (from to : ℕ) → InOrder from to ts
    → SpellsHead ts ds ws h → Ascend from to (head_offsets h)
head_ascends _ _ _ _ from to o (SpellsHead.bare_ t h e) =
    subst (Ascend from to) (subst (SaysIf []) e (bare_says (command_terminal_of t)))
    (in_order_within from to (t ∷ []) o)
head_ascends _ _ _ _ from to o (SpellsHead.printed_ ts ds x s) =
    expr_ascends (view_expr x.expr) from to (spans_in_order ts ds x from to o s)
head_ascends _ _ _ _ from to o (SpellsHead.message_printed_ ts ds x s) =
    expr_ascends (view_expr x.expr) from to (spans_in_order ts ds x from to o s)
head_ascends _ _ _ _ from to o (SpellsHead.message_print_ t ts ds x e s) =
    expr_ascends (view_expr x.expr) from to
    (spans_in_order ts ds x from to (in_order_right from to (t ∷ []) ts o) s)
head_ascends _ _ _ _ from to o (SpellsHead.expression_ t ts ds x h s e) =
    subst (Ascend from to)
    (subst (SaysIf (expr_offsets (view_expr x.expr))) e (expr_says (command_terminal_of t) x.expr))
    (expr_ascends (view_expr x.expr) from to
    (spans_in_order ts ds x from to (in_order_right from to (t ∷ []) ts o) s))
head_ascends _ _ _ _ from to o (SpellsHead.case_ t ts ds values e s) =
    values_ascend ts ds values from to (in_order_right from to (t ∷ []) ts o) s
head_ascends _ _ _ _ from to o (SpellsHead.plural_case_ t ts values e s) = in_order_within from to (t ∷ ts) o
head_ascends _ _ _ _ from to o (SpellsHead.select_case_ t ts values e s) = in_order_within from to (t ∷ ts) o
head_ascends _ _ _ _ from to o (SpellsHead.for_ t i ts us ds name index x e v k s) =
    let p = in_order_right from to ts (i ∷ us) (in_order_right from to (t ∷ []) (ts ++ (i ∷ us)) o) in
    expr_ascends (view_expr x.expr) from to
    (spans_in_order us ds x from to (in_order_right from to (i ∷ []) us p) s)
head_ascends _ _ _ _ from to o (SpellsHead.let_ t v colon ts ds x e k c s) =
    expr_ascends (view_expr x.expr) from to
    (spans_in_order ts ds x from to (in_order_right from to (t ∷ (v ∷ (colon ∷ []))) ts o) s)
head_ascends _ _ _ _ from to o (SpellsHead.let_block_ t v e k) = in_order_within from to (t ∷ (v ∷ [])) o
head_ascends _ _ _ _ from to o (SpellsHead.call_ t ts us name e d s) =
    in_order_within from to (t ∷ (ts ++ us)) o
head_ascends _ _ _ _ from to o (SpellsHead.param_ t name colon w ts ds x e k c s) =
    expr_ascends (view_expr x.expr) from to
    (spans_in_order ts ds x from to (in_order_right from to (t ∷ (name ∷ (colon ∷ []))) ts o) s)
head_ascends _ _ _ _ from to o (SpellsHead.param_block_ t name w e k) = in_order_within from to (t ∷ (name ∷ [])) o
head_ascends _ _ _ _ from to o (SpellsHead.namespace_ t ts name e s) = in_order_within from to (t ∷ ts) o
head_ascends _ _ _ _ from to o (SpellsHead.template_ t name w ts e d k) =
    in_order_within from to (t ∷ (ts ++ (name ∷ []))) o
head_ascends _ _ _ _ from to o (SpellsHead.template_param_ sign t name colon w ts us ds ws required x a e q k c s) =
    in_order_within from to (sign ∷ (t ∷ (ts ++ (name ∷ (colon ∷ us))))) o

-- what a command says with its attributes and its end

abbrev FormIf : List ℕ → Option CommandForm → Type 0
FormIf os None = Unit {0}
FormIf os (Some of) = os ≡ form_offsets of

kind_says : (make : Kind → CommandForm) (o : Option Kind) → ((k : Kind) → [] ≡ form_offsets (make k))
    → FormIf [] (option_map make o)
kind_says make None f = tt
kind_says make (Some k) f = f k

desc_says : (make : List ℕ → List ℕ → CommandForm) (a : Attributes) (desc : Option (List ℕ))
    → ((d m : List ℕ) → [] ≡ form_offsets (make d m))
    → FormIf [] (option_map (λ d. make d (unwrap_or a.meaning [])) desc)
desc_says make a None f = tt
desc_says make a (Some d) f = f d (unwrap_or a.meaning [])

plain_says : (h : Head) (a : Attributes) → FormIf (head_offsets h) (plain_form h a)
plain_says (head.Whole of) a = refl
plain_says (head.Alone of) a = tt
plain_says (head.Template n) a = refl
plain_says (head.MessagePrint e) a = refl
plain_says (head.Let n) a = kind_says (λ k. says.Opens (opening.Let n k)) a.kind (λ k. refl)
plain_says (head.Param n) a = kind_says (λ k. says.Opens (opening.Param n k)) a.kind (λ k. refl)
plain_says (head.Call n) a = refl
plain_says head.Message a =
    desc_says (λ desc meaning. says.Opens (opening.Message desc meaning)) a a.desc (λ d m. refl)
plain_says head.Fallback a =
    desc_says (λ desc meaning. says.GoesOn (middle.Fallback desc meaning)) a a.desc (λ d m. refl)
plain_says (head.Plural e) a = refl

slash_says : (h : Head) (a : Attributes) → FormIf (head_offsets h) (slash_form h a)
slash_says (head.Alone of) a = refl
slash_says (head.Call n) a = refl
slash_says _ a = tt

form_says : (h : Head) (a : Attributes) (m : CommandTerminal) → FormIf (head_offsets h) (form_at h a m)
form_says h a terminal.End = plain_says h a
form_says h a terminal.SlashEnd = slash_says h a
form_says h a _ = tt

-- **The spans of commands ascend, each with those that it says.** The start of each stands twice, as the message of a
-- message command begins where its node does.

abbrev pub command_offsets : Command → List ℕ
command_offsets c = c.span.start ∷ held c.span (form_offsets c.form)

abbrev pub commands_offsets : List Command → List ℕ
commands_offsets [] = []
commands_offsets (c ∷ cs) = command_offsets c ++ commands_offsets cs

command_ascends : (ts : List Token) (ds : List ℕ) (ws : List Bool) (c : Command) (from to : ℕ) → InOrder from to ts
    → SpellsCommand ts ds ws c → Ascend from to (command_offsets c)
command_ascends _ _ _ _ from to o (SpellsCommand.text_ t e) =
    let m = o.1 in
    (o.0, ascend_held t.span.start to t.span [] (omega arith) (omega (arith, m)) o.2)
command_ascends _ _ _ _ from to o (SpellsCommand.command_ opening_ close ts us ds ws h a of e s b i) =
    let p = parted opening_.span.end to ts (us ++ (close ∷ [])) o.2 in
    let r = around p.mid to us close [] p.second in
    let w = in_order_within p.mid close.span.start us r.before in
    let m = o.1 in let k = r.some in
    let parts = head_ascends ts ds ws h opening_.span.end close.span.end
    (in_order_to opening_.span.end p.mid close.span.end ts (omega (arith, w, k)) p.first) s in
    let are = subst (FormIf (head_offsets h)) i (form_says h a (command_terminal_of close)) in
    let inner = ascend_from opening_.span.start opening_.span.end close.span.end (form_offsets of) (omega (arith, m))
    (subst (Ascend opening_.span.end close.span.end) are parts) in
    let span = joined opening_.span close.span in
    (o.0, ascend_held opening_.span.start to span (form_offsets of) (omega arith) inner r.after)

pub commands_ascend : (ts : List Token) (ds : List ℕ) (ws : List Bool) (cs : List Command) (ls : List ℕ) (from to : ℕ)
    → InOrder from to ts → SpellsCommands ts ds ws cs ls → Ascend from to (commands_offsets cs)
commands_ascend _ _ _ _ _ from to o SpellsCommands.none_ = o
commands_ascend _ _ _ _ _ from to o (SpellsCommands.more_ ts us ds es ws vs c cs level levels s r) =
    let p = parted from to ts us o in
    ascend_append from p.mid to (command_offsets c) (commands_offsets cs)
    (command_ascends ts ds ws c from p.mid p.first s)
    (commands_ascend us es vs cs levels p.mid to p.second r)
