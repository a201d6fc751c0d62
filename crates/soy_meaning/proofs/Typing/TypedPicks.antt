-- Typed nodes pick values: no choice of an expression is between blocks.
use Rattle.std.proofs.Common.{◌≡◌, Bool, true, false, ◌&&◌, ◌||◌, List, [], ◌∷◌, inl, inr, Option, Some, None}
use Rattle.std.proofs.Common.{Ok, if◌then◌else◌, refl, sym, ap, ◌∙◌, subst}
use Rattle.std.specs.Prelude.{bytes_eq, is_some, not}
use Rattle.std.proofs.lemmas.Bool.{and_from, false_from_ne_true, or_from}
use Rattle.soy_base.specs.declared.fault.Span.{Span}
use Rattle.soy_base.specs.declared.kind.Kind.{Kind}
use Rattle.soy_base.specs.declared.kind.Kind.TheVariants as kinds
use Rattle.soy_tree.specs.declared.expr.BinaryOp.TheVariants as op
use Rattle.soy_rules.specs.Bodies.{Around, param_of}
use Rattle.soy_tree.specs.Expressions.{Expr, NullLiteral, BoolLiteral, IntLiteral, StringLiteral, Variable, Member}
use Rattle.soy_tree.specs.Expressions.{Index, Minus, Not, Binary, Coalesce, Conditional}
use Rattle.soy_rules.specs.Members.{has_block, joined, type_without_null}
use Rattle.soy_tree.specs.MessageText.{MessageItem, Character, Printed, Cut, TextCut, PrintCut, TagCut}
use Rattle.soy_rules.specs.Narrowing.{name_narrowed, narrowed, variable_narrowed}
use Rattle.soy_tree.specs.Nodes.{Node, Nodes, Otherwise, Arms, Cases, Arguments, Given, Fallback, MessageBody}
use Rattle.soy_tree.specs.Nodes.{PluralCases, SelectCases, TextNode, Print, If, Switch, For, Let, LetBlock, Call}
use Rattle.soy_tree.specs.Nodes.{MessageNode, no_node, node, no_otherwise, otherwise, no_arm, arm, no_case, case}
use Rattle.soy_tree.specs.Nodes.{no_argument, argument, Plain, Block, message, no_fallback, fallback, Parts, Plural}
use Rattle.soy_tree.specs.Nodes.{Select, no_plural_case, plural_case, no_select_case, select_case}
use Rattle.soy_rules.specs.Placeholders.{Use}
use Rattle.soy_rules.specs.Templates.{Declared, callee, declared, kind_type, param_scope, param_type}
use Rattle.soy_tree.specs.Trees.{Param, Tree}
use Rattle.soy_rules.specs.TypeOf.{choice_type, Scope, is_null_literal, type_of, variable_type}
use Rattle.soy_tree.specs.Types.{Name, SoyType, ListType}
use Rattle.soy_rules.proofs.ValueTypes.{Stepped, chosen, fitted, found_some, narrowed_block, no_block, stepped}
use Rattle.soy_meaning.specs.Runs.EqualChoices.{BindingsAlike, EnvsAlike}
use Rattle.soy_pieces.specs.Giving.{BoundBlock, RunEnv}
use Rattle.soy_pieces.specs.Pieces.{RunContext, context_in}
use Rattle.soy_meaning.specs.Runs.PicksValues.{ArgumentsPick, ArmsPick, BodyPicks, CasesPick, FallbackPicks, GivenPicks}
use Rattle.soy_meaning.specs.Runs.PicksValues.{Marks}
use Rattle.soy_meaning.specs.Runs.PicksValues.{NodePicks, NodesPick, OtherPicks, PluralPicks, SelectPicks}
use Rattle.soy_meaning.specs.Runs.PicksValues.{TemplatesPick}
use Rattle.soy_meaning.specs.Runs.PicksValues.{argument_marks, callee_takes, cut_picks, given_mark, is_block_kind}
use Rattle.soy_meaning.specs.Runs.PicksValues.{is_marked}
use Rattle.soy_meaning.specs.Runs.PicksValues.{mark_of, marks_past, may_give_block, param_mark, param_marks}
use Rattle.soy_meaning.specs.Runs.PicksValues.{params_take}
use Rattle.soy_meaning.specs.Runs.PicksValues.{picks_values, tag_picks, turn_marks, uses_pick}
use Rattle.soy_meaning.specs.Paths.PlanOfNodes.{body_scope, scope_past, with_variable}
use Rattle.soy_rules.specs.Placeholders.{uses_of}
use Rattle.soy_rules.specs.Placeholders.{cut_of_role}
use Rattle.soy_meaning.specs.Runs.RunsAlong.{BindsValues}
use Rattle.soy_meaning.specs.Walks.States.{IsMember}
use Rattle.soy_meaning.specs.Runs.TypedData.{AreTypedTrees, FitsData}
use Rattle.soy_rules.specs.Fits.{Fits}
use Rattle.soy_rules.specs.Val.{Binding, BlockOf, Known}
use Rattle.soy_meaning.proofs.Typing.BlockClasses.{accepted_block}
use Rattle.soy_meaning.proofs.Typing.CheckedTrees.{TemplateTyped, templates_typed}
use Rattle.soy_meaning.proofs.Typing.PrintableUses.{message_printable}
use Rattle.soy_meaning.proofs.Typing.TypedNodes.{ArgumentsTyped, ArmsTyped, BodyTyped, CalleeTakes, CasesTyped}
use Rattle.soy_meaning.proofs.Typing.TypedNodes.{CutPrintable}
use Rattle.soy_meaning.proofs.Typing.TypedNodes.{chosen_first, chosen_second, coalesced_second, coalesced_type}
use Rattle.soy_meaning.proofs.Typing.TypedNodes.{FallbackTyped, GivenTaken, GivenTyped}
use Rattle.soy_meaning.proofs.Typing.TypedNodes.{ItemsPrintable, LeftTo, NodeTyped, NodesTyped, OtherTyped}
use Rattle.soy_meaning.proofs.Typing.TypedNodes.{ParamTakes, ParamsTake, PluralTyped, SelectTyped, UsesPrintable}
use Rattle.soy_meaning.proofs.Typing.TypedNodes.{given_of}

-- what is marked has html or attributes
abbrev MarksFit : Marks → Scope → Type 0
MarksFit [] [] = Unit {0}
MarksFit (m ∷ marks) (v ∷ scope) = (m.0 ≡ v.0) × (m.1 ≡ true → has_block v.1 ≡ true) × MarksFit marks scope
MarksFit _ _ = ⊥

some_is : (t u : SoyType) → Some t ≡ Some u → t ≡ u
some_is t u e = cc

marked_if : (test mark rest : Bool) (here : SoyType) (more : Option SoyType) (t : SoyType)
    → (mark ≡ true → has_block here ≡ true) → (more ≡ Some t → rest ≡ true → has_block t ≡ true)
    → (if test then Some here else more) ≡ Some t → (if test then mark else rest) ≡ true → has_block t ≡ true
marked_if true mark rest here more t h k e is = subst (λ z. has_block z ≡ true) (some_is here t e) (h is)
marked_if false mark rest here more t h k e is = k e is

marked_block : (name : Name) (marks : Marks) (scope : Scope) (t : SoyType) → MarksFit marks scope
    → variable_type name scope ≡ Some t → is_marked name marks ≡ true → has_block t ≡ true
marked_block name [] [] t h e is = let no : ⊥ = cc in absurd no
marked_block name [] (v ∷ scope) t h e is = absurd h
marked_block name (m ∷ marks) [] t h e is = absurd h
marked_block name (m ∷ marks) (v ∷ scope) t h e is =
    let same : bytes_eq m.0 name ≡ bytes_eq v.0 name = ap (λ x. bytes_eq x name) h.0 in
    marked_if (bytes_eq v.0 name) m.1 (is_marked name marks) v.1 (variable_type name scope) t h.1
    (λ d g. marked_block name marks scope t h.2 d g) e
    (subst (λ z. (if z then m.1 else is_marked name marks) ≡ true) same is)

-- ---- expressions

false_true : {P : Type 0} → ◌≡◌ {A = Bool} false true → P
false_true e = let no : ⊥ = cc in absurd no

not_both : (b : Bool) → b ≡ true → b ≡ false → ⊥
not_both b e h = let no : ⊥ = cc in no

not_false : (b : Bool) → b ≡ false → not b ≡ true
not_false b e = ap not e

-- the two that are picked from
record PicksTwo (a b : Expr) (marks : Marks) : Type 0 where
  pub one : may_give_block a marks ≡ false
  pub two : may_give_block b marks ≡ false

picks_two : (a b : Expr) (marks : Marks) → PicksTwo a b marks
    → not (may_give_block a marks || may_give_block b marks) ≡ true
picks_two a b marks h =
    not_false (may_give_block a marks || may_give_block b marks)
    (or_from (may_give_block a marks) (may_give_block b marks) h.one h.two)

two_none : (a b : Expr) (marks : Marks) → PicksTwo a b marks
    → (may_give_block a marks || may_give_block b marks) ≡ true → ⊥
two_none a b marks h is =
    not_both (may_give_block a marks || may_give_block b marks) is
    (or_from (may_give_block a marks) (may_give_block b marks) h.one h.two)

-- what may be a block has html or attributes
abbrev MayBlock : Expr → Marks → Scope → Type 0
MayBlock e marks scope =
    (t : SoyType) → type_of e scope ≡ Ok t → may_give_block e marks ≡ true → has_block t ≡ true

no_may : (e : Expr) (marks : Marks) (scope : Scope) (t : SoyType) → MayBlock e marks scope
    → type_of e scope ≡ Ok t → has_block t ≡ false → may_give_block e marks ≡ false
no_may e marks scope t may typed none =
    false_from_ne_true (may_give_block e marks) (λ is. not_both (has_block t) (may t typed is) none)

coalesce_picks : (a b : Expr) (span : Span) (marks : Marks) (scope : Scope) (t : SoyType) → MayBlock a marks scope
    → MayBlock b marks scope → type_of (Coalesce a b span) scope ≡ Ok t → PicksTwo a b marks
coalesce_picks a b span marks scope t first second typed =
    let one : Stepped (type_of a scope) (λ u. coalesced_second b scope span u) t =
    stepped (type_of a scope) (λ u. coalesced_second b scope span u) t typed in
    let two : Stepped (type_of b scope) (λ v. coalesced_type span one.got v) t =
    stepped (type_of b scope) (λ v. coalesced_type span one.got v) t one.then_ in
    let fit : (not (has_block one.got || has_block two.got) ≡ true)
    × (joined (type_without_null one.got) two.got ≡ t) =
    fitted (not (has_block one.got || has_block two.got)) (joined (type_without_null one.got) two.got) span one.got
    two.got t two.then_ in
    let none : (has_block one.got ≡ false) × (has_block two.got ≡ false) =
    no_block (has_block one.got) (has_block two.got) fit.0 in
    record {
      one = no_may a marks scope one.got first one.first none.0;
      two = no_may b marks scope two.got second two.first none.1;
    }

choice_picks : (c a b : Expr) (span : Span) (marks : Marks) (scope : Scope) (t : SoyType) → MayBlock a marks scope
    → MayBlock b marks scope → type_of (Conditional c a b span) scope ≡ Ok t → PicksTwo a b marks
choice_picks c a b span marks scope t first second typed =
    let when : Stepped (type_of c scope) (λ s. chosen_first a b scope span s) t =
    stepped (type_of c scope) (λ s. chosen_first a b scope span s) t typed in
    let one : Stepped (type_of a scope) (λ u. chosen_second b scope span when.got u) t =
    stepped (type_of a scope) (λ u. chosen_second b scope span when.got u) t when.then_ in
    let two : Stepped (type_of b scope) (λ v. choice_type span when.got one.got v) t =
    stepped (type_of b scope) (λ v. choice_type span when.got one.got v) t one.then_ in
    let fit : (has_block one.got ≡ false) × (has_block two.got ≡ false) × (joined one.got two.got ≡ t) =
    chosen (has_block when.got) span when.got one.got two.got t two.then_ in
    record {
      one = no_may a marks scope one.got first one.first fit.0;
      two = no_may b marks scope two.got second two.first fit.1;
    }

may_block : (e : Expr) (marks : Marks) (scope : Scope) → MarksFit marks scope → MayBlock e marks scope
may_block (Variable name span) marks scope h t typed is =
    marked_block name marks scope t h (found_some name span (variable_type name scope) t typed) is
may_block (Coalesce a b span) marks scope h t typed is =
    absurd
    (two_none a b marks
    (coalesce_picks a b span marks scope t (may_block a marks scope h) (may_block b marks scope h) typed) is)
may_block (Conditional c a b span) marks scope h t typed is =
    absurd
    (two_none a b marks
    (choice_picks c a b span marks scope t (may_block a marks scope h) (may_block b marks scope h) typed) is)
may_block (NullLiteral span) marks scope h t typed is = false_true is
may_block (BoolLiteral b span) marks scope h t typed is = false_true is
may_block (IntLiteral n span) marks scope h t typed is = false_true is
may_block (StringLiteral text span) marks scope h t typed is = false_true is
may_block (Member e name takes_null span) marks scope h t typed is = false_true is
may_block (Index e i takes_null span) marks scope h t typed is = false_true is
may_block (Minus e span) marks scope h t typed is = false_true is
may_block (Not e span) marks scope h t typed is = false_true is
may_block (Binary o a b span) marks scope h t typed is = false_true is

picks : (e : Expr) (marks : Marks) (scope : Scope) (t : SoyType) → MarksFit marks scope → type_of e scope ≡ Ok t
    → picks_values e marks ≡ true
picks (Coalesce a b span) marks scope t h typed =
    picks_two a b marks
    (coalesce_picks a b span marks scope t (may_block a marks scope h) (may_block b marks scope h) typed)
picks (Conditional c a b span) marks scope t h typed =
    picks_two a b marks
    (choice_picks c a b span marks scope t (may_block a marks scope h) (may_block b marks scope h) typed)
picks (NullLiteral span) marks scope t h typed = refl
picks (BoolLiteral b span) marks scope t h typed = refl
picks (IntLiteral n span) marks scope t h typed = refl
picks (StringLiteral text span) marks scope t h typed = refl
picks (Variable name span) marks scope t h typed = refl
picks (Member e name takes_null span) marks scope t h typed = refl
picks (Index e i takes_null span) marks scope t h typed = refl
picks (Minus e span) marks scope t h typed = refl
picks (Not e span) marks scope t h typed = refl
picks (Binary o a b span) marks scope t h typed = refl

-- ---- placeholders

tag_picks_values : (tag : List MessageItem) (marks : Marks) (scope : Scope) → MarksFit marks scope
    → ItemsPrintable tag scope → tag_picks tag marks ≡ true
tag_picks_values [] marks scope h typed = refl
tag_picks_values (Character c span ∷ rest) marks scope h typed = tag_picks_values rest marks scope h typed
tag_picks_values (Printed e phname span ∷ rest) marks scope h typed =
    and_from (picks_values e marks) (tag_picks rest marks) (picks e marks scope typed.0.of h typed.0.typed)
    (tag_picks_values rest marks scope h typed.1)

cut_picks_values : (cut : Option Cut) (marks : Marks) (scope : Scope) → MarksFit marks scope → CutPrintable cut scope
    → cut_picks cut marks ≡ true
cut_picks_values None marks scope h typed = refl
cut_picks_values (Some (TextCut text)) marks scope h typed = refl
cut_picks_values (Some (PrintCut e phname span)) marks scope h typed = picks e marks scope typed.of h typed.typed
cut_picks_values (Some (TagCut tag)) marks scope h typed = tag_picks_values tag marks scope h typed

uses_pick_values : (uses : List Use) (marks : Marks) (scope : Scope) → MarksFit marks scope
    → UsesPrintable uses scope → uses_pick uses marks ≡ true
uses_pick_values [] marks scope h typed = refl
uses_pick_values (u ∷ uses) marks scope h typed =
    and_from (cut_picks (cut_of_role u.role) marks) (uses_pick uses marks)
    (cut_picks_values (cut_of_role u.role) marks scope h typed.0) (uses_pick_values uses marks scope h typed.1)

-- ---- scopes

kind_marked : (k : Kind) → is_block_kind k ≡ true → has_block (kind_type k) ≡ true
kind_marked kinds.Html is = refl
kind_marked kinds.Attributes is = refl
kind_marked kinds.Text is = is

fit_past : (n : Node) (marks : Marks) (scope : Scope) (a : Around) → NodeTyped a n scope → MarksFit marks scope
    → MarksFit (marks_past n marks) (scope_past n scope)
fit_past (Let name e span) marks scope a typed h =
    subst (λ r. MarksFit ((name, may_give_block e marks) ∷ marks) (with_variable name r scope)) (sym typed.typed)
    (refl, (λ is. may_block e marks scope h typed.of typed.typed is), h)
fit_past (LetBlock name kind body span) marks scope a typed h = (refl, (λ is. kind_marked kind is), h)
fit_past (TextNode text span) marks scope a typed h = h
fit_past (Print e phname span) marks scope a typed h = h
fit_past (If arms other span) marks scope a typed h = h
fit_past (Switch e cases other span) marks scope a typed h = h
fit_past (For name index e body span) marks scope a typed h = h
fit_past (Call name all given span) marks scope a typed h = h
fit_past (MessageNode m other span) marks scope a typed h = h

fit_turn : (name : Name) (index : Option Name) (t : SoyType) (marks : Marks) (scope : Scope) → MarksFit marks scope
    → MarksFit (turn_marks name index marks) (body_scope name index (Ok (ListType t)) scope)
fit_turn name None t marks scope h = (refl, (λ is. false_true is), h)
fit_turn name (Some index) t marks scope h = (refl, (λ is. false_true is), (refl, (λ is. false_true is), h))

fit_if : (test : Bool) (m : Name × Bool) (v : Name × SoyType) (marks : Marks) (scope more : Scope)
    → MarksFit (m ∷ marks) (v ∷ scope) → MarksFit marks more
    → MarksFit (m ∷ marks) (if test then (v.0, type_without_null v.1) ∷ scope else v ∷ more)
fit_if true m v marks scope more h k = (h.0, (λ is. narrowed_block v.1 (h.1 is)), h.2)
fit_if false m v marks scope more h k = (h.0, h.1, k)

fit_name : (name : Name) (marks : Marks) (scope : Scope) → MarksFit marks scope
    → MarksFit marks (name_narrowed name scope)
fit_name name [] [] h = h
fit_name name [] (v ∷ scope) h = absurd h
fit_name name (m ∷ marks) [] h = absurd h
fit_name name (m ∷ marks) (v ∷ scope) h =
    fit_if (bytes_eq v.0 name) m v marks scope (name_narrowed name scope) h (fit_name name marks scope h.2)

fit_variable : (e : Expr) (marks : Marks) (scope : Scope) → MarksFit marks scope
    → MarksFit marks (variable_narrowed e scope)
fit_variable (Variable name span) marks scope h = fit_name name marks scope h
fit_variable _ marks scope h = h

fit_either : (test : Bool) (marks : Marks) (one other : Scope) → MarksFit marks one → MarksFit marks other
    → MarksFit marks (if test then one else other)
fit_either true marks one other h k = h
fit_either false marks one other h k = k

fit_narrowed : (e : Expr) (marks : Marks) (scope : Scope) → MarksFit marks scope → MarksFit marks (narrowed e scope)
fit_narrowed (Variable name span) marks scope h = fit_name name marks scope h
fit_narrowed (Binary op.Ne a b span) marks scope h =
    fit_either (is_null_literal b) marks (variable_narrowed a scope) scope (fit_variable a marks scope h) h
fit_narrowed (Binary op.And a b span) marks scope h =
    fit_narrowed b marks (narrowed a scope) (fit_narrowed a marks scope h)
fit_narrowed _ marks scope h = h

fit_params : (params : List Param) → MarksFit (param_marks params) (param_scope params)
fit_params [] = tt
fit_params (p ∷ ps) = (refl, (λ is. is), fit_params ps)

-- ---- calls

implied : (b c : Bool) → (b ≡ true → c ≡ true) → (not b || c) ≡ true
implied true c h = h refl
implied false c h = refl

given_block : (given : Given) (to : SoyType) (marks : Marks) (scope : Scope) → MarksFit marks scope
    → GivenTaken given to scope → given_mark given marks ≡ true → has_block to ≡ true
given_block (Plain e) to marks scope h taken is =
    accepted_block to taken.of taken.takes (may_block e marks scope h taken.of taken.typed is)
given_block (Block kind body) to marks scope h taken is =
    accepted_block to (kind_type kind) taken (kind_marked kind is)

left_block : (p : Param) (hands : Bool) (marks : Marks) (scope : Scope) → MarksFit marks scope → LeftTo hands p scope
    → (hands && is_marked p.name marks) ≡ true → has_block (param_type p) ≡ true
left_block p true marks scope h left is =
    accepted_block (param_type p) left.of left.takes (marked_block p.name marks scope left.of h left.there is)
left_block p false marks scope h left is = false_true is

abbrev GivenMark : Marks → Option Given → Option Bool → Type 0
GivenMark marks None None = Unit {0}
GivenMark marks (Some given) (Some mark) = mark ≡ given_mark given marks
GivenMark marks _ _ = ⊥

mark_if : (test : Bool) (marks : Marks) (given : Given) (found : Option Given) (rest : Option Bool)
    → GivenMark marks found rest
    → GivenMark marks (if test then Some given else found) (if test then Some (given_mark given marks) else rest)
mark_if true marks given found rest h = refl
mark_if false marks given found rest h = h

mark_given : (name : Name) (given : Arguments) (marks : Marks)
    → GivenMark marks (given_of name given) (mark_of name (argument_marks given marks))
mark_given name no_argument marks = tt
mark_given name (argument other given span rest) marks =
    mark_if (bytes_eq other name) marks given (given_of name rest) (mark_of name (argument_marks rest marks))
    (mark_given name rest marks)

param_block : (p : Param) (hands : Bool) (marks : Marks) (scope : Scope) (found : Option Given) (mark : Option Bool)
    → MarksFit marks scope → GivenMark marks found mark → ParamTakes found hands p scope
    → param_mark mark (hands && is_marked p.name marks) ≡ true → has_block (param_type p) ≡ true
param_block p hands marks scope None None h is takes marked = left_block p hands marks scope h takes marked
param_block p hands marks scope (Some given) (Some mark) h is takes marked =
    given_block given (param_type p) marks scope h takes (sym is ∙ marked)
param_block p hands marks scope None (Some mark) h is takes marked = absurd is
param_block p hands marks scope (Some given) None h is takes marked = absurd is

params_take_blocks : (ps : List Param) (given : Arguments) (all : Bool) (own : List Param) (marks : Marks)
    (scope : Scope) → MarksFit marks scope → ParamsTake ps given all own scope
    → params_take ps (argument_marks given marks) all own marks ≡ true
params_take_blocks [] given all own marks scope h takes = refl
params_take_blocks (p ∷ ps) given all own marks scope h takes =
    let hands : Bool = all && is_some (param_of p.name own) in
    let mark : Option Bool = mark_of p.name (argument_marks given marks) in
    and_from (not (param_mark mark (hands && is_marked p.name marks)) || has_block (param_type p))
    (params_take ps (argument_marks given marks) all own marks)
    (implied (param_mark mark (hands && is_marked p.name marks)) (has_block (param_type p))
    (λ marked. param_block p hands marks scope (given_of p.name given) mark h (mark_given p.name given marks) takes.0
    marked)) (params_take_blocks ps given all own marks scope h takes.1)

callee_takes_blocks : (found : Option Declared) (given : Arguments) (all : Bool) (own : List Param) (marks : Marks)
    (scope : Scope) → MarksFit marks scope → CalleeTakes found given all own scope
    → callee_takes found (argument_marks given marks) all own marks ≡ true
callee_takes_blocks None given all own marks scope h takes = absurd takes
callee_takes_blocks (Some d) given all own marks scope h takes =
    params_take_blocks d.template.params given all own marks scope h takes

-- ---- nodes

module _ (c : RunContext) where
  abbrev own_around : Around
  own_around = record { declared = c.declared; namespace = c.namespace; params = c.params }

  fallback_picks : (other : Fallback) (marks : Marks) (scope : Scope) → MarksFit marks scope
      → FallbackTyped own_around other scope → FallbackPicks other marks
  fallback_picks no_fallback marks scope h typed = tt
  fallback_picks (fallback m) marks scope h typed =
      uses_pick_values (uses_of m) marks scope h (message_printable own_around m scope typed)

  mutual
    node_picks : (n : Node) (marks : Marks) (scope : Scope) → MarksFit marks scope → NodeTyped own_around n scope
        → NodePicks c n marks
    node_picks (TextNode text span) marks scope h typed = tt
    node_picks (Print e phname span) marks scope h typed = picks e marks scope typed.of h typed.typed
    node_picks (If arms other span) marks scope h typed =
        (arms_pick arms marks scope h typed.0, other_picks other marks scope h typed.1)
    node_picks (Switch e cases other span) marks scope h typed =
        (cases_pick cases marks scope h typed.0, other_picks other marks scope h typed.1)
    node_picks (For name index e body span) marks scope h typed =
        nodes_pick body (turn_marks name index marks) (body_scope name index (type_of e scope) scope)
        (subst (λ r. MarksFit (turn_marks name index marks) (body_scope name index r scope)) (sym typed.0.typed)
        (fit_turn name index typed.0.each marks scope h)) typed.1
    node_picks (Let name e span) marks scope h typed = picks e marks scope typed.of h typed.typed
    node_picks (LetBlock name kind body span) marks scope h typed = nodes_pick body marks scope h typed
    node_picks (Call name all given span) marks scope h typed = (
      callee_takes_blocks (callee c.declared c.namespace name) given all c.params marks scope h typed.0,
      arguments_pick given marks scope h typed.1,
    )
    node_picks (MessageNode (message desc meaning body within) other span) marks scope h typed = (
      uses_pick_values (uses_of (message desc meaning body within)) marks scope h
          (message_printable own_around (message desc meaning body within) scope typed.0),
      body_picks body marks scope h typed.0,
      fallback_picks other marks scope h typed.1,
    )

    nodes_pick : (ns : Nodes) (marks : Marks) (scope : Scope) → MarksFit marks scope
        → NodesTyped own_around ns scope → NodesPick c ns marks
    nodes_pick no_node marks scope h typed = tt
    nodes_pick (node n ns) marks scope h typed = (
      node_picks n marks scope h typed.0,
      nodes_pick ns (marks_past n marks) (scope_past n scope) (fit_past n marks scope own_around typed.0 h) typed.1,
    )

    other_picks : (other : Otherwise) (marks : Marks) (scope : Scope) → MarksFit marks scope
        → OtherTyped own_around other scope → OtherPicks c other marks
    other_picks no_otherwise marks scope h typed = tt
    other_picks (otherwise body) marks scope h typed = nodes_pick body marks scope h typed

    arms_pick : (arms : Arms) (marks : Marks) (scope : Scope) → MarksFit marks scope
        → ArmsTyped own_around arms scope → ArmsPick c arms marks
    arms_pick no_arm marks scope h typed = tt
    arms_pick (arm e body arms) marks scope h typed = (
      nodes_pick body marks (narrowed e scope) (fit_narrowed e marks scope h) typed.0,
      arms_pick arms marks scope h typed.1,
    )

    cases_pick : (cases : Cases) (marks : Marks) (scope : Scope) → MarksFit marks scope
        → CasesTyped own_around cases scope → CasesPick c cases marks
    cases_pick no_case marks scope h typed = tt
    cases_pick (case values body cases) marks scope h typed =
        (nodes_pick body marks scope h typed.0, cases_pick cases marks scope h typed.1)

    arguments_pick : (given : Arguments) (marks : Marks) (scope : Scope) → MarksFit marks scope
        → ArgumentsTyped own_around given scope → ArgumentsPick c given marks
    arguments_pick no_argument marks scope h typed = tt
    arguments_pick (argument name given span rest) marks scope h typed =
        (given_picks given marks scope h typed.0, arguments_pick rest marks scope h typed.1)

    given_picks : (given : Given) (marks : Marks) (scope : Scope) → MarksFit marks scope
        → GivenTyped own_around given scope → GivenPicks c given marks
    given_picks (Plain e) marks scope h typed = picks e marks scope typed.of h typed.typed
    given_picks (Block kind body) marks scope h typed = nodes_pick body marks scope h typed

    body_picks : (body : MessageBody) (marks : Marks) (scope : Scope) → MarksFit marks scope
        → BodyTyped own_around body scope → BodyPicks c body marks
    body_picks (Parts ns) marks scope h typed = nodes_pick ns marks scope h typed
    body_picks (Plural e offset cases other) marks scope h typed =
        (plural_picks cases marks scope h typed.0, body_picks other marks scope h typed.1)
    body_picks (Select e cases other) marks scope h typed =
        (select_picks cases marks scope h typed.0, body_picks other marks scope h typed.1)

    plural_picks : (cases : PluralCases) (marks : Marks) (scope : Scope) → MarksFit marks scope
        → PluralTyped own_around cases scope → PluralPicks c cases marks
    plural_picks no_plural_case marks scope h typed = tt
    plural_picks (plural_case n body cases) marks scope h typed =
        (body_picks body marks scope h typed.0, plural_picks cases marks scope h typed.1)

    select_picks : (cases : SelectCases) (marks : Marks) (scope : Scope) → MarksFit marks scope
        → SelectTyped own_around cases scope → SelectPicks c cases marks
    select_picks no_select_case marks scope h typed = tt
    select_picks (select_case word body cases) marks scope h typed =
        (body_picks body marks scope h typed.0, select_picks cases marks scope h typed.1)

abbrev AllTyped : RunContext → List Declared → Type 0
AllTyped c ds = (d : Declared) → IsMember d ds → TemplateTyped c.declared d

pub all_pick : (c : RunContext) (ds : List Declared) → AllTyped c ds → TemplatesPick c ds
all_pick c [] typed = tt
all_pick c (d ∷ ds) typed = (
  nodes_pick (context_in c d) d.template.body (param_marks d.template.params) (param_scope d.template.params)
      (fit_params d.template.params) (typed d (inl refl)),
  all_pick c ds (λ other member. typed other (inr member)),
)

pub typed_templates_pick : (c : RunContext) (trees : List Tree) → c.declared ≡ declared trees → AreTypedTrees trees
    → TemplatesPick c c.declared
typed_templates_pick c trees are typed =
    all_pick c c.declared
    (λ d member. subst (λ ds. TemplateTyped ds d) (sym are)
    (templates_typed trees typed d (subst (λ ds. IsMember d ds) are member)))

-- ---- data

values_alike : (may : Bool) (v w : Binding BoundBlock) (env other : RunEnv) (name : Name)
    → BindsValues ((name, v) ∷ env) → BindsValues ((name, w) ∷ other) → BindingsAlike may v w
values_alike true (Known v) (Known w) env other name h k = tt
values_alike false (Known v) (Known w) env other name h k = tt
values_alike may (BlockOf block) w env other name h k = absurd h
values_alike may (Known v) (BlockOf block) env other name h k = absurd k

more_values : (name : Name) (v : Binding BoundBlock) (env : RunEnv) → BindsValues ((name, v) ∷ env) → BindsValues env
more_values name (Known v) env h = h
more_values name (BlockOf block) env h = absurd h

data_alike : (params : List Param) (env other : RunEnv) → Fits (param_scope params) env
    → Fits (param_scope params) other → BindsValues env → BindsValues other
    → EnvsAlike (param_marks params) env other
data_alike [] [] [] f g h k = tt
data_alike [] (v ∷ env) other f g h k = absurd f
data_alike [] [] (w ∷ other) f g h k = absurd g
data_alike (p ∷ ps) [] other f g h k = absurd f
data_alike (p ∷ ps) (v ∷ env) [] f g h k = absurd g
data_alike (p ∷ ps) (v ∷ env) (w ∷ other) f g h k = (
  sym f.0,
  sym g.0,
  values_alike (has_block (param_type p)) v.1 w.1 env other v.0 h k,
  data_alike ps env other f.2 g.2 (more_values v.0 v.1 env h) (more_values w.0 w.1 other k),
)

pub fitting_data_alike : (d : Declared) (env other : RunEnv) → FitsData d env → FitsData d other
    → EnvsAlike (param_marks d.template.params) env other
fitting_data_alike d env other one two =
    data_alike d.template.params env other one.fits two.fits one.values two.values
