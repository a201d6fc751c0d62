-- What the checker demands of nodes beside their types: of conditions, of what a call is given, and of messages.
use Rattle.std.proofs.Common.{◌≡◌, ℕ, Bool, true, false, List, [], ◌∷◌, Option, Some, None, Result, Ok, Err}
use Rattle.std.proofs.Common.{if◌then◌else◌, refl, sym, ap, ◌∙◌, subst}
use Rattle.std.specs.Prelude.{bytes_eq, codes, is_some, nat_le, not, ◌&&◌}
use Rattle.std.specs.List.{list_all}
use Rattle.std.proofs.lemmas.Bool.{and_parts}
use Rattle.soy_base.specs.declared.fault.Span.{Span}
use Rattle.soy_base.specs.Names.{is_dotted_name, is_name}
use Rattle.soy_rules.specs.Accepts.{accepts}
use Rattle.soy_rules.specs.Bodies.{Around, accepted, after_arguments, after_arms, after_body, after_cases}
use Rattle.soy_rules.specs.Bodies.{after_fallback, after_given, after_message, after_node, after_nodes, after_otherwise}
use Rattle.soy_rules.specs.Bodies.{after_plural_cases, after_select_cases, each_passing, known_param, loop_scope}
use Rattle.soy_rules.specs.Bodies.{named_param, names_given, new_variable, new_variables, param_demands, param_of}
use Rattle.soy_rules.specs.Bodies.{params_of, passing}
use Rattle.soy_base.specs.Among.{is_among}
use Rattle.soy_tree.specs.Expressions.{Expr, span_of}
use Rattle.soy_rules.specs.Faults.{TypeFault, followed_by}
use Rattle.soy_tree.specs.Formed.{are_formed_arguments, are_formed_arms, are_formed_cases, are_formed_nodes}
use Rattle.soy_tree.specs.Formed.{are_formed_plural_cases, are_formed_select_cases, begins_with_text, if_there}
use Rattle.soy_tree.specs.Formed.{is_case_word, is_formed_body, is_formed_expr, is_formed_fallback, is_formed_given}
use Rattle.soy_tree.specs.Formed.{is_formed_int, is_formed_message, is_formed_node, is_formed_otherwise}
use Rattle.soy_tree.specs.Formed.{is_message_text, is_text, is_word_character, nesting}
use Rattle.soy_base.specs.Limits.{largest}
use Rattle.soy_rules.specs.Members.{is_simple}
use Rattle.soy_tree.specs.MessageText.{MessageItem, cuts_of, joined_items, message_items, node_message_items}
use Rattle.soy_rules.specs.Narrowing.{narrowed}
use Rattle.soy_tree.specs.Nodes.{Node, Nodes, Otherwise, Arms, Cases, Arguments, Given, Message, Fallback, MessageBody}
use Rattle.soy_tree.specs.Nodes.{PluralCases, SelectCases, TextNode, Print, If, Switch, For, Let, LetBlock, Call}
use Rattle.soy_tree.specs.Nodes.{MessageNode, no_node, node, no_otherwise, otherwise, no_arm, arm, no_case, case}
use Rattle.soy_tree.specs.Nodes.{no_argument, argument, Plain, Block, message, no_fallback, fallback, Parts, Plural}
use Rattle.soy_tree.specs.Nodes.{Select, no_plural_case, plural_case, no_select_case, select_case}
use Rattle.soy_rules.specs.Templates.{Declared, callee, called_name, kind_type, param_type}
use Rattle.soy_tree.specs.Trees.{Param}
use Rattle.soy_rules.specs.TypeOf.{Scope, is_int, is_string, type_of}
use Rattle.soy_tree.specs.Types.{Name, SoyType, ListType}
use Rattle.soy_rules.proofs.ValueTypes.{Stepped, stepped}
use Rattle.soy_meaning.specs.Paths.PlanOfNodes.{body_scope, scope_past}
use Rattle.soy_meaning.proofs.Typing.CheckedScopes.{fault_none, keeps_accepted, keeps_arms, keeps_body, keeps_cases}
use Rattle.soy_meaning.proofs.Typing.CheckedScopes.{keeps_demands, keeps_each, keeps_given, keeps_message, keeps_new}
use Rattle.soy_meaning.proofs.Typing.CheckedScopes.{keeps_news, keeps_passing, keeps_plural, keeps_select, kept}
use Rattle.soy_meaning.proofs.Typing.CheckedScopes.{node_past, ok_is, passed}
use Rattle.soy_meaning.proofs.Typing.TypedNodes.{GivenTaken, HasType}
use Rattle.template_ir.specs.Compiles.{params_there}
use Rattle.template_ir.specs.Placed.{AreTexts, HasNoOther}

-- a formed expression with a type that passes
pub record HasTypeOf (test : SoyType → Bool) (e : Expr) (scope : Scope) : Type 0 where
  pub of : SoyType
  pub formed : is_formed_expr e ≡ true
  pub typed : type_of e scope ≡ Ok of
  pub passes : test of ≡ true

abbrev pub AreSimple : List Expr → Scope → Type 0
AreSimple [] scope = Unit {0}
AreSimple (e ∷ es) scope = HasTypeOf is_simple e scope × AreSimple es scope

-- what is given: under a name that nothing was given under, to a parameter whose type takes it
pub record IsGivenOnce (name : Name) (given : Given) (before : List Name) (params : List Param) (scope : Scope) :
    Type 0 where
  pub param : Param
  pub fresh : is_among before name ≡ false
  pub named : param_of name params ≡ Some param
  pub takes : GivenTaken given (param_type param) scope

module _ (a : Around) where
  abbrev mutual
    pub NodeDemands : Node → Scope → Type 0
    NodeDemands (If arms other span) scope = ArmsDemand arms scope × OtherDemands other scope
    NodeDemands (Switch e cases other span) scope =
        HasTypeOf is_simple e scope × CasesDemand cases scope × OtherDemands other scope
    NodeDemands (For name index e body span) scope =
        NodesDemand body (body_scope name index (type_of e scope) scope)
    NodeDemands (LetBlock name kind body span) scope = NodesDemand body scope
    NodeDemands (Call name all given span) scope =
        ArgumentsDemand given [] (params_there (callee a.declared a.namespace name)) scope
    NodeDemands (MessageNode m other span) scope = MessageDemands m scope × FallbackDemands other scope
    NodeDemands _ scope = Unit {0}

    pub NodesDemand : Nodes → Scope → Type 0
    NodesDemand no_node scope = Unit {0}
    NodesDemand (node n ns) scope = NodeDemands n scope × NodesDemand ns (scope_past n scope)

    pub OtherDemands : Otherwise → Scope → Type 0
    OtherDemands no_otherwise scope = Unit {0}
    OtherDemands (otherwise body) scope = NodesDemand body scope

    pub ArmsDemand : Arms → Scope → Type 0
    ArmsDemand no_arm scope = Unit {0}
    ArmsDemand (arm e body arms) scope =
        HasType e scope × NodesDemand body (narrowed e scope) × ArmsDemand arms scope

    pub CasesDemand : Cases → Scope → Type 0
    CasesDemand no_case scope = Unit {0}
    CasesDemand (case values body cases) scope =
        AreSimple values scope × NodesDemand body scope × CasesDemand cases scope

    pub ArgumentsDemand : Arguments → List Name → List Param → Scope → Type 0
    ArgumentsDemand no_argument before params scope = Unit {0}
    ArgumentsDemand (argument name given span rest) before params scope =
        IsGivenOnce name given before params scope × GivenDemands given scope
        × ArgumentsDemand rest (name ∷ before) params scope

    pub GivenDemands : Given → Scope → Type 0
    GivenDemands (Plain e) scope = Unit {0}
    GivenDemands (Block kind body) scope = NodesDemand body scope

    pub MessageDemands : Message → Scope → Type 0
    MessageDemands (message desc meaning body span) scope = BodyDemands body scope

    pub FallbackDemands : Fallback → Scope → Type 0
    FallbackDemands no_fallback scope = Unit {0}
    FallbackDemands (fallback m) scope = MessageDemands m scope

    pub BodyDemands : MessageBody → Scope → Type 0
    BodyDemands (Parts ns) scope = AreTexts ns × NodesDemand ns scope
    BodyDemands (Plural e offset cases other) scope =
        HasTypeOf is_int e scope × (nat_le offset largest ≡ true) × PluralDemands cases scope
        × BodyDemands other scope
    BodyDemands (Select e cases other) scope =
        HasTypeOf is_string e scope × HasNoOther cases × SelectDemands cases scope × BodyDemands other scope

    pub PluralDemands : PluralCases → Scope → Type 0
    PluralDemands no_plural_case scope = Unit {0}
    PluralDemands (plural_case n body cases) scope = BodyDemands body scope × PluralDemands cases scope

    pub SelectDemands : SelectCases → Scope → Type 0
    SelectDemands no_select_case scope = Unit {0}
    SelectDemands (select_case word body cases) scope = BodyDemands body scope × SelectDemands cases scope

-- ---- what the checker lets through

type_passes : (test : SoyType → Bool) (e : Expr) (scope s : Scope) → is_formed_expr e ≡ true
    → passing test e scope ≡ Ok s → HasTypeOf test e scope
type_passes test e scope s formed h =
    let one : Stepped (type_of e scope) _ s = stepped (type_of e scope) _ s h in
    record {
      of = one.got;
      formed = formed;
      typed = one.first;
      passes = (passed (test one.got) scope s _ one.then_).0;
    }

all_simple : (es : List Expr) (scope s : Scope) → list_all is_formed_expr es ≡ true → each_passing es scope ≡ Ok s
    → AreSimple es scope
all_simple [] scope s formed h = tt
all_simple (e ∷ es) scope s formed h =
    let f = and_parts (is_formed_expr e) (list_all is_formed_expr es) formed in
    let one : Stepped (passing is_simple e scope) (λ t. each_passing es t) s =
    stepped (passing is_simple e scope) _ s h in (
      type_passes is_simple e scope one.got f.0 one.first,
      all_simple es scope s f.1
          (kept (passing is_simple e scope) (λ t. each_passing es t) scope s (keeps_passing is_simple e scope) h),
    )

-- a parameter that a name names, for the first time
record NamesParam (name : Name) (before : List Name) (params : List Param) (p : Param) : Type 0 where
  pub fresh : is_among before name ≡ false
  pub named : param_of name params ≡ Some p

param_known : (name : Name) (span : Span) (found : Option Param) (p : Param) → known_param name span found ≡ Ok p
    → found ≡ Some p
param_known name span None p h = absurd (fault_none _ p h)
param_known name span (Some q) p h = ap (λ z. Some z) (ok_is q p h)

param_named : (test : Bool) (name : Name) (span : Span) (fault : TypeFault) (found : Option Param) (p : Param)
    → ◌≡◌ {A = Result Param TypeFault} (if test then Err fault else known_param name span found) (Ok p)
    → (test ≡ false) × (found ≡ Some p)
param_named true name span fault found p h = absurd (fault_none fault p h)
param_named false name span fault found p h = (refl, param_known name span found p h)

names_param : (name : Name) (span : Span) (before : List Name) (params : List Param) (p : Param)
    → named_param name span before params ≡ Ok p → NamesParam name before params p
names_param name span before params p h =
    let is = param_named (is_among before name) name span _ (param_of name params) p h in
    record { fresh = is.0; named = is.1 }

-- ---- messages

none_there : {P : Type 0} → ◌≡◌ {A = Bool} false true → P
none_there e = let no : ⊥ = cc in absurd no

pub some_cuts : (found : Option (List MessageItem)) → is_some (cuts_of found) ≡ true → is_some found ≡ true
some_cuts None h = h
some_cuts (Some items) h = refl

both_there : (one other : Option (List MessageItem)) → is_some (joined_items one other) ≡ true
    → (is_some one ≡ true) × (is_some other ≡ true)
both_there None None h = none_there h
both_there None (Some more) h = none_there h
both_there (Some first) None h = none_there h
both_there (Some first) (Some more) h = (refl, refl)

pub are_texts : (ns : Nodes) → is_some (message_items ns) ≡ true → AreTexts ns
are_texts no_node h = tt
are_texts (node (TextNode text span) ns) h =
    are_texts ns (both_there (node_message_items (TextNode text span)) (message_items ns) h).1
are_texts (node (Print e phname span) ns) h =
    are_texts ns (both_there (node_message_items (Print e phname span)) (message_items ns) h).1
are_texts (node (If arms other span) ns) h = none_there h
are_texts (node (Switch e cases other span) ns) h = none_there h
are_texts (node (For name index e body span) ns) h = none_there h
are_texts (node (Let name e span) ns) h = none_there h
are_texts (node (LetBlock name kind body span) ns) h = none_there h
are_texts (node (Call name all given span) ns) h = none_there h
are_texts (node (MessageNode m other span) ns) h = none_there h

not_true : (b : Bool) → not b ≡ true → b ≡ false
not_true false h = refl
not_true true h = let no : ⊥ = cc in absurd no

is_no_other : (word : List ℕ) → is_case_word word ≡ true → bytes_eq word (codes "other") ≡ false
is_no_other [] h = let no : ⊥ = cc in absurd no
is_no_other (c ∷ cs) h =
    not_true (bytes_eq (c ∷ cs) (codes "other"))
    (and_parts (list_all is_word_character (c ∷ cs)) (not (bytes_eq (c ∷ cs) (codes "other"))) h).1

no_other : (cases : SelectCases) → are_formed_select_cases cases ≡ true → HasNoOther cases
no_other no_select_case h = tt
no_other (select_case word body cases) h =
    let f = and_parts (is_case_word word && is_formed_body body) (are_formed_select_cases cases) h in
    let g = and_parts (is_case_word word) (is_formed_body body) f.0 in
    (is_no_other word g.0, no_other cases f.1)

-- ---- nodes

module _ (a : Around) where
  given_taken : (given : Given) (span : Span) (p : Param) (scope s : Scope) → is_formed_given given ≡ true
      → after_given a given span p scope ≡ Ok s → GivenTaken given (param_type p) scope
  given_taken (Plain e) span p scope s formed h =
      let one : Stepped (type_of e scope) (λ t. accepted (param_type p) (span_of e) t scope) s =
      stepped (type_of e scope) _ s h in
      record {
        of = one.got;
        formed = formed;
        typed = one.first;
        takes = (passed (accepts (param_type p) one.got) scope s _ one.then_).0;
      }
  given_taken (Block kind body) span p scope s formed h =
      let one : Stepped (accepted (param_type p) span (kind_type kind) scope) _ s =
      stepped (accepted (param_type p) span (kind_type kind) scope) _ s h in
      (passed (accepts (param_type p) (kind_type kind)) scope one.got _ one.first).0

  looped : (name : Name) (index : Option Name) (e : Expr) (scope inner : Scope) (t : SoyType)
      → loop_scope name index e scope t ≡ Ok inner → body_scope name index (Ok t) scope ≡ inner
  looped name None e scope inner (ListType t) h = ok_is ((name, t) ∷ scope) inner h
  looped name (Some index) e scope inner (ListType t) h = ok_is _ inner h
  looped name _ e scope inner _ h = absurd (fault_none _ inner h)

  params_found : (full : Name) (all : Bool) (given : Arguments) (span : Span) (scope s : Scope)
      (found : Option Declared)
      → followed_by (params_of full span found) (λ params.
      followed_by (param_demands a all (names_given given) span params scope) (λ t.
      after_arguments a given [] params t)) ≡ Ok s
      → after_arguments a given [] (params_there found) scope ≡ Ok s
  params_found full all given span scope s None h = absurd (fault_none _ s h)
  params_found full all given span scope s (Some d) h =
      kept (param_demands a all (names_given given) span d.template.params scope)
      (λ t. after_arguments a given [] d.template.params t) scope s
      (keeps_demands a all (names_given given) span d.template.params scope) h

  mutual
    node_demands : (n : Node) (scope s : Scope) → is_formed_node n ≡ true → after_node a n scope ≡ Ok s
        → NodeDemands a n scope
    node_demands (TextNode text span) scope s formed h = tt
    node_demands (Print e phname span) scope s formed h = tt
    node_demands (If arms other span) scope s formed h =
        let f = and_parts (are_formed_arms arms) (is_formed_otherwise other) formed in
        let one : Stepped (after_arms a arms scope) (λ t. after_otherwise a other t) s =
        stepped (after_arms a arms scope) _ s h in (
          arms_demand arms scope one.got f.0 one.first,
          other_demands other scope s f.1
              (kept (after_arms a arms scope) (λ t. after_otherwise a other t) scope s (keeps_arms a arms scope) h),
        )
    node_demands (Switch e cases other span) scope s formed h =
        let f = and_parts (is_formed_expr e && are_formed_cases cases) (is_formed_otherwise other) formed in
        let g = and_parts (is_formed_expr e) (are_formed_cases cases) f.0 in
        let first : Stepped (passing is_simple e scope)
        (λ t. followed_by (after_cases a cases t) (λ u. after_otherwise a other u)) s =
        stepped (passing is_simple e scope) _ s h in
        let rest : followed_by (after_cases a cases scope) (λ t. after_otherwise a other t) ≡ Ok s =
        kept (passing is_simple e scope)
        (λ t. followed_by (after_cases a cases t) (λ u. after_otherwise a other u)) scope s
        (keeps_passing is_simple e scope) h in
        let one : Stepped (after_cases a cases scope) (λ t. after_otherwise a other t) s =
        stepped (after_cases a cases scope) _ s rest in (
          type_passes is_simple e scope first.got g.0 first.first,
          cases_demand cases scope one.got g.1 one.first,
          other_demands other scope s f.1
              (kept (after_cases a cases scope) (λ t. after_otherwise a other t) scope s
              (keeps_cases a cases scope) rest),
        )
    node_demands (For name index e body span) scope s formed h =
        let f = and_parts ((is_name name && if_there is_name index) && is_formed_expr e) (are_formed_nodes body)
        formed in
        let rest : followed_by (type_of e scope) (λ t. followed_by (loop_scope name index e scope t)
        (λ inner. followed_by (after_nodes a body inner) (λ end. Ok scope))) ≡ Ok s =
        kept (new_variables name index span scope) (λ z. followed_by (type_of e z)
        (λ t. followed_by (loop_scope name index e z t)
        (λ inner. followed_by (after_nodes a body inner) (λ end. Ok z)))) scope s
        (keeps_news name index span scope) h in
        let one : Stepped (type_of e scope) (λ t. followed_by (loop_scope name index e scope t)
        (λ inner. followed_by (after_nodes a body inner) (λ end. Ok scope))) s =
        stepped (type_of e scope) _ s rest in
        let two : Stepped (loop_scope name index e scope one.got)
        (λ inner. followed_by (after_nodes a body inner) (λ end. Ok scope)) s =
        stepped (loop_scope name index e scope one.got) _ s one.then_ in
        let three : Stepped (after_nodes a body two.got) (λ end. Ok scope) s =
        stepped (after_nodes a body two.got) _ s two.then_ in
        let within : body_scope name index (type_of e scope) scope ≡ two.got =
        ap (λ r. body_scope name index r scope) one.first
        ∙ looped name index e scope two.got one.got two.first in
        subst (λ z. NodesDemand a body z) (sym within) (nodes_demand body two.got three.got f.1 three.first)
    node_demands (Let name e span) scope s formed h = tt
    node_demands (LetBlock name kind body span) scope s formed h =
        let f = and_parts (is_name name) (are_formed_nodes body) formed in
        let rest : followed_by (after_nodes a body scope) (λ end. Ok ((name, kind_type kind) ∷ scope)) ≡ Ok s =
        kept (new_variable name span scope)
        (λ z. followed_by (after_nodes a body z) (λ end. Ok ((name, kind_type kind) ∷ z))) scope s
        (keeps_new name span scope) h in
        let one : Stepped (after_nodes a body scope) (λ end. Ok ((name, kind_type kind) ∷ scope)) s =
        stepped (after_nodes a body scope) _ s rest in nodes_demand body scope one.got f.1 one.first
    node_demands (Call name all given span) scope s formed h =
        let f = and_parts (is_dotted_name name) (are_formed_arguments given) formed in
        arguments_demand given [] (params_there (callee a.declared a.namespace name)) scope s f.1
        (params_found (called_name a.namespace name) all given span scope s (callee a.declared a.namespace name) h)
    node_demands (MessageNode m other span) scope s formed h =
        let f = and_parts (is_formed_message m) (is_formed_fallback other) formed in
        let one : Stepped (after_message a m scope) (λ t. after_fallback a other t) s =
        stepped (after_message a m scope) _ s h in (
          message_demands m scope one.got f.0 one.first,
          fallback_demands other scope s f.1
              (kept (after_message a m scope) (λ t. after_fallback a other t) scope s (keeps_message a m scope) h),
        )

    pub nodes_demand : (ns : Nodes) (scope s : Scope) → are_formed_nodes ns ≡ true → after_nodes a ns scope ≡ Ok s
        → NodesDemand a ns scope
    nodes_demand no_node scope s formed h = tt
    nodes_demand (node n ns) scope s formed h =
        let f = and_parts (is_formed_node n && not (is_text n && begins_with_text ns)) (are_formed_nodes ns) formed in
        let g = and_parts (is_formed_node n) (not (is_text n && begins_with_text ns)) f.0 in
        let one : Stepped (after_node a n scope) (λ t. after_nodes a ns t) s =
        stepped (after_node a n scope) _ s h in (
          node_demands n scope one.got g.0 one.first,
          nodes_demand ns (scope_past n scope) s f.1
              (subst (λ z. after_nodes a ns z ≡ Ok s) (sym (node_past a n scope one.got one.first)) one.then_),
        )

    other_demands : (other : Otherwise) (scope s : Scope) → is_formed_otherwise other ≡ true
        → after_otherwise a other scope ≡ Ok s → OtherDemands a other scope
    other_demands no_otherwise scope s formed h = tt
    other_demands (otherwise body) scope s formed h =
        let one : Stepped (after_nodes a body scope) (λ end. Ok scope) s = stepped (after_nodes a body scope) _ s h in
        nodes_demand body scope one.got formed one.first

    arms_demand : (arms : Arms) (scope s : Scope) → are_formed_arms arms ≡ true → after_arms a arms scope ≡ Ok s
        → ArmsDemand a arms scope
    arms_demand no_arm scope s formed h = tt
    arms_demand (arm e body arms) scope s formed h =
        let f = and_parts (is_formed_expr e && are_formed_nodes body) (are_formed_arms arms) formed in
        let g = and_parts (is_formed_expr e) (are_formed_nodes body) f.0 in
        let one : Stepped (type_of e scope)
        (λ t. followed_by (after_nodes a body (narrowed e scope)) (λ end. after_arms a arms scope)) s =
        stepped (type_of e scope) _ s h in
        let two : Stepped (after_nodes a body (narrowed e scope)) (λ end. after_arms a arms scope) s =
        stepped (after_nodes a body (narrowed e scope)) _ s one.then_ in (
          record { of = one.got; formed = g.0; typed = one.first },
          nodes_demand body (narrowed e scope) two.got g.1 two.first,
          arms_demand arms scope s f.1 two.then_,
        )

    cases_demand : (cases : Cases) (scope s : Scope) → are_formed_cases cases ≡ true
        → after_cases a cases scope ≡ Ok s → CasesDemand a cases scope
    cases_demand no_case scope s formed h = tt
    cases_demand (case values body cases) scope s formed h =
        let f = and_parts (list_all is_formed_expr values && are_formed_nodes body) (are_formed_cases cases) formed in
        let g = and_parts (list_all is_formed_expr values) (are_formed_nodes body) f.0 in
        let first : Stepped (each_passing values scope)
        (λ z. followed_by (after_nodes a body z) (λ end. after_cases a cases z)) s =
        stepped (each_passing values scope) _ s h in
        let rest : followed_by (after_nodes a body scope) (λ end. after_cases a cases scope) ≡ Ok s =
        kept (each_passing values scope)
        (λ z. followed_by (after_nodes a body z) (λ end. after_cases a cases z)) scope s
        (keeps_each values scope) h in
        let one : Stepped (after_nodes a body scope) (λ end. after_cases a cases scope) s =
        stepped (after_nodes a body scope) _ s rest in (
          all_simple values scope first.got g.0 first.first,
          nodes_demand body scope one.got g.1 one.first,
          cases_demand cases scope s f.1 one.then_,
        )

    arguments_demand : (given : Arguments) (before : List Name) (params : List Param) (scope s : Scope)
        → are_formed_arguments given ≡ true → after_arguments a given before params scope ≡ Ok s
        → ArgumentsDemand a given before params scope
    arguments_demand no_argument before params scope s formed h = tt
    arguments_demand (argument name given span rest) before params scope s formed h =
        let f = and_parts (is_name name && is_formed_given given) (are_formed_arguments rest) formed in
        let g = and_parts (is_name name) (is_formed_given given) f.0 in
        let one : Stepped (named_param name span before params)
        (λ p. followed_by (after_given a given span p scope) (λ t. after_arguments a rest (name ∷ before) params t))
        s = stepped (named_param name span before params) _ s h in
        let two : Stepped (after_given a given span one.got scope)
        (λ t. after_arguments a rest (name ∷ before) params t) s =
        stepped (after_given a given span one.got scope) _ s one.then_ in
        let names : NamesParam name before params one.got = names_param name span before params one.got one.first in (
          record {
            param = one.got;
            fresh = names.fresh;
            named = names.named;
            takes = given_taken given span one.got scope two.got g.1 two.first;
          },
          given_demands given span one.got scope two.got g.1 two.first,
          arguments_demand rest (name ∷ before) params scope s f.1
              (kept (after_given a given span one.got scope)
              (λ t. after_arguments a rest (name ∷ before) params t) scope s
              (keeps_given a given span one.got scope) one.then_),
        )

    given_demands : (given : Given) (span : Span) (p : Param) (scope s : Scope) → is_formed_given given ≡ true
        → after_given a given span p scope ≡ Ok s → GivenDemands a given scope
    given_demands (Plain e) span p scope s formed h = tt
    given_demands (Block kind body) span p scope s formed h =
        let rest : followed_by (after_nodes a body scope) (λ end. Ok scope) ≡ Ok s =
        kept (accepted (param_type p) span (kind_type kind) scope)
        (λ z. followed_by (after_nodes a body z) (λ end. Ok z)) scope s
        (keeps_accepted (param_type p) span (kind_type kind) scope) h in
        let one : Stepped (after_nodes a body scope) (λ end. Ok scope) s =
        stepped (after_nodes a body scope) _ s rest in nodes_demand body scope one.got formed one.first

    message_demands : (m : Message) (scope s : Scope) → is_formed_message m ≡ true → after_message a m scope ≡ Ok s
        → MessageDemands a m scope
    message_demands (message desc meaning body span) scope s formed h =
        body_demands body scope s (and_parts (is_formed_body body) (nat_le (nesting body) 63) formed).0 h

    fallback_demands : (other : Fallback) (scope s : Scope) → is_formed_fallback other ≡ true
        → after_fallback a other scope ≡ Ok s → FallbackDemands a other scope
    fallback_demands no_fallback scope s formed h = tt
    fallback_demands (fallback m) scope s formed h = message_demands m scope s formed h

    body_demands : (body : MessageBody) (scope s : Scope) → is_formed_body body ≡ true
        → after_body a body scope ≡ Ok s → BodyDemands a body scope
    body_demands (Parts ns) scope s formed h =
        let f = and_parts (are_formed_nodes ns) (is_message_text ns) formed in
        let one : Stepped (after_nodes a ns scope) (λ end. Ok scope) s = stepped (after_nodes a ns scope) _ s h in
        (are_texts ns (some_cuts (message_items ns) f.1), nodes_demand ns scope one.got f.0 one.first)
    body_demands (Plural e offset cases other) scope s formed h =
        let f = and_parts ((is_formed_expr e && nat_le offset largest) && are_formed_plural_cases cases)
        (is_formed_body other) formed in
        let g = and_parts (is_formed_expr e && nat_le offset largest) (are_formed_plural_cases cases) f.0 in
        let k = and_parts (is_formed_expr e) (nat_le offset largest) g.0 in
        let first : Stepped (passing is_int e scope)
        (λ z. followed_by (after_plural_cases a cases z) (λ t. after_body a other t)) s =
        stepped (passing is_int e scope) _ s h in
        let rest : followed_by (after_plural_cases a cases scope) (λ t. after_body a other t) ≡ Ok s =
        kept (passing is_int e scope)
        (λ z. followed_by (after_plural_cases a cases z) (λ t. after_body a other t)) scope s
        (keeps_passing is_int e scope) h in
        let one : Stepped (after_plural_cases a cases scope) (λ t. after_body a other t) s =
        stepped (after_plural_cases a cases scope) _ s rest in (
          type_passes is_int e scope first.got k.0 first.first,
          k.1,
          plural_demands cases scope one.got g.1 one.first,
          body_demands other scope s f.1
              (kept (after_plural_cases a cases scope) (λ t. after_body a other t) scope s
              (keeps_plural a cases scope) rest),
        )
    body_demands (Select e cases other) scope s formed h =
        let f = and_parts (is_formed_expr e && are_formed_select_cases cases) (is_formed_body other) formed in
        let g = and_parts (is_formed_expr e) (are_formed_select_cases cases) f.0 in
        let first : Stepped (passing is_string e scope)
        (λ z. followed_by (after_select_cases a cases z) (λ t. after_body a other t)) s =
        stepped (passing is_string e scope) _ s h in
        let rest : followed_by (after_select_cases a cases scope) (λ t. after_body a other t) ≡ Ok s =
        kept (passing is_string e scope)
        (λ z. followed_by (after_select_cases a cases z) (λ t. after_body a other t)) scope s
        (keeps_passing is_string e scope) h in
        let one : Stepped (after_select_cases a cases scope) (λ t. after_body a other t) s =
        stepped (after_select_cases a cases scope) _ s rest in (
          type_passes is_string e scope first.got g.0 first.first,
          no_other cases g.1,
          select_demands cases scope one.got g.1 one.first,
          body_demands other scope s f.1
              (kept (after_select_cases a cases scope) (λ t. after_body a other t) scope s
              (keeps_select a cases scope) rest),
        )

    plural_demands : (cases : PluralCases) (scope s : Scope) → are_formed_plural_cases cases ≡ true
        → after_plural_cases a cases scope ≡ Ok s → PluralDemands a cases scope
    plural_demands no_plural_case scope s formed h = tt
    plural_demands (plural_case n body cases) scope s formed h =
        let f = and_parts (is_formed_int n && is_formed_body body) (are_formed_plural_cases cases) formed in
        let g = and_parts (is_formed_int n) (is_formed_body body) f.0 in
        let one : Stepped (after_body a body scope) (λ t. after_plural_cases a cases t) s =
        stepped (after_body a body scope) _ s h in (
          body_demands body scope one.got g.1 one.first,
          plural_demands cases scope s f.1
              (kept (after_body a body scope) (λ t. after_plural_cases a cases t) scope s (keeps_body a body scope) h),
        )

    select_demands : (cases : SelectCases) (scope s : Scope) → are_formed_select_cases cases ≡ true
        → after_select_cases a cases scope ≡ Ok s → SelectDemands a cases scope
    select_demands no_select_case scope s formed h = tt
    select_demands (select_case word body cases) scope s formed h =
        let f = and_parts (is_case_word word && is_formed_body body) (are_formed_select_cases cases) formed in
        let g = and_parts (is_case_word word) (is_formed_body body) f.0 in
        let one : Stepped (after_body a body scope) (λ t. after_select_cases a cases t) s =
        stepped (after_body a body scope) _ s h in (
          body_demands body scope one.got g.1 one.first,
          select_demands cases scope s f.1
              (kept (after_body a body scope) (λ t. after_select_cases a cases t) scope s (keeps_body a body scope) h),
        )
