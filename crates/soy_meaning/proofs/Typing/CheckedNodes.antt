-- What the checker lets through is typed, part by part.
use Rattle.std.proofs.Common.{◌≡◌, Bool, true, false, List, [], ◌∷◌, inl, inr, Option, Some, None, Result, Ok, Err}
use Rattle.std.proofs.Common.{if◌then◌else◌, refl, sym, ap, ◌∙◌, subst}
use Rattle.std.specs.Prelude.{is_some, bytes_eq, not, ◌&&◌, ◌||◌, nat_le}
use Rattle.std.specs.List.{list_all}
use Rattle.std.proofs.lemmas.Bool.{and_parts}
use Rattle.std.proofs.lemmas.Slice.Eq.{bytes_eq-Decides}
use Rattle.soy_base.specs.declared.fault.Span.{Span}
use Rattle.soy_base.specs.Names.{is_dotted_name, is_name}
use Rattle.soy_rules.specs.Accepts.{accepts}
use Rattle.soy_rules.specs.Bodies.{Around, Checked, accepted, after_arguments, after_arms, after_body, after_cases}
use Rattle.soy_rules.specs.Bodies.{after_fallback, after_given, after_message, after_node, after_nodes, after_otherwise}
use Rattle.soy_rules.specs.Bodies.{after_plural_cases, after_select_cases, each_passing, handed, is_printed}
use Rattle.soy_rules.specs.Bodies.{known_param, left_out, loop_scope, named_param, names_given, new_variable}
use Rattle.soy_rules.specs.Bodies.{new_variables, param_demand, param_demands, param_of, params_of, passing}
use Rattle.soy_rules.specs.Bodies.{unnamed_demand}
use Rattle.soy_base.specs.Among.{is_among}
use Rattle.soy_tree.specs.Expressions.{Expr, Variable, Binary, span_of}
use Rattle.soy_tree.specs.declared.expr.BinaryOp.TheVariants as op
use Rattle.soy_rules.specs.Faults.{TypeFault, followed_by}
use Rattle.soy_tree.specs.Formed.{are_formed_arguments, are_formed_arms, are_formed_cases, are_formed_nodes}
use Rattle.soy_tree.specs.Formed.{are_formed_plural_cases, are_formed_select_cases, begins_with_text, if_there}
use Rattle.soy_tree.specs.Formed.{is_case_word, is_formed_body, is_formed_expr, is_formed_fallback, is_formed_given}
use Rattle.soy_tree.specs.Formed.{is_formed_int, is_formed_message, is_formed_node, is_formed_otherwise}
use Rattle.soy_tree.specs.Formed.{is_message_text, is_text, nesting}
use Rattle.soy_base.specs.Limits.{largest}
use Rattle.soy_rules.specs.Members.{is_simple, type_without_null}
use Rattle.soy_rules.specs.Narrowing.{name_narrowed, narrowed, variable_narrowed}
use Rattle.soy_tree.specs.Nodes.{Node, Nodes, Otherwise, Arms, Cases, Arguments, Given, Message, Fallback, MessageBody}
use Rattle.soy_tree.specs.Nodes.{PluralCases, SelectCases, TextNode, Print, If, Switch, For, Let, LetBlock, Call}
use Rattle.soy_tree.specs.Nodes.{MessageNode, no_node, node, no_otherwise, otherwise, no_arm, arm, no_case, case}
use Rattle.soy_tree.specs.Nodes.{no_argument, argument, Plain, Block, message, no_fallback, fallback, Parts, Plural}
use Rattle.soy_tree.specs.Nodes.{Select, no_plural_case, plural_case, no_select_case, select_case}
use Rattle.soy_rules.specs.Templates.{Declared, callee, called_name, kind_type, param_type}
use Rattle.soy_tree.specs.Trees.{Param}
use Rattle.soy_rules.specs.TypeOf.{Scope, is_int, is_null_literal, is_string, type_of, variable_type}
use Rattle.soy_tree.specs.Types.{Name, SoyType, IntType, ListType}
use Rattle.soy_tree.proofs.SameNames.{same_name}
use Rattle.soy_rules.proofs.ValueTypes.{Stepped, stepped}
use Rattle.soy_meaning.specs.Paths.PlanOfNodes.{body_scope, scope_past, with_variable}
use Rattle.soy_meaning.specs.Walks.States.{IsMember}
use Rattle.soy_meaning.proofs.Typing.CheckedScopes.{fault_none, keeps_accepted, keeps_arms, keeps_body, keeps_cases}
use Rattle.soy_meaning.proofs.Typing.CheckedScopes.{keeps_demand, keeps_demands, keeps_each, keeps_given, keeps_message}
use Rattle.soy_meaning.proofs.Typing.CheckedScopes.{keeps_new, keeps_news, keeps_passing, keeps_plural, keeps_select}
use Rattle.soy_meaning.proofs.Typing.CheckedScopes.{kept, node_past, ok_is, passed}
use Rattle.soy_meaning.proofs.Runs.RunBindings.{IsAmong, callee_among}
use Rattle.soy_meaning.proofs.Typing.TypedNodes.{ArgumentsTyped, ArmsTyped, BodyTyped, CalleeTakes, CasesTyped}
use Rattle.soy_meaning.proofs.Typing.TypedNodes.{FallbackTyped, GivenTaken, GivenTyped, HandsOn, LeftTo, MessageTyped}
use Rattle.soy_meaning.proofs.Typing.TypedNodes.{NodeTyped, NodesTyped, OtherTyped, ParamTakes, ParamsTake, PluralTyped}
use Rattle.soy_meaning.proofs.Typing.TypedNodes.{SelectTyped, given_of}

-- ---- the parameters of the template are visible

abbrev pub SeesParams : List Param → Scope → Type 0
SeesParams params scope = (name : Name) → is_some (param_of name params) ≡ true
    → is_some (variable_type name scope) ≡ true

some_if : {A : Type 0} (test : Bool) (x : A) (other : Option A) → is_some other ≡ true
    → is_some (if test then Some x else other) ≡ true
some_if true x other h = refl
some_if false x other h = h

sees_more : (params : List Param) (v : Name × SoyType) (scope : Scope) → SeesParams params scope
    → SeesParams params (v ∷ scope)
sees_more params v scope sees name h = some_if (bytes_eq v.0 name) v.1 (variable_type name scope) (sees name h)

sees_with : (params : List Param) (name : Name) (r : Result SoyType TypeFault) (scope : Scope)
    → SeesParams params scope → SeesParams params (with_variable name r scope)
sees_with params name (Ok t) scope sees = sees_more params (name, t) scope sees
sees_with params name (Err fault) scope sees = sees

sees_past : (params : List Param) (n : Node) (scope : Scope) → SeesParams params scope
    → SeesParams params (scope_past n scope)
sees_past params (Let name e span) scope sees = sees_with params name (type_of e scope) scope sees
sees_past params (LetBlock name kind body span) scope sees = sees_more params (name, kind_type kind) scope sees
sees_past params (TextNode text span) scope sees = sees
sees_past params (Print e phname span) scope sees = sees
sees_past params (If arms other span) scope sees = sees
sees_past params (Switch e cases other span) scope sees = sees
sees_past params (For name index e body span) scope sees = sees
sees_past params (Call name all given span) scope sees = sees
sees_past params (MessageNode m other span) scope sees = sees

-- a narrowed scope has the same variables
same_some : (test : Bool) (t u : SoyType) (one other : Option SoyType) → is_some one ≡ is_some other
    → is_some (if test then Some t else one) ≡ is_some (if test then Some u else other)
same_some true t u one other h = refl
same_some false t u one other h = h

narrowed_if : (test : Bool) (wanted : Name) (v : Name × SoyType) (scope more : Scope)
    → is_some (variable_type wanted more) ≡ is_some (variable_type wanted scope)
    → is_some (variable_type wanted (if test then (v.0, type_without_null v.1) ∷ scope else v ∷ more))
    ≡ is_some (variable_type wanted (v ∷ scope))
narrowed_if true wanted v scope more h =
    same_some (bytes_eq v.0 wanted) (type_without_null v.1) v.1 (variable_type wanted scope)
    (variable_type wanted scope) refl
narrowed_if false wanted v scope more h =
    same_some (bytes_eq v.0 wanted) v.1 v.1 (variable_type wanted more) (variable_type wanted scope) h

name_narrowed_same : (name wanted : Name) (scope : Scope)
    → is_some (variable_type wanted (name_narrowed name scope)) ≡ is_some (variable_type wanted scope)
name_narrowed_same name wanted [] = refl
name_narrowed_same name wanted (v ∷ scope) =
    narrowed_if (bytes_eq v.0 name) wanted v scope (name_narrowed name scope) (name_narrowed_same name wanted scope)

sees_name : (params : List Param) (name : Name) (scope : Scope) → SeesParams params scope
    → SeesParams params (name_narrowed name scope)
sees_name params name scope sees wanted h = name_narrowed_same name wanted scope ∙ sees wanted h

sees_variable : (params : List Param) (e : Expr) (scope : Scope) → SeesParams params scope
    → SeesParams params (variable_narrowed e scope)
sees_variable params (Variable name span) scope sees = sees_name params name scope sees
sees_variable params _ scope sees = sees

sees_if : (params : List Param) (test : Bool) (one other : Scope) → SeesParams params one → SeesParams params other
    → SeesParams params (if test then one else other)
sees_if params true one other h k = h
sees_if params false one other h k = k

sees_narrowed : (params : List Param) (e : Expr) (scope : Scope) → SeesParams params scope
    → SeesParams params (narrowed e scope)
sees_narrowed params (Variable name span) scope sees = sees_name params name scope sees
sees_narrowed params (Binary op.Ne a b span) scope sees =
    sees_if params (is_null_literal b) (variable_narrowed a scope) scope (sees_variable params a scope sees) sees
sees_narrowed params (Binary op.And a b span) scope sees =
    sees_narrowed params b (narrowed a scope) (sees_narrowed params a scope sees)
sees_narrowed params _ scope sees = sees

-- ---- loops

record LoopsOver (name : Name) (index : Option Name) (scope inner : Scope) (t : SoyType) : Type 0 where
  pub each : SoyType
  pub is : t ≡ ListType each
  pub within : body_scope name index (Ok t) scope ≡ inner

loops_over : (name : Name) (index : Option Name) (e : Expr) (scope : Scope) (t : SoyType) (inner : Scope)
    → loop_scope name index e scope t ≡ Ok inner → LoopsOver name index scope inner t
loops_over name None e scope (ListType t) inner h =
    record { each = t; is = refl; within = ok_is ((name, t) ∷ scope) inner h }
loops_over name (Some index) e scope (ListType t) inner h =
    record { each = t; is = refl; within = ok_is ((index, IntType) ∷ ((name, t) ∷ scope)) inner h }
loops_over name _ e scope _ inner h = absurd (fault_none _ inner h)

-- the body of a loop sees what is visible around it
sees_body : (params : List Param) (name : Name) (index : Option Name) (t : SoyType) (scope : Scope)
    → SeesParams params scope → SeesParams params (body_scope name index (Ok (ListType t)) scope)
sees_body params name None t scope sees = sees_more params (name, t) scope sees
sees_body params name (Some index) t scope sees =
    sees_more params (index, IntType) ((name, t) ∷ scope) (sees_more params (name, t) scope sees)

sees_loop : (params : List Param) (name : Name) (index : Option Name) (scope inner : Scope) (t : SoyType)
    → SeesParams params scope → LoopsOver name index scope inner t → SeesParams params inner
sees_loop params name index scope inner t sees over =
    subst (SeesParams params)
    (sym (ap (λ z. body_scope name index (Ok z) scope) over.is) ∙ over.within)
    (sees_body params name index over.each scope sees)

-- ---- calls

pub same_bytes : (x y : Name) → bytes_eq x y ≡ bytes_eq y x
same_bytes x y = flipped (bytes_eq x y) (bytes_eq y x) refl refl
  where
    equal : (x y : Name) → bytes_eq x y ≡ true → bytes_eq y x ≡ true
    equal x y h = (bytes_eq-Decides y x).1 (sym (same_name x y h))

    flipped : (b c : Bool) → bytes_eq x y ≡ b → bytes_eq y x ≡ c → b ≡ c
    flipped true true h k = refl
    flipped false false h k = refl
    flipped true false h k = sym (equal x y h) ∙ k
    flipped false true h k = sym h ∙ equal y x k

or_some : (test : Bool) (rest : Bool) (given : Given) (other : Option Given) → rest ≡ is_some other
    → (test || rest) ≡ is_some (if test then Some given else other)
or_some true rest given other h = refl
or_some false rest given other h = h

-- a name is among those given where something is given it
given_there : (name : Name) (given : Arguments) → is_among (names_given given) name ≡ is_some (given_of name given)
given_there name no_argument = refl
given_there name (argument other given span rest) =
    ap (λ b. b || is_among (names_given rest) name) (same_bytes name other)
    ∙ or_some (bytes_eq other name) (is_among (names_given rest) name) given (given_of name rest)
    (given_there name rest)

-- what is given, by the callee's parameters
record TakenBy (name : Name) (given : Given) (params : List Param) (scope : Scope) : Type 0 where
  pub param : Param
  pub named : param_of name params ≡ Some param
  pub takes : GivenTaken given (param_type param) scope

abbrev AllTaken : Arguments → List Param → Scope → Type 0
AllTaken no_argument params scope = Unit {0}
AllTaken (argument name given span rest) params scope = TakenBy name given params scope × AllTaken rest params scope

some_param : (p q : Param) → Some p ≡ Some q → p ≡ q
some_param p q e = cc

taken_if : (test : Bool) (name other : Name) (given wanted : Given) (rest : Arguments) (params : List Param)
    (scope : Scope) (p : Param) → bytes_eq other name ≡ test → param_of name params ≡ Some p
    → TakenBy other given params scope
    → (given_of name rest ≡ Some wanted → GivenTaken wanted (param_type p) scope)
    → (if test then Some given else given_of name rest) ≡ Some wanted → GivenTaken wanted (param_type p) scope
taken_if true name other given wanted rest params scope p same named by later is =
    let equal : other ≡ name = same_name other name same in
    let one : by.param ≡ p = some_param by.param p (sym by.named ∙ (ap (λ z. param_of z params) equal ∙ named)) in
    subst (λ g. GivenTaken g (param_type p) scope) (some_given given wanted is)
    (subst (λ z. GivenTaken given (param_type z) scope) one by.takes)
  where
    some_given : (x y : Given) → Some x ≡ Some y → x ≡ y
    some_given x y e = cc
taken_if false name other given wanted rest params scope p same named by later is = later is

taken : (given : Arguments) (params : List Param) (scope : Scope) → AllTaken given params scope → (name : Name)
    (p : Param) (wanted : Given) → param_of name params ≡ Some p → given_of name given ≡ Some wanted
    → GivenTaken wanted (param_type p) scope
taken no_argument params scope all name p wanted named is = let none : ⊥ = cc in absurd none
taken (argument other given span rest) params scope all name p wanted named is =
    taken_if (bytes_eq other name) name other given wanted rest params scope p refl named all.0
    (λ later. taken rest params scope all.1 name p wanted named later) is

-- a parameter of the callee that a param names
known_is : (name : Name) (span : Span) (found : Option Param) (p : Param) → known_param name span found ≡ Ok p
    → found ≡ Some p
known_is name span None p h = absurd (fault_none _ p h)
known_is name span (Some q) p h = ap (λ z. Some z) (ok_is q p h)

named_is : (test : Bool) (name : Name) (span : Span) (fault : TypeFault) (found : Option Param) (p : Param)
    → ◌≡◌ {A = Result Param TypeFault} (if test then Err fault else known_param name span found) (Ok p)
    → found ≡ Some p
named_is true name span fault found p h = absurd (fault_none fault p h)
named_is false name span fault found p h = known_is name span found p h

abbrev pub IsDistinct : List Param → Type 0
IsDistinct params = (p : Param) → IsMember p params → param_of p.name params ≡ Some p

handed_is : (p : Param) (span : Span) (found : Option SoyType) (scope s : Scope) → variable_type p.name scope ≡ found
    → is_some found ≡ true → handed (param_type p) span found scope ≡ Ok s → HandsOn (param_type p) p.name scope
handed_is p span None scope s is there h = let none : ⊥ = cc in absurd none
handed_is p span (Some t) scope s is there h =
    record { of = t; there = is; takes = (passed (accepts (param_type p) t) scope s _ h).0 }

left_is : (p : Param) (span : Span) (required : Bool) (fault : TypeFault) (scope s : Scope)
    → ◌≡◌ {A = Checked} (if required then Err fault else Ok scope) (Ok s) → required ≡ false
left_is p span true fault scope s h = absurd (fault_none fault s h)
left_is p span false fault scope s h = refl

and_second : (x y : Bool) → (x && y) ≡ true → y ≡ true
and_second x y h = (and_parts x y h).1

module _ (a : Around) where
  left_takes : (all : Bool) (span : Span) (p : Param) (scope s : Scope) (hands : Bool)
      → (hands ≡ true → is_some (variable_type p.name scope) ≡ true)
      → (if hands then handed (param_type p) span (variable_type p.name scope) scope else left_out p span scope) ≡ Ok s
      → LeftTo hands p scope
  left_takes all span p scope s true there h =
      handed_is p span (variable_type p.name scope) scope s refl (there refl) h
  left_takes all span p scope s false there h = left_is p span p.required _ scope s h

  param_takes : (all : Bool) (given : Arguments) (span : Span) (p : Param) (scope s : Scope)
      → SeesParams a.params scope → (found : Option Given)
      → ((wanted : Given) → found ≡ Some wanted → GivenTaken wanted (param_type p) scope)
      → (if is_some found then Ok scope else unnamed_demand a all span p scope) ≡ Ok s
      → ParamTakes found (all && is_some (param_of p.name a.params)) p scope
  param_takes all given span p scope s sees None takes h =
      left_takes all span p scope s (all && is_some (param_of p.name a.params))
      (λ both. sees p.name (and_second all (is_some (param_of p.name a.params)) both)) h
  param_takes all given span p scope s sees (Some wanted) takes h = takes wanted refl

  params_take : (all : Bool) (given : Arguments) (span : Span) (params ps : List Param) (scope s : Scope)
      → SeesParams a.params scope → ((p : Param) → IsMember p ps → param_of p.name params ≡ Some p)
      → AllTaken given params scope → param_demands a all (names_given given) span ps scope ≡ Ok s
      → ParamsTake ps given all a.params scope
  params_take all given span params [] scope s sees named each h = tt
  params_take all given span params (p ∷ ps) scope s sees named each h =
      let one : Stepped (param_demand a all (names_given given) span p scope) _ s =
      stepped (param_demand a all (names_given given) span p scope) _ s h in
      let first : (if is_some (given_of p.name given) then Ok scope else unnamed_demand a all span p scope)
      ≡ Ok one.got =
      subst (λ b. (if b then Ok scope else unnamed_demand a all span p scope) ≡ Ok one.got)
      (given_there p.name given) one.first in (
        param_takes all given span p scope one.got sees (given_of p.name given)
            (λ wanted is. taken given params scope each p.name p wanted (named p (inl refl)) is) first,
        params_take all given span params ps scope s sees (λ q member. named q (inr member)) each
            (kept (param_demand a all (names_given given) span p scope) _ scope s
            (keeps_demand a all (names_given given) span p scope) h),
      )

  given_taken : (given : Given) (span : Span) (p : Param) (scope s : Scope) → is_formed_given given ≡ true
      → after_given a given span p scope ≡ Ok s → GivenTaken given (param_type p) scope
  given_taken (Plain e) span p scope s formed h =
      let one : Stepped (type_of e scope) (λ t. accepted (param_type p) (span_of e) t scope) s =
      stepped (type_of e scope) _ s h in
      record {
        of = one.got;
        formed = formed;
        typed = one.first;
        takes = (passed (accepts (param_type p) one.got) scope s _ one.then_).0;
      }
  given_taken (Block kind body) span p scope s formed h =
      let one : Stepped (accepted (param_type p) span (kind_type kind) scope) _ s =
      stepped (accepted (param_type p) span (kind_type kind) scope) _ s h in
      (passed (accepts (param_type p) (kind_type kind)) scope one.got _ one.first).0

  all_taken : (given : Arguments) (before : List Name) (params : List Param) (scope s : Scope)
      → are_formed_arguments given ≡ true → after_arguments a given before params scope ≡ Ok s
      → AllTaken given params scope
  all_taken no_argument before params scope s formed h = tt
  all_taken (argument name given span rest) before params scope s formed h =
      let f = and_parts (is_name name && is_formed_given given) (are_formed_arguments rest) formed in
      let g = and_parts (is_name name) (is_formed_given given) f.0 in
      let one : Stepped (named_param name span before params)
      (λ p. followed_by (after_given a given span p scope) (λ t. after_arguments a rest (name ∷ before) params t)) s =
      stepped (named_param name span before params) _ s h in
      let two : Stepped (after_given a given span one.got scope)
      (λ t. after_arguments a rest (name ∷ before) params t) s =
      stepped (after_given a given span one.got scope) _ s one.then_ in (
        record {
          param = one.got;
          named = named_is (is_among before name) name span _ (param_of name params) one.got one.first;
          takes = given_taken given span one.got scope two.got g.1 two.first;
        },
        all_taken rest (name ∷ before) params scope s f.1
            (kept (after_given a given span one.got scope) _ scope s (keeps_given a given span one.got scope)
            one.then_),
      )

  module _ (distinct : (d : Declared) → IsMember d a.declared → IsDistinct d.template.params) where
    abbrev Sees : Scope → Type 0
    Sees = SeesParams a.params

    -- what a call asks of what it is given
    record CallSteps (found : Option Declared) (all : Bool) (given : Arguments) (scope s : Scope) : Type 0 where
      pub takes : CalleeTakes found given all a.params scope
      pub params : List Param
      pub rest : after_arguments a given [] params scope ≡ Ok s

    call_steps : (full : Name) (all : Bool) (given : Arguments) (span : Span) (scope s : Scope) → Sees scope
        → are_formed_arguments given ≡ true → (found : Option Declared) → IsAmong a.declared found
        → followed_by (params_of full span found) (λ params.
        followed_by (param_demands a all (names_given given) span params scope) (λ t.
        after_arguments a given [] params t)) ≡ Ok s
        → CallSteps found all given scope s
    call_steps full all given span scope s sees formed None among h = absurd (fault_none _ s h)
    call_steps full all given span scope s sees formed (Some d) among h =
        let params : List Param = d.template.params in
        let one : Stepped (param_demands a all (names_given given) span params scope)
        (λ t. after_arguments a given [] params t) s =
        stepped (param_demands a all (names_given given) span params scope) _ s h in
        let rest : after_arguments a given [] params scope ≡ Ok s =
        kept (param_demands a all (names_given given) span params scope) (λ t. after_arguments a given [] params t)
        scope s (keeps_demands a all (names_given given) span params scope) h in
        record {
          takes = params_take all given span params params scope one.got sees (distinct d among)
              (all_taken given [] params scope s formed rest) one.first;
          params = params;
          rest = rest;
        }

    mutual
      node_typed : (n : Node) (scope s : Scope) → Sees scope → is_formed_node n ≡ true → after_node a n scope ≡ Ok s
          → NodeTyped a n scope
      node_typed (TextNode text span) scope s sees formed h = tt
      node_typed (Print e phname span) scope s sees formed h =
          let f = and_parts (is_formed_expr e) (if_there is_name phname) formed in
          let one : Stepped (type_of e scope) _ s = stepped (type_of e scope) _ s h in
          record {
            of = one.got;
            formed = f.0;
            typed = one.first;
            printed = (passed (is_printed one.got) scope s _ one.then_).0;
          }
      node_typed (If arms other span) scope s sees formed h =
          let f = and_parts (are_formed_arms arms) (is_formed_otherwise other) formed in
          let one : Stepped (after_arms a arms scope) (λ t. after_otherwise a other t) s =
          stepped (after_arms a arms scope) _ s h in (
            arms_typed arms scope one.got sees f.0 one.first,
            other_typed other scope s sees f.1
                (kept (after_arms a arms scope) (λ t. after_otherwise a other t) scope s (keeps_arms a arms scope) h),
          )
      node_typed (Switch e cases other span) scope s sees formed h =
          let f = and_parts (is_formed_expr e && are_formed_cases cases) (is_formed_otherwise other) formed in
          let g = and_parts (is_formed_expr e) (are_formed_cases cases) f.0 in
          let rest : followed_by (after_cases a cases scope) (λ t. after_otherwise a other t) ≡ Ok s =
          kept (passing is_simple e scope)
          (λ t. followed_by (after_cases a cases t) (λ u. after_otherwise a other u)) scope s
          (keeps_passing is_simple e scope) h in
          let one : Stepped (after_cases a cases scope) (λ t. after_otherwise a other t) s =
          stepped (after_cases a cases scope) _ s rest in (
            cases_typed cases scope one.got sees g.1 one.first,
            other_typed other scope s sees f.1
                (kept (after_cases a cases scope) (λ t. after_otherwise a other t) scope s
                (keeps_cases a cases scope) rest),
          )
      node_typed (For name index e body span) scope s sees formed h =
          let f = and_parts ((is_name name && if_there is_name index) && is_formed_expr e) (are_formed_nodes body)
          formed in
          let g = and_parts (is_name name && if_there is_name index) (is_formed_expr e) f.0 in
          let rest : followed_by (type_of e scope) (λ t. followed_by (loop_scope name index e scope t)
          (λ inner. followed_by (after_nodes a body inner) (λ end. Ok scope))) ≡ Ok s =
          kept (new_variables name index span scope) (λ z. followed_by (type_of e z)
          (λ t. followed_by (loop_scope name index e z t)
          (λ inner. followed_by (after_nodes a body inner) (λ end. Ok z)))) scope s
          (keeps_news name index span scope) h in
          let one : Stepped (type_of e scope) (λ t. followed_by (loop_scope name index e scope t)
          (λ inner. followed_by (after_nodes a body inner) (λ end. Ok scope))) s =
          stepped (type_of e scope) _ s rest in
          let two : Stepped (loop_scope name index e scope one.got)
          (λ inner. followed_by (after_nodes a body inner) (λ end. Ok scope)) s =
          stepped (loop_scope name index e scope one.got) _ s one.then_ in
          let three : Stepped (after_nodes a body two.got) (λ end. Ok scope) s =
          stepped (after_nodes a body two.got) _ s two.then_ in
          let over : LoopsOver name index scope two.got one.got =
          loops_over name index e scope one.got two.got two.first in
          let within : body_scope name index (type_of e scope) scope ≡ two.got =
          ap (λ r. body_scope name index r scope) one.first ∙ over.within in (
            record { each = over.each; formed = g.1; typed = one.first ∙ ap (λ t. Ok t) over.is },
            subst (λ z. NodesTyped a body z) (sym within)
                (nodes_typed body two.got three.got (sees_loop a.params name index scope two.got one.got sees over) f.1
                three.first),
          )
      node_typed (Let name e span) scope s sees formed h =
          let f = and_parts (is_name name) (is_formed_expr e) formed in
          let rest : followed_by (type_of e scope) (λ t. Ok ((name, t) ∷ scope)) ≡ Ok s =
          kept (new_variable name span scope) (λ z. followed_by (type_of e z) (λ t. Ok ((name, t) ∷ z))) scope s
          (keeps_new name span scope) h in
          let one : Stepped (type_of e scope) (λ t. Ok ((name, t) ∷ scope)) s =
          stepped (type_of e scope) _ s rest in record { of = one.got; formed = f.1; typed = one.first }
      node_typed (LetBlock name kind body span) scope s sees formed h =
          let f = and_parts (is_name name) (are_formed_nodes body) formed in
          let rest : followed_by (after_nodes a body scope) (λ end. Ok ((name, kind_type kind) ∷ scope)) ≡ Ok s =
          kept (new_variable name span scope)
          (λ z. followed_by (after_nodes a body z) (λ end. Ok ((name, kind_type kind) ∷ z))) scope s
          (keeps_new name span scope) h in
          let one : Stepped (after_nodes a body scope) (λ end. Ok ((name, kind_type kind) ∷ scope)) s =
          stepped (after_nodes a body scope) _ s rest in nodes_typed body scope one.got sees f.1 one.first
      node_typed (Call name all given span) scope s sees formed h =
          let f = and_parts (is_dotted_name name) (are_formed_arguments given) formed in
          let steps : CallSteps (callee a.declared a.namespace name) all given scope s =
          call_steps (called_name a.namespace name) all given span scope s sees f.1
          (callee a.declared a.namespace name) (callee_among a.declared a.namespace name) h in
          (steps.takes, arguments_typed given [] steps.params scope s sees f.1 steps.rest)
      node_typed (MessageNode m other span) scope s sees formed h =
          let f = and_parts (is_formed_message m) (is_formed_fallback other) formed in
          let one : Stepped (after_message a m scope) (λ t. after_fallback a other t) s =
          stepped (after_message a m scope) _ s h in (
            message_typed m scope one.got sees f.0 one.first,
            fallback_typed other scope s sees f.1
                (kept (after_message a m scope) (λ t. after_fallback a other t) scope s (keeps_message a m scope) h),
          )

      pub nodes_typed : (ns : Nodes) (scope s : Scope) → Sees scope → are_formed_nodes ns ≡ true
          → after_nodes a ns scope ≡ Ok s → NodesTyped a ns scope
      nodes_typed no_node scope s sees formed h = tt
      nodes_typed (node n ns) scope s sees formed h =
          let f = and_parts (is_formed_node n && not (is_text n && begins_with_text ns)) (are_formed_nodes ns) formed in
          let g = and_parts (is_formed_node n) (not (is_text n && begins_with_text ns)) f.0 in
          let one : Stepped (after_node a n scope) (λ t. after_nodes a ns t) s =
          stepped (after_node a n scope) _ s h in (
            node_typed n scope one.got sees g.0 one.first,
            nodes_typed ns (scope_past n scope) s (sees_past a.params n scope sees) f.1
                (subst (λ z. after_nodes a ns z ≡ Ok s) (sym (node_past a n scope one.got one.first)) one.then_),
          )

      other_typed : (other : Otherwise) (scope s : Scope) → Sees scope → is_formed_otherwise other ≡ true
          → after_otherwise a other scope ≡ Ok s → OtherTyped a other scope
      other_typed no_otherwise scope s sees formed h = tt
      other_typed (otherwise body) scope s sees formed h =
          let one : Stepped (after_nodes a body scope) (λ end. Ok scope) s =
          stepped (after_nodes a body scope) _ s h in nodes_typed body scope one.got sees formed one.first

      arms_typed : (arms : Arms) (scope s : Scope) → Sees scope → are_formed_arms arms ≡ true
          → after_arms a arms scope ≡ Ok s → ArmsTyped a arms scope
      arms_typed no_arm scope s sees formed h = tt
      arms_typed (arm e body arms) scope s sees formed h =
          let f = and_parts (is_formed_expr e && are_formed_nodes body) (are_formed_arms arms) formed in
          let g = and_parts (is_formed_expr e) (are_formed_nodes body) f.0 in
          let one : Stepped (type_of e scope)
          (λ t. followed_by (after_nodes a body (narrowed e scope)) (λ end. after_arms a arms scope)) s =
          stepped (type_of e scope) _ s h in
          let two : Stepped (after_nodes a body (narrowed e scope)) (λ end. after_arms a arms scope) s =
          stepped (after_nodes a body (narrowed e scope)) _ s one.then_ in (
            nodes_typed body (narrowed e scope) two.got (sees_narrowed a.params e scope sees) g.1 two.first,
            arms_typed arms scope s sees f.1 two.then_,
          )

      cases_typed : (cases : Cases) (scope s : Scope) → Sees scope → are_formed_cases cases ≡ true
          → after_cases a cases scope ≡ Ok s → CasesTyped a cases scope
      cases_typed no_case scope s sees formed h = tt
      cases_typed (case values body cases) scope s sees formed h =
          let f = and_parts (list_all is_formed_expr values && are_formed_nodes body) (are_formed_cases cases) formed in
          let g = and_parts (list_all is_formed_expr values) (are_formed_nodes body) f.0 in
          let rest : followed_by (after_nodes a body scope) (λ end. after_cases a cases scope) ≡ Ok s =
          kept (each_passing values scope)
          (λ z. followed_by (after_nodes a body z) (λ end. after_cases a cases z)) scope s
          (keeps_each values scope) h in
          let one : Stepped (after_nodes a body scope) (λ end. after_cases a cases scope) s =
          stepped (after_nodes a body scope) _ s rest in
          (nodes_typed body scope one.got sees g.1 one.first, cases_typed cases scope s sees f.1 one.then_)

      arguments_typed : (given : Arguments) (before : List Name) (params : List Param) (scope s : Scope) → Sees scope
          → are_formed_arguments given ≡ true → after_arguments a given before params scope ≡ Ok s
          → ArgumentsTyped a given scope
      arguments_typed no_argument before params scope s sees formed h = tt
      arguments_typed (argument name given span rest) before params scope s sees formed h =
          let f = and_parts (is_name name && is_formed_given given) (are_formed_arguments rest) formed in
          let g = and_parts (is_name name) (is_formed_given given) f.0 in
          let one : Stepped (named_param name span before params)
          (λ p. followed_by (after_given a given span p scope) (λ t. after_arguments a rest (name ∷ before) params t))
          s = stepped (named_param name span before params) _ s h in
          let two : Stepped (after_given a given span one.got scope)
          (λ t. after_arguments a rest (name ∷ before) params t) s =
          stepped (after_given a given span one.got scope) _ s one.then_ in (
            given_typed given span one.got scope two.got sees g.1 two.first,
            arguments_typed rest (name ∷ before) params scope s sees f.1
                (kept (after_given a given span one.got scope)
                (λ t. after_arguments a rest (name ∷ before) params t) scope s
                (keeps_given a given span one.got scope) one.then_),
          )

      given_typed : (given : Given) (span : Span) (p : Param) (scope s : Scope) → Sees scope
          → is_formed_given given ≡ true → after_given a given span p scope ≡ Ok s → GivenTyped a given scope
      given_typed (Plain e) span p scope s sees formed h =
          let one : Stepped (type_of e scope) (λ t. accepted (param_type p) (span_of e) t scope) s =
          stepped (type_of e scope) _ s h in record { of = one.got; formed = formed; typed = one.first }
      given_typed (Block kind body) span p scope s sees formed h =
          let rest : followed_by (after_nodes a body scope) (λ end. Ok scope) ≡ Ok s =
          kept (accepted (param_type p) span (kind_type kind) scope)
          (λ z. followed_by (after_nodes a body z) (λ end. Ok z)) scope s
          (keeps_accepted (param_type p) span (kind_type kind) scope) h in
          let one : Stepped (after_nodes a body scope) (λ end. Ok scope) s =
          stepped (after_nodes a body scope) _ s rest in nodes_typed body scope one.got sees formed one.first

      message_typed : (m : Message) (scope s : Scope) → Sees scope → is_formed_message m ≡ true
          → after_message a m scope ≡ Ok s → MessageTyped a m scope
      message_typed (message desc meaning body span) scope s sees formed h =
          body_typed body scope s sees (and_parts (is_formed_body body) (nat_le (nesting body) 63) formed).0 h

      fallback_typed : (other : Fallback) (scope s : Scope) → Sees scope → is_formed_fallback other ≡ true
          → after_fallback a other scope ≡ Ok s → FallbackTyped a other scope
      fallback_typed no_fallback scope s sees formed h = tt
      fallback_typed (fallback m) scope s sees formed h = message_typed m scope s sees formed h

      body_typed : (body : MessageBody) (scope s : Scope) → Sees scope → is_formed_body body ≡ true
          → after_body a body scope ≡ Ok s → BodyTyped a body scope
      body_typed (Parts ns) scope s sees formed h =
          let one : Stepped (after_nodes a ns scope) (λ end. Ok scope) s = stepped (after_nodes a ns scope) _ s h in
          nodes_typed ns scope one.got sees (and_parts (are_formed_nodes ns) (is_message_text ns) formed).0 one.first
      body_typed (Plural e offset cases other) scope s sees formed h =
          let f = and_parts ((is_formed_expr e && nat_le offset largest) && are_formed_plural_cases cases)
          (is_formed_body other) formed in
          let g = and_parts (is_formed_expr e && nat_le offset largest) (are_formed_plural_cases cases) f.0 in
          let rest : followed_by (after_plural_cases a cases scope) (λ t. after_body a other t) ≡ Ok s =
          kept (passing is_int e scope)
          (λ z. followed_by (after_plural_cases a cases z) (λ t. after_body a other t)) scope s
          (keeps_passing is_int e scope) h in
          let one : Stepped (after_plural_cases a cases scope) (λ t. after_body a other t) s =
          stepped (after_plural_cases a cases scope) _ s rest in (
            plural_typed cases scope one.got sees g.1 one.first,
            body_typed other scope s sees f.1
                (kept (after_plural_cases a cases scope) (λ t. after_body a other t) scope s
                (keeps_plural a cases scope) rest),
          )
      body_typed (Select e cases other) scope s sees formed h =
          let f = and_parts (is_formed_expr e && are_formed_select_cases cases) (is_formed_body other) formed in
          let g = and_parts (is_formed_expr e) (are_formed_select_cases cases) f.0 in
          let rest : followed_by (after_select_cases a cases scope) (λ t. after_body a other t) ≡ Ok s =
          kept (passing is_string e scope)
          (λ z. followed_by (after_select_cases a cases z) (λ t. after_body a other t)) scope s
          (keeps_passing is_string e scope) h in
          let one : Stepped (after_select_cases a cases scope) (λ t. after_body a other t) s =
          stepped (after_select_cases a cases scope) _ s rest in (
            select_typed cases scope one.got sees g.1 one.first,
            body_typed other scope s sees f.1
                (kept (after_select_cases a cases scope) (λ t. after_body a other t) scope s
                (keeps_select a cases scope) rest),
          )

      plural_typed : (cases : PluralCases) (scope s : Scope) → Sees scope → are_formed_plural_cases cases ≡ true
          → after_plural_cases a cases scope ≡ Ok s → PluralTyped a cases scope
      plural_typed no_plural_case scope s sees formed h = tt
      plural_typed (plural_case n body cases) scope s sees formed h =
          let f = and_parts (is_formed_int n && is_formed_body body) (are_formed_plural_cases cases) formed in
          let g = and_parts (is_formed_int n) (is_formed_body body) f.0 in
          let one : Stepped (after_body a body scope) (λ t. after_plural_cases a cases t) s =
          stepped (after_body a body scope) _ s h in (
            body_typed body scope one.got sees g.1 one.first,
            plural_typed cases scope s sees f.1
                (kept (after_body a body scope) (λ t. after_plural_cases a cases t) scope s
                (keeps_body a body scope) h),
          )

      select_typed : (cases : SelectCases) (scope s : Scope) → Sees scope → are_formed_select_cases cases ≡ true
          → after_select_cases a cases scope ≡ Ok s → SelectTyped a cases scope
      select_typed no_select_case scope s sees formed h = tt
      select_typed (select_case word body cases) scope s sees formed h =
          let f = and_parts (is_case_word word && is_formed_body body) (are_formed_select_cases cases) formed in
          let g = and_parts (is_case_word word) (is_formed_body body) f.0 in
          let one : Stepped (after_body a body scope) (λ t. after_select_cases a cases t) s =
          stepped (after_body a body scope) _ s h in (
            body_typed body scope one.got sees g.1 one.first,
            select_typed cases scope s sees f.1
                (kept (after_body a body scope) (λ t. after_select_cases a cases t) scope s
                (keeps_body a body scope) h),
          )
