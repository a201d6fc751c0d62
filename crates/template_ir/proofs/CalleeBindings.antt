-- A callee's variables are what a typed call gives and what it hands on.
use Rattle.std.proofs.Common.{◌≡◌, Bool, true, false, List, [], ◌∷◌, ◌++◌, Option, Some, None, if◌then◌else◌, refl, sym}
use Rattle.std.proofs.Common.{ap, ◌∙◌}
use Rattle.std.specs.Prelude.{bytes_eq, is_some, not, ◌&&◌, ◌||◌}
use Rattle.std.proofs.lemmas.Bool.{or_parts}
use Rattle.std.proofs.lemmas.Slice.Eq.{bytes_eq-Decides}
use Rattle.soy_rules.specs.Bodies.{names_given, param_of}
use Rattle.soy_base.specs.Among.{is_among}
use Rattle.soy_tree.specs.Nodes.{Arguments, no_argument, argument}
use Rattle.soy_tree.specs.Trees.{Param}
use Rattle.soy_tree.specs.Types.{Name}
use Rattle.soy_rules.specs.Val.{Binding, Known, binding}
use Rattle.soy_tree.specs.Values.{NullValue}
use Rattle.soy_tree.proofs.SameNames.{same_name}
use Rattle.soy_meaning.specs.Runs.FrameRun.{FrameRun}
use Rattle.soy_meaning.specs.Runs.GivenAt.{given_binding_of, given_bindings}
use Rattle.soy_pieces.specs.Giving.{BoundBlock, RunEnv}
use Rattle.soy_pieces.specs.Pieces.{GivenArguments, RunContext, callee_env, given_binding, handed_on, param_binding}
use Rattle.soy_meaning.proofs.Typing.CheckedNodes.{same_bytes}
use Rattle.template_ir.specs.Compiles.{handed_on_names}
use Rattle.template_ir.specs.Placed.{BindsGiven, has_name}

abbrev Bound : Type 0
Bound = Binding BoundBlock

same_itself : (x : Name) → bytes_eq x x ≡ true
same_itself x = (bytes_eq-Decides x x).1 refl

either_test : (P : Bool → Type 0) (t : Bool) → P true → P false → P t
either_test P true h k = h
either_test P false h k = k

-- ---- what is given under a name

given_if : (test : Bool) (b : Bound) (rest : Option Bound) → test ≡ false → rest ≡ None
    → (if test then Some b else rest) ≡ None
given_if false b rest t h = h
given_if true b rest t h = let no : ⊥ = cc in absurd no

pub given_more : (x name : Name) (bound : Bound) (before : GivenArguments) → given_binding x before ≡ None
    → bytes_eq name x ≡ false → given_binding x (before ++ ((name, bound) ∷ [])) ≡ None
given_more x name bound [] h other = given_if (bytes_eq name x) bound None other refl
given_more x name bound (g ∷ before) h other =
    behind (bytes_eq g.0 x) (λ k. given_more x name bound before k other) h
  where
    behind : (test : Bool) → (given_binding x before ≡ None
        → given_binding x (before ++ ((name, bound) ∷ [])) ≡ None)
        → (if test then Some g.1 else given_binding x before) ≡ None
        → (if test then Some g.1 else given_binding x (before ++ ((name, bound) ∷ []))) ≡ None
    behind false more k = more k
    behind true more k = let no : ⊥ = cc in absurd no

module _ (c : RunContext) (q : FrameRun) (env : RunEnv) where
  pub nothing_given : (x : Name) (given : Arguments) → is_among (names_given given) x ≡ false
      → given_binding x (given_bindings c q given env) ≡ None
  nothing_given x no_argument h = refl
  nothing_given x (argument name given span rest) h =
      let parts = or_parts (bytes_eq x name) (is_among (names_given rest) x) h in
      given_if (bytes_eq name x) (given_binding_of c q given env) (given_binding x (given_bindings c q rest env))
      (same_bytes name x ∙ parts.0) (nothing_given x rest parts.1)

  something_given : (x : Name) (given : Arguments) → is_among (names_given given) x ≡ true
      → given_binding x (given_bindings c q given env) ≡ None → ⊥
  something_given x no_argument h k = let no : ⊥ = cc in no
  something_given x (argument name given span rest) h k =
      apart (bytes_eq name x) (bytes_eq x name) (λ t n. something_given x rest t n) (same_bytes name x) h k
    where
      apart : (test other : Bool) → (is_among (names_given rest) x ≡ true
          → given_binding x (given_bindings c q rest env) ≡ None → ⊥)
          → test ≡ other → (other || is_among (names_given rest) x) ≡ true
          → (if test then Some (given_binding_of c q given env)
          else given_binding x (given_bindings c q rest env)) ≡ None → ⊥
      apart true other more e t n = let no : ⊥ = cc in no
      apart false false more e t n = more t n
      apart false true more e t n = let no : ⊥ = cc in no

-- ---- which names are handed on

module _ (hands : Bool) (own : List Param) (given : List Name) where
  abbrev pub names_on : List Param → List Name
  names_on = handed_on_names hands own given

  abbrev pub is_handed : Name → Bool
  is_handed x = hands && is_some (param_of x own) && not (is_among given x)

  -- a name that isn't handed on is none of these
  pub not_handed : (x : Name) → is_handed x ≡ false → (ps : List Param) → has_name x (names_on ps) ≡ false
  not_handed x h [] = refl
  not_handed x h (p ∷ ps) = by_test (not_handed x h ps) (is_handed p.name) refl
    where
      by_name : has_name x (names_on ps) ≡ false → (same : Bool) → bytes_eq p.name x ≡ same
          → is_handed p.name ≡ true → (if same then true else has_name x (names_on ps)) ≡ false
      by_name more false e t = more
      by_name more true e t =
          let equal : p.name ≡ x = same_name p.name x e in
          let no : true ≡ false = sym t ∙ (ap is_handed equal ∙ h) in
          let none : ⊥ = cc in absurd none

      by_test : has_name x (names_on ps) ≡ false → (test : Bool) → is_handed p.name ≡ test
          → has_name x (if test then p.name ∷ names_on ps else names_on ps) ≡ false
      by_test more true t = by_name more (bytes_eq p.name x) refl t
      by_test more false t = more

  -- nor is one that isn't a parameter
  none_handed : (x : Name) (ps : List Param) → is_some (param_of x ps) ≡ false → has_name x (names_on ps) ≡ false
  none_handed x [] h = refl
  none_handed x (p ∷ ps) h = by_name (bytes_eq p.name x) refl (λ k. none_handed x ps k) h
    where
      seen : bytes_eq p.name x ≡ false → has_name x (names_on ps) ≡ false → (test : Bool)
          → has_name x (if test then p.name ∷ names_on ps else names_on ps) ≡ false
      seen e k true = ap (λ t. if t then true else has_name x (names_on ps)) e ∙ k
      seen e k false = k

      by_name : (same : Bool) → bytes_eq p.name x ≡ same
          → (is_some (param_of x ps) ≡ false → has_name x (names_on ps) ≡ false)
          → is_some (if same then Some p else param_of x ps) ≡ false
          → has_name x (if is_handed p.name then p.name ∷ names_on ps else names_on ps) ≡ false
      by_name true e more k = let no : ⊥ = cc in absurd no
      by_name false e more k = seen e (more k) (is_handed p.name)

  -- a parameter's name is, where it is handed on
  pub handed_there : (x : Name) → is_handed x ≡ true → (ps : List Param) → is_some (param_of x ps) ≡ true
      → has_name x (names_on ps) ≡ true
  handed_there x h [] k = let no : ⊥ = cc in absurd no
  handed_there x h (p ∷ ps) k = by_name (bytes_eq p.name x) refl (λ j. handed_there x h ps j) k
    where
      first : bytes_eq p.name x ≡ true → (test : Bool) → test ≡ true
          → has_name x (if test then p.name ∷ names_on ps else names_on ps) ≡ true
      first e true t = ap (λ s. if s then true else has_name x (names_on ps)) e
      first e false t = let no : ⊥ = cc in absurd no

      behind : bytes_eq p.name x ≡ false → has_name x (names_on ps) ≡ true → (test : Bool)
          → has_name x (if test then p.name ∷ names_on ps else names_on ps) ≡ true
      behind e j true = ap (λ s. if s then true else has_name x (names_on ps)) e ∙ j
      behind e j false = j

      by_name : (same : Bool) → bytes_eq p.name x ≡ same
          → (is_some (param_of x ps) ≡ true → has_name x (names_on ps) ≡ true)
          → is_some (if same then Some p else param_of x ps) ≡ true
          → has_name x (if is_handed p.name then p.name ∷ names_on ps else names_on ps) ≡ true
      by_name true e more j =
          let equal : p.name ≡ x = same_name p.name x e in
          first e (is_handed p.name) (ap is_handed equal ∙ h)
      by_name false e more j = behind e (more j) (is_handed p.name)

-- ---- the variables of a callee

module _ (hands : Bool) (own : List Param) (given : GivenArguments) (env : RunEnv) where
  -- a parameter's variable
  pub param_bound : (x : Name) (ps : List Param) → is_some (param_of x ps) ≡ true
      → binding x (callee_env ps given hands own env)
      ≡ param_binding (given_binding x given) (handed_on (hands && is_some (param_of x own)) (binding x env))
  param_bound x [] h = let no : ⊥ = cc in absurd no
  param_bound x (p ∷ ps) h = by_name (bytes_eq p.name x) refl (λ k. param_bound x ps k) h
    where
      of : Name → Bound
      of name = param_binding (given_binding name given)
          (handed_on (hands && is_some (param_of name own)) (binding name env))

      by_name : (same : Bool) → bytes_eq p.name x ≡ same
          → (is_some (param_of x ps) ≡ true → binding x (callee_env ps given hands own env) ≡ of x)
          → is_some (if same then Some p else param_of x ps) ≡ true
          → (if same then of p.name else binding x (callee_env ps given hands own env)) ≡ of x
      by_name true e more k = ap of (same_name p.name x e)
      by_name false e more k = more k

  -- no other is bound
  pub other_bound : (x : Name) (ps : List Param) → is_some (param_of x ps) ≡ false
      → binding x (callee_env ps given hands own env) ≡ Known NullValue
  other_bound x [] h = refl
  other_bound x (p ∷ ps) h = by_name (bytes_eq p.name x) refl (λ k. other_bound x ps k) h
    where
      by_name : (same : Bool) → bytes_eq p.name x ≡ same
          → (is_some (param_of x ps) ≡ false → binding x (callee_env ps given hands own env) ≡ Known NullValue)
          → is_some (if same then Some p else param_of x ps) ≡ false
          → (if same then param_binding (given_binding p.name given)
          (handed_on (hands && is_some (param_of p.name own)) (binding p.name env))
          else binding x (callee_env ps given hands own env)) ≡ Known NullValue
      by_name true e more k = let no : ⊥ = cc in absurd no
      by_name false e more k = more k

-- ---- together

module _ (c : RunContext) (q : FrameRun) (env : RunEnv) (hands : Bool) (own params : List Param) (args : Arguments)
    (named : (x : Name) → is_among (names_given args) x ≡ true → is_some (param_of x params) ≡ true) where
  abbrev given : GivenArguments
  given = given_bindings c q args env

  abbrev names : List Name
  names = handed_on_names hands own (names_given args) params

  free : (x : Name) → has_name x names ≡ true → given_binding x given ≡ None
  free x h = by_test (is_among (names_given args) x) refl
    where
      by_test : (t : Bool) → is_among (names_given args) x ≡ t → given_binding x given ≡ None
      by_test false e = nothing_given c q env x args e
      by_test true e =
          let off : (hands && is_some (param_of x own) && not (is_among (names_given args) x)) ≡ false =
          ap (λ t. hands && is_some (param_of x own) && not t) e ∙ off_here (hands && is_some (param_of x own)) in
          let no : true ≡ false = sym h ∙ not_handed hands own (names_given args) x off params in
          let none : ⊥ = cc in absurd none
        where
          off_here : (t : Bool) → (t && not true) ≡ false
          off_here true = refl
          off_here false = refl

  abbrev wanted : Name → Bound
  wanted x = param_binding (given_binding x given) (if has_name x names then binding x env else Known NullValue)

  -- of a parameter that nothing is given, what is handed on
  left_to : (x : Name) → is_some (param_of x params) ≡ true → is_among (names_given args) x ≡ false
      → handed_on (hands && is_some (param_of x own)) (binding x env)
      ≡ (if has_name x names then binding x env else Known NullValue)
  left_to x there none = by_test (hands && is_some (param_of x own)) refl
    where
      on : (t : Bool) → hands && is_some (param_of x own) ≡ t
          → (hands && is_some (param_of x own) && not (is_among (names_given args) x)) ≡ t
      on true e = ap (λ s. s && not (is_among (names_given args) x)) e ∙ ap (λ s. true && not s) none
      on false e = ap (λ s. s && not (is_among (names_given args) x)) e

      by_test : (t : Bool) → hands && is_some (param_of x own) ≡ t
          → handed_on t (binding x env) ≡ (if has_name x names then binding x env else Known NullValue)
      by_test true e =
          ap (λ s. if s then binding x env else Known NullValue)
          (sym (handed_there hands own (names_given args) x (on true e) params there))
      by_test false e =
          ap (λ s. if s then binding x env else Known NullValue)
          (sym (not_handed hands own (names_given args) x (on false e) params))

  by_given : (x : Name) (found : Option Bound) → given_binding x given ≡ found
      → is_some (param_of x params) ≡ true
      → param_binding found (handed_on (hands && is_some (param_of x own)) (binding x env))
      ≡ param_binding found (if has_name x names then binding x env else Known NullValue)
  by_given x (Some b) e there = refl
  by_given x None e there = by_test (is_among (names_given args) x) refl
    where
      by_test : (t : Bool) → is_among (names_given args) x ≡ t
          → handed_on (hands && is_some (param_of x own)) (binding x env)
          ≡ (if has_name x names then binding x env else Known NullValue)
      by_test false k = left_to x there k
      by_test true k = absurd (something_given c q env x args k e)

  bound_as_wanted : (x : Name) (t : Bool) → is_some (param_of x params) ≡ t
      → binding x (callee_env params given hands own env) ≡ wanted x
  bound_as_wanted x true there =
      param_bound hands own given env x params there ∙ by_given x (given_binding x given) refl there
  bound_as_wanted x false there =
      let none : given_binding x given ≡ None = by_test (is_among (names_given args) x) refl in
      other_bound hands own given env x params there
      ∙ (ap (λ s. if s then binding x env else Known NullValue)
      (sym (none_handed hands own (names_given args) x params there))
      ∙ ap (λ f. param_binding f (if has_name x names then binding x env else Known NullValue)) (sym none))
    where
      by_test : (t : Bool) → is_among (names_given args) x ≡ t → given_binding x given ≡ None
      by_test false k = nothing_given c q env x args k
      by_test true k =
          let no : true ≡ false = sym (named x k) ∙ there in let none : ⊥ = cc in absurd none

  pub callee_binds : BindsGiven names given (callee_env params given hands own env) env
  callee_binds = (free, (λ x. bound_as_wanted x (is_some (param_of x params)) refl))
