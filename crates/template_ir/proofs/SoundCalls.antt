-- What a typed call hands on fits the callee's parameters, under names that it gives nothing under, and no parameter
-- that is required is left out.
use Rattle.std.proofs.Common.{◌≡◌, ℕ, ◌+◌, Bool, true, false, List, [], ◌∷◌, ◌++◌, inl, inr, Option, Some, None}
use Rattle.std.proofs.Common.{if◌then◌else◌, map, refl, sym, ap, ◌∙◌, subst}
use Rattle.std.specs.Prelude.{bytes_eq, is_some, not, ◌&&◌, ◌||◌}
use Rattle.std.proofs.lemmas.Bool.{and_parts, or_parts}
use Rattle.std.proofs.lemmas.Slice.Eq.{bytes_eq-Decides}
use Rattle.soy_rules.specs.Bodies.{Around, names_given, param_of}
use Rattle.soy_base.specs.Among.{is_among}
use Rattle.soy_tree.specs.Nodes.{Arguments, Given, no_argument, argument}
use Rattle.soy_rules.specs.Templates.{param_type}
use Rattle.soy_tree.specs.Trees.{Param}
use Rattle.soy_tree.specs.Types.{Name}
use Rattle.soy_rules.specs.TypeOf.{Scope}
use Rattle.soy_tree.proofs.SameNames.{same_name}
use Rattle.soy_meaning.specs.Walks.States.{IsMember}
use Rattle.soy_meaning.proofs.Typing.CheckedNodes.{same_bytes}
use Rattle.soy_meaning.proofs.Typing.TypedNodes.{HandsOn, ParamTakes, ParamsTake, given_of}
use Rattle.template_ir.specs.Compiles.{CompileContext, StandsGiven, handed_on_names, same_handed}
use Rattle.template_ir.specs.HoleCounts.{given_holes}
use Rattle.template_ir.specs.Ops.{Handed, HandedSame}
use Rattle.template_ir.specs.Placed.{has_name}
use Rattle.template_ir.specs.Sound.{OpCheck, are_sound_handed, fits_param, handed_names, has_required, is_sound_given}
use Rattle.template_ir.specs.Sound.{takes_variable}
use Rattle.template_ir.proofs.CalleeBindings.{handed_there, is_handed, not_handed}
use Rattle.template_ir.proofs.CheckedTemplates.{AreApart}
use Rattle.template_ir.proofs.Demands.{ArgumentsDemand}
use Rattle.template_ir.proofs.SoundOps.{both_true}

-- ---- names

true_false : {P : Type 0} → ◌≡◌ {A = Bool} true false → P
true_false e = let no : ⊥ = cc in absurd no

or_same : (t u v w : Bool) → t ≡ v → u ≡ w → (t || u) ≡ (if v then true else w)
or_same t u true w h k = ap (λ b. b || u) h
or_same t u false w h k = ap (λ b. b || u) h ∙ k

among_has : (x : Name) (names : List Name) → is_among names x ≡ has_name x names
among_has x [] = refl
among_has x (n ∷ names) =
    or_same (bytes_eq x n) (is_among names x) (bytes_eq n x) (has_name x names) (same_bytes x n) (among_has x names)

pub or_later : (t u : Bool) → u ≡ true → (t || u) ≡ true
or_later true u h = refl
or_later false u h = h

pub or_none : (t u : Bool) → t ≡ false → u ≡ false → (t || u) ≡ false
or_none t u h k = ap (λ b. b || u) h ∙ k

among_left : (x : Name) (names more : List Name) → is_among names x ≡ true → is_among (names ++ more) x ≡ true
among_left x [] more h = true_false (sym h)
among_left x (n ∷ names) more h = by_name (bytes_eq x n) (λ k. among_left x names more k) h
  where
    by_name : (t : Bool) → (is_among names x ≡ true → is_among (names ++ more) x ≡ true)
        → (t || is_among names x) ≡ true → (t || is_among (names ++ more) x) ≡ true
    by_name true later k = refl
    by_name false later k = later k

among_right : (x : Name) (names more : List Name) → is_among more x ≡ true → is_among (names ++ more) x ≡ true
among_right x [] more h = h
among_right x (n ∷ names) more h = or_later (bytes_eq x n) (is_among (names ++ more) x) (among_right x names more h)

pub among_neither : (x : Name) (names more : List Name) → is_among names x ≡ false → is_among more x ≡ false
    → is_among (names ++ more) x ≡ false
among_neither x [] more h k = k
among_neither x (n ∷ names) more h k =
    let parts = or_parts (bytes_eq x n) (is_among names x) h in
    or_none (bytes_eq x n) (is_among (names ++ more) x) parts.0 (among_neither x names more parts.1 k)

-- a name that isn't among some is another than one that is
other_name : (x name : Name) (names : List Name) → is_among names x ≡ true → is_among names name ≡ false
    → bytes_eq x name ≡ false
other_name x name names h k = by_test (bytes_eq x name) refl
  where
    by_test : (t : Bool) → bytes_eq x name ≡ t → t ≡ false
    by_test false e = refl
    by_test true e = true_false (sym h ∙ (ap (λ z. is_among names z) (same_name x name e) ∙ k))

pub itself_among : (x : Name) (names : List Name) → is_among (x ∷ names) x ≡ true
itself_among x names = ap (λ t. t || is_among names x) ((bytes_eq-Decides x x).1 refl)

-- none of the params behind has a name that was given
pub later_free : (a : Around) (rest : Arguments) (names : List Name) (params : List Param) (scope : Scope)
    → ArgumentsDemand a rest names params scope → (x : Name) → is_among names x ≡ true
    → is_among (names_given rest) x ≡ false
later_free a no_argument names params scope demands x h = refl
later_free a (argument name given span rest) names params scope demands x h =
    or_none (bytes_eq x name) (is_among (names_given rest) x) (other_name x name names h demands.0.fresh)
    (later_free a rest (name ∷ names) params scope demands.2 x (or_later (bytes_eq x name) (is_among names x) h))

-- ---- parameters

chosen_if : (test : Bool) (q p : Param) (rest : Option Param) → test ≡ false → rest ≡ Some p
    → (if test then Some q else rest) ≡ Some p
chosen_if test q p rest h k = ap (λ t. if t then Some q else rest) h ∙ k

abbrev pub AreNamed : List Param → List Param → Type 0
AreNamed ps params = (p : Param) → IsMember p ps → param_of p.name params ≡ Some p

named_apart : (ps : List Param) (before : List Name) → AreApart ps before → (p : Param) → IsMember p ps
    → (param_of p.name ps ≡ Some p) × (is_among before p.name ≡ false)
named_apart [] before apart p member = absurd member
named_apart (q ∷ ps) before apart p (inl same) =
    let own : bytes_eq q.name p.name ≡ true = (bytes_eq-Decides q.name p.name).1 (ap (λ z. z.name) (sym same)) in (
      ap (λ t. if t then Some q else param_of p.name ps) own ∙ ap (λ z. Some z) (sym same),
      subst (λ z. is_among before z.name ≡ false) (sym same) apart.0,
    )
named_apart (q ∷ ps) before apart p (inr member) =
    let rest = named_apart ps (q.name ∷ before) apart.1 p member in
    let parts = or_parts (bytes_eq p.name q.name) (is_among before p.name) rest.1 in (
      chosen_if (bytes_eq q.name p.name) q p (param_of p.name ps) (same_bytes q.name p.name ∙ parts.0) rest.0,
      parts.1,
    )

-- parameters with different names are found by them
pub all_named : (params : List Param) → AreApart params [] → AreNamed params params
all_named params apart p member = (named_apart params [] apart p member).0

-- ---- what a call gives and hands on

given_there : (x : Name) (given : Arguments) → is_among (names_given given) x ≡ is_some (given_of x given)
given_there x no_argument = refl
given_there x (argument name given span rest) =
    by_name (bytes_eq x name) (bytes_eq name x) (same_bytes x name) (given_there x rest)
  where
    by_name : (t u : Bool) → t ≡ u → is_among (names_given rest) x ≡ is_some (given_of x rest)
        → (t || is_among (names_given rest) x) ≡ is_some (if u then Some given else given_of x rest)
    by_name t true e later = ap (λ b. b || is_among (names_given rest) x) e
    by_name t false e later = ap (λ b. b || is_among (names_given rest) x) e ∙ later

names_same : (same : List Name) → handed_names (map same_handed same) ≡ same
names_same [] = refl
names_same (n ∷ same) = ap (λ l. n ∷ l) (names_same same)

pub stands_names : (c : CompileContext) (given : Arguments) (same : List Name) (handed : List Handed) (hole before : ℕ)
    → StandsGiven c given same handed hole before → handed_names handed ≡ names_given given ++ same
stands_names c no_argument same handed hole before h = ap handed_names h ∙ names_same same
stands_names c (argument name given span rest) same [] hole before h = absurd h
stands_names c (argument name given span rest) same (one ∷ handed) hole before h =
    ap (λ n. n ∷ handed_names handed) h.0
    ∙ ap (λ l. name ∷ l) (stands_names c rest same handed (hole + given_holes c.translation given) before h.2)

module _ (hands : Bool) (own : List Param) (given : Arguments) where
  abbrev names : List Name
  names = names_given given

  abbrev on : List Param → List Name
  on = handed_on_names hands own names

  off_where : (x : Name) → is_among names x ≡ true → is_handed hands own names x ≡ false
  off_where x h = ap (λ t. hands && is_some (param_of x own) && not t) h ∙ off (hands && is_some (param_of x own))
    where
      off : (t : Bool) → (t && not true) ≡ false
      off true = refl
      off false = refl

  -- a name that is given isn't handed on
  pub given_not_on : (x : Name) → is_among names x ≡ true → (ps : List Param) → is_among (on ps) x ≡ false
  given_not_on x h ps = among_has x (on ps) ∙ not_handed hands own names x (off_where x h) ps

  -- nor is one of a parameter before these
  apart_not_on : (ps : List Param) (before : List Name) → AreApart ps before → (x : Name) → is_among before x ≡ true
      → is_among (on ps) x ≡ false
  apart_not_on [] before apart x h = refl
  apart_not_on (p ∷ ps) before apart x h =
      by_test (is_handed hands own names p.name)
      (apart_not_on ps (p.name ∷ before) apart.1 x (or_later (bytes_eq x p.name) (is_among before x) h))
    where
      by_test : (t : Bool) → is_among (on ps) x ≡ false → is_among (if t then p.name ∷ on ps else on ps) x ≡ false
      by_test true later =
          or_none (bytes_eq x p.name) (is_among (on ps) x) (other_name x p.name before h apart.0) later
      by_test false later = later

  module _ (checks : List OpCheck) (scope : Scope) (params : List Param) where
    -- of a parameter, how it is handed on
    hands_on : (p : Param) → ParamTakes (given_of p.name given) (hands && is_some (param_of p.name own)) p scope
        → is_handed hands own names p.name ≡ true → HandsOn (param_type p) p.name scope
    hands_on p takes h =
        let parts = and_parts (hands && is_some (param_of p.name own)) (not (is_among names p.name)) h in
        by_given (given_of p.name given) (hands && is_some (param_of p.name own)) (is_among names p.name)
        (given_there p.name given) takes parts.0 parts.1
      where
        by_given : (found : Option Given) (t u : Bool) → u ≡ is_some found → ParamTakes found t p scope → t ≡ true
            → not u ≡ true → HandsOn (param_type p) p.name scope
        by_given None true u e k i j = k
        by_given None false u e k i j = true_false (sym i)
        by_given (Some g) t u e k i j = true_false (sym j ∙ ap not e)

    pub same_sound : (ps : List Param) (before : List Name) → AreApart ps before → AreNamed ps params
        → ParamsTake ps given hands own scope → are_sound_handed checks params (map same_handed (on ps)) scope ≡ true
    same_sound [] before apart named takes = refl
    same_sound (p ∷ ps) before apart named takes =
        by_test (is_handed hands own names p.name) refl
        (same_sound ps (p.name ∷ before) apart.1 (λ q member. named q (inr member)) takes.1)
      where
        first : HandsOn (param_type p) p.name scope
            → fits_param (λ to. is_sound_given checks p.name HandedSame to scope) (param_of p.name params) ≡ true
        first h =
            ap (fits_param (λ to. is_sound_given checks p.name HandedSame to scope)) (named p (inl refl))
            ∙ (ap (takes_variable (param_type p)) h.there ∙ h.takes)

        by_test : (t : Bool) → is_handed hands own names p.name ≡ t
            → are_sound_handed checks params (map same_handed (on ps)) scope ≡ true
            → are_sound_handed checks params (map same_handed (if t then p.name ∷ on ps else on ps)) scope ≡ true
        by_test false e later = later
        by_test true e later =
            both_true _ _ (both_true _ _ (first (hands_on p takes.0 e))
            (ap not (ap (λ ns. is_among ns p.name) (names_same (on ps))
            ∙ apart_not_on ps (p.name ∷ before) apart.1 p.name (itself_among p.name before)))) later

    -- ---- parameters that are required

    takes_one : (p : Param) → AreNamed (p ∷ []) params
        → ParamTakes (given_of p.name given) (hands && is_some (param_of p.name own)) p scope
        → (not p.required || is_among (names ++ on params) p.name) ≡ true
    takes_one p named takes =
        by_given (given_of p.name given) (hands && is_some (param_of p.name own)) refl (given_there p.name given) takes
      where
        there : is_some (param_of p.name params) ≡ true
        there = ap is_some (named p (inl refl))

        handed : (found : Option Given) → hands && is_some (param_of p.name own) ≡ true
            → is_among names p.name ≡ false → is_among (on params) p.name ≡ true
        handed found i j =
            among_has p.name (on params)
            ∙ handed_there hands own names p.name
            (ap (λ t. hands && is_some (param_of p.name own) && not t) j ∙ both_true _ _ i refl) params there

        by_given : (found : Option Given) (t : Bool) → hands && is_some (param_of p.name own) ≡ t
            → is_among names p.name ≡ is_some found → ParamTakes found t p scope
            → (not p.required || is_among (names ++ on params) p.name) ≡ true
        by_given None true i e k =
            or_later (not p.required) (is_among (names ++ on params) p.name)
            (among_right p.name names (on params) (handed None i e))
        by_given None false i e k = ap (λ r. not r || is_among (names ++ on params) p.name) k
        by_given (Some g) t i e k =
            or_later (not p.required) (is_among (names ++ on params) p.name) (among_left p.name names (on params) e)

    pub required_given : (ps : List Param) → AreNamed ps params → ParamsTake ps given hands own scope
        → has_required ps (names ++ on params) ≡ true
    required_given [] named takes = refl
    required_given (p ∷ ps) named takes =
        both_true _ _ (takes_one p (λ q member. elim member [ inl same ↦ named q (inl same) | inr none ↦ absurd none ])
        takes.0) (required_given ps (λ q member. named q (inr member)) takes.1)
