-- What is handed to a callee, and what a call gives.
use Rattle.std.proofs.Common.{◌≡◌, ℕ, Bool, true, false, List, [], ◌∷◌, ◌++◌, Option, Some, None, map}
use Rattle.std.proofs.Common.{if◌then◌else◌, refl, sym, ap, ◌∙◌, subst, bytes_eq}
use Rattle.std.proofs.lemmas.Slice.Eq.{bytes_eq-Decides}
use Rattle.soy_base.specs.declared.kind.Kind.{Kind}
use Rattle.soy_base.specs.declared.kind.Kind.TheVariants as kind
use Rattle.soy_base.specs.declared.place.Place.{Place}
use Rattle.soy_rules.specs.Templates.{Declared}
use Rattle.soy_tree.specs.Types.{Name}
use Rattle.soy_rules.specs.Val.{Binding, Known, binding}
use Rattle.soy_tree.specs.Values.{NullValue, StringValue}
use Rattle.soy_pieces.specs.Giving.{BoundBlock, RunEnv, StateSoFar, called_means, read_outcome, value_means}
use Rattle.soy_pieces.specs.Meaning.{joined_pieces}
use Rattle.soy_pieces.specs.Outcome.{Outcome, continued_by, gives_nothing, pieces_of_outcome}
use Rattle.soy_pieces.specs.Pieces.{GivenArguments, RunContext, given_binding, param_binding}
use Rattle.soy_pieces.specs.Site.{Site}
use Rattle.soy_pieces.proofs.Outcomes.{first_none}
use Rattle.template_ir.specs.Compiles.{same_handed}
use Rattle.template_ir.specs.Ops.{Program}
use Rattle.template_ir.specs.Run.{OpMeans, all_handed_give, handed_env, opened_gives, value_gives}
use Rattle.template_ir.specs.StandFor.{place_of}
use Rattle.template_ir.proofs.Core.{same_then, value_same}
use Rattle.template_ir.proofs.GatheredTexts.{gathered_both}
use Rattle.template_ir.proofs.Matching.{EnvsMatch, Matches}
use Rattle.template_ir.specs.Placed.{BindsGiven, CalledPlaced, IsFresh, has_name}
use Rattle.template_ir.proofs.Plain.{Same}

-- ---- variables

abbrev pub Found : Option (Binding BoundBlock) → Binding BoundBlock → Type 0
Found None b = b ≡ Known NullValue
Found (Some a) b = Matches a b

-- what is given, and the callee's variables so far
abbrev pub HandsMatch : GivenArguments → RunEnv → Type 0
HandsMatch before inner = (x : Name) → Found (given_binding x before) (binding x inner)

abbrev later : Option (Binding BoundBlock) → Option (Binding BoundBlock) → Option (Binding BoundBlock)
later None e = e
later (Some b) e = Some b

later_if : (t : Bool) (b : Binding BoundBlock) (m e : Option (Binding BoundBlock))
    → (if t then Some b else later m e) ≡ later (if t then Some b else m) e
later_if true b m e = refl
later_if false b m e = refl

given_last : (x name : Name) (a : Binding BoundBlock) (before : GivenArguments)
    → given_binding x (before ++ ((name, a) ∷ []))
    ≡ later (given_binding x before) (if bytes_eq name x then Some a else None)
given_last x name a [] = refl
given_last x name a (g ∷ before) =
    ap (λ m. if bytes_eq g.0 x then Some g.1 else m) (given_last x name a before)
    ∙ later_if (bytes_eq g.0 x) g.1 (given_binding x before) (if bytes_eq name x then Some a else None)

later_none : (g : Option (Binding BoundBlock)) (w : Binding BoundBlock) → Found g w → Found (later g None) w
later_none None w h = h
later_none (Some a) w h = h

pub hands_more : (name : Name) (a b : Binding BoundBlock) (before : GivenArguments) (inner : RunEnv) → Matches a b
    → HandsMatch before inner → IsFresh name before → HandsMatch (before ++ ((name, a) ∷ [])) ((name, b) ∷ inner)
hands_more name a b before inner same h fresh x =
    subst (λ g. Found g (binding x ((name, b) ∷ inner))) (sym (given_last x name a before))
    (by_test (bytes_eq name x) refl)
  where
    by_test : (t : Bool) → bytes_eq name x ≡ t
        → Found (later (given_binding x before) (if t then Some a else None)) (if t then b else binding x inner)
    by_test true e = subst (λ g. Found (later g (Some a)) b) (sym (fresh x e)) same
    by_test false e = later_none (given_binding x before) (binding x inner) (h x)

-- what is handed on under some names
pub same_give : (ms : List OpMeans) (names : List Name) (env : RunEnv)
    → all_handed_give ms (map same_handed names) env ≡ gives_nothing
same_give ms [] env = refl
same_give ms (n ∷ names) env = first_none (all_handed_give ms (map same_handed names) env) ∙ same_give ms names env

on_if : (s t : Bool) (a b d : Binding BoundBlock) → (s ≡ true → b ≡ a)
    → (if t then a else (if s then b else d)) ≡ (if s then a else (if t then a else d))
on_if true true a b d h = refl
on_if true false a b d h = h refl
on_if false true a b d h = refl
on_if false false a b d h = refl

over_if : (s t : Bool) (a d : Binding BoundBlock)
    → (if s then a else (if t then a else d)) ≡ (if (if s then true else t) then a else d)
over_if true t a d = refl
over_if false t a d = refl

pub same_binding : (ms : List OpMeans) (names : List Name) (env inner : RunEnv) (x : Name)
    → binding x (handed_env ms (map same_handed names) env inner)
    ≡ (if has_name x names then binding x env else binding x inner)
same_binding ms [] env inner x = refl
same_binding ms (n ∷ names) env inner x =
    same_binding ms names env ((n, binding n env) ∷ inner) x
    ∙ (on_if (bytes_eq n x) (has_name x names) (binding x env) (binding n env) (binding x inner)
    (λ e. ap (λ y. binding y env) ((bytes_eq-Decides n x).0 e))
    ∙ over_if (bytes_eq n x) (has_name x names) (binding x env) (binding x inner))

-- the variables of a callee match those that are handed over
pub callee_match : (ms : List OpMeans) (same : List Name) (given : GivenArguments) (env other inner callee : RunEnv)
    → EnvsMatch env other → HandsMatch given inner → BindsGiven same given callee env
    → EnvsMatch callee (handed_env ms (map same_handed same) other inner)
callee_match ms same given env other inner callee all hands binds x =
    subst (λ a. Matches a (binding x (handed_env ms (map same_handed same) other inner))) (sym (binds.1 x))
    (subst (λ b. Matches (param_binding (given_binding x given)
    (if has_name x same then binding x env else Known NullValue)) b) (sym (same_binding ms same other inner x))
    (by_test (has_name x same) refl (given_binding x given) refl))
  where
    by_test : (t : Bool) → has_name x same ≡ t → (g : Option (Binding BoundBlock)) → given_binding x given ≡ g
        → Matches (param_binding g (if t then binding x env else Known NullValue))
        (if t then binding x other else binding x inner)
    by_test true e None k = all x
    by_test true e (Some a) k = let no : ⊥ = none_some a (sym (binds.0 x e) ∙ k) in absurd no
      where
        none_some : (a : Binding BoundBlock) → ◌≡◌ {A = Option (Binding BoundBlock)} None (Some a) → ⊥
        none_some a h = cc
    by_test false e None k = subst (λ b. Matches (Known NullValue) b)
        (sym (subst (λ g. Found g (binding x inner)) k (hands x))) refl
    by_test false e (Some a) k = subst (λ g. Found g (binding x inner)) k (hands x)

-- ---- calls

module _ (c : RunContext) (p : Program) (places : List Place) (called : Site → Declared → RunEnv → Outcome)
    (opens : Site → ℕ → RunEnv → Outcome) (Opened : ℕ → RunEnv → Type 0)
    (direction : p.direction ≡ c.direction) where
  pub called_same : (k : Kind) (o other : Outcome) → Same o other → (hole : ℕ) (so_far : StateSoFar)
      (on : StateSoFar → Outcome) (Next : StateSoFar → Type 0) (z : Outcome)
      → CalledPlaced c places called Opened k o hole so_far Next → ((now : StateSoFar) → Next now → Same (on now) z)
      → Same (called_means c.direction k o so_far on)
      (continued_by (opened_gives p.direction (place_of places hole) (Some k) other) z)
  called_same kind.Text o other same hole so_far on Next z placed next =
      gathered_both [] o other same (λ text. value_means c.direction (StringValue text) so_far on)
      (λ text. value_gives p.direction (place_of places hole) (StringValue text)) z
      (λ whole. value_same c p places called opens Opened direction
      (StringValue (joined_pieces (pieces_of_outcome o))) hole so_far on Next z (placed whole) next)
  called_same kind.Html o other same hole so_far on Next z placed next =
      same_then o other (on (read_outcome so_far o)) z same (λ whole. next (read_outcome so_far o) (placed whole))
  called_same kind.Attributes o other same hole so_far on Next z placed next =
      same_then o other (on (read_outcome so_far o)) z same (λ whole. next (read_outcome so_far o) (placed whole))
