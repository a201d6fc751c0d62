-- A call that hands nothing on is asked for required parameters alone.
use Rattle.std.proofs.Common.{◌≡◌, Bool, true, false, List, [], ◌∷◌, refl, ap, ◌∙◌}
use Rattle.std.specs.Prelude.{Ok, Err, if◌then◌else◌}
use Rattle.soy_base.specs.declared.code.Code.TheVariants as code
use Rattle.soy_base.specs.declared.fault.Span.{Span}
use Rattle.soy_tree.specs.Types.{Name}
use Rattle.soy_tree.specs.Trees.{Param}
use Rattle.soy_rules.specs.TypeOf.{Scope}
use Rattle.soy_rules.specs.Faults.{fails, followed_by}
use Rattle.soy_base.specs.Among.{is_among}
use Rattle.soy_rules.specs.Bodies.{Around, Checked, param_demand, param_demands}
use Rattle.soy_tree.specs.ViewTrees.{view_param, view_params}
use Rattle.soy_tree.specs.declared.tree.Param as code_param
use Rattle.soy_check.specs.Named.{required_in}

none_asked : (among required : Bool) (span : Span) (p : Param) (scope : Scope) → required ≡ false
    → (if among then Ok scope else (if required then fails code.Argument span.start p.name [] else Ok scope))
    ≡ Ok scope
none_asked true required span p scope e = refl
none_asked false true span p scope e = cc
none_asked false false span p scope e = refl

same_next : (r : Checked) (f g : Scope → Checked) → ((s : Scope) → f s ≡ g s) → followed_by r f ≡ followed_by r g
same_next (Ok s) f g same = same s
same_next (Err e) f g same = refl

abbrev demands : Around → List Name → Span → List code_param.Param → Scope → Checked
demands c given span ps scope = param_demands c false given span (view_params ps) scope

one_more : (c : Around) (given : List Name) (span : Span) (p : code_param.Param) (ps : List code_param.Param)
    (scope : Scope) (b : Bool) → p.required ≡ b
    → ((s : Scope) → demands c given span ps s ≡ demands c given span (required_in ps) s)
    → demands c given span (p ∷ ps) scope
    ≡ demands c given span (if b then p ∷ required_in ps else required_in ps) scope
one_more c given span p ps scope true e rest =
    same_next (param_demand c false given span (view_param p) scope) (demands c given span ps)
    (demands c given span (required_in ps)) rest
one_more c given span p ps scope false e rest =
    ap (λ (r : Checked). followed_by r (demands c given span ps))
    (none_asked (is_among given p.name) p.required span (view_param p) scope e)
    ∙ rest scope

pub required_alone : (c : Around) (given : List Name) (span : Span) (ps : List code_param.Param) (scope : Scope)
    → demands c given span ps scope ≡ demands c given span (required_in ps) scope
required_alone c given span [] scope = refl
required_alone c given span (p ∷ ps) scope =
    one_more c given span p ps scope p.required refl (λ s. required_alone c given span ps s)
