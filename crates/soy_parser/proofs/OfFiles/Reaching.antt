-- What a step in place leads to, where a test says whether it was taken.
use Rattle.std.proofs.Common.{◌≡◌, Bool, true, false, Option, Some, None, refl, ap, sym, ◌∙◌}
use Rattle.std.specs.Prelude.{IfOk, Result, Ok, Err, if◌then◌else◌}
use Rattle.soy_base.specs.declared.fault.Span.{Span}
use Rattle.soy_base.specs.declared.memory.OutOfMemory.{OutOfMemory}
use Rattle.soy_parser.specs.declared.attributes.Attributes.{Attributes}
use Rattle.soy_parser.specs.declared.block.CommandState.{CommandState}
use Rattle.soy_parser.specs.declared.head.Head.{Head}
use Rattle.soy_parser.specs.declared.spot.CommandSpot.TheVariants as where_
use Rattle.soy_parser.specs.declared.spot.Spot.TheVariants as spot
use Rattle.soy_parser.specs.FileSteps.{with_value}
use Rattle.soy_parser.specs.Reached.{reached}

pub reached_if : {A : Type 0} (holds : Bool) (to : A) → reached holds to ≡ (if holds then Some to else None)
reached_if true to = refl
reached_if false to = refl

-- the value of an attribute has come
pub value_reached : (s : CommandState) (from : Span) (h : Head) (a : Attributes) (w : Option Attributes)
    (r : Result Bool OutOfMemory) → IfOk r (λ on. reached on a ≡ w) →
    IfOk r (λ on. reached on (record { commands = s; spot = where_.Inside from (spot.Attributes h a) }) ≡
    with_value s from h w)
value_reached s from h a w (Ok true) e = ap (with_value s from h) e
value_reached s from h a w (Ok false) e = ap (with_value s from h) e
value_reached s from h a w (Err x) e = tt

-- a step that was taken, and one that wasn't, where they are named otherwise
pub is_reached : {A : Type 0} (on : Bool) (to : A) (x : Option A) → reached on to ≡ x → on ≡ true → x ≡ Some to
is_reached on to x same holds = sym same ∙ ap (λ b. reached b to) holds

pub not_reached : {A : Type 0} (on : Bool) (to : A) (x : Option A) → reached on to ≡ x → on ≡ false → x ≡ None
not_reached on to x same fails = sym same ∙ ap (λ b. reached b to) fails
