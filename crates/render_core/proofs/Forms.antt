-- The escaped form of a value, from what a cursor has left.
use Rattle.std.proofs.Common.{◌≡◌, ℕ, List, [], Option, Some, None, refl, sym, ap, ◌∙◌}
use Rattle.std.specs.Prelude.{encode_utf8_all, unwrap_or}
use Rattle.std.specs.Option.{option_map}
use Rattle.soy_base.specs.declared.direction.Dir.{Dir}
use Rattle.soy_base.specs.declared.place.Place.{Place}
use Rattle.soy_base.specs.declared.place.ValueClass.{ValueClass}
use Rattle.escapers.specs.EscaperFor.{escaper_of}
use Rattle.escapers.specs.declared.escaper.Escaper.{Escaper}
use Rattle.escapers.specs.declared.escaper.Escaper.TheVariants as escaper
use Rattle.soy_pieces.specs.EscapedAt.{escaped_at, escaped_by}
use Rattle.value_cursor.specs.EscapedForm.{escaped_form}
use Rattle.render_core.specs.Forms.{form_at}

same_form : (how : Escaper) (kind : ValueClass) (text : List ℕ) (context : Dir)
    → escaped_by (Some how) kind text context ≡ escaped_form how kind text context
same_form escaper.Wrap kind text context = refl
same_form _ kind text context = refl

some_bytes : (x : Option (List ℕ)) (bytes : List ℕ) → option_map encode_utf8_all x ≡ Some bytes
    → bytes ≡ encode_utf8_all (unwrap_or x [])
some_bytes None bytes e = cc
some_bytes (Some text) bytes e = cc

pub form_bytes : (point : Place) (kind : ValueClass) (how : Escaper) (text : List ℕ) (context : Dir) (bytes : List ℕ)
    → escaper_of point kind ≡ Some how → option_map encode_utf8_all (escaped_form how kind text context) ≡ Some bytes
    → bytes ≡ encode_utf8_all (form_at point kind text context)
form_bytes point kind how text context bytes is whole =
    some_bytes (escaped_form how kind text context) bytes whole
    ∙ ap (λ (x : Option (List ℕ)). encode_utf8_all (unwrap_or x []))
    (sym (ap (λ h. escaped_by h kind text context) is ∙ same_form how kind text context))

pub form_none : (point : Place) (kind : ValueClass) (text : List ℕ) (context : Dir)
    → escaped_at point kind text context ≡ None → form_at point kind text context ≡ []
form_none point kind text context e = ap (λ (x : Option (List ℕ)). unwrap_or x []) e
