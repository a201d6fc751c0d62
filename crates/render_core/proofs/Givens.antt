-- What is given of a form at once.
use Rattle.std.proofs.Common.{◌≡◌, ℕ, ◌≤◌, List, [], Option, Some, None, length, take, drop, sym, ap, ◌∙◌, arith, subst}
use Rattle.std.proofs.Common.{◌++◌, min}
use Rattle.std.specs.Prelude.{encode_utf8_all}
use Rattle.std.specs.Option.{option_map}
use Rattle.std.specs.Str.{chars}
use Rattle.std.proofs.lemmas.List.{nil_from_length}
use Rattle.soy_base.specs.declared.direction.Dir.{Dir}
use Rattle.soy_base.specs.declared.place.Place.{Place}
use Rattle.soy_base.specs.declared.place.ValueClass.{ValueClass}
use Rattle.soy_tree.specs.Values as values
use Rattle.escapers.specs.declared.escaper.Escaper.{Escaper}
use Rattle.template_ir.specs.declared.program.ProgramParts.{ProgramParts}
use Rattle.value_cursor.specs.BytesLeft.{bytes_left}
use Rattle.value_cursor.specs.EscapedForm.{escaped_form}
use Rattle.value_cursor.specs.declared.cursor.Cursor.{Cursor}
use Rattle.render_core.specs.Forms.{EscapesAt, form_at}
use Rattle.render_core.specs.Pulls.{Gave}
use Rattle.render_core.specs.Stepping.{Given, output}
use Rattle.render_core.specs.declared.begun.Begun.{Begun}
use Rattle.render_core.specs.declared.held.Bound.{Bound}
use Rattle.render_core.proofs.Forms.{form_bytes}

-- what is given of bytes that leave none
gave_all : (bytes left room room_after : List ℕ) (n : ℕ) → n ≡ min (length bytes) (length room)
    → room_after ≡ take n bytes ++ drop n room → left ≡ drop n bytes → length left ≡ 0 → Gave bytes [] room room_after n
gave_all bytes left room room_after n size given rest none = record {
  size = omega (arith, size);
  given = given;
  begun = sym (nil_from_length left none) ∙ rest;
}

-- all of the form of a text
pub form_whole : (p : ProgramParts) (input : values.Value) (bound : List Bound) (place : Place) (class : ValueClass)
    (how : Escaper) (dir : Dir) (text bytes : List ℕ) (old new : Cursor) (room room_after : List ℕ) (n left : ℕ)
    (out : Option Begun) → EscapesAt place class (Some how) → chars bytes ≡ text → out ≡ None
    → option_map encode_utf8_all (escaped_form how class (chars bytes) dir) ≡ Some (bytes_left old bytes)
    → n ≡ min (length (bytes_left old bytes)) (length room)
    → room_after ≡ take n (bytes_left old bytes) ++ drop n room
    → bytes_left new bytes ≡ drop n (bytes_left old bytes) → left ≡ length (bytes_left new bytes) → left ≤ 0
    → Given p input bound (encode_utf8_all (form_at place class text dir)) (output room room_after out) n
form_whole p input bound place class how dir text bytes old new room room_after n left out escapes same none whole size
    given rest all end =
    let form : bytes_left old bytes ≡ encode_utf8_all (form_at place class text dir) =
    form_bytes place class how (chars bytes) dir (bytes_left old bytes) escapes.0 whole
    ∙ ap (λ t. encode_utf8_all (form_at place class t dir)) same in
    let ended : length (bytes_left new bytes) ≡ 0 = omega (arith, all, end) in
    subst (λ (b : Option Begun). Given p input bound (encode_utf8_all (form_at place class text dir))
    (output room room_after b) n) (sym none) (
      subst (λ bs. Gave bs [] room room_after n) form
          (gave_all (bytes_left old bytes) (bytes_left new bytes) room room_after n size given rest ended),
      tt,
    )
