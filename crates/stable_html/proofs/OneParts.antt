-- The parts of a URI: where no value has stood, each character leads on, and none of them is a fault.
use Rattle.std.proofs.Common.{Bool, List, [], eqb, false, refl, true, ℕ, ◌&&◌, ◌≡◌}
use Rattle.std.specs.Char.{is_ascii_alphabetic, to_ascii_lowercase}
use Rattle.std.specs.Prelude.{Ok, if◌then◌else◌}
use Rattle.soy_base.specs.Among.{is_among}
use Rattle.soy_base.specs.Characters.{colon, number_sign, question_mark, slash}
use Rattle.html_state.specs.Kept.{prefix_with}
use Rattle.html_state.specs.PartNext.{part_by_character, part_next, past_scheme, scheme_next, schemes}
use Rattle.html_state.specs.Texts.{is_prefix_among}
use Rattle.html_state.specs.declared.row.UriPart.{UriPart}
use Rattle.html_state.specs.declared.row.UriPart.TheVariants as part
use Rattle.stable_html.proofs.AsOne.{IsReadable}

-- ---- parts of URIs

-- either way a part in which no value has stood
part_if : (test : Bool) (one other : UriPart) → IsReadable one → IsReadable other
    → IsReadable (if test then one else other)
part_if true one other is is_other = is
part_if false one other is is_other = is_other

-- whatever character comes, if each part that it may lead to is one
by_character : (a b c d e : UriPart) (x : ℕ) → IsReadable a → IsReadable b → IsReadable c → IsReadable d → IsReadable e
    → IsReadable (part_by_character a b c d e x)
by_character a b c d e x is_a is_b is_c is_d is_e =
    part_if (eqb x colon) a
    (if eqb x slash then b else (if eqb x question_mark then c else (if eqb x number_sign then d else e))) is_a
    (part_if (eqb x slash) b (if eqb x question_mark then c else (if eqb x number_sign then d else e)) is_b
    (part_if (eqb x question_mark) c (if eqb x number_sign then d else e) is_c
    (part_if (eqb x number_sign) d e is_d is_e)))

-- what follows characters of a scheme
scheme_readable : (prefix : List ℕ) (c : ℕ) → IsReadable (scheme_next prefix c)
scheme_readable prefix c =
    part_if (is_ascii_alphabetic c && is_prefix_among schemes (prefix_with prefix (to_ascii_lowercase c)))
    (part.Scheme (prefix_with prefix (to_ascii_lowercase c))) part.NoScheme tt tt

-- what follows the `:` behind them
past_readable : (prefix : List ℕ) → IsReadable (past_scheme prefix)
past_readable prefix = part_if (is_among schemes prefix) part.Path part.BadScheme tt tt

-- a character leads such a part to another one
pub readable_next : (p : UriPart) → IsReadable p → (c : ℕ) → (q : UriPart) × IsReadable q × (part_next p c ≡ Ok q)
readable_next part.Start is c = (
  part_by_character part.BadScheme part.Path part.Query part.Fragment (scheme_next [] c) c,
  by_character part.BadScheme part.Path part.Query part.Fragment (scheme_next [] c) c tt tt tt tt
      (scheme_readable [] c),
  refl,
)
readable_next (part.Scheme prefix) is c = (
  part_by_character (past_scheme prefix) part.Path part.Query part.Fragment (scheme_next prefix c) c,
  by_character (past_scheme prefix) part.Path part.Query part.Fragment (scheme_next prefix c) c (past_readable prefix)
      tt tt tt (scheme_readable prefix c),
  refl,
)
readable_next part.NoScheme is c = (
  part_by_character part.BadScheme part.Path part.Query part.Fragment part.NoScheme c,
  by_character part.BadScheme part.Path part.Query part.Fragment part.NoScheme c tt tt tt tt tt,
  refl,
)
readable_next part.AfterStart never c = absurd never
readable_next part.Path is c = (
  part_by_character part.Path part.Path part.Query part.Fragment part.Path c,
  by_character part.Path part.Path part.Query part.Fragment part.Path c tt tt tt tt tt,
  refl,
)
readable_next part.Query is c = (
  part_by_character part.Query part.Query part.Query part.Fragment part.Query c,
  by_character part.Query part.Query part.Query part.Fragment part.Query c tt tt tt tt tt,
  refl,
)
readable_next part.Fragment is c = (part.Fragment, tt, refl)
readable_next part.BadScheme is c = (part.BadScheme, tt, refl)
