-- The classes of ASCII characters, by the table.
use Rattle.std.proofs.Common.{◌≡◌, ℕ, ◌<◌, true, refl, slice_index_or}
use Rattle.std.proofs.lemmas.Bool.{agree_below_at}
use denote.Enum.Bare.{sameb, same_true}
use Rattle.unicode.specs.Rows.{value_in}
use Rattle.ucd_category.specs.GeneralCategory.{general_category}
use Rattle.ucd_category.specs.GeneralCategoryRows.{general_category_rows}
use Rattle.bidi_class.specs.declared.class.Class.TheVariants.{L}
use Rattle.bidi_class.specs.declared.ascii.TheConstants.{ASCII}
use Rattle.bidi_class.specs.contracts.class.Class.{the_type}
use Rattle.bidi_class.specs.Class.{bidi_class}

-- the entries are the classes by the rows, character by character
pub ascii : (c : ℕ) → c < 128 → slice_index_or ASCII c L ≡ bidi_class c
unfolding bidi_class general_category general_category_rows value_in
ascii c h =
    same_true the_type tt (slice_index_or ASCII c L) (bidi_class c)
    (agree_below_at (λ n. sameb the_type (slice_index_or ASCII n L) (bidi_class n)) (λ n. true) 128 c refl h)
