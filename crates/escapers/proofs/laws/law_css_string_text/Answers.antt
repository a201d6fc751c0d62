use Rattle.std.proofs.Common.{refl}
use Rattle.escapers.specs.CssRows.{css_rows}
use Rattle.escapers.specs.IsCssStringText.{css_string_ends}
use Rattle.escapers.proofs.LackedByRows.{escaped_lacks}
use Rattle.escapers.proofs.StringStates.{css_double_stays, css_single_stays}
use Rattle.escapers.proofs.laws.law_css_string_text.Goals as goal

pub returns : goal.returns
returns c =
    λ text. record {
      single = css_single_stays text;
      double = css_double_stays text;
      no_end = escaped_lacks css_string_ends css_rows refl refl text;
    }
