use Rattle.std.proofs.Common.{refl}
use Rattle.escapers.specs.IsJsStringText.{js_string_ends}
use Rattle.escapers.specs.JsRows.{js_rows}
use Rattle.escapers.proofs.LackedByRows.{escaped_lacks}
use Rattle.escapers.proofs.StringStates.{js_double_stays, js_single_stays}
use Rattle.escapers.proofs.laws.law_js_string_text.Goals as goal

pub returns : goal.returns
returns c =
    λ text. record {
      single = js_single_stays text;
      double = js_double_stays text;
      no_end = escaped_lacks js_string_ends js_rows refl refl text;
    }
