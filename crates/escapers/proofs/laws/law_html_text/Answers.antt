use Rattle.std.proofs.Common.{refl}
use Rattle.esc_table.specs.HtmlRows.{html_rows}
use Rattle.escapers.specs.IsHtmlText.{html_markup}
use Rattle.escapers.proofs.HtmlTexts.{html_references_begin}
use Rattle.escapers.proofs.LackedByRows.{escaped_lacks}
use Rattle.escapers.proofs.laws.law_html_text.Goals as goal

pub returns : goal.returns
returns c =
    λ text. record {
      no_markup = escaped_lacks html_markup html_rows refl refl text;
      references = html_references_begin text;
    }
