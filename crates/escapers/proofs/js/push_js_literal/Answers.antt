use Rattle.std.proofs.Common.{[], ◌∷◌}
use Rattle.std.specs.Str.{chars}
use Rattle.std.specs.String.{string_bytes}
use Rattle.esc_table.specs.EscapedText.{escaped_text}
use Rattle.escapers.specs.JsRows.{js_rows}
use Rattle.escapers.proofs.Pushed.{three_pushed}
use Rattle.escapers.proofs.js.push_js_literal.Goals as goal

pub returns : goal.returns
unfolding chars
returns c =
    let joined = three_pushed (chars (string_bytes c.args.out.now)) (chars (string_bytes c.push_text.new.out))
    (chars (string_bytes c.push_js_string.new.out)) (39 ∷ []) (escaped_text js_rows (chars c.args.text.now))
    (39 ∷ []) c.in_ok-push_text.ensures.ok c.in_ok-push_js_string.ensures in
    rw joined at c.push_text-2.ensures.ok
