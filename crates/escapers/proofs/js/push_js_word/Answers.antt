use Rattle.std.proofs.Common.{[], ◌∷◌}
use Rattle.std.specs.Str.{chars}
use Rattle.std.specs.String.{string_bytes}
use Rattle.escapers.proofs.Pushed.{three_pushed}
use Rattle.escapers.proofs.js.push_js_word.Goals as goal

pub returns : goal.returns
unfolding chars
returns c =
    let joined = three_pushed (chars (string_bytes c.args.out.now)) (chars (string_bytes c.push_text.new.out))
    (chars (string_bytes c.push_text-2.new.out)) (32 ∷ []) (chars c.args.text.now) (32 ∷ [])
    c.in_ok-push_text.ensures.ok c.in_ok-push_text-2.ensures.ok in
    rw joined at c.push_text-3.ensures.ok
