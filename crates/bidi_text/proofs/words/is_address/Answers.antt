use Rattle.std.proofs.Common.{◌≡◌, nat_eq, codes, ◌∙◌, rules, arith}
use Rattle.std.specs.List.{starts_with}
use Rattle.std.specs.Str.{IsAscii, chars}
use Rattle.std.proofs.lemmas.Str.Ascii.{IsAscii-from_all}
use Rattle.std.proofs.lemmas.Str.Pattern.{starts_text}
use Rattle.bidi_text.specs.Estimate.{is_address}
use Rattle.bidi_text.proofs.Starts.{starts_with-chars}
use Rattle.bidi_text.proofs.words.is_address.Goals as goal

http_is_ascii : IsAscii (codes "http://")
http_is_ascii = IsAscii-from_all (codes "http://") (search rules)

https_is_ascii : IsAscii (codes "https://")
https_is_ascii = IsAscii-from_all (codes "https://") (search rules)

pub returns-then-starts_with : goal.returns-then-starts_with
unfolding is_address
returns-then-starts_with c =
    let first : c.starts_with.result ≡ starts_with nat_eq (chars c.args.word.now) (codes "http://") =
    starts_text c.starts_with.result (codes "http://") c.args.word.now c.starts_with.ensures.cases
    ∙ starts_with-chars c.args.word.now (codes "http://") c.utf8.word http_is_ascii in
    grind (arith, first, c.if-starts_with.true)

pub returns-else-starts_with : goal.returns-else-starts_with
unfolding is_address
returns-else-starts_with c =
    let first : c.starts_with.result ≡ starts_with nat_eq (chars c.args.word.now) (codes "http://") =
    starts_text c.starts_with.result (codes "http://") c.args.word.now c.starts_with.ensures.cases
    ∙ starts_with-chars c.args.word.now (codes "http://") c.utf8.word http_is_ascii in
    let second : c.starts_with-else-starts_with.result ≡ starts_with nat_eq (chars c.args.word.now) (codes "https://") =
    starts_text c.starts_with-else-starts_with.result (codes "https://") c.args.word.now
    c.starts_with-else-starts_with.ensures.cases
    ∙ starts_with-chars c.args.word.now (codes "https://") c.utf8.word https_is_ascii in
    grind (arith, first, second, c.if-starts_with.false)
