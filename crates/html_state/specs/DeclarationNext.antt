-- Comments and declarations: the row after a character, or none where it ends them.
--
-- What follows `<!` is a comment, a DOCTYPE or a bogus comment. (WHATWG HTML, 13.2.5.41 to 13.2.5.68, where a DOCTYPE
-- is one row. A CDATA section is a bogus comment.)
-- Example: `<!-->` is a whole comment, and so is `<!--a--!>`.
use Rattle.std.specs.Prelude.{ℕ, Option, Some, None, ◌==◌, if◌then◌else◌}
use Rattle.soy_base.specs.Characters.{exclamation_mark, greater_than, minus_sign}
use Rattle.html_state.specs.declared.row.DeclarationRow.{DeclarationRow}
use Rattle.html_state.specs.declared.row.DeclarationRow.TheVariants.{BogusComment, Doctype, CommentStart, StartDash}
use Rattle.html_state.specs.declared.row.DeclarationRow.TheVariants.{Comment, EndDash, CommentEnd, EndBang}

abbrev pub declaration_next : DeclarationRow → ℕ → Option DeclarationRow
declaration_next BogusComment c = if c == greater_than then None else Some BogusComment
declaration_next Doctype c = if c == greater_than then None else Some Doctype
declaration_next CommentStart c =
    if c == minus_sign then Some StartDash
    else (if c == greater_than then None
    else Some Comment)
declaration_next StartDash c =
    if c == minus_sign then Some CommentEnd
    else (if c == greater_than then None
    else Some Comment)
declaration_next Comment c = if c == minus_sign then Some EndDash else Some Comment
declaration_next EndDash c = if c == minus_sign then Some CommentEnd else Some Comment
declaration_next CommentEnd c =
    if c == greater_than then None
    else (if c == exclamation_mark then Some EndBang
    else (if c == minus_sign then Some CommentEnd
    else Some Comment))
declaration_next EndBang c =
    if c == minus_sign then Some EndDash
    else (if c == greater_than then None
    else Some Comment)
