-- The next state in a comment between `/*` and `*/`, of script and style alike.
--
-- A slash directly after an asterisk ends the comment. Any other character stays in it, and an asterisk may
-- begin its end. (ECMAScript, "Comments"; CSS Syntax Level 3, "Consume comments".)
-- Example: in `/***/` the second asterisk may begin the end, the third too, and the
-- last slash ends the comment.
use Rattle.std.specs.Prelude.{ℕ, ◌==◌, if◌then◌else◌}
use Rattle.soy_base.specs.Characters.{asterisk, slash}

-- where no asterisk stands directly before the character
abbrev pub comment_next : {S : Type 0} → S → S → ℕ → S
comment_next within starred c = if c == asterisk then starred else within

-- where one does
abbrev pub comment_star_next : {S : Type 0} → S → S → S → ℕ → S
comment_star_next within starred after c = if c == slash then after else comment_next within starred c
