-- The rows of HTML: `&`, `<`, `>`, `"` and `'` become character references, so that none of them
-- begins or ends anything; so does a CR, which is read as a line feed; and U+0000, which is dropped
-- or replaced by the place where it stands, becomes U+FFFD itself (WHATWG HTML, "Character
-- references", "Preprocessing the input stream", "Tokenization").
--
-- The text `<i>` becomes `&lt;i&gt;`.
use Rattle.std.specs.Prelude.{ℕ, List, [], ◌∷◌, codes}

abbrev pub html_rows : List (ℕ × List ℕ)
html_rows =
    (0, 0xFFFD ∷ []) ∷
    (13, codes "&#13;") ∷
    (34, codes "&quot;") ∷
    (38, codes "&amp;") ∷
    (39, codes "&#39;") ∷
    (60, codes "&lt;") ∷
    (62, codes "&gt;") ∷ []
