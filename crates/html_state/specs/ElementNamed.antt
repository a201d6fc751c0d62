-- The elements whose text isn't data, by their names.
--
-- `title` and `textarea` have RCDATA, `style`, `xmp`, `iframe`, `noembed`, `noframes` and `noscript` RAWTEXT, and
-- `script` script data. `svg`, `math` and `plaintext` are refused. A script and a style begin in Code.
-- (WHATWG HTML, 13.2.6.4.4 "in head" and 13.2.6.4.7 "in body", with scripting.)
-- Example: after `<title>` the state is within Title, and after `<p>` it is data.
use Rattle.std.specs.Prelude.{ℕ, List, [], ◌∷◌, Option, Some, None, if◌then◌else◌, codes}
use Rattle.script_state.specs.declared.js_state.JsState.TheVariants as js
use Rattle.script_state.specs.declared.css_state.CssState.TheVariants as css
use Rattle.html_state.specs.declared.row.Element.{Element}
use Rattle.html_state.specs.declared.row.Element.TheVariants as element
use Rattle.std.specs.Str.{bytes_eq}

abbrev pub refused_names : List (List ℕ)
refused_names = codes "svg" ∷ codes "math" ∷ codes "plaintext" ∷ []

abbrev pub element_named : List ℕ → Option Element
element_named name =
    if bytes_eq name (codes "title") then Some element.Title
    else (if bytes_eq name (codes "textarea") then Some element.Textarea
    else (if bytes_eq name (codes "style") then Some (element.Style css.Code)
    else (if bytes_eq name (codes "xmp") then Some element.Xmp
    else (if bytes_eq name (codes "iframe") then Some element.Iframe
    else (if bytes_eq name (codes "noembed") then Some element.Noembed
    else (if bytes_eq name (codes "noframes") then Some element.Noframes
    else (if bytes_eq name (codes "noscript") then Some element.Noscript
    else (if bytes_eq name (codes "script") then Some (element.Script js.Code)
    else None))))))))

abbrev pub element_name : Element → List ℕ
element_name element.Title = codes "title"
element_name element.Textarea = codes "textarea"
element_name (element.Style _) = codes "style"
element_name element.Xmp = codes "xmp"
element_name element.Iframe = codes "iframe"
element_name element.Noembed = codes "noembed"
element_name element.Noframes = codes "noframes"
element_name element.Noscript = codes "noscript"
element_name (element.Script _) = codes "script"
