-- The kind of an attribute, by its name.
--
-- A URI attribute's value is a URI. An event attribute, whose name begins with `on`, and five others take no printed
-- value. A style attribute's value is a style. All others are plain. (WHATWG HTML, "Attributes".)
-- Example: `href` is a URI attribute, `onclick` an event attribute, and `hrefs` a plain one.
use Rattle.std.specs.Prelude.{ℕ, List, [], ◌∷◌, if◌then◌else◌, codes}
use Rattle.html_state.specs.declared.row.Attribute.{Attribute}
use Rattle.html_state.specs.declared.row.Attribute.TheVariants as attribute
use Rattle.html_state.specs.declared.row.UriName.TheVariants as uri
use Rattle.std.specs.Str.{bytes_eq}
use Rattle.soy_base.specs.Among.{is_among}
use Rattle.html_state.specs.Texts.{is_prefix}

-- the URI attributes beside `src`, `data` and `href`
abbrev pub uri_names : List (List ℕ)
uri_names =
    codes "action" ∷ codes "formaction" ∷ codes "cite" ∷ codes "poster" ∷ codes "background" ∷ codes "longdesc" ∷
    codes "manifest" ∷ codes "codebase" ∷ codes "xlink:href" ∷ []

abbrev pub no_print_names : List (List ℕ)
no_print_names = codes "dir" ∷ codes "srcset" ∷ codes "srcdoc" ∷ codes "imagesrcset" ∷ codes "ping" ∷ []

abbrev pub attribute_named : List ℕ → Attribute
attribute_named name =
    if bytes_eq name (codes "src") then attribute.Uri uri.Src
    else (if bytes_eq name (codes "data") then attribute.Uri uri.Data
    else (if bytes_eq name (codes "href") then attribute.Uri uri.Href
    else (if is_among uri_names name then attribute.Uri uri.Other
    else (if is_prefix (codes "on") name then attribute.Event
    else (if is_among no_print_names name then attribute.NoPrint
    else (if bytes_eq name (codes "style") then attribute.Style
    else attribute.Plain))))))
