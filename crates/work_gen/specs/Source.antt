-- The source: one file of templates, line by line, each line ended by LF.
--
-- The first template prints the items of the data and calls each of the others, which are numbered from 0. Each of
-- these has one message with a plural.
-- Example: the call of the last of 200 is the line `{call t199}{param n: 199 /}{/call}`.
use Rattle.std.specs.Prelude.{ℕ, zero, suc, List, [], ◌++◌, codes}
use Rattle.std.specs.Fmt.{decimal}

abbrev pub line : List ℕ → List ℕ
line text = text ++ codes "\n"

-- the texts of the numbers from 0 on, as many as the count says
unfoldable pub each_below : ℕ → (ℕ → List ℕ) → List ℕ
each_below zero text_of = []
each_below (suc k) text_of = each_below k text_of ++ text_of k

-- the call of a template by its number
abbrev pub call_line : ℕ → List ℕ
call_line k = line (codes "{call t" ++ (decimal k ++ (codes "}{param n: " ++ (decimal k ++ codes " /}{/call}"))))

-- the template of a number
abbrev pub template_lines : ℕ → List ℕ
template_lines k =
    line (codes "{template t" ++ (decimal k ++ codes "}"))
    ++ (line (codes "{@param n: int}")
    ++ (line (codes "<p>{msg desc=\"" ++ (decimal k ++ (codes "\"}{plural $n}{case 1}one of " ++ (decimal k
    ++ (codes "{default}{$n} of " ++ (decimal k ++ codes "{/plural}{/msg}</p>"))))))
    ++ line (codes "{/template}")))

-- the file with so many templates beside the first
abbrev pub source_text : ℕ → List ℕ
source_text count =
    line (codes "{namespace gen}")
    ++ (line (codes "{template main}")
    ++ (line (codes "{@param items: list<[who: string, text: string, link: string, n: int]>}")
    ++ (line (codes "<ul>{for $i in $items}<li><a href=\"{$i.link}\">{$i.who}</a> {$i.text} "
    ++ codes "<i title=\"{$i.text}\">{$i.n}</i></li>{/for}</ul>")
    ++ (each_below count call_line ++ (line (codes "{/template}") ++ each_below count template_lines)))))
