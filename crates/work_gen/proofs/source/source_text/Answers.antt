use Rattle.std.proofs.Common.{◌++◌, codes, refl}
use Rattle.work_gen.specs.Source.{call_line, each_below, line, template_lines}
use Rattle.work_gen.proofs.Encoded.{appends_bytes, appends_first, appends_twice, literal}
use Rattle.work_gen.proofs.source.source_text.Goals as goal

pub returns : goal.returns
returns c =
    let empty = c.new-source.result in
    let begun = c.push_text.new.out in
    let called = c.push_calls.new.out in
    let ended = c.push_text-2.new.out in
    let whole = c.push_templates.new.out in
    let head = line (codes "{namespace gen}")
    ++ (line (codes "{template main}")
    ++ (line (codes "{@param items: list<[who: string, text: string, link: string, n: int]>}")
    ++ line (codes "<ul>{for $i in $items}<li><a href=\"{$i.link}\">{$i.who}</a> {$i.text} "
    ++ codes "<i title=\"{$i.text}\">{$i.n}</i></li>{/for}</ul>"))) in
    let calls = each_below c.args.count call_line in
    let end = line (codes "{/template}") in
    let templates = each_below c.args.count template_lines in
    appends_first empty whole (head ++ (calls ++ (end ++ templates))) c.new-source.ensures.bytes
    (appends_twice empty begun whole head (calls ++ (end ++ templates))
    (appends_bytes empty begun (literal head refl) c.in_ok-push_text.ensures.bytes)
    (appends_twice begun called whole calls (end ++ templates) c.in_ok-push_calls.ensures
    (appends_twice called ended whole end templates
    (appends_bytes called ended (literal end refl) c.in_ok-push_text-2.ensures.bytes) c.in_ok-push_templates.ensures)))
