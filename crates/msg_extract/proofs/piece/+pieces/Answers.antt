use Rattle.std.proofs.lemmas.Result.{on_ok_weaker}
use Rattle.msg_extract.proofs.Texts.PluralPieces.{plural_steps, select_steps}
use Rattle.msg_extract.proofs.piece.+pieces.Goals as goal

pub push_body-returns-in_ok-push_body-in-Plural : goal.push_body-returns-in_ok-push_body-in-Plural
push_body-returns-in_ok-push_body-in-Plural t c =
    on_ok_weaker c.push_word-in-Plural.result
    (plural_steps c.args.in_plural c.args.body.now c.in-Plural.selector c.in-Plural.offset c.in-Plural.cases
    c.items-in-Plural.result.now c.in-Plural.other c.get.result.now _ _ _ _ _ _ _ c.in-Plural.is
    c.items-in-Plural.ensures c.get.ensures c.in_ok-push_selector-in-Plural.ensures
    c.in_ok-push_offset-in-Plural.ensures c.in_ok-push_plural_cases-in-Plural.ensures
    c.in_ok-push_word-in-Plural.ensures c.in_ok-push_body-in-Plural.ensures) c.push_word-in-Plural.ensures

pub push_body-returns-in_ok-push_body-in-Select : goal.push_body-returns-in_ok-push_body-in-Select
push_body-returns-in_ok-push_body-in-Select t c =
    on_ok_weaker c.push_word-in-Select-3.result
    (select_steps c.args.in_plural c.args.body.now c.in-Select.selector c.in-Select.cases c.items-in-Select.result.now
    c.in-Select.other c.get-in-Select.result.now _ _ _ _ _ _ _ c.in-Select.is c.items-in-Select.ensures
    c.get-in-Select.ensures c.in_ok-push_selector-in-Select.ensures c.in_ok-push_word-in-Select.ensures
    c.in_ok-push_select_cases-in-Select.ensures c.in_ok-push_word-in-Select-2.ensures
    c.in_ok-push_body-in-Select.ensures) c.push_word-in-Select-3.ensures
