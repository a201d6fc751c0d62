use Rattle.std.proofs.Common.{Bool, ℕ, not, rules}
use Rattle.std.proofs.lemmas.List.Sorted.{answers_always}
use Rattle.soy_base.proofs.Texts.{all_pass, stops_at}
use Rattle.escapers.specs.UriComponent.{is_unreserved}
use Rattle.escapers.proofs.uri.unreserved_prefix.Goals as goal

pub returns-in-Some-clause-prefix : goal.returns-in-Some-clause-prefix
returns-in-Some-clause-prefix c =
    let test : ℕ → Bool = λ c. not (is_unreserved c) in
    let found = c.in-Some.ensures.cases.1 test (answers_always _ _ _ (λ f a r f' k. search rules)) in
    (stops_at is_unreserved c.args.text.now c.utf8.text c.in-Some.end c.in-Some.ensures.cases.0
    c.split_at.result.0.now c.split_at.result.1.now found.0 found.1 c.in-Some.ensures.cases.3
    c.split_at.ensures.front c.split_at.ensures.back).0

pub returns-in-None-clause-prefix : goal.returns-in-None-clause-prefix
returns-in-None-clause-prefix c =
    let test : ℕ → Bool = λ c. not (is_unreserved c) in
    (all_pass is_unreserved c.args.text.now c.utf8.text
    (c.in-None.ensures.cases test (answers_always _ _ _ (λ f a r f' k. search rules)))).0
