use Rattle.std.proofs.Common.{Bool, ℕ, not, rules}
use Rattle.std.proofs.lemmas.Fn.{always_returns_same}
use Rattle.soy_base.proofs.Texts.{all_pass, stops_at}
use Rattle.soy_base.proofs.cuts.split_while.Goals as goal

pub returns-in-Some-clause-prefix : goal.returns-in-Some-clause-prefix
returns-in-Some-clause-prefix g c test answers =
    let other : ℕ → Bool = λ c. not (test c) in
    let found = c.in-Some.ensures.cases.1 other
    (always_returns_same _ _ _ (λ a r f' k. (search (rules, answers), search rules))) in
    (stops_at test c.args.text.now c.utf8.text c.in-Some.end c.in-Some.ensures.cases.0 c.split_at.result.0.now
    c.split_at.result.1.now found.0 found.1 c.in-Some.ensures.cases.3 c.split_at.ensures.front
    c.split_at.ensures.back).0

pub returns-in-Some-clause-rest : goal.returns-in-Some-clause-rest
returns-in-Some-clause-rest g c test answers =
    let other : ℕ → Bool = λ c. not (test c) in
    let found = c.in-Some.ensures.cases.1 other
    (always_returns_same _ _ _ (λ a r f' k. (search (rules, answers), search rules))) in
    (stops_at test c.args.text.now c.utf8.text c.in-Some.end c.in-Some.ensures.cases.0 c.split_at.result.0.now
    c.split_at.result.1.now found.0 found.1 c.in-Some.ensures.cases.3 c.split_at.ensures.front
    c.split_at.ensures.back).1

pub returns-clause-prefix : goal.returns-clause-prefix
returns-clause-prefix g c test answers =
    let other : ℕ → Bool = λ c. not (test c) in
    (all_pass test c.args.text.now c.utf8.text
    (c.in-None.ensures.cases other
    (always_returns_same _ _ _ (λ a r f' k. (search (rules, answers), search rules))))).0

pub returns-clause-rest : goal.returns-clause-rest
returns-clause-rest g c test answers =
    let other : ℕ → Bool = λ c. not (test c) in
    (all_pass test c.args.text.now c.utf8.text
    (c.in-None.ensures.cases other
    (always_returns_same _ _ _ (λ a r f' k. (search (rules, answers), search rules))))).1
