-- Cases, one for each value, and what a test of an empty list is.
use Rattle.std.proofs.Common.{◌≡◌, ℕ, ◌&&◌, ◌==◌, Bool, true, false, List, [], ◌∷◌, ◌++◌, length, arith, refl, ap, sym}
use Rattle.std.proofs.lemmas.Bool.Decides.{nat_tests}
use Rattle.std.specs.Prelude.{ℤ, not, codes, Option, Some, None, if◌then◌else◌}
use Rattle.std.specs.List.{list_all}
use Rattle.std.specs.Str.{bytes_eq}
use Rattle.soy_base.specs.Cuts.{is_nil}
use Rattle.soy_base.specs.declared.fault.Span.{Span}
use Rattle.soy_tree.specs.Formed.{is_case_word, is_word_character}
use Rattle.soy_tree.specs.declared.node.MessageBody.{MessageBody}
use Rattle.soy_tree.specs.declared.node.Node.{Node}
use Rattle.soy_tree.specs.declared.node.PluralCase.{PluralCase}
use Rattle.soy_tree.specs.declared.node.SelectCase.{SelectCase}
use Rattle.soy_parser.specs.CommandSteps.{is_empty_of}
use Rattle.soy_parser.specs.Nodes.{plural_cases, select_cases, text_start}

-- the case of the last value comes last

plural_cases_of_last : (others : List ℤ) (last : ℤ) (body : MessageBody)
    → plural_cases others body ++ (record { is = last; body = body } ∷ []) ≡ plural_cases (others ++ last ∷ []) body
plural_cases_of_last [] last body = refl
plural_cases_of_last (n ∷ others) last body =
    ap (λ cs. record { is = n; body = body } ∷ cs) (plural_cases_of_last others last body)

pub plural_cases_last : (cases : List PluralCase) (others : List ℤ) (last : ℤ) (body : MessageBody)
    → (cases ++ plural_cases others body) ++ (record { is = last; body = body } ∷ []) ≡
    cases ++ plural_cases (others ++ last ∷ []) body
plural_cases_last [] others last body = plural_cases_of_last others last body
plural_cases_last (c ∷ cases) others last body = ap (λ cs. c ∷ cs) (plural_cases_last cases others last body)

select_cases_of_last : (others : List (List ℕ)) (last : List ℕ) (body : MessageBody)
    → select_cases others body ++ (record { is = last; body = body } ∷ []) ≡ select_cases (others ++ last ∷ []) body
select_cases_of_last [] last body = refl
select_cases_of_last (word ∷ others) last body =
    ap (λ cs. record { is = word; body = body } ∷ cs) (select_cases_of_last others last body)

pub select_cases_last : (cases : List SelectCase) (others : List (List ℕ)) (last : List ℕ) (body : MessageBody)
    → (cases ++ select_cases others body) ++ (record { is = last; body = body } ∷ []) ≡
    cases ++ select_cases (others ++ last ∷ []) body
select_cases_last [] others last body = select_cases_of_last others last body
select_cases_last (c ∷ cases) others last body = ap (λ cs. c ∷ cs) (select_cases_last cases others last body)

-- where a text stands, by what is empty
pub text_start_by_empty : (text more : List ℕ) (a b : Span)
    → text_start text more a b ≡ (if is_nil text && not (is_nil more) then b.start else a.start)
text_start_by_empty [] [] a b = refl
text_start_by_empty [] (c ∷ more) a b = refl
text_start_by_empty (c ∷ text) more a b = refl

-- whether there are no nodes, by their number
pub empty_by_length : (ns : List Node) → is_empty_of ns None ≡ (length ns == 0)
empty_by_length [] = refl
empty_by_length (n ∷ ns) = let some : (length (n ∷ ns) == 0) ≡ false = grind (arith, nat_tests) in sym some

-- a word of a select's case, by its tests
pub case_word_by_parts : (word : List ℕ) → is_case_word word ≡
    (not (is_nil word) && (list_all is_word_character word && not (bytes_eq word (codes "other"))))
case_word_by_parts [] = refl
case_word_by_parts (c ∷ word) = refl
