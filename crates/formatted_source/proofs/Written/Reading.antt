-- Written parts of commands, one after the other.
use Rattle.std.proofs.Common.{◌≡◌, ℕ, Bool, true, List, [], ◌++◌, refl, sym, subst, append_assoc}
use Rattle.formatted_source.specs.Lexemes.{Lexeme}
use Rattle.formatted_source.specs.CommandLexemes.{CommandLexemes, HasLexemes, before_any}
use Rattle.formatted_source.specs.CommandLexemes.CommandLexemes.{here_, white_, token_}

-- lexemes up to a rest, and those of the rest
pub reads_on : (text middle rest : List ℕ) (ls ms : List Lexeme) → CommandLexemes text ls middle
    → CommandLexemes middle ms rest → CommandLexemes text (ls ++ ms) rest
reads_on _ _ rest _ ms (here_ middle) next = next
reads_on _ _ rest _ ms (white_ text skipped after middle ls e d) next =
    white_ text skipped after rest (ls ++ ms) e (reads_on after middle rest ls ms d next)
reads_on _ _ rest _ ms (token_ text source_text value after middle kind ls e i d) next =
    token_ text source_text value after rest kind (ls ++ ms) e i (reads_on after middle rest ls ms d next)

-- two written parts
pub join : (first second : List ℕ → Bool) (a b : List ℕ) (ls ms : List Lexeme) → HasLexemes first a ls
    → HasLexemes second b ms → ((rest : List ℕ) → second rest ≡ true → first (b ++ rest) ≡ true)
    → HasLexemes second (a ++ b) (ls ++ ms)
join first second a b ls ms one two then rest h =
    subst (λ text. CommandLexemes text (ls ++ ms) rest) (sym (append_assoc a b rest))
    (reads_on (a ++ (b ++ rest)) (b ++ rest) rest ls ms (one (b ++ rest) (then rest h)) (two rest h))

-- the first of which takes whatever follows it
pub after : (test : List ℕ → Bool) (a b : List ℕ) (ls ms : List Lexeme) → HasLexemes before_any a ls
    → HasLexemes test b ms → HasLexemes test (a ++ b) (ls ++ ms)
after test a b ls ms one two = join before_any test a b ls ms one two (λ rest h. refl)

-- nothing
pub nothing : (test : List ℕ → Bool) → HasLexemes test [] []
nothing test rest h = here_ rest

-- what takes whatever follows it takes what passes a test
pub weaker : (test : List ℕ → Bool) (a : List ℕ) (ls : List Lexeme) → HasLexemes before_any a ls → HasLexemes test a ls
weaker test a ls one rest h = one rest refl
