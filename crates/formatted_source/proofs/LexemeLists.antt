-- Tokens whose lexemes are known: where they are cut, and what kind and text each of them has.
use Rattle.std.proofs.Common.{◌≡◌, List, [], ◌∷◌, ◌++◌, refl, ap, ◌∙◌}
use Rattle.soy_lexer.specs.declared.token.Token.{Token}
use Rattle.formatted_source.specs.Lexemes.{Lexeme, lexeme, lexemes}

-- tokens in two parts, by their lexemes
pub record Splits (ts : List Token) (ls ms : List Lexeme) : Type 0 where
  pub first : List Token
  pub second : List Token
  pub are : ts ≡ first ++ second
  pub firsts : lexemes first ≡ ls
  pub seconds : lexemes second ≡ ms

pub split : (ts : List Token) (ls ms : List Lexeme) → lexemes ts ≡ ls ++ ms → Splits ts ls ms
split ts [] ms e = record { first = []; second = ts; are = refl; firsts = refl; seconds = e }
split [] (l ∷ ls) ms e = absurd (cc)
split (t ∷ ts) (l ∷ ls) ms e =
    let head : lexeme t ≡ l = cc in
    let tail : lexemes ts ≡ ls ++ ms = cc in
    let more = split ts ls ms tail in
    record {
      first = t ∷ more.first;
      second = more.second;
      are = ap (λ l. t ∷ l) more.are;
      firsts = cc (head, more.firsts);
      seconds = more.seconds;
    }

-- a first token, and the others
pub record Begun (ts : List Token) (l : Lexeme) (ls : List Lexeme) : Type 0 where
  pub token : Token
  pub rest : List Token
  pub are : ts ≡ token ∷ rest
  pub kind_is : token.kind ≡ l.0
  pub text_is : token.text ≡ l.1
  pub rests : lexemes rest ≡ ls

pub begun : (ts : List Token) (l : Lexeme) (ls : List Lexeme) → lexemes ts ≡ l ∷ ls → Begun ts l ls
begun [] l ls e = absurd (cc)
begun (t ∷ ts) l ls e =
    let head : lexeme t ≡ l = cc in
    record {
      token = t;
      rest = ts;
      are = refl;
      kind_is = ap (λ (p : Lexeme). p.0) head;
      text_is = ap (λ (p : Lexeme). p.1) head;
      rests = cc;
    }

-- one token alone
pub record Alone (ts : List Token) (l : Lexeme) : Type 0 where
  pub token : Token
  pub are : ts ≡ token ∷ []
  pub kind_is : token.kind ≡ l.0
  pub text_is : token.text ≡ l.1

pub none_left : (ts : List Token) → lexemes ts ≡ [] → ts ≡ []
none_left [] e = refl
none_left (t ∷ ts) e = absurd (cc)

pub alone : (ts : List Token) (l : Lexeme) → lexemes ts ≡ l ∷ [] → Alone ts l
alone ts l e =
    let b = begun ts l [] e in
    record {
      token = b.token;
      are = b.are ∙ ap (λ l. b.token ∷ l) (none_left b.rest b.rests);
      kind_is = b.kind_is;
      text_is = b.text_is;
    }
