-- A message's texts and prints can be ended: some text closes the tag that is open after them.
use Rattle.std.proofs.Common.{◌≡◌, ℕ, Bool, true, false, ◌==◌, ◌&&◌, ◌||◌, List, [], ◌∷◌, ◌++◌, Option, Some, None}
use Rattle.std.proofs.Common.{option_map, refl, sym, ◌∙◌, ap, subst, arith}
use Rattle.std.specs.Prelude.{if◌then◌else◌, is_some, ◌⊎◌}
use Rattle.std.proofs.Common.{inl, inr}
use Rattle.std.specs.Char.{is_ascii_alphabetic}
use Rattle.std.proofs.lemmas.Bool.Decides.{nat_tests}
use Rattle.soy_base.specs.declared.fault.Span.{Span}
use Rattle.soy_tree.specs.MessageText.{MessageItem, Cut, PrintCut, TagCut, characters}
use Rattle.soy_tree.specs.MessageText.{begins_with_letter, goes_on_as_tag, text_cut, quote_after}
use Rattle.soy_tree.specs.MessageText.{ends_tag}
use Rattle.soy_tree.specs.MessageText.{cuts_after_text, cuts_in_tag, cuts}
use Rattle.soy_tree.specs.MessageText.MessageItem.{Character, Printed}

-- a quote that may be open
abbrev IsQuote : Option ℕ → Type 0
IsQuote None = Unit {0}
IsQuote (Some q) = (q ≡ 34) ⊎ (q ≡ 39)

-- the text that closes a tag in which it is open
abbrev pub closer : Option ℕ → List ℕ
closer None = 62 ∷ []
closer (Some q) = q ∷ (62 ∷ [])

-- items after which that text ends whatever is open
pub record IsClosed (o : Option (List Cut)) : Type 0 where
  pub closed : is_some o ≡ true

map_closed : (f : List Cut → List Cut) (o : Option (List Cut)) → IsClosed o → IsClosed (option_map f o)
map_closed f None h = record { closed = h.closed }
map_closed f (Some cs) h = record { closed = refl }

closed_then : (b : Bool) (x y : Option (List Cut)) → b ≡ true → IsClosed x → IsClosed (if b then x else y)
closed_then b x y e h = subst (λ t. IsClosed (if t then x else y)) (sym e) h

closed_else : (b : Bool) (x y : Option (List Cut)) → b ≡ false → IsClosed y → IsClosed (if b then x else y)
closed_else b x y e h = subst (λ t. IsClosed (if t then x else y)) (sym e) h

and_true : (a b : Bool) → a ≡ true → b ≡ true → (a && b) ≡ true
and_true a b e f = rw (e, f) refl

and_false : (a b : Bool) → b ≡ false → (a && b) ≡ false
and_false true b e = e
and_false false b e = refl

false_and : (a b : Bool) → a ≡ false → (a && b) ≡ false
false_and a b e = rw e refl

letter_same : (o : Option ℕ) (s : Span) → IsQuote o → begins_with_letter (characters (closer o) s) ≡ false
letter_same None s h = refl
letter_same (Some q) s (inl e) = ap is_ascii_alphabetic e
letter_same (Some q) s (inr e) = ap is_ascii_alphabetic e

alone_same : (o : Option ℕ) (s : Span) → IsQuote o → goes_on_as_tag (characters (closer o) s) ≡ false
alone_same None s h = refl
alone_same (Some q) s (inl e) = subst (λ r. goes_on_as_tag (characters (closer (Some r)) s) ≡ false) (sym e) refl
alone_same (Some q) s (inr e) = subst (λ r. goes_on_as_tag (characters (closer (Some r)) s) ≡ false) (sym e) refl

-- it changes nothing of where a tag begins
goes_same : (ps : List MessageItem) (o : Option ℕ) (s : Span) → IsQuote o →
    goes_on_as_tag (ps ++ characters (closer o) s) ≡ goes_on_as_tag ps
goes_same [] o s h = alone_same o s h
goes_same (Printed e phname span ∷ ps) o s h = refl
goes_same (Character c span ∷ []) o s h =
    ap (λ b. is_ascii_alphabetic c || (c == 47 && b)) (letter_same o s h)
goes_same (Character c span ∷ (Printed e phname other ∷ ps)) o s h = refl
goes_same (Character c span ∷ (Character d other ∷ ps)) o s h = refl

same_number : (a b : ℕ) → (a == b) ≡ true → a ≡ b
same_number a b h = grind (arith, nat_tests, h)

opened_quote : (c : ℕ) (a b : Bool) → (c == 34) ≡ a → (c == 39) ≡ b → IsQuote (if a || b then Some c else None)
opened_quote c true b e f = inl (same_number c 34 e)
opened_quote c false true e f = inr (same_number c 39 f)
opened_quote c false false e f = tt

closed_quote : (q : ℕ) (a : Bool) → IsQuote (Some q) → IsQuote (if a then None else Some q)
closed_quote q true h = tt
closed_quote q false h = h

quote_goes_on : (o : Option ℕ) (c : ℕ) → IsQuote o → IsQuote (quote_after o c)
quote_goes_on None c h = opened_quote c (c == 34) (c == 39) refl refl
quote_goes_on (Some q) c h = closed_quote q (c == q) h

-- a text that closes
pub record HasCloser (find : Option ℕ → Option (List Cut)) : Type 0 where
  pub quote : Option ℕ
  pub is_quote : IsQuote quote
  pub is_closed : IsClosed (find quote)

ends_alone : (quote : Option ℕ) (tag : List MessageItem) (s : Span) → IsQuote quote →
    IsClosed (cuts_in_tag (characters (closer quote) s) quote tag)
ends_alone None tag s h = record { closed = refl }
ends_alone (Some q) tag s (inl e) =
    subst (λ r. IsClosed (cuts_in_tag (characters (closer (Some r)) s) (Some r) tag)) (sym e) (record { closed = refl })
ends_alone (Some q) tag s (inr e) =
    subst (λ r. IsClosed (cuts_in_tag (characters (closer (Some r)) s) (Some r) tag)) (sym e) (record { closed = refl })

mutual
  closes_text : (ps text : List MessageItem) (s : Span) →
      HasCloser (λ o. cuts_after_text (ps ++ characters (closer o) s) text)
  closes_text [] text s = record { quote = None; is_quote = tt; is_closed = record { closed = refl } }
  closes_text (Printed e phname span ∷ ps) text s =
      let i = closes_text ps [] s in
      record {
        quote = i.quote;
        is_quote = i.is_quote;
        is_closed = map_closed (λ cuts. text_cut text ++ (PrintCut e phname span ∷ cuts)) _ i.is_closed;
      }
  closes_text (Character c span ∷ ps) text s =
      over (c == 60) (goes_on_as_tag ps) refl refl (closes_tag ps None tt (Character c span ∷ []) s)
      (closes_text ps (text ++ (Character c span ∷ [])) s)
    where
      over : (a b : Bool) → (c == 60) ≡ a → goes_on_as_tag ps ≡ b →
          HasCloser (λ o. cuts_in_tag (ps ++ characters (closer o) s) None (Character c span ∷ [])) →
          HasCloser (λ o. cuts_after_text (ps ++ characters (closer o) s) (text ++ (Character c span ∷ []))) →
          HasCloser (λ o. cuts_after_text ((Character c span ∷ ps) ++ characters (closer o) s) text)
      over true true e f i j = record {
        quote = i.quote;
        is_quote = i.is_quote;
        is_closed = closed_then _ _ _ (and_true (c == 60) _ e (goes_same ps i.quote s i.is_quote ∙ f))
            (map_closed (λ cuts. text_cut text ++ cuts) _ i.is_closed);
      }
      over true false e f i j = record {
        quote = j.quote;
        is_quote = j.is_quote;
        is_closed = closed_else _ _ _ (and_false (c == 60) _ (goes_same ps j.quote s j.is_quote ∙ f)) j.is_closed;
      }
      over false b e f i j = record {
        quote = j.quote;
        is_quote = j.is_quote;
        is_closed = closed_else _ _ _ (false_and (c == 60) _ e) j.is_closed;
      }

  closes_tag : (ps : List MessageItem) (quote : Option ℕ) → IsQuote quote → (tag : List MessageItem) (s : Span) →
      HasCloser (λ o. cuts_in_tag (ps ++ characters (closer o) s) quote tag)
  closes_tag [] quote h tag s = record { quote = quote; is_quote = h; is_closed = ends_alone quote tag s h }
  closes_tag (Printed e phname span ∷ ps) quote h tag s = closes_tag ps quote h (tag ++ (Printed e phname span ∷ [])) s
  closes_tag (Character c span ∷ ps) quote h tag s =
      over (ends_tag quote c) refl (closes_text ps [] s)
      (closes_tag ps (quote_after quote c) (quote_goes_on quote c h) (tag ++ (Character c span ∷ [])) s)
    where
      over : (a : Bool) → ends_tag quote c ≡ a → HasCloser (λ o. cuts_after_text (ps ++ characters (closer o) s) []) →
          HasCloser (λ o. cuts_in_tag (ps ++ characters (closer o) s) (quote_after quote c)
          (tag ++ (Character c span ∷ []))) →
          HasCloser (λ o. cuts_in_tag ((Character c span ∷ ps) ++ characters (closer o) s) quote tag)
      over true e i j = record {
        quote = i.quote;
        is_quote = i.is_quote;
        is_closed = closed_then _ _ _ e (map_closed (λ cuts. TagCut (tag ++ (Character c span ∷ [])) ∷ cuts) _
            i.is_closed);
      }
      over false e i j = record { quote = j.quote; is_quote = j.is_quote; is_closed = closed_else _ _ _ e j.is_closed }

-- **After texts and prints some text closes the tag that is open.**
pub closed_by : (ps : List MessageItem) (s : Span) → HasCloser (λ o. cuts (ps ++ characters (closer o) s))
closed_by ps s = closes_text ps [] s
