-- A list has one longest prefix that can go on, or one first element with which its prefix isn't good any more, and
-- never both.
use Rattle.std.proofs.Common.{◌≡◌, List, [], ◌∷◌, ◌++◌, length, refl, sym, ◌∙◌, ap, subst, arith}
use Rattle.std.proofs.Common.{append_assoc, length-append}
use Rattle.soy_lexer.specs.declared.token.Token.{Token}
use Rattle.expr_parser.proofs.Prefixes.{same_prefix}

-- of two ways to cut a list, how their prefixes compare
data Order (ps rs qs ss : List Token) : Type 0 where
  same : ps ≡ qs → rs ≡ ss → Order ps rs qs ss
  less : (t : Token) (more : List Token) → qs ≡ ps ++ (t ∷ more) → rs ≡ t ∷ (more ++ ss) → Order ps rs qs ss
  greater : (t : Token) (more : List Token) → ps ≡ qs ++ (t ∷ more) → ss ≡ t ∷ (more ++ rs) → Order ps rs qs ss

head_same : (p q : Token) (ps qs : List Token) → p ∷ ps ≡ q ∷ qs → p ≡ q
head_same p q ps qs e = cc

tail_same : (p q : Token) (ps qs : List Token) → p ∷ ps ≡ q ∷ qs → ps ≡ qs
tail_same p q ps qs e = cc

order : (ps rs qs ss : List Token) → ps ++ rs ≡ qs ++ ss → Order ps rs qs ss
order [] rs [] ss e = Order.same refl e
order [] rs (q ∷ qs) ss e = Order.less q qs refl e
order (p ∷ ps) rs [] ss e = Order.greater p ps refl (sym e)
order (p ∷ ps) rs (q ∷ qs) ss e =
    over (head_same p q (ps ++ rs) (qs ++ ss) e) (order ps rs qs ss (tail_same p q (ps ++ rs) (qs ++ ss) e))
  where
    over : p ≡ q → Order ps rs qs ss → Order (p ∷ ps) rs (q ∷ qs) ss
    over h (Order.same a b) = Order.same (rw (h, a) refl) b
    over h (Order.less t more a b) = Order.less t more (rw (h, a) refl) b
    over h (Order.greater t more a b) = Order.greater t more (rw (h, a) refl) b

-- none begins with one more token of the rest
abbrev pub Ends : (List Token → Type 0) → List Token → List Token → Type 0
Ends Begun prefix [] = Unit {0}
Ends Begun prefix (t ∷ rest) = Begun (prefix ++ (t ∷ [])) → ⊥

module _ (Begun : List Token → Type 0) (begun_shorter : (ts us : List Token) → Begun (ts ++ us) → Begun ts) where
  -- nothing that begins goes further than the longest
  not_further : (ps rs qs ss : List Token) (t : Token) (more : List Token) → Ends Begun ps rs → Begun qs →
      qs ≡ ps ++ (t ∷ more) → rs ≡ t ∷ (more ++ ss) → ⊥
  not_further ps rs qs ss t more ends b q r =
      let at : Ends Begun ps (t ∷ (more ++ ss)) = subst (Ends Begun ps) r ends in
      at (begun_shorter (ps ++ (t ∷ [])) more (subst Begun (q ∙ sym (append_assoc ps (t ∷ []) more)) b))

  pub same_longest : (ps rs qs ss : List Token) → ps ++ rs ≡ qs ++ ss → Begun ps → Ends Begun ps rs → Begun qs →
      Ends Begun qs ss → (ps ≡ qs) × (rs ≡ ss)
  same_longest ps rs qs ss whole b ends c stops = over (order ps rs qs ss whole)
    where
      over : Order ps rs qs ss → (ps ≡ qs) × (rs ≡ ss)
      over (Order.same a r) = (a, r)
      over (Order.less t more a r) = absurd (not_further ps rs qs ss t more ends c a r)
      over (Order.greater t more a r) = absurd (not_further qs ss ps rs t more stops b a r)

module _ (Good : List Token → List Token → Type 0)
    (good_shorter : (ts us rest : List Token) → Good (ts ++ us) rest → Good ts (us ++ rest)) where
  -- what is good is so far no bad token
  not_bad : (ps rs qs ss : List Token) → (Good qs ss → ⊥) → Good ps rs → (t : Token) (more : List Token) →
      ps ≡ qs ++ (t ∷ more) → ss ≡ t ∷ (more ++ rs) → ⊥
  not_bad ps rs qs ss bad g t more a b =
      bad (subst (Good qs) (sym b) (good_shorter qs (t ∷ more) rs (subst (λ l. Good l rs) a g)))

  -- two tokens that are the first bad ones are the same
  pub same_bad : (ps qs rs ss : List Token) (u v : Token) → ps ++ (u ∷ rs) ≡ qs ++ (v ∷ ss) →
      Good ps (u ∷ rs) → (Good (ps ++ (u ∷ [])) rs → ⊥) → Good qs (v ∷ ss) → (Good (qs ++ (v ∷ [])) ss → ⊥) →
      (ps ≡ qs) × (u ≡ v)
  same_bad ps qs rs ss u v whole g bad h worse =
      over (order (ps ++ (u ∷ [])) rs qs (v ∷ ss) (append_assoc ps (u ∷ []) rs ∙ whole))
      (order (qs ++ (v ∷ [])) ss ps (u ∷ rs) (append_assoc qs (v ∷ []) ss ∙ sym whole))
    where
      over : Order (ps ++ (u ∷ [])) rs qs (v ∷ ss) → Order (qs ++ (v ∷ [])) ss ps (u ∷ rs) → (ps ≡ qs) × (u ≡ v)
      over (Order.same a r) o = absurd (bad (subst (Good (ps ++ (u ∷ []))) (sym r)
          (subst (λ l. Good l (v ∷ ss)) (sym a) h)))
      over (Order.less t more a r) o = absurd (not_bad qs (v ∷ ss) (ps ++ (u ∷ [])) rs bad h t more a r)
      over o (Order.same a r) = absurd (worse (subst (Good (qs ++ (v ∷ []))) (sym r)
          (subst (λ l. Good l (u ∷ rs)) (sym a) g)))
      over o (Order.less t more a r) = absurd (not_bad ps (u ∷ rs) (qs ++ (v ∷ [])) ss worse g t more a r)
      over (Order.greater t more a r) (Order.greater w others b k) =
          let long = ap length a in
          let short = ap length b in
          let even : length ps ≡ length qs = omega (arith, simp length-append at long, simp length-append at short) in
          let prefixes = same_prefix ps qs (u ∷ []) (t ∷ more) even a in
          (prefixes, head_same u v rs ss (rest ps qs (u ∷ rs) (v ∷ ss) prefixes whole))
        where
          rest : (xs ys us vs : List Token) → xs ≡ ys → xs ++ us ≡ ys ++ vs → us ≡ vs
          rest xs ys us vs e whole = rests ys us vs (sym (ap (λ l. l ++ us) e) ∙ whole)
            where
              rests : (ys us vs : List Token) → ys ++ us ≡ ys ++ vs → us ≡ vs
              rests [] us vs w = w
              rests (y ∷ ys) us vs w = rests ys us vs (tail_same y y (ys ++ us) (ys ++ vs) w)

-- what goes on as far as it can is no prefix with a bad token
module _ (Begun : List Token → Type 0) (begun_shorter : (ts us : List Token) → Begun (ts ++ us) → Begun ts)
    (Good : List Token → List Token → Type 0)
    (good_shorter : (ts us rest : List Token) → Good (ts ++ us) rest → Good ts (us ++ rest)) where
  pub longest_good : (ps rs qs ss : List Token) (t : Token) → ps ++ rs ≡ qs ++ (t ∷ ss) → Good ps rs →
      Ends Begun ps rs →
      Begun (qs ++ (t ∷ [])) → (Good (qs ++ (t ∷ [])) ss → ⊥) → ⊥
  longest_good ps rs qs ss t whole g ends b bad =
      over (order ps rs (qs ++ (t ∷ [])) ss (whole ∙ sym (append_assoc qs (t ∷ []) ss)))
    where
      over : Order ps rs (qs ++ (t ∷ [])) ss → ⊥
      over (Order.same a r) = bad (subst (Good (qs ++ (t ∷ []))) r (subst (λ l. Good l rs) a g))
      over (Order.less u more a r) = not_further Begun begun_shorter ps rs (qs ++ (t ∷ [])) ss u more ends b a r
      over (Order.greater u more a r) = not_bad Good good_shorter ps rs (qs ++ (t ∷ [])) ss bad g u more a r
