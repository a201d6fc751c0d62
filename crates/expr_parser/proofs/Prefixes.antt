-- Lists that go on.
use Rattle.std.proofs.Common.{◌≡◌, ℕ, ◌+◌, ◌≤◌, List, [], ◌∷◌, ◌++◌, length, take, Option, Some, None, refl, sym, ◌∙◌}
use Rattle.std.proofs.Common.{ap}
use Rattle.std.proofs.Math.Seq.{take-append_seam}
use Rattle.soy_lexer.specs.declared.token.Token.{Token}
use Rattle.expr_parser.specs.Depths.{depth_limit, AreWithin}
use Rattle.expr_parser.specs.Offsets.{end_after}

-- prefixes of one list that are as long as each other are the same
pub same_prefix : {A : Type 0} (xs ys us vs : List A) → length xs ≡ length ys → xs ++ us ≡ ys ++ vs → xs ≡ ys
same_prefix xs ys us vs long whole =
    sym (take-append_seam xs us)
    ∙ (ap (λ n. take n (xs ++ us)) long ∙ (ap (λ l. take (length ys) l) whole ∙ take-append_seam ys vs))

-- depths that are within the limit, and further ones
pub within_append : (blocks : ℕ) (ds es : List ℕ) → AreWithin blocks ds → AreWithin blocks es → AreWithin blocks
    (ds ++ es)
within_append blocks [] es a b = b
within_append blocks (d ∷ ds) es a b = (a.0, within_append blocks ds es a.1 b)

-- and the first and the last of depths that are within the limit
pub within_prefix : (blocks : ℕ) (ds es : List ℕ) → AreWithin blocks (ds ++ es) → AreWithin blocks ds
within_prefix blocks [] es h = tt
within_prefix blocks (d ∷ ds) es h = (h.0, within_prefix blocks ds es h.1)

pub within_last : (blocks : ℕ) (ds : List ℕ) (d : ℕ) → AreWithin blocks (ds ++ d ∷ []) → blocks + d ≤ depth_limit
within_last blocks [] d h = h.0
within_last blocks (e ∷ ds) d h = within_last blocks ds d h.1

-- where a last token ends, tokens end
pub end_last : (offset : ℕ) (us : List Token) (t : Token) → end_after offset (us ++ t ∷ []) ≡ t.span.end
end_last offset [] t = refl
end_last offset (u ∷ us) t = end_last u.span.end us t

-- the last of a list
abbrev last_of : {A : Type 0} → List A → Option A
last_of [] = None
last_of (x ∷ []) = Some x
last_of (x ∷ (y ∷ ys)) = last_of (y ∷ ys)

last_of-append : {A : Type 0} (xs : List A) (x : A) → last_of (xs ++ x ∷ []) ≡ Some x
last_of-append [] x = refl
last_of-append (y ∷ []) x = refl
last_of-append (y ∷ (z ∷ zs)) x = last_of-append (z ∷ zs) x

-- lists that are the same have the same last
pub same_last : {A : Type 0} (xs ys : List A) (x y : A) → xs ++ x ∷ [] ≡ ys ++ y ∷ [] → x ≡ y
same_last {A} xs ys x y e = ap unwrap (sym (last_of-append xs x) ∙ (ap last_of e ∙ last_of-append ys y))
  where
    unwrap : Option A → A
    unwrap None = x
    unwrap (Some z) = z
