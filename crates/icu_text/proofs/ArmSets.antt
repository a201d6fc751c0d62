-- A set that takes the key of each arm has the keys of the arms.
use Rattle.std.proofs.Common.{◌≡◌, ℕ, ℤ, ◌||◌, not, Bool, true, false, cond, List, [], ◌∷◌, ◌++◌, refl, sym, ◌∙◌}
use Rattle.std.proofs.Common.{ap, arith, bytes_eq}
use Rattle.std.specs.Prelude.{String, pos, negsuc, bytes_eq}
use Rattle.std.specs.Ordering.{int_cmp}
use Rattle.std.specs.Str.{chars}
use Rattle.std.specs.String.{string_bytes, string_cmp}
use Rattle.std.specs.BTreeMap.{is_at}
use Rattle.std.specs.BTreeSet as set
use Rattle.std.specs.BTreeSet.{BTreeSet}
use Rattle.std.proofs.lemmas.Bool.Decides.{nat_tests}
use Rattle.std.proofs.lemmas.Map.Text.{is_eq-slice_cmp}
use Rattle.std.proofs.lemmas.Str.{IsUtf8-string_bytes}
use Rattle.soy_base.proofs.Texts.{bytes_eq-chars}
use Rattle.soy_rules.specs.Val.{is_same_int}
use Rattle.soy_tree.specs.MessageParts.{MsgParts}
use Rattle.icu_text.specs.FirstArms.{HasNumbers, HasWords, has_word}
use Rattle.icu_text.proofs.KeptArms.{any_exact, any_select}

int_at : (k q : ℤ) → is_at (int_cmp k) q ≡ is_same_int q k
int_at (pos a) (pos b) = grind (arith, nat_tests)
int_at (negsuc a) (negsuc b) = grind (arith, nat_tests)
int_at (pos a) (negsuc b) = refl
int_at (negsuc a) (pos b) = refl

or_of : (t b : Bool) → cond t true b ≡ (t || b)
or_of true b = refl
or_of false b = refl

-- what an insertion leaves of a set
pub numbers_more : (old new : BTreeSet ℤ) (arms : List (ℤ × MsgParts)) (n : ℤ) (ps : MsgParts) → HasNumbers old arms
    → ((q : ℤ) → set.contains int_cmp new q ≡ cond (is_at (int_cmp n) q) true (set.contains int_cmp old q))
    → HasNumbers new (arms ++ (n, ps) ∷ [])
numbers_more old new arms n ps has more q =
    more q
    ∙ (or_of (is_at (int_cmp n) q) (set.contains int_cmp old q)
    ∙ ((λ i. int_at n q i || has q i) ∙ sym (any_exact q n ps arms)))

word_at : {Z : Type 0} (k q : String Z)
    → is_at (string_cmp k) q ≡ bytes_eq (chars (string_bytes k)) (chars (string_bytes q))
word_at k q =
    is_eq-slice_cmp (string_bytes k) (string_bytes q)
    ∙ bytes_eq-chars (string_bytes k) (string_bytes q) (IsUtf8-string_bytes k) (IsUtf8-string_bytes q)

pub words_more : {Z : Type 0} (old new : BTreeSet (String Z)) (arms : List (List ℕ × MsgParts)) (k : String Z)
    (ps : MsgParts) → HasWords old arms
    → ((q : String Z) → set.contains string_cmp new q ≡ cond (is_at (string_cmp k) q) true
    (set.contains string_cmp old q))
    → HasWords new (arms ++ (chars (string_bytes k), ps) ∷ [])
words_more old new arms k ps has more q =
    more q
    ∙ (or_of (is_at (string_cmp k) q) (set.contains string_cmp old q)
    ∙ ((λ i. word_at k q i || has q i) ∙ sym (any_select (chars (string_bytes q)) (chars (string_bytes k)) ps arms)))

not_true : (a : Bool) → not a ≡ true → a ≡ false
not_true true e = absurd (cc e)
not_true false e = refl

-- a word that was added wasn't there
pub word_absent : {Z : Type 0} (words : BTreeSet (String Z)) (arms : List (List ℕ × MsgParts)) (k : String Z)
    (word : List ℕ) (added : Bool) → HasWords words arms
    → added ≡ not (set.contains string_cmp words k) → added ≡ true → chars (string_bytes k) ≡ word
    → has_word word arms ≡ false
word_absent words arms k word added has is new e =
    ap (λ w. has_word w arms) (sym e) ∙ (sym (has k) ∙ not_true (set.contains string_cmp words k) (sym is ∙ new))
