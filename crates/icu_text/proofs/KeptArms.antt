-- Arms that are read one by one: the first of each key is kept, as the grammar says.
use Rattle.std.proofs.Common.{◌≡◌, ℕ, ℤ, ◌||◌, Bool, true, false, List, [], ◌∷◌, ◌++◌, map, refl, sym, ◌∙◌, ap}
use Rattle.std.proofs.Common.{bytes_eq, subst}
use Rattle.std.specs.Prelude.{codes}
use Rattle.std.specs.List.{list_any}
use Rattle.std.proofs.lemmas.Slice.Eq.{bytes_eq-Decides}
use Rattle.plural_rules.specs.declared.category.Category.{Category}
use Rattle.plural_rules.specs.declared.category.Category.TheVariants as category
use Rattle.plural_rules.specs.Category.{is_same}
use Rattle.soy_rules.specs.Val.{is_same_int}
use Rattle.soy_tree.specs.MessageParts.{MsgParts, ExactArms, NamedArms, SelectArms, PluralPart, SelectPart}
use Rattle.soy_tree.specs.MessageParts.{no_exact_arm, exact_arm, no_named_arm, named_arm, no_select_arm, select_arm}
use Rattle.soy_tree.specs.ViewMessageParts.{exact_arms_of, named_arms_of, select_arms_of}
use Rattle.soy_rules.specs.IcuText.{Key, Exact, Named, is_int_among, exact_arms, named_arms, select_arms, is_other}
use Rattle.icu_text.specs.declared.state.ArmKey.{ArmKey}
use Rattle.icu_text.specs.declared.state.ArmKey.TheVariants as arm_key
use Rattle.icu_text.specs.PatternStates.{Argument}
use Rattle.icu_text.specs.declared.state.OpenPlural.{OpenPlural}
use Rattle.icu_text.specs.declared.state.OpenSelect.{OpenSelect}
use Rattle.icu_text.specs.FirstArms.{has_category, has_word, with_exact, with_named, with_select}
use Rattle.icu_text.specs.PatternSteps.{with_arm, with_word, with_offset, new_plural, new_select, plural_part}
use Rattle.icu_text.specs.PatternSteps.{select_part}
use Rattle.icu_text.proofs.CharacterTests.{holds_or}

abbrev pub arm_key_of : Key → ArmKey
arm_key_of (Exact n) = arm_key.Exact n
arm_key_of (Named c) = arm_key.Named c

-- a plural with further arms
abbrev pub with_arms : OpenPlural → List (Key × MsgParts) → OpenPlural
with_arms plural [] = plural
with_arms plural (arm ∷ arms) = with_arms (with_arm plural (arm_key_of arm.0) arm.1) arms

abbrev pub with_words : OpenSelect → List (List ℕ × MsgParts) → OpenSelect
with_words select [] = select
with_words select (arm ∷ arms) = with_words (with_word select arm.0 arm.1) arms

abbrev more_exact : List (ℤ × MsgParts) → List (Key × MsgParts) → List (ℤ × MsgParts)
more_exact row [] = row
more_exact row ((Exact n, ps) ∷ arms) = more_exact (with_exact row n ps) arms
more_exact row ((Named c, ps) ∷ arms) = more_exact row arms

abbrev more_named : List (Category × MsgParts) → List (Key × MsgParts) → List (Category × MsgParts)
more_named row [] = row
more_named row ((Exact n, ps) ∷ arms) = more_named row arms
more_named row ((Named c, ps) ∷ arms) = more_named (with_named row c ps) arms

abbrev more_select : List (List ℕ × MsgParts) → List (List ℕ × MsgParts) → List (List ℕ × MsgParts)
more_select row [] = row
more_select row (arm ∷ arms) = more_select (with_select row arm.0 arm.1) arms

with_arms_is : (plural : OpenPlural) (arms : List (Key × MsgParts))
    → with_arms plural arms ≡ record plural
    { exact = more_exact plural.exact arms; named = more_named plural.named arms }
with_arms_is plural [] = refl
with_arms_is plural ((Exact n, ps) ∷ arms) = with_arms_is (with_arm plural (arm_key.Exact n) ps) arms
with_arms_is plural ((Named c, ps) ∷ arms) = with_arms_is (with_arm plural (arm_key.Named c) ps) arms

with_words_is : (select : OpenSelect) (arms : List (List ℕ × MsgParts))
    → with_words select arms ≡ record select { arms = more_select select.arms arms }
with_words_is select [] = refl
with_words_is select (arm ∷ arms) = with_words_is (with_word select arm.0 arm.1) arms

-- arms after others

abbrev after_exact : List (ℤ × MsgParts) → ExactArms → ExactArms
after_exact [] arms = arms
after_exact (a ∷ row) arms = exact_arm a.0 a.1 (after_exact row arms)

abbrev after_named : List (Category × MsgParts) → NamedArms → NamedArms
after_named [] arms = arms
after_named (a ∷ row) arms = named_arm a.0 a.1 (after_named row arms)

abbrev after_select : List (List ℕ × MsgParts) → SelectArms → SelectArms
after_select [] arms = arms
after_select (a ∷ row) arms = select_arm a.0 a.1 (after_select row arms)

exact_none : (row : List (ℤ × MsgParts)) → exact_arms_of row ≡ after_exact row no_exact_arm
exact_none [] = refl
exact_none (a ∷ row) = ap (exact_arm a.0 a.1) (exact_none row)

named_none : (row : List (Category × MsgParts)) → named_arms_of row ≡ after_named row no_named_arm
named_none [] = refl
named_none (a ∷ row) = ap (named_arm a.0 a.1) (named_none row)

select_none : (row : List (List ℕ × MsgParts)) → select_arms_of row ≡ after_select row no_select_arm
select_none [] = refl
select_none (a ∷ row) = ap (select_arm a.0 a.1) (select_none row)

exact_more : (row : List (ℤ × MsgParts)) (n : ℤ) (ps : MsgParts) (arms : ExactArms)
    → after_exact (row ++ (n, ps) ∷ []) arms ≡ after_exact row (exact_arm n ps arms)
exact_more [] n ps arms = refl
exact_more (a ∷ row) n ps arms = ap (exact_arm a.0 a.1) (exact_more row n ps arms)

named_more : (row : List (Category × MsgParts)) (c : Category) (ps : MsgParts) (arms : NamedArms)
    → after_named (row ++ (c, ps) ∷ []) arms ≡ after_named row (named_arm c ps arms)
named_more [] c ps arms = refl
named_more (a ∷ row) c ps arms = ap (named_arm a.0 a.1) (named_more row c ps arms)

select_more : (row : List (List ℕ × MsgParts)) (word : List ℕ) (ps : MsgParts) (arms : SelectArms)
    → after_select (row ++ (word, ps) ∷ []) arms ≡ after_select row (select_arm word ps arms)
select_more [] word ps arms = refl
select_more (a ∷ row) word ps arms = ap (select_arm a.0 a.1) (select_more row word ps arms)

-- a key more at either end
or_swaps : (a b : Bool) → (a || b) ≡ (b || a)
or_swaps true true = refl
or_swaps true false = refl
or_swaps false true = refl
or_swaps false false = refl

or_assoc : (a b c : Bool) → (a || (b || c)) ≡ (b || (a || c))
or_assoc true true c = refl
or_assoc true false c = refl
or_assoc false b c = refl

pub any_exact : (m n : ℤ) (ps : MsgParts) (row : List (ℤ × MsgParts))
    → is_int_among m (map (λ arm. arm.0) (row ++ (n, ps) ∷ [])) ≡
    (is_same_int m n || is_int_among m (map (λ arm. arm.0) row))
any_exact m n ps [] = refl
any_exact m n ps (a ∷ row) =
    ap (λ t. is_same_int m a.0 || t) (any_exact m n ps row)
    ∙ or_assoc (is_same_int m a.0) (is_same_int m n) (is_int_among m (map (λ arm. arm.0) row))

any_named : (d c : Category) (ps : MsgParts) (row : List (Category × MsgParts))
    → has_category d (row ++ (c, ps) ∷ []) ≡ (is_same d c || has_category d row)
any_named d c ps [] = refl
any_named d c ps (a ∷ row) =
    ap (λ t. is_same d a.0 || t) (any_named d c ps row) ∙ or_assoc (is_same d a.0) (is_same d c) (has_category d row)

pub any_select : (v w : List ℕ) (ps : MsgParts) (row : List (List ℕ × MsgParts))
    → has_word v (row ++ (w, ps) ∷ []) ≡ (bytes_eq w v || has_word v row)
any_select v w ps [] = refl
any_select v w ps (a ∷ row) =
    ap (λ t. bytes_eq a.0 v || t) (any_select v w ps row) ∙ or_assoc (bytes_eq a.0 v) (bytes_eq w v) (has_word v row)

-- equal texts are equal either way
bytes_same : (a b : List ℕ) → bytes_eq a b ≡ true → a ≡ b
bytes_same a b e = (bytes_eq-Decides a b).0 e

same_bytes : (a : List ℕ) → bytes_eq a a ≡ true
same_bytes a = (bytes_eq-Decides a a).1 refl

bytes_swap : (a b : List ℕ) → bytes_eq a b ≡ bytes_eq b a
bytes_swap a b =
    holds_or _ (bytes_eq a b)
    (λ e. e ∙ sym (subst (λ c. bytes_eq b c ≡ true) (sym (bytes_same a b e)) (same_bytes b)))
    (λ e. holds_or _ (bytes_eq b a)
    (λ f. absurd (cc (e, subst (λ c. bytes_eq a c ≡ true) (sym (bytes_same b a f)) (same_bytes a))))
    (λ f. e ∙ sym f))

-- the arms are those that the grammar keeps

exact_is : (row : List (ℤ × MsgParts)) (before : List ℤ) (arms : List (Key × MsgParts))
    → ((m : ℤ) → is_int_among m before ≡ is_int_among m (map (λ arm. arm.0) row))
    → exact_arms_of (more_exact row arms) ≡ after_exact row (exact_arms before arms)
exact_is row before [] same = exact_none row
exact_is row before ((Named c, ps) ∷ arms) same = exact_is row before arms same
exact_is row before ((Exact n, ps) ∷ arms) same =
    holds_or _ (is_int_among n (map (λ arm. arm.0) row))
    (λ e. rw (e, same n ∙ e) (exact_is row before arms same))
    (λ e. rw (e, same n ∙ e)
    (exact_is (row ++ (n, ps) ∷ []) (n ∷ before) arms
    (λ m. ap (λ t. is_same_int m n || t) (same m) ∙ sym (any_exact m n ps row))
    ∙ exact_more row n ps (exact_arms (n ∷ before) arms)))

named_is : (row : List (Category × MsgParts)) (before : List Category) (arms : List (Key × MsgParts))
    → ((d : Category) → list_any (is_same d) before ≡ has_category d row)
    → named_arms_of (more_named row arms) ≡ after_named row (named_arms before arms)
named_is row before [] same = named_none row
named_is row before ((Exact n, ps) ∷ arms) same = named_is row before arms same
named_is row before ((Named c, ps) ∷ arms) same =
    holds_or _ (has_category c row)
    (λ e. rw (e, same c ∙ e) (named_is row before arms same))
    (λ e. rw (e, same c ∙ e)
    (named_is (row ++ (c, ps) ∷ []) (c ∷ before) arms
    (λ d. ap (λ t. is_same d c || t) (same d) ∙ sym (any_named d c ps row))
    ∙ named_more row c ps (named_arms (c ∷ before) arms)))

select_is : (row : List (List ℕ × MsgParts)) (before : List (List ℕ)) (arms : List (List ℕ × MsgParts))
    → ((v : List ℕ) → list_any (bytes_eq v) before ≡ has_word v row)
    → select_arms_of (more_select row arms) ≡ after_select row (select_arms before arms)
select_is row before [] same = select_none row
select_is row before (arm ∷ arms) same =
    holds_or _ (has_word arm.0 row)
    (λ e. rw (e, same arm.0 ∙ e) (select_is row before arms same))
    (λ e. rw (e, same arm.0 ∙ e)
    (select_is (row ++ (arm.0, arm.1) ∷ []) (arm.0 ∷ before) arms
    (λ v. ap (λ t. t || list_any (bytes_eq v) before) (bytes_swap v arm.0) ∙
    (ap (λ t. bytes_eq arm.0 v || t) (same v) ∙ sym (any_select v arm.0 arm.1 row)))
    ∙ select_more row arm.0 arm.1 (select_arms (arm.0 ∷ before) arms)))

-- whether an arm for other is among them

or_true : (a : Bool) → (a || true) ≡ true
or_true true = refl
or_true false = refl

or_false : (a : Bool) → (a || false) ≡ a
or_false true = refl
or_false false = refl

or_three : (a b c : Bool) → ((a || b) || c) ≡ (b || (a || c))
or_three true b c = sym (or_true b)
or_three false b c = refl

pub kept_other : (c : Category) (row : List (Category × MsgParts)) (ps : MsgParts)
    → has_category category.Other (with_named row c ps) ≡ (is_same c category.Other || has_category category.Other row)
kept_other category.Zero row ps = holds_or _ (has_category category.Zero row) (λ e. rw e refl)
    (λ e. rw e (any_named category.Other category.Zero ps row))
kept_other category.One row ps = holds_or _ (has_category category.One row) (λ e. rw e refl)
    (λ e. rw e (any_named category.Other category.One ps row))
kept_other category.Two row ps = holds_or _ (has_category category.Two row) (λ e. rw e refl)
    (λ e. rw e (any_named category.Other category.Two ps row))
kept_other category.Few row ps = holds_or _ (has_category category.Few row) (λ e. rw e refl)
    (λ e. rw e (any_named category.Other category.Few ps row))
kept_other category.Many row ps = holds_or _ (has_category category.Many row) (λ e. rw e refl)
    (λ e. rw e (any_named category.Other category.Many ps row))
kept_other category.Other row ps = holds_or _ (has_category category.Other row) (λ e. rw e e)
    (λ e. rw e (any_named category.Other category.Other ps row))

other_named : (row : List (Category × MsgParts)) (arms : List (Key × MsgParts))
    → has_category category.Other (more_named row arms) ≡ (has_category category.Other row || list_any is_other arms)
other_named row [] = sym (or_false (has_category category.Other row))
other_named row ((Exact n, ps) ∷ arms) = other_named row arms
other_named row ((Named c, ps) ∷ arms) =
    other_named (with_named row c ps) arms
    ∙ (ap (λ t. t || list_any is_other arms) (kept_other c row ps)
    ∙ or_three (is_same c category.Other) (has_category category.Other row) (list_any is_other arms))

pub kept_word : (w : List ℕ) (row : List (List ℕ × MsgParts)) (ps : MsgParts) (v : List ℕ)
    → has_word v (with_select row w ps) ≡ (bytes_eq w v || has_word v row)
kept_word w row ps v =
    holds_or _ (has_word w row)
    (λ e. rw e (holds_or _ (bytes_eq w v)
    (λ f. rw f (subst (λ u. has_word u row ≡ true) (bytes_same w v f) e))
    (λ f. rw f refl)))
    (λ e. rw e (any_select v w ps row))

other_select : (v : List ℕ) (row : List (List ℕ × MsgParts)) (arms : List (List ℕ × MsgParts))
    → has_word v (more_select row arms) ≡ (has_word v row || list_any (λ arm. bytes_eq arm.0 v) arms)
other_select v row [] = sym (or_false (has_word v row))
other_select v row (arm ∷ arms) =
    other_select v (with_select row arm.0 arm.1) arms
    ∙ (ap (λ t. t || list_any (λ arm. bytes_eq arm.0 v) arms) (kept_word arm.0 row arm.1 v)
    ∙ or_three (bytes_eq arm.0 v) (has_word v row) (list_any (λ arm. bytes_eq arm.0 v) arms))

-- so a plural that is read has the arms of the grammar

pub plural_is : (a : Argument) (ordinal : Bool) (by : ℕ) (arms : List (Key × MsgParts))
    → plural_part (with_arms (with_offset (new_plural ordinal a) by) arms) ≡ PluralPart ordinal a.name by
    (exact_arms [] arms) (named_arms [] arms)
plural_is a ordinal by arms =
    ap plural_part (with_arms_is (with_offset (new_plural ordinal a) by) arms)
    ∙ (λ i. PluralPart ordinal a.name by (exact_is [] [] arms (λ m. refl) i) (named_is [] [] arms (λ d. refl) i))

pub plural_before : (plural : OpenPlural) (arms : List (Key × MsgParts))
    → (with_arms plural arms).before ≡ plural.before
plural_before plural arms = ap (λ (p : OpenPlural). p.before) (with_arms_is plural arms)

pub plural_other : (a : Argument) (ordinal : Bool) (by : ℕ) (arms : List (Key × MsgParts))
    → has_category category.Other
    (with_arms (with_offset (new_plural ordinal a) by) arms).named ≡ list_any is_other arms
plural_other a ordinal by arms =
    ap (λ (p : OpenPlural). has_category category.Other p.named)
    (with_arms_is (with_offset (new_plural ordinal a) by) arms) ∙ other_named [] arms

pub select_is_part : (a : Argument) (arms : List (List ℕ × MsgParts))
    → select_part (with_words (new_select a) arms) ≡ SelectPart a.name (select_arms [] arms)
select_is_part a arms =
    ap select_part (with_words_is (new_select a) arms) ∙ ap (SelectPart a.name) (select_is [] [] arms (λ v. refl))

pub select_before : (select : OpenSelect) (arms : List (List ℕ × MsgParts))
    → (with_words select arms).before ≡ select.before
select_before select arms = ap (λ (s : OpenSelect). s.before) (with_words_is select arms)

pub select_other : (a : Argument) (arms : List (List ℕ × MsgParts))
    → has_word (codes "other") (with_words (new_select a) arms).arms ≡ list_any
    (λ arm. bytes_eq arm.0 (codes "other")) arms
select_other a arms =
    ap (λ (s : OpenSelect). has_word (codes "other") s.arms) (with_words_is (new_select a) arms) ∙ other_select
    (codes "other") [] arms
