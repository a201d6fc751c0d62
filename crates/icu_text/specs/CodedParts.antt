-- Codes of message parts, by which proofs tell two of them apart: each part is a tree of numbers that gives it back.
-- Example: the number of a plural is the tree of the one number 2.
use Rattle.std.specs.Prelude.{◌≡◌, ℕ, ℤ, pos, negsuc, Bool, true, false, List, [], ◌∷◌}
use Rattle.std.specs.Coded.{Coded, coded_list, coded×, coded_ℕ, coded_ℤ}
use mathlib.Core.Path.{refl, sym, ◌∙◌, ap}
use base.Stored.{Gv, gnil, gnum, gcons, num}
use Rattle.plural_rules.specs.declared.category.Category.{Category}
use Rattle.plural_rules.specs.declared.category.Category.TheVariants as category
use Rattle.soy_tree.specs.MessageParts.{MsgPart, MsgParts, ExactArms, NamedArms, SelectArms, TextPart, Placeholder}
use Rattle.soy_tree.specs.MessageParts.{NumberPart, PluralPart, SelectPart, no_part, part, no_exact_arm, exact_arm}
use Rattle.soy_tree.specs.MessageParts.{no_named_arm, named_arm, no_select_arm, select_arm}

abbrev tree_of_text : List ℕ → Gv
tree_of_text [] = gnil
tree_of_text (c ∷ cs) = gcons (gnum c) (tree_of_text cs)

abbrev text_of_tree : Gv → List ℕ
text_of_tree gnil = []
text_of_tree (gnum n) = []
text_of_tree (gcons a b) = num a ∷ text_of_tree b

pub text_back : (text : List ℕ) → text_of_tree (tree_of_text text) ≡ text
text_back [] = refl
text_back (c ∷ cs) = ap (λ l. c ∷ l) (text_back cs)

abbrev tree_of_int : ℤ → Gv
tree_of_int (pos n) = gnum n
tree_of_int (negsuc n) = gcons (gnum n) gnil

abbrev int_of_tree : Gv → ℤ
int_of_tree gnil = pos 0
int_of_tree (gnum n) = pos n
int_of_tree (gcons a b) = negsuc (num a)

pub int_back : (n : ℤ) → int_of_tree (tree_of_int n) ≡ n
int_back (pos n) = refl
int_back (negsuc n) = refl

abbrev tree_of_bool : Bool → Gv
tree_of_bool false = gnil
tree_of_bool true = gnum 0

abbrev bool_of_tree : Gv → Bool
bool_of_tree gnil = false
bool_of_tree (gnum n) = true
bool_of_tree (gcons a b) = true

pub bool_back : (b : Bool) → bool_of_tree (tree_of_bool b) ≡ b
bool_back true = refl
bool_back false = refl

abbrev tree_of_category : Category → Gv
tree_of_category category.Zero = gnil
tree_of_category category.One = gnum 0
tree_of_category category.Two = gcons gnil gnil
tree_of_category category.Few = gcons gnil (gnum 0)
tree_of_category category.Many = gcons (gnum 0) gnil
tree_of_category category.Other = gcons (gnum 0) (gnum 0)

abbrev category_of_tree : Gv → Category
category_of_tree gnil = category.Zero
category_of_tree (gnum n) = category.One
category_of_tree (gcons gnil gnil) = category.Two
category_of_tree (gcons gnil b) = category.Few
category_of_tree (gcons a gnil) = category.Many
category_of_tree (gcons a b) = category.Other

pub category_back : (c : Category) → category_of_tree (tree_of_category c) ≡ c
category_back category.Zero = refl
category_back category.One = refl
category_back category.Two = refl
category_back category.Few = refl
category_back category.Many = refl
category_back category.Other = refl

abbrev mutual
  tree_of_part : MsgPart → Gv
  tree_of_part NumberPart = gnil
  tree_of_part (TextPart text) = gcons gnil (tree_of_text text)
  tree_of_part (Placeholder name) = gcons (gnum 0) (tree_of_text name)
  tree_of_part (PluralPart ordinal name offset exact named) =
      gcons (gcons gnil gnil) (gcons (tree_of_bool ordinal) (gcons (tree_of_text name)
      (gcons (gnum offset) (gcons (tree_of_exact exact) (tree_of_named named)))))
  tree_of_part (SelectPart name arms) = gcons (gcons gnil (gnum 0)) (gcons (tree_of_text name) (tree_of_select arms))

  tree_of_parts : MsgParts → Gv
  tree_of_parts no_part = gnil
  tree_of_parts (part p ps) = gcons (tree_of_part p) (tree_of_parts ps)

  tree_of_exact : ExactArms → Gv
  tree_of_exact no_exact_arm = gnil
  tree_of_exact (exact_arm n ps arms) = gcons (tree_of_int n) (gcons (tree_of_parts ps) (tree_of_exact arms))

  tree_of_named : NamedArms → Gv
  tree_of_named no_named_arm = gnil
  tree_of_named (named_arm c ps arms) = gcons (tree_of_category c) (gcons (tree_of_parts ps) (tree_of_named arms))

  tree_of_select : SelectArms → Gv
  tree_of_select no_select_arm = gnil
  tree_of_select (select_arm word ps arms) = gcons (tree_of_text word) (gcons (tree_of_parts ps) (tree_of_select arms))

abbrev mutual
  part_of_tree : Gv → MsgPart
  part_of_tree (gcons gnil b) = TextPart (text_of_tree b)
  part_of_tree (gcons (gnum n) b) = Placeholder (text_of_tree b)
  part_of_tree (gcons (gcons a gnil) (gcons o (gcons n (gcons k (gcons e m))))) =
      PluralPart (bool_of_tree o) (text_of_tree n) (num k) (exact_of_tree e) (named_of_tree m)
  part_of_tree (gcons (gcons a (gnum k)) (gcons n m)) = SelectPart (text_of_tree n) (select_of_tree m)
  part_of_tree _ = NumberPart

  parts_of_tree : Gv → MsgParts
  parts_of_tree gnil = no_part
  parts_of_tree (gnum n) = no_part
  parts_of_tree (gcons a b) = part (part_of_tree a) (parts_of_tree b)

  exact_of_tree : Gv → ExactArms
  exact_of_tree (gcons a (gcons b c)) = exact_arm (int_of_tree a) (parts_of_tree b) (exact_of_tree c)
  exact_of_tree _ = no_exact_arm

  named_of_tree : Gv → NamedArms
  named_of_tree (gcons a (gcons b c)) = named_arm (category_of_tree a) (parts_of_tree b) (named_of_tree c)
  named_of_tree _ = no_named_arm

  select_of_tree : Gv → SelectArms
  select_of_tree (gcons a (gcons b c)) = select_arm (text_of_tree a) (parts_of_tree b) (select_of_tree c)
  select_of_tree _ = no_select_arm

mutual
  pub part_back : (p : MsgPart) → part_of_tree (tree_of_part p) ≡ p
  part_back NumberPart = refl
  part_back (TextPart text) = ap TextPart (text_back text)
  part_back (Placeholder name) = ap Placeholder (text_back name)
  part_back (PluralPart ordinal name offset exact named) =
      λ i. PluralPart (bool_back ordinal i) (text_back name i) offset (exact_back exact i) (named_back named i)
  part_back (SelectPart name arms) = λ i. SelectPart (text_back name i) (select_back arms i)

  pub parts_back : (ps : MsgParts) → parts_of_tree (tree_of_parts ps) ≡ ps
  parts_back no_part = refl
  parts_back (part p ps) = λ i. part (part_back p i) (parts_back ps i)

  pub exact_back : (arms : ExactArms) → exact_of_tree (tree_of_exact arms) ≡ arms
  exact_back no_exact_arm = refl
  exact_back (exact_arm n ps arms) = λ i. exact_arm (int_back n i) (parts_back ps i) (exact_back arms i)

  pub named_back : (arms : NamedArms) → named_of_tree (tree_of_named arms) ≡ arms
  named_back no_named_arm = refl
  named_back (named_arm c ps arms) = λ i. named_arm (category_back c i) (parts_back ps i) (named_back arms i)

  pub select_back : (arms : SelectArms) → select_of_tree (tree_of_select arms) ≡ arms
  select_back no_select_arm = refl
  select_back (select_arm word ps arms) = λ i. select_arm (text_back word i) (parts_back ps i) (select_back arms i)

abbrev pub coded_part : Coded MsgPart
coded_part = record { code = tree_of_part; inj = λ p q e. sym (part_back p) ∙ (ap part_of_tree e ∙ part_back q) }

abbrev pub coded_parts : Coded MsgParts
coded_parts = record { code = tree_of_parts; inj = λ p q e. sym (parts_back p) ∙ (ap parts_of_tree e ∙ parts_back q) }

abbrev pub coded_category : Coded Category
coded_category =
    record { code = tree_of_category; inj = λ p q e. sym (category_back p) ∙ (ap category_of_tree e ∙ category_back q) }

abbrev pub coded_exact : Coded (List (ℤ × MsgParts))
coded_exact = coded_list (coded× coded_ℤ coded_parts)

abbrev pub coded_named : Coded (List (Category × MsgParts))
coded_named = coded_list (coded× coded_category coded_parts)

abbrev pub coded_select : Coded (List (List ℕ × MsgParts))
coded_select = coded_list (coded× (coded_list coded_ℕ) coded_parts)
