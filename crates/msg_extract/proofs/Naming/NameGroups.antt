-- The names that the code finds by groups are those of the definition.
use Rattle.std.proofs.Common.{◌≡◌, ℕ, zero, suc, ◌+◌, not, ◌||◌, Bool, true, false, List, [], ◌∷◌, ◌++◌}
use Rattle.std.proofs.Common.{length, map, Option, Some, None, bytes_eq, slice_get, refl}
use Rattle.std.proofs.Common.{sym, ap, ◌∙◌, arith}
use Rattle.std.specs.Prelude.{if◌then◌else◌, nat_lt}
use Rattle.std.specs.List.{position, position_or_len}
use Rattle.std.specs.Option.{option_and_then, option_map}
use Rattle.std.proofs.lemmas.Bool.Decides.{nat_tests}
use Rattle.soy_base.specs.Among.{is_among}
use Rattle.soy_tree.specs.Types.{Name}
use Rattle.soy_rules.specs.Placeholders.{Content, Use, content_name, contents_after, free_number, has_base}
use Rattle.soy_rules.specs.Placeholders.{is_same_content, name_of, named_contents, numbered, numbered_name}
use Rattle.soy_rules.specs.Placeholders.{with_content}
use Rattle.soy_tree.proofs.SameNames.{same_name}
use Rattle.msg_extract.specs.Catalogue.{with_name}
use Rattle.msg_extract.specs.ContentLaws.{contents_partial}
use Rattle.msg_extract.specs.NameGroups.{AreNames, bases_after, content_names, found_name, free_among, group_names}
use Rattle.msg_extract.specs.NameGroups.{groups_after, name_at, name_in, names_from, with_content_at, with_group}
use Rattle.msg_extract.specs.NameGroups.{with_use}
use Rattle.msg_extract.proofs.Texts.AsciiTexts.{same_swapped}
use Rattle.msg_extract.proofs.JoinedTests.{holds_or}

-- a content in its group

-- the group of a base name; none is like an empty one
abbrev pub group_of : List Name → List (List Content) → Name → List Content
group_of [] groups base = []
group_of (b ∷ bs) [] base = []
group_of (b ∷ bs) (g ∷ gs) base = if bytes_eq base b then g else group_of bs gs base

abbrev put : Name → Content → List Name → List (List Content) → List (List Content)
put b content bases groups =
    with_content_at (position_or_len (bytes_eq b) bases) content (with_group (not (is_among bases b)) groups)

-- behind another base name
put_behind : (b : Name) (content : Content) (y : Name) (ys : List Name) (g : List Content) (gs : List (List Content))
    → bytes_eq b y ≡ false
    → (put b content (y ∷ ys) (g ∷ gs) ≡ g ∷ put b content ys gs) × (with_name (y ∷ ys) b ≡ y ∷ with_name ys b)
put_behind b content y ys g gs e =
    let next : 1 + position_or_len (bytes_eq b) ys ≡ suc (position_or_len (bytes_eq b) ys) = omega arith in
    rw (e, next) (at (is_among ys b))
  where
    at : (t : Bool)
        → (with_content_at (suc (position_or_len (bytes_eq b) ys)) content (with_group (not t) (g ∷ gs))
        ≡ g ∷ with_content_at (position_or_len (bytes_eq b) ys) content (with_group (not t) gs))
        × ((if t then y ∷ ys else (y ∷ ys) ++ b ∷ []) ≡ y ∷ (if t then ys else ys ++ b ∷ []))
    at true = (refl, refl)
    at false = (refl, refl)

-- a text that is the same is so with every other
same_tests : (b y x : Name) → bytes_eq b y ≡ true → bytes_eq b x ≡ bytes_eq x y
same_tests b y x h = ap (λ z. bytes_eq z x) (same_name b y h) ∙ same_swapped y x

put_group : (b : Name) (content : Content) (bases : List Name) (groups : List (List Content)) (x : Name)
    → length groups ≡ length bases
    → group_of (with_name bases b) (put b content bases groups) x
    ≡ (if bytes_eq b x then with_content (group_of bases groups x) content else group_of bases groups x)
put_group b content [] [] x e = rw (same_swapped b x) (at (bytes_eq x b))
  where
    at : (t : Bool) → (if t then content ∷ [] else []) ≡ (if t then content ∷ [] else [])
    at t = refl
put_group b content [] (g ∷ gs) x e = absurd (omega (arith, e))
put_group b content (y ∷ ys) [] x e = absurd (omega (arith, e))
put_group b content (y ∷ ys) (g ∷ gs) x e =
    holds_or _ (bytes_eq b y)
    (λ h. rw (same_tests b y x h) (rw h (here (bytes_eq x y))))
    (λ h.
    ap (λ names. group_of names (put b content (y ∷ ys) (g ∷ gs)) x) (put_behind b content y ys g gs h).1
    ∙ (ap (λ groups. group_of (y ∷ with_name ys b) groups x) (put_behind b content y ys g gs h).0
    ∙ behind (put_group b content ys gs x (omega (arith, e))) h))
  where
    here : (t : Bool) → (if t then with_content g content else group_of ys gs x)
        ≡ (if t then with_content (if t then g else group_of ys gs x) content else (if t then g else group_of ys gs x))
    here true = refl
    here false = refl

    other : (t : Bool) → bytes_eq x y ≡ t → bytes_eq b y ≡ false
        → (if t then g else (if bytes_eq b x then with_content (group_of ys gs x) content else group_of ys gs x))
        ≡ (if bytes_eq b x then with_content (if t then g else group_of ys gs x) content
        else (if t then g else group_of ys gs x))
    other true k h =
        let differ : bytes_eq b x ≡ false = ap (bytes_eq b) (same_name x y k) ∙ h in rw differ refl
    other false k h = refl

    behind : group_of (with_name ys b) (put b content ys gs) x
        ≡ (if bytes_eq b x then with_content (group_of ys gs x) content else group_of ys gs x)
        → bytes_eq b y ≡ false
        → (if bytes_eq x y then g else group_of (with_name ys b) (put b content ys gs) x)
        ≡ (if bytes_eq b x then with_content (if bytes_eq x y then g else group_of ys gs x) content
        else (if bytes_eq x y then g else group_of ys gs x))
    behind rest h = ap (λ group. if bytes_eq x y then g else group) rest ∙ other (bytes_eq x y) refl h

put_length : (b : Name) (content : Content) (bases : List Name) (groups : List (List Content))
    → length groups ≡ length bases → length (put b content bases groups) ≡ length (with_name bases b)
put_length b content [] [] e = refl
put_length b content [] (g ∷ gs) e = absurd (omega (arith, e))
put_length b content (y ∷ ys) [] e = absurd (omega (arith, e))
put_length b content (y ∷ ys) (g ∷ gs) e =
    holds_or _ (bytes_eq b y)
    (λ h. rw h e)
    (λ h.
    ap length (put_behind b content y ys g gs h).0
    ∙ (ap (λ n. suc n) (put_length b content ys gs (omega (arith, e)))
    ∙ ap length (sym (put_behind b content y ys g gs h).1)))

-- the groups after uses have the contents of these
length_after : (bases : List Name) (groups : List (List Content)) (uses : List Use) → length groups ≡ length bases
    → length (groups_after bases groups uses) ≡ length (bases_after bases uses)
length_after bases groups [] e = e
length_after bases groups (u ∷ uses) e =
    length_after (with_name bases u.base) (with_use bases groups u.base u.content) uses
    (put_length u.base u.content bases groups e)

group_after : (bases : List Name) (groups : List (List Content)) (uses : List Use) (x : Name)
    → length groups ≡ length bases
    → group_of (bases_after bases uses) (groups_after bases groups uses) x
    ≡ contents_after (group_of bases groups x) x uses
group_after bases groups [] x e = refl
group_after bases groups (u ∷ uses) x e =
    group_after (with_name bases u.base) (with_use bases groups u.base u.content) uses x
    (put_length u.base u.content bases groups e)
    ∙ ap (λ group. contents_after group x uses) (put_group u.base u.content bases groups x e)

-- base names

among_with : (bases : List Name) (b x : Name) → is_among (with_name bases b) x ≡ (is_among bases x || bytes_eq x b)
among_with bases b x = at (is_among bases b) refl
  where
    first : (t : Bool) → (t || false) ≡ t
    first true = refl
    first false = refl

    joined : (s t u : Bool) → (s || (t || u)) ≡ ((s || t) || u)
    joined true t u = refl
    joined false t u = refl

    last : (bs : List Name) → is_among (bs ++ b ∷ []) x ≡ (is_among bs x || bytes_eq x b)
    last [] = first (bytes_eq x b)
    last (y ∷ bs) = ap (λ t. bytes_eq x y || t) (last bs) ∙ joined (bytes_eq x y) (is_among bs x) (bytes_eq x b)

    there : is_among bases b ≡ true → is_among bases x ≡ (is_among bases x || bytes_eq x b)
    there h = with_same (bytes_eq x b) refl
      where
        with_same : (t : Bool) → bytes_eq x b ≡ t → is_among bases x ≡ (is_among bases x || t)
        with_same true k =
            let k' : is_among bases x ≡ true = ap (is_among bases) (same_name x b k) ∙ h in rw k' refl
        with_same false k = either (is_among bases x)
          where
            either : (s : Bool) → s ≡ (s || false)
            either true = refl
            either false = refl

    at : (t : Bool) → is_among bases b ≡ t
        → is_among (if t then bases else bases ++ b ∷ []) x ≡ (is_among bases x || bytes_eq x b)
    at true h = there h
    at false h = last bases

among_bases : (bases : List Name) (uses : List Use) (x : Name)
    → is_among (bases_after bases uses) x ≡ (is_among bases x || has_base x uses)
among_bases bases [] x = either (is_among bases x)
  where
    either : (s : Bool) → s ≡ (s || false)
    either true = refl
    either false = refl
among_bases bases (u ∷ uses) x =
    among_bases (with_name bases u.base) uses x
    ∙ (ap (λ t. t || has_base x uses) (among_with bases u.base x)
    ∙ (ap (λ t. (is_among bases x || t) || has_base x uses) (same_swapped x u.base)
    ∙ joined (is_among bases x) (bytes_eq u.base x) (has_base x uses)))
  where
    joined : (s t u : Bool) → ((s || t) || u) ≡ (s || (t || u))
    joined true t u = refl
    joined false t u = refl

-- the names that the code makes are those of the definition

abbrev names_in : List (Content × Name) → List Name
names_in rows = map (λ row. row.1) rows

abbrev named_groups : List Use → List Name → List (List Content) → List (List Name)
named_groups uses [] groups = []
named_groups uses (b ∷ bs) [] = []
named_groups uses (b ∷ bs) (g ∷ gs) = names_in (named_contents b uses g) ∷ named_groups uses bs gs

module _ (uses : List Use) (bases : List Name) (are : bases ≡ bases_after [] uses) where
  among_is : (name : Name) → is_among bases name ≡ has_base name uses
  among_is name = ap (λ bs. is_among bs name) are ∙ among_bases [] uses name

  free_is : (tries : ℕ) (base : Name) (n : ℕ) → free_among tries bases base n ≡ free_number tries base n uses
  free_is zero base n = refl
  free_is (suc tries) base n =
      ap (λ t. if t then free_among tries bases base (n + 1) else n) (among_is (numbered_name base n))
      ∙ ap (λ k. if has_base (numbered_name base n) uses then k else n) (free_is tries base (n + 1))

  from_is : (base : Name) (n : ℕ) (contents : List Content)
      → names_from (length uses) bases base n contents ≡ names_in (numbered base uses n contents)
  from_is base n [] = refl
  from_is base n (c ∷ contents) =
      ap (λ k. numbered_name base k ∷ names_from (length uses) bases base (k + 1) contents)
      (free_is (length uses) base n)
      ∙ ap (λ names. numbered_name base (free_number (length uses) base n uses) ∷ names)
      (from_is base (free_number (length uses) base n uses + 1) contents)

  content_names_are : (base : Name) (contents : List Content)
      → content_names (length uses) bases base contents ≡ names_in (named_contents base uses contents)
  content_names_are base [] = refl
  content_names_are base (c ∷ []) = refl
  content_names_are base (c ∷ (d ∷ contents)) = from_is base 1 (c ∷ (d ∷ contents))

  group_names_are : (bs : List Name) (groups : List (List Content))
      → group_names (length uses) bases bs groups ≡ named_groups uses bs groups
  group_names_are [] groups = refl
  group_names_are (b ∷ bs) [] = refl
  group_names_are (b ∷ bs) (g ∷ gs) =
      ap (λ names. names ∷ group_names (length uses) bases bs gs) (content_names_are b g)
      ∙ ap (λ rest. names_in (named_contents b uses g) ∷ rest) (group_names_are bs gs)

-- names by number

numbered_contents : (base : Name) (uses : List Use) (n : ℕ) (contents : List Content)
    → map (λ row. row.0) (numbered base uses n contents) ≡ contents
numbered_contents base uses n [] = refl
numbered_contents base uses n (c ∷ contents) =
    ap (λ cs. c ∷ cs) (numbered_contents base uses (free_number (length uses) base n uses + 1) contents)

named_are : (base : Name) (uses : List Use) (contents : List Content)
    → map (λ row. row.0) (named_contents base uses contents) ≡ contents
named_are base uses [] = refl
named_are base uses (c ∷ []) = refl
named_are base uses (c ∷ (d ∷ contents)) = numbered_contents base uses 1 (c ∷ (d ∷ contents))

-- the first place behind another item

pub position_cons : {X : Type 0} (p : X → Bool) (x : X) (xs : List X)
    → position p (x ∷ xs) ≡ (if p x then Some 0 else option_map (λ n. suc n) (position p xs))
position_cons p x xs = at (p x) (position_or_len p xs) (length xs)
  where
    at : (t : Bool) (n len : ℕ)
        → (if nat_lt (if not t then 1 + n else 0) (suc len) then Some (if not t then 1 + n else 0) else None)
        ≡ (if t then Some 0 else option_map (λ n. suc n) (if nat_lt n len then Some n else None))
    at true n len = let h : nat_lt 0 (suc len) ≡ true = grind (arith, nat_tests) in rw h refl
    at false n len =
        let h : nat_lt (1 + n) (suc len) ≡ nat_lt n len = grind (arith, nat_tests) in
        let next : 1 + n ≡ suc n = omega arith in
        rw h (ap (λ k. if nat_lt n len then Some k else None) next ∙ within (nat_lt n len))
      where
        within : (t : Bool) → (if t then Some (suc n) else None) ≡ option_map (λ n. suc n) (if t then Some n else None)
        within true = refl
        within false = refl

pub then_suc : {X : Type 0} (f : ℕ → Option X) (found : Option ℕ)
    → option_and_then f (option_map (λ n. suc n) found) ≡ option_and_then (λ n. f (suc n)) found
then_suc f None = refl
then_suc f (Some n) = refl

-- a name in a group

abbrev or_base : Name → Option Name → Name
or_base base None = base
or_base base (Some name) = name

named_in : (content : Content) (base : Name) (rows : List (Content × Name))
    → content_name content base rows
    ≡ or_base base (name_in (map (λ row. row.0) rows) (map (λ row. row.1) rows) content)
named_in content base [] = refl
named_in content base (row ∷ rows) =
    ap (λ t. if t then row.1 else content_name content base rows) (contents_partial.symm row.0 content)
    ∙ (at (named_in content base rows) (is_same_content content row.0)
    ∙ ap (λ found. or_base base (option_and_then names found))
    (sym (position_cons (is_same_content content) row.0 (map (λ row. row.0) rows))))
  where
    names : ℕ → Option Name
    names n = slice_get (row.1 ∷ map (λ row. row.1) rows) n

    at : content_name content base rows
        ≡ or_base base (name_in (map (λ row. row.0) rows) (map (λ row. row.1) rows) content)
        → (t : Bool) → (if t then row.1 else content_name content base rows)
        ≡ or_base base (option_and_then names (if t then Some 0 else option_map (λ n. suc n)
        (position (is_same_content content) (map (λ row. row.0) rows))))
    at rest true = refl
    at rest false =
        rest
        ∙ ap (or_base base) (sym (then_suc names (position (is_same_content content) (map (λ row. row.0) rows))))

-- a group among others

abbrev named : Name → List Use → List Content → Content → Option Name
named base uses group content = name_in group (names_in (named_contents base uses group)) content

found_in : (uses : List Use) (base : Name) (content : Content) (bases : List Name) (groups : List (List Content))
    → length groups ≡ length bases
    → found_name bases groups (named_groups uses bases groups) base content
    ≡ named base uses (group_of bases groups base) content
found_in uses base content [] groups e = refl
found_in uses base content (b ∷ bs) [] e = absurd (omega (arith, e))
found_in uses base content (b ∷ bs) (g ∷ gs) e =
    ap (option_and_then at) (position_cons (bytes_eq base) b bs)
    ∙ holds_or _ (bytes_eq base b) here (behind (found_in uses base content bs gs (omega (arith, e))))
  where
    names : List (List Name)
    names = named_groups uses bs gs

    at : ℕ → Option Name
    at n = name_at (g ∷ gs) (names_in (named_contents b uses g) ∷ names) content n

    from : Bool → Option Name
    from t = option_and_then at (if t then Some 0 else option_map (λ n. suc n) (position (bytes_eq base) bs))

    here : bytes_eq base b ≡ true
        → from (bytes_eq base b) ≡ named base uses (if bytes_eq base b then g else group_of bs gs base) content
    here h = rw h (ap (λ x. named x uses g content) (sym (same_name base b h)))

    behind : found_name bs gs names base content ≡ named base uses (group_of bs gs base) content
        → bytes_eq base b ≡ false
        → from (bytes_eq base b) ≡ named base uses (if bytes_eq base b then g else group_of bs gs base) content
    behind rest h = rw h (then_suc at (position (bytes_eq base) bs) ∙ rest)

-- the contents of a base name are those of its uses
pub contents_are : (uses : List Use) (bases : List Name) (groups : List (List Content)) (names : List (List Name))
    (base : Name) → AreNames uses bases groups names → group_of bases groups base ≡ contents_after [] base uses
contents_are uses bases groups names base are =
    ap (λ bs. group_of bs groups base) are.bases_are
    ∙ (ap (λ gs. group_of (bases_after [] uses) gs base) are.groups_are ∙ group_after [] [] uses base refl)

name_is : (uses : List Use) (bases : List Name) (groups : List (List Content)) (names : List (List Name)) (base : Name)
    (content : Content) → AreNames uses bases groups names
    → or_base base (found_name bases groups names base content) ≡ name_of uses base content
name_is uses bases groups names base content are =
    ap (λ found. or_base base (found_name bases groups found base content))
    (are.names_are ∙ group_names_are uses bases are.bases_are bases groups)
    ∙ (ap (or_base base) (found_in uses base content bases groups as_many)
    ∙ (ap (λ group. or_base base (named base uses group content)) (contents_are uses bases groups names base are)
    ∙ (ap (λ group. or_base base (name_in group (names_in rows) content))
    (sym (named_are base uses (contents_after [] base uses)))
    ∙ sym (named_in content base rows))))
  where
    rows : List (Content × Name)
    rows = named_contents base uses (contents_after [] base uses)

    as_many : length groups ≡ length bases
    as_many = ap length are.groups_are ∙ (length_after [] [] uses refl ∙ ap length (sym are.bases_are))

-- a name that is found
pub name_is_found : (uses : List Use) (bases : List Name) (groups : List (List Content)) (names : List (List Name))
    (base : Name) (content : Content) (name : Name) → AreNames uses bases groups names
    → Some name ≡ found_name bases groups names base content → name ≡ name_of uses base content
name_is_found uses bases groups names base content name are e =
    ap (or_base base) e ∙ name_is uses bases groups names base content are

-- one that isn't found is the base name
pub name_is_base : (uses : List Use) (bases : List Name) (groups : List (List Content)) (names : List (List Name))
    (base : Name) (content : Content) → AreNames uses bases groups names
    → None ≡ found_name bases groups names base content → base ≡ name_of uses base content
name_is_base uses bases groups names base content are e =
    ap (or_base base) e ∙ name_is uses bases groups names base content are
