-- Lists of open renderings, whose names ascend.
use Rattle.std.proofs.Common.{◌≡◌, ℕ, ◌+◌, ◌<◌, ◌≤◌, ◌⊎◌, inl, inr, Bool, true, false, List, [], ◌∷◌, ◌++◌, Option}
use Rattle.std.proofs.Common.{Some, None, refl, sym, ap, ◌∙◌, subst, arith, ◌==◌}
use Rattle.std.specs.Prelude.{if◌then◌else◌}
use Rattle.std.specs.Option.{option_or}
use Rattle.std.proofs.lemmas.Bool.{cases_lt}
use Rattle.std.proofs.lemmas.Bool.Decides.{nat_tests}
use Rattle.std.proofs.lemmas.Option.{same_Some}
use Rattle.soy_desk.specs.Ascends.{Ascends}
use Rattle.soy_desk.specs.DeskState.{Entry, entry_named, with_entry, without}

-- ---- tests

pub differs_above : (a b : ℕ) → b < a → (a == b) ≡ false
differs_above a b lt = grind (arith, nat_tests)

pub differs_below : (a b : ℕ) → a < b → (a == b) ≡ false
differs_below a b lt = grind (arith, nat_tests)

pub is_itself : (a b : ℕ) → a ≡ b → (a == b) ≡ true
is_itself a b is = grind (arith, nat_tests)

pub is_same : (a b : ℕ) → (a == b) ≡ true → a ≡ b
is_same a b test = grind (arith, nat_tests)

differs_from : (a b : ℕ) → (a ≡ b → ⊥) → (a < b) ⊎ (b ≤ a) → (b < a) ⊎ (a ≤ b) → (a == b) ≡ false
differs_from a b not (inl lt) or = differs_below a b lt
differs_from a b not (inr ge) (inl gt) = differs_above a b gt
differs_from a b not (inr ge) (inr le) = let same : a ≡ b = omega (arith, ge, le) in absurd (not same)

pub differs : (a b : ℕ) → (a ≡ b → ⊥) → (a == b) ≡ false
differs a b not = differs_from a b not (cases_lt a b) (cases_lt b a)

-- ---- the names ascend from a number, and are below another

pub ascends_within : (low : ℕ) (es : List Entry) (high : ℕ) → Ascends low es high → low ≤ high
ascends_within low [] high h = h
ascends_within low (e ∷ es) high h = omega (arith, h.0, ascends_within (e.name + 1) es high h.1)

pub ascends_from : (low lower : ℕ) (es : List Entry) (high : ℕ) → lower ≤ low → Ascends low es high
    → Ascends lower es high
ascends_from low lower [] high le h = omega (arith, le, h)
ascends_from low lower (e ∷ es) high le h = (omega (arith, le, h.0), h.1)

pub below_none : (name low : ℕ) (es : List Entry) (high : ℕ) → name < low → Ascends low es high
    → entry_named name es ≡ None
below_none name low [] high lt h = refl
below_none name low (e ∷ es) high lt h =
    ap (λ (b : Bool). if b then Some e else entry_named name es)
    (differs_above e.name name (omega (arith, lt, h.0)))
    ∙ below_none name (e.name + 1) es high (omega (arith, lt, h.0)) h.1

pub above_none : (name low : ℕ) (es : List Entry) (high : ℕ) → high ≤ name → Ascends low es high
    → entry_named name es ≡ None
above_none name low [] high le h = refl
above_none name low (e ∷ es) high le h =
    ap (λ (b : Bool). if b then Some e else entry_named name es)
    (differs_below e.name name (omega (arith, le, ascends_within (e.name + 1) es high h.1)))
    ∙ above_none name (e.name + 1) es high le h.1

named_below_case : (name : ℕ) (es : List Entry) (high : ℕ) (e : Entry) → entry_named name es ≡ Some e
    → Ascends 0 es high → (name < high) ⊎ (high ≤ name) → name < high
named_below_case name es high e is h (inl lt) = lt
named_below_case name es high e is h (inr le) = let none = above_none name 0 es high le h in cc

pub named_below : (name : ℕ) (es : List Entry) (high : ℕ) (e : Entry) → entry_named name es ≡ Some e
    → Ascends 0 es high → name < high
named_below name es high e is h = named_below_case name es high e is h (cases_lt name high)

-- ---- what stands under a name

named_name_case : (name : ℕ) (x e : Entry) (r : Option Entry) (b : Bool) → (x.name == name) ≡ b
    → (r ≡ Some e → e.name ≡ name) → (if b then Some x else r) ≡ Some e → e.name ≡ name
named_name_case name x e r true test rest is =
    sym (ap (λ (y : Entry). y.name) (same_Some x e is)) ∙ is_same x.name name test
named_name_case name x e r false test rest is = rest is

pub named_name : (name : ℕ) (es : List Entry) (e : Entry) → entry_named name es ≡ Some e → e.name ≡ name
named_name name [] e is = cc
named_name name (x ∷ es) e is =
    named_name_case name x e (entry_named name es) (x.name == name) refl (named_name name es e) is

append_case : (x : Entry) (r s t : Option Entry) (b : Bool) → r ≡ option_or s t
    → (if b then Some x else r) ≡ option_or (if b then Some x else s) t
append_case x r s t true same = refl
append_case x r s t false same = same

pub named_append : (name : ℕ) (es more : List Entry)
    → entry_named name (es ++ more) ≡ option_or (entry_named name es) (entry_named name more)
named_append name [] more = refl
named_append name (x ∷ es) more =
    append_case x (entry_named name (es ++ more)) (entry_named name es) (entry_named name more) (x.name == name)
    (named_append name es more)

pub named_kept : (name : ℕ) (es more : List Entry) (e : Entry) → entry_named name es ≡ Some e
    → entry_named name (es ++ more) ≡ Some e
named_kept name es more e is =
    named_append name es more ∙ ap (λ (o : Option Entry). option_or o (entry_named name more)) is

pub named_new : (name : ℕ) (es : List Entry) (e : Entry) → entry_named name es ≡ None → e.name ≡ name
    → entry_named name (es ++ e ∷ []) ≡ Some e
named_new name es e none is =
    named_append name es (e ∷ [])
    ∙ (ap (λ (o : Option Entry). option_or o (entry_named name (e ∷ []))) none
    ∙ ap (λ (b : Bool). if b then Some e else None) (is_itself e.name name is))

pub named_none : (name : ℕ) (es : List Entry) (e : Entry) → entry_named name es ≡ None → (e.name == name) ≡ false
    → entry_named name (es ++ e ∷ []) ≡ None
named_none name es e none test =
    named_append name es (e ∷ [])
    ∙ (ap (λ (o : Option Entry). option_or o (entry_named name (e ∷ []))) none
    ∙ ap (λ (b : Bool). if b then Some e else None) test)

-- ---- an opening

pub push_ascends : (low : ℕ) (es : List Entry) (high : ℕ) (e : Entry) → e.name ≡ high → Ascends low es high
    → Ascends low (es ++ e ∷ []) (high + 1)
push_ascends low [] high e is h = (omega (arith, is, h), omega (arith, is))
push_ascends low (x ∷ es) high e is h = (h.0, push_ascends (x.name + 1) es high e is h.1)

-- ---- a change

with_ascends_case : (low : ℕ) (e : Entry) (es : List Entry) (high : ℕ) (new : Entry) (b : Bool)
    → (e.name == new.name) ≡ b → Ascends (e.name + 1) (with_entry new es) high → low ≤ e.name
    → Ascends (e.name + 1) es high → Ascends low (if b then new ∷ es else e ∷ with_entry new es) high
with_ascends_case low e es high new true test changed le h =
    let same : e.name ≡ new.name = is_same e.name new.name test in
    (omega (arith, same, le), subst (λ (n : ℕ). Ascends (n + 1) es high) same h)
with_ascends_case low e es high new false test changed le h = (le, changed)

pub with_ascends : (low : ℕ) (es : List Entry) (high : ℕ) (new : Entry) → Ascends low es high
    → Ascends low (with_entry new es) high
with_ascends low [] high new h = h
with_ascends low (e ∷ es) high new h =
    with_ascends_case low e es high new (e.name == new.name) refl (with_ascends (e.name + 1) es high new h.1) h.0 h.1

with_same_case : (e : Entry) (es : List Entry) (new x : Entry) (b : Bool) → (e.name == new.name) ≡ b
    → (entry_named new.name es ≡ Some x → entry_named new.name (with_entry new es) ≡ Some new)
    → (if b then Some e else entry_named new.name es) ≡ Some x
    → entry_named new.name (if b then new ∷ es else e ∷ with_entry new es) ≡ Some new
with_same_case e es new x true test rest is =
    ap (λ (b : Bool). if b then Some new else entry_named new.name es) (is_itself new.name new.name refl)
with_same_case e es new x false test rest is =
    ap (λ (b : Bool). if b then Some e else entry_named new.name (with_entry new es)) test ∙ rest is

pub with_same : (es : List Entry) (new x : Entry) → entry_named new.name es ≡ Some x
    → entry_named new.name (with_entry new es) ≡ Some new
with_same [] new x is = cc
with_same (e ∷ es) new x is = with_same_case e es new x (e.name == new.name) refl (with_same es new x) is

with_other_case : (name : ℕ) (e : Entry) (es : List Entry) (new : Entry) (b : Bool) → (e.name == new.name) ≡ b
    → (new.name == name) ≡ false → entry_named name (with_entry new es) ≡ entry_named name es
    → entry_named name (if b then new ∷ es else e ∷ with_entry new es)
    ≡ (if e.name == name then Some e else entry_named name es)
with_other_case name e es new true test other rest =
    let same : e.name ≡ new.name = is_same e.name new.name test in
    ap (λ (b : Bool). if b then Some new else entry_named name es) other
    ∙ sym (ap (λ (b : Bool). if b then Some e else entry_named name es)
    (ap (λ (n : ℕ). n == name) same ∙ other))
with_other_case name e es new false test other rest =
    ap (λ (r : Option Entry). if e.name == name then Some e else r) rest

pub with_other : (name : ℕ) (es : List Entry) (new : Entry) → (new.name == name) ≡ false
    → entry_named name (with_entry new es) ≡ entry_named name es
with_other name [] new other = refl
with_other name (e ∷ es) new other =
    with_other_case name e es new (e.name == new.name) refl other (with_other name es new other)

-- ---- a close

without_ascends_case : (low : ℕ) (e : Entry) (es : List Entry) (high name : ℕ) (b : Bool)
    → Ascends (e.name + 1) (without name es) high → low ≤ e.name → Ascends (e.name + 1) es high
    → Ascends low (if b then es else e ∷ without name es) high
without_ascends_case low e es high name true less le h = ascends_from (e.name + 1) low es high (omega (arith, le)) h
without_ascends_case low e es high name false less le h = (le, less)

pub without_ascends : (low : ℕ) (es : List Entry) (high name : ℕ) → Ascends low es high
    → Ascends low (without name es) high
without_ascends low [] high name h = h
without_ascends low (e ∷ es) high name h =
    without_ascends_case low e es high name (e.name == name) (without_ascends (e.name + 1) es high name h.1) h.0 h.1

without_same_case : (e : Entry) (es : List Entry) (high name : ℕ) (b : Bool) → (e.name == name) ≡ b
    → Ascends (e.name + 1) es high → entry_named name (without name es) ≡ None
    → entry_named name (if b then es else e ∷ without name es) ≡ None
without_same_case e es high name true test h rest =
    let same : e.name ≡ name = is_same e.name name test in
    below_none name (e.name + 1) es high (omega (arith, same)) h
without_same_case e es high name false test h rest =
    ap (λ (b : Bool). if b then Some e else entry_named name (without name es)) test ∙ rest

pub without_same : (low : ℕ) (es : List Entry) (high name : ℕ) → Ascends low es high
    → entry_named name (without name es) ≡ None
without_same low [] high name h = refl
without_same low (e ∷ es) high name h =
    without_same_case e es high name (e.name == name) refl h.1 (without_same (e.name + 1) es high name h.1)

without_other_case : (name : ℕ) (e : Entry) (es : List Entry) (other : ℕ) (b : Bool) → (e.name == other) ≡ b
    → (other == name) ≡ false → entry_named name (without other es) ≡ entry_named name es
    → entry_named name (if b then es else e ∷ without other es)
    ≡ (if e.name == name then Some e else entry_named name es)
without_other_case name e es other true test apart rest =
    let same : e.name ≡ other = is_same e.name other test in
    sym (ap (λ (b : Bool). if b then Some e else entry_named name es)
    (ap (λ (n : ℕ). n == name) same ∙ apart))
without_other_case name e es other false test apart rest =
    ap (λ (r : Option Entry). if e.name == name then Some e else r) rest

pub without_other : (name : ℕ) (es : List Entry) (other : ℕ) → (other == name) ≡ false
    → entry_named name (without other es) ≡ entry_named name es
without_other name [] other apart = refl
without_other name (e ∷ es) other apart =
    without_other_case name e es other (e.name == other) refl apart (without_other name es other apart)
