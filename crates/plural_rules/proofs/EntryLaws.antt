-- Entries that are read one after another.
use Rattle.std.proofs.Common.{◌≡◌, ℕ, zero, suc, ◌+◌, ◌<◌, ◌≤◌, length, take, List, [], ◌∷◌, ◌++◌, refl, sym, ◌∙◌, inl}
use Rattle.std.proofs.Common.{inr, arith}
use Rattle.std.specs.Prelude.{slice_index_or}
use Rattle.std.proofs.lemmas.List.{take_more, take_all}
use Rattle.plural_rules.specs.declared.category.Category.{Category}
use Rattle.plural_rules.specs.declared.rules.RuleRefusal.{RuleRefusal}
use Rattle.plural_rules.specs.declared.rules.RuleRefusal.TheVariants.{Because, OutOfMemory}
use Rattle.plural_rules.specs.Condition.{Alternatives}
use Rattle.plural_rules.proofs.ReadLaws.{Condition-unique}
use Rattle.plural_rules.specs.AreRulesOf.{AreRulesOf, AreOnlyRulesOf, IsRuleOf}
use Rattle.plural_rules.specs.RefusesEntries.{IsSpelled, RefusesEntry, RefusesEntries}

-- one more entry and its rule
pub AreRulesOf-push : (entries : List (Category × List ℕ)) (rules : List (Category × Alternatives))
    (entry : Category × List ℕ) (rule : Category × Alternatives)
    → AreRulesOf entries rules → IsRuleOf entry rule → AreRulesOf (entries ++ entry ∷ []) (rules ++ rule ∷ [])
AreRulesOf-push [] [] entry rule said is = (is, tt)
AreRulesOf-push [] (r ∷ rs) entry rule said is = absurd said
AreRulesOf-push (e ∷ es) [] entry rule said is = absurd said
AreRulesOf-push (e ∷ es) (r ∷ rs) entry rule said is = (said.0, AreRulesOf-push es rs entry rule said.1 is)

-- an entry is spelled where a rule says what it spells
spelled : (entry : Category × List ℕ) (rule : Category × Alternatives) → IsRuleOf entry rule → IsSpelled entry
spelled entry rule is = (rule.1, is.1)

-- an entry that is refused after entries with their rules
pub RefusesEntries-at : (entries : List (Category × List ℕ)) (i : ℕ) (rules : List (Category × Alternatives))
    (entry : Category × List ℕ) (refusal : RuleRefusal)
    → i < length entries → slice_index_or entries i entry ≡ entry → AreRulesOf (take i entries) rules
    → RefusesEntry entry refusal → RefusesEntries entries refusal
RefusesEntries-at entries i rules entry OutOfMemory within is said refused = tt
RefusesEntries-at [] i rules entry (Because fault) within is said refused = absurd (omega arith)
RefusesEntries-at (e ∷ es) zero rules entry (Because fault) within is said refused = inl (rw is refused)
RefusesEntries-at (e ∷ es) (suc i) [] entry (Because fault) within is said refused = absurd said
RefusesEntries-at (e ∷ es) (suc i) (r ∷ rs) entry (Because fault) within is said refused =
    let below : i < length es = omega (arith, within) in
    inr (spelled e r said.0, RefusesEntries-at es i rs entry (Because fault) below is said.1 refused)

-- the same for the first entries of a list
pub AreRulesOf-taken : (entries : List (Category × List ℕ)) (i : ℕ) (rules : List (Category × Alternatives))
    (entry : Category × List ℕ) (rule : Category × Alternatives)
    → i < length entries → slice_index_or entries i entry ≡ entry → AreRulesOf (take i entries) rules
    → IsRuleOf entry rule → AreRulesOf (take (i + 1) entries) (rules ++ rule ∷ [])
AreRulesOf-taken entries i rules entry rule within is said of =
    rw (take_more entries i entry within, is) (AreRulesOf-push (take i entries) rules entry rule said of)

-- rules that the entries say are the only ones
pub AreRulesOf-AreOnlyRulesOf : (entries : List (Category × List ℕ)) (rules : List (Category × Alternatives))
    → AreRulesOf entries rules → AreOnlyRulesOf entries rules
AreRulesOf-AreOnlyRulesOf [] [] said [] other = refl
AreRulesOf-AreOnlyRulesOf [] [] said (o ∷ os) other = absurd other
AreRulesOf-AreOnlyRulesOf [] (r ∷ rs) said others other = absurd said
AreRulesOf-AreOnlyRulesOf (e ∷ es) [] said others other = absurd said
AreRulesOf-AreOnlyRulesOf (e ∷ es) (r ∷ rs) said [] other = absurd other
AreRulesOf-AreOnlyRulesOf (e ∷ es) (r ∷ rs) said (o ∷ os) other =
    let rest = AreRulesOf-AreOnlyRulesOf es rs said.1 os other.1 in
    let category : o.0 ≡ r.0 = other.0.0 ∙ sym said.0.0 in
    let says = Condition-unique e.0 e.1 o.1 r.1 other.0.1 said.0.1 in
    rw (← category, ← says, ← rest) refl

-- all entries have been taken
pub AreRulesOf-all : (entries : List (Category × List ℕ)) (i : ℕ) (rules : List (Category × Alternatives))
    → length entries ≤ i → AreRulesOf (take i entries) rules → AreRulesOf entries rules
AreRulesOf-all entries i rules past said = rw (take_all i entries past) at said
