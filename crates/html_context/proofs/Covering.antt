-- Plans that cover states, part by part.
use Rattle.std.proofs.Common.{◌≡◌, ℕ, zero, suc, ◌+◌, ◌≤◌, ◌<◌, Bool, true, false, List, [], ◌∷◌, ◌++◌, inl, inr}
use Rattle.std.proofs.Common.{Result, Ok, length, map, drop, get_or, refl, sym, ap, ◌∙◌, subst, arith}
use Rattle.std.proofs.Common.{le-ltb, drop-cons}
use Rattle.std.proofs.lemmas.Bool.{eqb-false}
use Rattle.std.proofs.lemmas.Bool.Decides.{nat_tests}
use Rattle.std.proofs.lemmas.List.{drop_all}
use Rattle.std.specs.Prelude.{nat_lt, ◌==◌, if◌then◌else◌}
use Rattle.soy_base.proofs.Results.{ok_same}
use Rattle.soy_base.specs.declared.kind.Kind.{Kind}
use Rattle.soy_base.specs.declared.place.Place.{Place}
use Rattle.soy_base.specs.declared.place.Placing.TheVariants.{Takes}
use Rattle.soy_base.specs.declared.place.ValueClass.{ValueClass}
use Rattle.html_state.specs.declared.row.State.{State}
use Rattle.soy_rules.specs.Faults.{followed_by}
use Rattle.soy_pieces.specs.Site.{Site}
use Rattle.soy_meaning.specs.Walks.PageMachine.{page_machine}
use Rattle.soy_meaning.specs.Paths.PathParts.{PathLeads}
use Rattle.soy_meaning.specs.Paths.Plan.{Frame, Hole, Loop, Nothing, Plan, StaticText, arms_meet, in_turn}
use Rattle.soy_meaning.specs.Paths.PlanOfParts.{text_plan}
use Rattle.soy_meaning.specs.Walks.States.{HasNoRepeats, IsMember, has_state, joined_states}
use Rattle.soy_meaning.specs.Walks.Walk.{WalkFault, Walked, after_turn, all_may_end, frame_end, turns, walk}
use Rattle.soy_meaning.specs.Walks.Walk.{walked, within_limit}
use Rattle.soy_meaning.proofs.Members.{distinct_join, has_mem, join_new, join_old, join_same, length_join, mem_join}
use Rattle.soy_meaning.proofs.Members.{pigeons}
use Rattle.soy_meaning.proofs.Runs.Joined.{hole_reaches, static_reaches}
use Rattle.soy_meaning.proofs.Walks.AddsPlaces.{AddsPlaces, adds_places, places_mono}
use Rattle.soy_meaning.proofs.Walks.Complete.{complete}
use Rattle.soy_meaning.proofs.Walks.HolePlaces.{HolePlaces}
use Rattle.soy_meaning.proofs.Walks.Moves.{followed_is}
use Rattle.soy_meaning.proofs.Walks.PageStates.{page_compares}
use Rattle.soy_meaning.proofs.Walks.Sound.{Sound, good_mono, post_mono, sound}
use Rattle.html_context.specs.Covers.{Covers, PassedBy, SomeOf, Within}
use Rattle.html_context.specs.JoinedArms.{joined_arms}
use Rattle.html_context.proofs.Arms.{list_meets}
use Rattle.html_context.proofs.PlacesApart.{all_behind, apart_from_none}

-- ---- lists

next_is : (i : ℕ) → suc i ≡ i + 1
next_is i = omega arith

some_member : (xs : List State) → 0 < length xs → (s : State) × IsMember s xs
some_member [] h = let no : ⊥ = omega (arith, h) in absurd no
some_member (x ∷ xs) h = (x, inl refl)

pub isnt_empty : (n : ℕ) → (n == 0) ≡ false → 0 < n
isnt_empty n e = grind (arith, nat_tests)

has_some : (s : State) (xs : List State) → IsMember s xs → 0 < length xs
has_some s [] h = absurd h
has_some s (x ∷ xs) h = omega arith

small : (all some : List State) → SomeOf all some → length some ≤ length all
small all some is = pigeons some all is.apart is.within

wider : (all more some : List State) → ((s : State) → IsMember s all → IsMember s more) → SomeOf all some
    → SomeOf more some
wider all more some inside is = record { apart = is.apart; within = λ s h. inside s (is.within s h); any = is.any }

pub within_itself : (xs : List State) → Within xs xs
within_itself xs = record { each = λ s h. h }

pub within_join : (xs ys zs : List State) → Within xs ys → Within xs (joined_states page_machine ys zs)
within_join xs ys zs is = record { each = λ s h. join_old page_machine page_compares s ys zs (is.each s h) }

pub within_grown : (xs ys zs all : List State) → Within xs ys → all ≡ joined_states page_machine ys zs → Within xs all
within_grown xs ys zs all is e = subst (λ (l : List State). Within xs l) (sym e) (within_join xs ys zs is)

pub within_none : (i : ℕ) (xs ys : List State) → length xs ≤ i → Within (drop i xs) ys
within_none i xs ys past =
    subst (λ (l : List State). Within l ys) (sym (drop_all i xs past)) (record { each = λ s h. absurd h })

-- one more that is there
pub within_step : (i : ℕ) (xs ys : List State) (x : State) → i < length xs → x ≡ get_or xs i x
    → has_state page_machine x ys ≡ true → Within (drop (i + 1) xs) ys → Within (drop i xs) ys
within_step i xs ys x within is has later =
    let rest : Within (drop (suc i) xs) ys = subst (λ k. Within (drop k xs) ys) (sym (next_is i)) later in
    subst (λ (l : List State). Within l ys) (sym (drop-cons xs i x within)) (record {
      each = λ s h. elim h [
        | inl e ↦ subst (λ u. IsMember u ys) (sym (e ∙ sym is)) (has_mem page_machine page_compares x ys has)
        | inr k ↦ rest.each s k
      ];
    })

-- ---- of fewer states, to more, behind other places

pub fewer : (p : Plan) (before all after : List State) (old new : List Place) → Within before all
    → Covers p all old after new → Covers p before old after new
fewer p before all after old new inside c = record { leads = λ xs is. c.leads xs (wider before all xs inside.each is) }

pub to_more : (p : Plan) (before after more : List State) (old new : List Place) → Within after more
    → Covers p before old after new → Covers p before old more new
to_more p before after more old new inside c = record {
  leads = λ xs is. (let r : (ys : List State) × SomeOf after ys × (walk page_machine p (walked xs old)
      ≡ Ok (walked ys new)) = c.leads xs is in (r.0, wider after more r.0 inside.each r.1, r.2));
}

pub behind_old : (p : Plan) (before after : List State) (old new : List Place) → Covers p before [] after new
    → Covers p before old after (old ++ new)
behind_old p before after old new c = record {
  leads = λ xs is. (let r : (ys : List State) × SomeOf after ys × (walk page_machine p (walked xs [])
      ≡ Ok (walked ys new)) = c.leads xs is in
      (r.0, r.1, apart_from_none page_machine p xs old ∙ ap (λ z. all_behind old z) r.2));
}

-- ---- nothing, and one after another

pub nothing_covers : (before : List State) (places : List Place) → Covers Nothing before places before places
nothing_covers before places = record { leads = λ xs is. (xs, is, refl) }

-- the walk of the one from some states is that of the other from some of those
pub record Reaches (p : Plan) (before : List State) (old : List Place) (q : Plan) (now : List State)
    (places : List Place) : Type 0 where
  pub leads : (xs : List State) → SomeOf before xs → (ys : List State) × SomeOf now ys
      × (walk page_machine q (walked ys places) ≡ walk page_machine p (walked xs old))

pub reaches_itself : (p : Plan) (before : List State) (old : List Place) → Reaches p before old p before old
reaches_itself p before old = record { leads = λ xs is. (xs, is, refl) }

module _ (f : ℕ → Plan) (ns : List ℕ) (before : List State) (old : List Place) where
  turn_after : (i : ℕ) (now after : List State) (places new : List Place) → i < length ns
      → Reaches (in_turn (map f ns)) before old (in_turn (map f (drop i ns))) now places
      → Covers (f (get_or ns i 0)) now places after new
      → Reaches (in_turn (map f ns)) before old (in_turn (map f (drop (suc i) ns))) after new
  turn_after i now after places new within is c = record {
    leads = λ xs some. (
        let r : (ys : List State) × SomeOf now ys
        × (walk page_machine (in_turn (map f (drop i ns))) (walked ys places)
        ≡ walk page_machine (in_turn (map f ns)) (walked xs old)) = is.leads xs some in
        let z : (ys : List State) × SomeOf after ys × (walk page_machine (f (get_or ns i 0)) (walked r.0 places)
        ≡ Ok (walked ys new)) = c.leads r.0 r.1 in
        let one : walk page_machine (in_turn (map f (drop i ns))) (walked r.0 places)
        ≡ walk page_machine (in_turn (map f (drop (suc i) ns))) (walked z.0 new) =
        ap (λ l. walk page_machine (in_turn (map f l)) (walked r.0 places)) (drop-cons ns i 0 within)
        ∙ followed_is (walk page_machine (f (get_or ns i 0)) (walked r.0 places))
        (λ v. walk page_machine (in_turn (map f (drop (suc i) ns))) v) (walked z.0 new)
        (walk page_machine (in_turn (map f (drop (suc i) ns))) (walked z.0 new)) z.2 refl in
        (z.0, z.1, sym one ∙ r.2));
  }

  pub turn_more : (i : ℕ) (now after : List State) (places new : List Place) → i < length ns
      → Reaches (in_turn (map f ns)) before old (in_turn (map f (drop i ns))) now places
      → Covers (f (get_or ns i 0)) now places after new
      → Reaches (in_turn (map f ns)) before old (in_turn (map f (drop (i + 1) ns))) after new
  turn_more i now after places new within is c =
      subst (λ k. Reaches (in_turn (map f ns)) before old (in_turn (map f (drop k ns))) after new) (next_is i)
      (turn_after i now after places new within is c)

  pub turn_ends : (i : ℕ) (now : List State) (places : List Place) → length ns ≤ i
      → Reaches (in_turn (map f ns)) before old (in_turn (map f (drop i ns))) now places
      → Covers (in_turn (map f ns)) before old now places
  turn_ends i now places past is = record {
    leads = λ xs some. (
        let r : (ys : List State) × SomeOf now ys
        × (walk page_machine (in_turn (map f (drop i ns))) (walked ys places)
        ≡ walk page_machine (in_turn (map f ns)) (walked xs old)) = is.leads xs some in (
          r.0,
          r.1,
          sym r.2
              ∙ ap (λ l. walk page_machine (in_turn (map f l)) (walked r.0 places)) (drop_all i ns past),
        ));
  }

-- ---- what steps each state by itself

-- what is walked from all states covers them, where each of some leads on and the places are the same
by_walk : (p : Plan) (before after : List State) (old new : List Place)
    → walk page_machine p (walked before old) ≡ Ok (walked after new)
    → ((s : State) → IsMember s before → (t : State) × PathLeads page_machine p s t)
    → ((xs : List State) (a b : List Place) → 0 < length xs → HolePlaces page_machine p (λ s. IsMember s xs) a
    → HolePlaces page_machine p (λ s. IsMember s xs) b → a ≡ b)
    → Covers p before old after new
by_walk p before after old new h onward same = record {
  leads = λ xs is. (
      let all : Sound page_machine p before after =
      sound page_machine page_compares p (walked before old) (walked after new) h in
      let r : (v : Walked State) × (walk page_machine p (walked xs old) ≡ Ok v) =
      complete page_machine page_compares p (walked xs old) is.apart
      (good_mono page_machine p (λ s. IsMember s xs) (λ s. IsMember s before) is.within all.good) in
      let some : Sound page_machine p xs r.0.states =
      sound page_machine page_compares p (walked xs old) r.0 r.1 in
      let x : (s : State) × IsMember s xs = some_member xs is.any in
      let y : (t : State) × PathLeads page_machine p x.0 t = onward x.0 (is.within x.0 x.1) in
      let a : AddsPlaces page_machine p xs old r.0.places =
      adds_places page_machine page_compares p (walked xs old) r.0 r.1 in
      let b : AddsPlaces page_machine p before old new =
      adds_places page_machine page_compares p (walked before old) (walked after new) h in
      let e : a.more ≡ b.more = same xs a.more b.more is.any a.of_holes
      (places_mono page_machine p (λ s. IsMember s xs) (λ s. IsMember s before) is.within b.more b.of_holes) in
      let places : r.0.places ≡ new = a.is ∙ (ap (λ l. old ++ l) e ∙ sym b.is) in (
        r.0.states,
        record {
          apart = some.distinct is.apart;
          within = λ t k. all.to t (post_mono page_machine p (λ s. IsMember s xs) (λ s. IsMember s before) is.within t
              (some.from t k));
          any = has_some y.0 r.0.states (some.to y.0 (record { from = x.0; before = x.1; path_leads = y.1 }));
        },
        r.1 ∙ ap (λ l. Ok (walked r.0.states l)) places,
      ));
}

pub static_covers : (at : Site) (text : List ℕ) (before after : List State) (old new : List Place)
    → walk page_machine (StaticText at text) (walked before old) ≡ Ok (walked after new)
    → Covers (StaticText at text) before old after new
static_covers at text before after old new h =
    let all : Sound page_machine (StaticText at text) before after =
    sound page_machine page_compares (StaticText at text) (walked before old) (walked after new) h in
    by_walk (StaticText at text) before after old new h
    (λ s k. ((all.good s k).0, static_reaches page_machine at text s (all.good s k).0 (all.good s k).1))
    (λ xs a b any j k. j ∙ sym k)

same_walked : (before after : List State) (old new : List Place)
    → walk page_machine Nothing (walked before old) ≡ Ok (walked after new) → Covers Nothing before old after new
same_walked before after old new h =
    let e : walked before old ≡ walked after new = ok_same (walked before old) (walked after new) h in
    subst (λ (z : Walked State). Covers Nothing before old z.states z.places) e (nothing_covers before old)

pub text_covers : (at : Site) (text : List ℕ) (before after : List State) (old new : List Place)
    → walk page_machine (text_plan at text) (walked before old) ≡ Ok (walked after new)
    → Covers (text_plan at text) before old after new
text_covers at [] before after old new h = same_walked before after old new h
text_covers at (c ∷ cs) before after old new h = static_covers at (c ∷ cs) before after old new h

takes_one : (a b : Place) → Takes a ≡ Takes b → a ≡ b
takes_one a b h = cc

pub hole_covers : (at : Site) (classes : List ValueClass) (before after : List State) (old new : List Place)
    → walk page_machine (Hole at classes) (walked before old) ≡ Ok (walked after new)
    → Covers (Hole at classes) before old after new
hole_covers at classes before after old new h =
    by_walk (Hole at classes) before after old new h
    (λ s k. (page_machine.value s, hole_reaches page_machine at classes s))
    (λ xs a b any j k. (
    let x : (s : State) × IsMember s xs = some_member xs any in
    let e : j.0 ≡ k.0 = takes_one j.0 k.0 (sym (j.2 x.0 x.1) ∙ k.2 x.0 x.1) in
    j.1 ∙ (ap (λ d. d ∷ []) e ∙ sym k.1)))

-- ---- arms

-- what some arms lead to
pub record PartOf (joined some : List State) : Type 0 where
  pub apart : HasNoRepeats some
  pub within : (s : State) → IsMember s some → IsMember s joined
  pub any : 0 < length joined → 0 < length some

within_is : (at : Site) (w : Walked State) → length w.states ≤ 16 → within_limit page_machine at w ≡ Ok w
within_is at w h = let e : nat_lt 16 (length w.states) ≡ false = le-ltb 16 (length w.states) h in rw e

module _ (at : Site) (f : ℕ → Plan) (ns : List ℕ) (before : List State) (old : List Place) where
  pub record ArmsReach (i : ℕ) (joined : List State) (places : List Place) : Type 0 where
    pub few : length joined ≤ 16
    pub leads : (xs : List State) → SomeOf before xs → (js : List State) × PartOf joined js
        × (joined_arms xs (walked js places) (map f (drop i ns)) ≡ joined_arms xs (walked [] old) (map f ns))

  pub arms_begin : ArmsReach 0 [] old
  arms_begin = record {
    few = omega arith;
    leads = λ xs is. ([], record { apart = tt; within = λ s h. h; any = λ h. h }, refl);
  }

  arms_after : (i : ℕ) (joined after more : List State) (places new : List Place) → i < length ns
      → ArmsReach i joined places → Covers (f (get_or ns i 0)) before places after new
      → more ≡ joined_states page_machine joined after → length more ≤ 16 → ArmsReach (suc i) more new
  arms_after i joined after more places new within is c e few = record {
    few = few;
    leads = λ xs some. (
        let r : (js : List State) × PartOf joined js
        × (joined_arms xs (walked js places) (map f (drop i ns)) ≡ joined_arms xs (walked [] old) (map f ns)) =
        is.leads xs some in
        let z : (us : List State) × SomeOf after us
        × (walk page_machine (f (get_or ns i 0)) (walked xs places) ≡ Ok (walked us new)) = c.leads xs some in
        let js = joined_states page_machine r.0 z.0 in
        let u : (s : State) × IsMember s z.0 = some_member z.0 z.1.any in (
          js,
          subst (λ (l : List State). PartOf l js) (sym e) (record {
            apart = distinct_join page_machine page_compares r.0 z.0 r.1.apart;
            within = λ s h. elim (mem_join page_machine page_compares s r.0 z.0 h) [
              | inl k ↦ join_old page_machine page_compares s joined after (r.1.within s k)
              | inr k ↦ join_new page_machine page_compares s joined after (z.1.within s k)
            ];
            any = λ h. has_some u.0 js (join_new page_machine page_compares u.0 r.0 z.0 u.1);
          }),
          (let one : joined_arms xs (walked r.0 places) (map f (drop i ns))
              ≡ joined_arms xs (walked js new) (map f (drop (suc i) ns)) =
              ap (λ l. joined_arms xs (walked r.0 places) (map f l)) (drop-cons ns i 0 within)
              ∙ ap (λ q. followed_by (followed_by q (λ v. Ok (walked (joined_states page_machine r.0 v.states) v.places)))
              (λ v. joined_arms xs v (map f (drop (suc i) ns)))) z.2 in
              sym one ∙ r.2),
        ));
  }

  pub arms_more : (i : ℕ) (joined after more : List State) (places new : List Place) → i < length ns
      → ArmsReach i joined places → Covers (f (get_or ns i 0)) before places after new
      → more ≡ joined_states page_machine joined after → length more ≤ 16 → ArmsReach (i + 1) more new
  arms_more i joined after more places new within is c e few =
      subst (λ k. ArmsReach k more new) (next_is i) (arms_after i joined after more places new within is c e few)

  pub arms_end : (i : ℕ) (joined : List State) (places : List Place) → length ns ≤ i → ArmsReach i joined places
      → 0 < length joined → Covers (arms_meet at (map f ns)) before old joined places
  arms_end i joined places past is any = record {
    leads = λ xs some. (
        let r : (js : List State) × PartOf joined js
        × (joined_arms xs (walked js places) (map f (drop i ns)) ≡ joined_arms xs (walked [] old) (map f ns)) =
        is.leads xs some in
        let part : SomeOf joined r.0 =
        record { apart = r.1.apart; within = r.1.within; any = r.1.any any } in
        let few : length r.0 ≤ 16 = omega (arith, small joined r.0 part, is.few) in
        let all : joined_arms xs (walked [] old) (map f ns) ≡ Ok (walked r.0 places) =
        sym r.2 ∙ ap (λ l. joined_arms xs (walked r.0 places) (map f l)) (drop_all i ns past) in (
          r.0,
          part,
          list_meets at (map f ns) xs old
              ∙ (ap (λ q. followed_by q (λ v. within_limit page_machine at v)) all
              ∙ within_is at (walked r.0 places) few),
        ));
  }

-- ---- loops

module _ (at : Site) (p : Plan) (head : List State) (old new : List Place) (few : length head ≤ 16)
    (c : Covers p head old head new) where
  turned : (b : Bool) (again : Walked State → Result (Walked State) WalkFault) (xs us more : List State)
      → SomeOf head xs → length more ≤ 16 → (length more == length xs) ≡ b
      → (b ≡ false → (zs : List State) × SomeOf head zs × (again (walked more old) ≡ Ok (walked zs new)))
      → (zs : List State) × SomeOf head zs
      × (after_turn page_machine again at (walked xs old) (walked us new) more ≡ Ok (walked zs new))
  turned true again xs us more is small e f =
      let a : nat_lt 16 (length more) ≡ false = le-ltb 16 (length more) small in (xs, is, rw (a, e))
  turned false again xs us more is small e f =
      let a : nat_lt 16 (length more) ≡ false = le-ltb 16 (length more) small in
      let r : (zs : List State) × SomeOf head zs × (again (walked more old) ≡ Ok (walked zs new)) = f refl in
      (r.0, r.1, rw (a, e) r.2)

  further : (a b n : ℕ) → (a ≡ b → ⊥) → b ≤ a → 17 ≤ suc n + b → 17 ≤ n + a
  further a b n apart le enough = omega (arith, apart, le, enough)

  turns_cover : (n : ℕ) (xs : List State) → 17 ≤ n + length xs → SomeOf head xs → (zs : List State) × SomeOf head zs
      × (turns page_machine (λ v. walk page_machine p v) at n (walked xs old) ≡ Ok (walked zs new))
  unfolding turns
  turns_cover zero xs enough is =
      let short : length xs ≤ length head = small head xs is in
      let no : ⊥ = omega (arith, short, few, enough) in absurd no
  turns_cover (suc n) xs enough is =
      let r : (us : List State) × SomeOf head us × (walk page_machine p (walked xs old) ≡ Ok (walked us new)) =
      c.leads xs is in
      let more = joined_states page_machine xs r.0 in
      let longer : length xs ≤ length more = length_join page_machine page_compares xs r.0 in
      let part : SomeOf head more = record {
        apart = distinct_join page_machine page_compares xs r.0 is.apart;
        within = λ s h. elim (mem_join page_machine page_compares s xs r.0 h) [
          | inl k ↦ is.within s k
          | inr k ↦ r.1.within s k
        ];
        any = omega (arith, is.any, longer);
      } in
      let short : length more ≤ length head = small head more part in
      let z : (zs : List State) × SomeOf head zs
      × (after_turn page_machine (λ u. turns page_machine (λ v. walk page_machine p v) at n u) at (walked xs old)
      (walked r.0 new) more ≡ Ok (walked zs new)) =
      turned (length more == length xs) (λ u. turns page_machine (λ v. walk page_machine p v) at n u) xs r.0 more is
      (omega (arith, short, few)) refl
      (λ e. turns_cover n more (further (length more) (length xs) n (eqb-false (length more) (length xs) e) longer enough)
      part) in (
        z.0,
        z.1,
        followed_is (walk page_machine p (walked xs old))
            (λ w. after_turn page_machine (λ u. turns page_machine (λ v. walk page_machine p v) at n u) at
            (walked xs old) w (joined_states page_machine xs w.states)) (walked r.0 new) (Ok (walked z.0 new)) r.2 z.2,
      )

  pub loop_covers : Covers (Loop at p) head old head new
  loop_covers = record { leads = λ xs is. turns_cover 17 xs (omega arith) is }

-- what joins nothing new leads to none but those
pub head_closed : (p : Plan) (head after : List State) (new : List Place)
    → length (joined_states page_machine head after) ≡ length head → Covers p head [] after new
    → Covers p head [] head new
head_closed p head after new same c =
    to_more p head after head [] new (record { each = join_same page_machine page_compares head after same }) c

-- ---- frames

end_each : (kind : Kind) (x : State) (xs : List State) (t : State) (b : Bool) → page_machine.may_end kind x ≡ b
    → (if b then all_may_end page_machine kind xs else false) ≡ true
    → (all_may_end page_machine kind xs ≡ true → IsMember t xs → page_machine.may_end kind t ≡ true)
    → IsMember t (x ∷ xs) → page_machine.may_end kind t ≡ true
end_each kind x xs t true e g f (inl j) = subst (λ u. page_machine.may_end kind u ≡ true) (sym j) e
end_each kind x xs t true e g f (inr j) = f g j
end_each kind x xs t false e g f j = let no : ⊥ = cc in absurd no

all_end_each : (kind : Kind) (xs : List State) → all_may_end page_machine kind xs ≡ true → (t : State)
    → IsMember t xs → page_machine.may_end kind t ≡ true
all_end_each kind [] h t k = absurd k
all_end_each kind (x ∷ xs) h t k =
    end_each kind x xs t (page_machine.may_end kind x) refl h (λ g j. all_end_each kind xs g t j) k

all_end : (kind : Kind) (xs : List State) → ((t : State) → IsMember t xs → page_machine.may_end kind t ≡ true)
    → all_may_end page_machine kind xs ≡ true
all_end kind [] all = refl
all_end kind (x ∷ xs) all =
    let e : page_machine.may_end kind x ≡ true = all x (inl refl) in rw e (all_end kind xs (λ t h. all t (inr h)))

pub frame_passed : (kind : Kind) (at : Site) (p : Plan) (after : List State) (old new : List Place)
    → Covers p (page_machine.start kind ∷ []) old after new → all_may_end page_machine kind after ≡ true
    → PassedBy (Frame kind at p) old new
frame_passed kind at p after old new c ends =
    let start = page_machine.start kind ∷ [] in
    let r : (ys : List State) × SomeOf after ys × (walk page_machine p (walked start old) ≡ Ok (walked ys new)) =
    c.leads start (record { apart = ((λ h. h), tt); within = λ s h. h; any = omega arith }) in
    let all : all_may_end page_machine kind r.0 ≡ true =
    all_end kind r.0 (λ t h. all_end_each kind after ends t (r.1.within t h)) in
    record {
      passes = λ xs. followed_is (walk page_machine p (walked start old)) (λ v. frame_end page_machine kind at xs v)
          (walked r.0 new) (Ok (walked xs new)) r.2 (rw all);
    }

pub passed_covers : (p : Plan) (around : List State) (old new : List Place) → PassedBy p old new
    → Covers p around old around new
passed_covers p around old new is = record { leads = λ xs some. (xs, some, is.passes xs) }

-- behind the places that are there
pub passed_behind : (p : Plan) (old new : List Place) (xs : List State) → PassedBy p [] new
    → walk page_machine p (walked xs old) ≡ Ok (walked xs (old ++ new))
passed_behind p old new xs is =
    apart_from_none page_machine p xs old ∙ ap (λ z. all_behind old z) (is.passes xs)
