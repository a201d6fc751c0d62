-- Outcomes that are alike where their choices are the same.
use Rattle.std.proofs.Common.{◌≡◌, ◌≤◌, ℕ, ◌+◌, Bool, true, false, List, [], ◌∷◌, ◌++◌, ◌⊎◌, inl, inr, Option, Some}
use Rattle.std.proofs.Common.{None, if◌then◌else◌, refl, sym, ap, ◌∙◌, subst, arith, append_assoc, le_refl}
use Rattle.std.proofs.lemmas.List.{append-nil, append_cancel_left}
use Rattle.soy_base.specs.declared.direction.Dir.{Dir}
use Rattle.soy_base.specs.declared.kind.Kind.{Kind}
use Rattle.soy_base.specs.declared.kind.Kind.TheVariants as kinds
use Rattle.soy_base.specs.Piece.{Piece, Static, Value}
use Rattle.soy_rules.specs.Val.{Binding, BlockOf, Known}
use Rattle.soy_tree.specs.Values as values
use Rattle.soy_tree.specs.Values.{StringValue}
use Rattle.soy_meaning.specs.Runs.EqualChoices.{AlikeByChoices, AlikePieces, AlikeRuns, BindingsAlike}
use Rattle.soy_pieces.specs.Giving.{BoundBlock, StateSoFar, block_bound, called_means, piece_means}
use Rattle.soy_pieces.specs.Giving.{printed_means, read_outcome, read_piece, text_means, value_means, with_choice}
use Rattle.soy_pieces.specs.Giving.{with_cost}
use Rattle.soy_pieces.specs.Meaning.{joined_pieces}
use Rattle.soy_pieces.specs.Outcome.{ArmTaken, ChoiceMade, GivesPiece, Outcome, RunEnd, RunEnds, Spent, StopsAt}
use Rattle.soy_pieces.specs.Outcome.{WholeRun, choices_of_outcome, continued_by, end_of_outcome, gathered}
use Rattle.soy_pieces.specs.Outcome.{pieces_of_outcome, spent_first}
use Rattle.soy_meaning.specs.Runs.PicksValues.{is_block_kind}
use Rattle.soy_pieces.specs.Site.{Site}
use Rattle.soy_meaning.proofs.Runs.RunPieces.{ComesBehind, SameRun, same_run, spent_same, stop_not_whole}
use Rattle.soy_meaning.proofs.Runs.RunPieces.{whole_followed}

abbrev pub Choices : Type 0
Choices = List ChoiceMade

-- ---- choices first

pub first_choices : (a : Spent) (o : Outcome)
    → choices_of_outcome (spent_first a o) ≡ a.choices ++ choices_of_outcome o
first_choices a (RunEnds b end) = refl
first_choices a (GivesPiece b piece o) = append_assoc a.choices b.choices (choices_of_outcome o)

-- choices that begin two lists alike
pub rest_same : (before c d : Choices) (one two rest more : Choices) → c ≡ before ++ one → d ≡ before ++ two
    → c ++ rest ≡ d ++ more → one ++ rest ≡ two ++ more
rest_same before c d one two rest more c_is d_is h =
    append_cancel_left before (one ++ rest) (two ++ more)
    (sym (append_assoc before one rest) ∙ (ap (λ l. l ++ rest) (sym c_is)
    ∙ (h ∙ (ap (λ l. l ++ more) d_is ∙ append_assoc before two more))))

pub alike_behind : (before : Choices) (o other one two : Outcome)
    → choices_of_outcome o ≡ before ++ choices_of_outcome one
    → choices_of_outcome other ≡ before ++ choices_of_outcome two → SameRun o one → SameRun other two →
    AlikeByChoices one two → AlikeByChoices o other
alike_behind before o other one two c d same_one same_two alike rest more h =
    let a : AlikeRuns one two = alike rest more
    (rest_same before (choices_of_outcome o) (choices_of_outcome other) (choices_of_outcome one)
    (choices_of_outcome two) rest more c d h) in record {
      choices = c ∙ (ap (λ l. before ++ l) a.choices ∙ sym d);
      pieces = subst (λ l. AlikePieces l (pieces_of_outcome other)) (sym same_one.pieces)
          (subst (λ l. AlikePieces (pieces_of_outcome one) l) (sym same_two.pieces) a.pieces);
      ends = same_one.ends ∙ (a.ends ∙ sym same_two.ends);
    }

abbrev pub cost_of : ℕ → Spent
cost_of n = record { cost = n; work = 0; choices = [] }

abbrev pub choice_of : ChoiceMade → Spent
choice_of choice = record { cost = 0; work = 1; choices = choice ∷ [] }

pub alike_costs : (n m : ℕ) (o other : Outcome) → AlikeByChoices o other
    → AlikeByChoices (with_cost n o) (with_cost m other)
alike_costs n m o other alike = alike_behind [] (with_cost n o) (with_cost m other) o other
    (first_choices (cost_of n) o) (first_choices (cost_of m) other) (spent_same (cost_of n) o)
    (spent_same (cost_of m) other) alike

pub alike_chosen : (choice : ChoiceMade) (o other : Outcome) → AlikeByChoices o other
    → AlikeByChoices (with_choice choice o) (with_choice choice other)
alike_chosen choice o other alike = alike_behind (choice ∷ []) (with_choice choice o) (with_choice choice other) o
    other (first_choices (choice_of choice) o) (first_choices (choice_of choice) other)
    (spent_same (choice_of choice) o) (spent_same (choice_of choice) other) alike

-- ---- which arm

abbrev pub IsNotBefore : ℕ → Option ℕ → Type 0
IsNotBefore k None = Unit {0}
IsNotBefore k (Some j) = k ≤ j

-- the first choice is an arm, none or one from this number on
pub record BeginsFrom (k : ℕ) (o : Outcome) : Type 0 where
  pub taken : Option ℕ
  pub rest : Choices
  pub are : choices_of_outcome o ≡ ArmTaken taken ∷ rest
  pub from : IsNotBefore k taken

pub from_cost : (k n : ℕ) (o : Outcome) → BeginsFrom k o → BeginsFrom k (with_cost n o)
from_cost k n o b =
    record { taken = b.taken; rest = b.rest; are = first_choices (cost_of n) o ∙ b.are; from = b.from }

pub from_here : (k : ℕ) (o : Outcome) → BeginsFrom k (with_choice (ArmTaken (Some k)) o)
from_here k o = record {
  taken = Some k;
  rest = choices_of_outcome o;
  are = first_choices (choice_of (ArmTaken (Some k))) o;
  from = le_refl k;
}

pub from_none : (k : ℕ) (o : Outcome) → BeginsFrom k (with_choice (ArmTaken None) o)
from_none k o = record {
  taken = None;
  rest = choices_of_outcome o;
  are = first_choices (choice_of (ArmTaken None)) o;
  from = tt;
}

not_before : (k : ℕ) (taken : Option ℕ) → IsNotBefore (k + 1) taken → IsNotBefore k taken
not_before k None h = tt
not_before k (Some j) h = omega (arith, h)

from_less : (k : ℕ) (o : Outcome) → BeginsFrom (k + 1) o → BeginsFrom k o
from_less k o b = record { taken = b.taken; rest = b.rest; are = b.are; from = not_before k b.taken b.from }

pub from_if : (k : ℕ) (test : Bool) (one other : Outcome) → BeginsFrom (k + 1) other
    → BeginsFrom k (if test then with_choice (ArmTaken (Some k)) one else other)
from_if k true one other b = from_here k one
from_if k false one other b = from_less k other b

-- the arm of a first choice
abbrev first_arm : Choices → Option ℕ
first_arm (ArmTaken taken ∷ l) = taken
first_arm _ = None

too_late : (k : ℕ) → k + 1 ≤ k → ⊥
too_late k h = omega (arith, h)

pub no_clash : (k : ℕ) (one other : Outcome) → BeginsFrom (k + 1) other → (rest more : Choices)
    → choices_of_outcome (with_choice (ArmTaken (Some k)) one) ++ rest ≡ choices_of_outcome other ++ more → ⊥
no_clash k one other b rest more h =
    let same : Some k ≡ b.taken = ap first_arm
    (ap (λ l. l ++ rest) (sym (first_choices (choice_of (ArmTaken (Some k))) one))
    ∙ (h ∙ ap (λ l. l ++ more) b.are)) in
    too_late k (subst (λ t. IsNotBefore (k + 1) t) (sym same) b.from)

-- the arm of this number in both, or a later one in both
pub alike_if : (k : ℕ) (test check : Bool) (one two following after : Outcome) → AlikeByChoices one two
    → BeginsFrom (k + 1) following → BeginsFrom (k + 1) after → AlikeByChoices following after →
    AlikeByChoices (if test then with_choice (ArmTaken (Some k)) one else following)
    (if check then with_choice (ArmTaken (Some k)) two else after)
alike_if k true true one two following after alike b d others = alike_chosen (ArmTaken (Some k)) one two alike
alike_if k true false one two following after alike b d others =
    λ rest more h. absurd (no_clash k one after d rest more h)
alike_if k false true one two following after alike b d others =
    λ rest more h. absurd (no_clash k two following b more rest (sym h))
alike_if k false false one two following after alike b d others = others

abbrev number_of : Option ℕ → ℕ
number_of None = 0
number_of (Some k) = k

-- two arms taken are of one number
pub same_arm : (j k : ℕ) (one two : Outcome) (rest more : Choices)
    → choices_of_outcome (with_choice (ArmTaken (Some j)) one) ++ rest
    ≡ choices_of_outcome (with_choice (ArmTaken (Some k)) two) ++ more → j ≡ k
same_arm j k one two rest more h =
    ap (λ l. number_of (first_arm l))
    (ap (λ l. l ++ rest) (sym (first_choices (choice_of (ArmTaken (Some j))) one))
    ∙ (h ∙ ap (λ l. l ++ more) (first_choices (choice_of (ArmTaken (Some k))) two)))

-- ---- texts and values

abbrev pub OnAlike : (StateSoFar → Outcome) → (StateSoFar → Outcome) → Type 0
OnAlike on other = (s t : StateSoFar) → AlikeByChoices (on s) (other t)

pub text_alike : (text : List ℕ) (s t : StateSoFar) (on other : StateSoFar → Outcome) → OnAlike on other
    → AlikeByChoices (text_means text s on) (text_means text t other)
text_alike [] s t on other alike = alike s t
text_alike (c ∷ text) s t on other alike = λ rest more h.
    let a : AlikeRuns (on (read_piece s (Static (c ∷ text)))) (other (read_piece t (Static (c ∷ text)))) =
    alike (read_piece s (Static (c ∷ text))) (read_piece t (Static (c ∷ text))) rest more h in
    record { choices = a.choices; pieces = (refl, a.pieces); ends = a.ends }

valued_alike : (text form : List ℕ) (s t : StateSoFar) (on other : StateSoFar → Outcome) → OnAlike on other
    → AlikeByChoices (piece_means (Value text) s on) (piece_means (Value form) t other)
valued_alike text form s t on other alike rest more h =
    let a : AlikeRuns (on (read_piece s (Value text))) (other (read_piece t (Value form))) =
    alike (read_piece s (Value text)) (read_piece t (Value form)) rest more h in
    record { choices = a.choices; pieces = a.pieces; ends = a.ends }

pub value_alike : (context : Dir) (v w : values.Value) (s t : StateSoFar) (on other : StateSoFar → Outcome)
    → OnAlike on other → AlikeByChoices (value_means context v s on) (value_means context w t other)
value_alike context v w s t on other alike = valued_alike _ _ s t on other alike

-- ---- one outcome and then another

pub begins : (o rest : Outcome) → (tail : Choices)
    × (choices_of_outcome (continued_by o rest) ≡ choices_of_outcome o ++ tail)
begins (RunEnds a WholeRun) rest = (choices_of_outcome rest, first_choices a rest)
begins (RunEnds a (StopsAt call)) rest = ([], sym (append-nil a.choices))
begins (GivesPiece a piece o) rest =
    let b : (tail : Choices) × (choices_of_outcome (continued_by o rest) ≡ choices_of_outcome o ++ tail) =
    begins o rest in
    (b.0, ap (λ l. a.choices ++ l) b.1 ∙ sym (append_assoc a.choices (choices_of_outcome o) b.0))

pub followed_choices : (o rest : Outcome) → end_of_outcome o ≡ WholeRun
    → choices_of_outcome (continued_by o rest) ≡ choices_of_outcome o ++ choices_of_outcome rest
followed_choices (RunEnds a WholeRun) rest e = first_choices a rest
followed_choices (RunEnds a (StopsAt call)) rest e = absurd (stop_not_whole call e)
followed_choices (GivesPiece a piece o) rest e =
    ap (λ l. a.choices ++ l) (followed_choices o rest e)
    ∙ sym (append_assoc a.choices (choices_of_outcome o) (choices_of_outcome rest))

pub stop_is : (o rest : Outcome) (call : Site) → end_of_outcome o ≡ StopsAt call → continued_by o rest ≡ o
stop_is (RunEnds a WholeRun) rest call e = absurd (stop_not_whole call (sym e))
stop_is (RunEnds a (StopsAt at)) rest call e = refl
stop_is (GivesPiece a piece o) rest call e = ap (GivesPiece a piece) (stop_is o rest call e)

alike_append : (l m one two : List Piece) → AlikePieces l m → AlikePieces one two → AlikePieces (l ++ one) (m ++ two)
alike_append [] [] one two h k = k
alike_append [] (Static text ∷ m) one two h k = absurd h
alike_append [] (Value text ∷ m) one two h k = absurd h
alike_append (Static text ∷ l) [] one two h k = absurd h
alike_append (Value text ∷ l) [] one two h k = absurd h
alike_append (Static text ∷ l) (Static other ∷ m) one two h k = (h.0, alike_append l m one two h.1 k)
alike_append (Static text ∷ l) (Value other ∷ m) one two h k = absurd h
alike_append (Value text ∷ l) (Static other ∷ m) one two h k = absurd h
alike_append (Value text ∷ l) (Value other ∷ m) one two h k = alike_append l m one two h k

frame_by_end : (o other one two : Outcome) → AlikeRuns o other → AlikeByChoices one two → (end : RunEnd)
    → end_of_outcome other ≡ end → AlikeByChoices (continued_by o one) (continued_by other two)
frame_by_end o other one two a alike WholeRun e rest more h =
    let first : choices_of_outcome (continued_by o one) ≡ choices_of_outcome other ++ choices_of_outcome one =
    followed_choices o one (a.ends ∙ e) ∙ ap (λ l. l ++ choices_of_outcome one) a.choices in
    let second : choices_of_outcome (continued_by other two) ≡ choices_of_outcome other ++ choices_of_outcome two =
    followed_choices other two e in
    let past : AlikeRuns one two = alike rest more
    (rest_same (choices_of_outcome other) (choices_of_outcome (continued_by o one))
    (choices_of_outcome (continued_by other two)) (choices_of_outcome one) (choices_of_outcome two) rest more first
    second h) in
    let left : ComesBehind o one (continued_by o one) = whole_followed o one (a.ends ∙ e) in
    let right : ComesBehind other two (continued_by other two) = whole_followed other two e in record {
      choices = first ∙ (ap (λ l. choices_of_outcome other ++ l) past.choices ∙ sym second);
      pieces = subst (λ l. AlikePieces l (pieces_of_outcome (continued_by other two))) (sym left.pieces)
          (subst (λ l. AlikePieces (pieces_of_outcome o ++ pieces_of_outcome one) l) (sym right.pieces)
          (alike_append (pieces_of_outcome o) (pieces_of_outcome other) (pieces_of_outcome one)
          (pieces_of_outcome two) a.pieces past.pieces));
      ends = left.ends ∙ (past.ends ∙ sym right.ends);
    }
frame_by_end o other one two a alike (StopsAt call) e rest more h =
    subst (λ x. AlikeRuns x (continued_by other two)) (sym (stop_is o one call (a.ends ∙ e)))
    (subst (λ x. AlikeRuns o x) (sym (stop_is other two call e)) a)

pub frame_alike : (o other one two : Outcome) → AlikeByChoices o other → AlikeByChoices one two
    → AlikeByChoices (continued_by o one) (continued_by other two)
frame_alike o other one two alike past rest more h =
    let b : (tail : Choices) × (choices_of_outcome (continued_by o one) ≡ choices_of_outcome o ++ tail) =
    begins o one in
    let d : (tail : Choices) × (choices_of_outcome (continued_by other two) ≡ choices_of_outcome other ++ tail) =
    begins other two in
    let a : AlikeRuns o other = alike (b.0 ++ rest) (d.0 ++ more)
    (sym (append_assoc (choices_of_outcome o) b.0 rest) ∙ (ap (λ l. l ++ rest) (sym b.1)
    ∙ (h ∙ (ap (λ l. l ++ more) d.1 ∙ append_assoc (choices_of_outcome other) d.0 more)))) in
    frame_by_end o other one two a past (end_of_outcome other) refl rest more h

-- ---- what is gathered

pub record GathersWhole (text : List ℕ) (o : Outcome) (next : List ℕ → Outcome) : Type 0 where
  pub value : List ℕ
  pub is : value ≡ text ++ joined_pieces (pieces_of_outcome o)
  pub ends : end_of_outcome o ≡ WholeRun
  pub same : SameRun (gathered text o next) (next value)
  pub choices : choices_of_outcome (gathered text o next) ≡ choices_of_outcome o ++ choices_of_outcome (next value)

pub record GathersStop (text : List ℕ) (o : Outcome) (next : List ℕ → Outcome) : Type 0 where
  pub call : Site
  pub ends : end_of_outcome o ≡ StopsAt call
  pub pieces : pieces_of_outcome (gathered text o next) ≡ []
  pub halts : end_of_outcome (gathered text o next) ≡ StopsAt call
  pub choices : choices_of_outcome (gathered text o next) ≡ choices_of_outcome o

abbrev pub Gathers : List ℕ → Outcome → (List ℕ → Outcome) → Type 0
Gathers text o next = GathersWhole text o next ⊎ GathersStop text o next

-- past a piece, which leaves this text
gathers_past : (text : List ℕ) (a : Spent) (piece : Piece) (o : Outcome) (longer : List ℕ) (next : List ℕ → Outcome)
    → gathered text (GivesPiece a piece o) next ≡ spent_first a (gathered longer o next)
    → longer ++ joined_pieces (pieces_of_outcome o) ≡ text ++ joined_pieces (piece ∷ pieces_of_outcome o)
    → Gathers longer o next → Gathers text (GivesPiece a piece o) next
gathers_past text a piece o longer next is long (inl g) =
    inl (record {
      value = g.value;
      is = g.is ∙ long;
      ends = g.ends;
      same = subst (λ x. SameRun x (next g.value)) (sym is)
          (same_run (spent_first a (gathered longer o next)) (gathered longer o next) (next g.value)
          (spent_same a (gathered longer o next)) g.same);
      choices = ap choices_of_outcome is ∙ (first_choices a (gathered longer o next)
          ∙ (ap (λ l. a.choices ++ l) g.choices
          ∙ sym (append_assoc a.choices (choices_of_outcome o) (choices_of_outcome (next g.value)))));
    })
gathers_past text a piece o longer next is long (inr g) =
    inr (record {
      call = g.call;
      ends = g.ends;
      pieces = ap pieces_of_outcome is ∙ ((spent_same a (gathered longer o next)).pieces ∙ g.pieces);
      halts = ap end_of_outcome is ∙ ((spent_same a (gathered longer o next)).ends ∙ g.halts);
      choices = ap choices_of_outcome is ∙ (first_choices a (gathered longer o next)
          ∙ ap (λ l. a.choices ++ l) g.choices);
    })

pub gathers : (text : List ℕ) (o : Outcome) (next : List ℕ → Outcome) → Gathers text o next
gathers text (RunEnds a WholeRun) next =
    inl (record {
      value = text;
      is = sym (append-nil text);
      ends = refl;
      same = spent_same a (next text);
      choices = first_choices a (next text);
    })
gathers text (RunEnds a (StopsAt call)) next =
    inr (record { call = call; ends = refl; pieces = refl; halts = refl; choices = refl })
gathers text (GivesPiece a (Static more) o) next =
    gathers_past text a (Static more) o (text ++ more) next refl
    (append_assoc text more (joined_pieces (pieces_of_outcome o))) (gathers (text ++ more) o next)
gathers text (GivesPiece a (Value more) o) next =
    gathers_past text a (Value more) o (text ++ more) next refl
    (append_assoc text more (joined_pieces (pieces_of_outcome o))) (gathers (text ++ more) o next)

pub gathers_begins : (text : List ℕ) (o : Outcome) (next : List ℕ → Outcome) → Gathers text o next → (tail : Choices)
    × (choices_of_outcome (gathered text o next) ≡ choices_of_outcome o ++ tail)
gathers_begins text o next (inl g) = (choices_of_outcome (next g.value), g.choices)
gathers_begins text o next (inr g) = ([], g.choices ∙ sym (append-nil (choices_of_outcome o)))

abbrev TextsAlike : (List ℕ → Outcome) → (List ℕ → Outcome) → Type 0
TextsAlike next other = (l m : List ℕ) → AlikeByChoices (next l) (other m)

gathered_by : (o other : Outcome) (next following : List ℕ → Outcome) → AlikeRuns o other → TextsAlike next following
    → Gathers [] o next → Gathers [] other following
    → AlikeByChoices (gathered [] o next) (gathered [] other following)
gathered_by o other next following a alike (inl g) (inl k) =
    alike_behind (choices_of_outcome other) (gathered [] o next) (gathered [] other following) (next g.value)
    (following k.value) (g.choices ∙ ap (λ l. l ++ choices_of_outcome (next g.value)) a.choices) k.choices g.same k.same
    (alike g.value k.value)
gathered_by o other next following a alike (inl g) (inr k) =
    absurd (stop_not_whole k.call (sym k.ends ∙ (sym a.ends ∙ g.ends)))
gathered_by o other next following a alike (inr g) (inl k) =
    absurd (stop_not_whole g.call (sym g.ends ∙ (a.ends ∙ k.ends)))
gathered_by o other next following a alike (inr g) (inr k) = λ rest more h. record {
  choices = g.choices ∙ (a.choices ∙ sym k.choices);
  pieces = subst (λ l. AlikePieces l (pieces_of_outcome (gathered [] other following))) (sym g.pieces)
      (subst (λ l. AlikePieces [] l) (sym k.pieces) tt);
  ends = g.halts ∙ (sym g.ends ∙ (a.ends ∙ (k.ends ∙ sym k.halts)));
}

pub gathered_alike : (o other : Outcome) (next following : List ℕ → Outcome) → AlikeByChoices o other
    → TextsAlike next following → AlikeByChoices (gathered [] o next) (gathered [] other following)
gathered_alike o other next following alike texts rest more h =
    let g : Gathers [] o next = gathers [] o next in
    let k : Gathers [] other following = gathers [] other following in
    let b : (tail : Choices) × (choices_of_outcome (gathered [] o next) ≡ choices_of_outcome o ++ tail) =
    gathers_begins [] o next g in
    let d : (tail : Choices)
    × (choices_of_outcome (gathered [] other following) ≡ choices_of_outcome other ++ tail) =
    gathers_begins [] other following k in
    let a : AlikeRuns o other = alike (b.0 ++ rest) (d.0 ++ more)
    (sym (append_assoc (choices_of_outcome o) b.0 rest) ∙ (ap (λ l. l ++ rest) (sym b.1)
    ∙ (h ∙ (ap (λ l. l ++ more) d.1 ∙ append_assoc (choices_of_outcome other) d.0 more)))) in
    gathered_by o other next following a texts g k rest more h

-- ---- what is bound, printed and called

pub bound_alike : (k : Kind) (o other : Outcome) (next following : Binding BoundBlock → Outcome)
    → AlikeByChoices o other
    → ((a b : Binding BoundBlock) → BindingsAlike (is_block_kind k) a b → AlikeByChoices (next a) (following b)) →
    AlikeByChoices (block_bound k o next) (block_bound k other following)
bound_alike kinds.Html o other next following alike on =
    on (BlockOf (record { kind = kinds.Html; outcome = o })) (BlockOf (record { kind = kinds.Html; outcome = other }))
    alike
bound_alike kinds.Attributes o other next following alike on =
    on (BlockOf (record { kind = kinds.Attributes; outcome = o }))
    (BlockOf (record { kind = kinds.Attributes; outcome = other })) alike
bound_alike kinds.Text o other next following alike on =
    gathered_alike o other (λ text. next (Known (StringValue text))) (λ text. following (Known (StringValue text)))
    alike (λ l m. on (Known (StringValue l)) (Known (StringValue m)) tt)

pub printed_alike : (context : Dir) (may : Bool) (a b : Binding BoundBlock) → BindingsAlike may a b
    → (s t : StateSoFar) (on other : StateSoFar → Outcome) → OnAlike on other →
    AlikeByChoices (printed_means context a s on) (printed_means context b t other)
printed_alike context may (Known v) (Known w) h s t on other alike = value_alike context v w s t on other alike
printed_alike context true (Known v) (BlockOf b) h s t on other alike = absurd h
printed_alike context false (Known v) (BlockOf b) h s t on other alike = absurd h
printed_alike context true (BlockOf a) (Known w) h s t on other alike = absurd h
printed_alike context false (BlockOf a) (Known w) h s t on other alike = absurd h
printed_alike context false (BlockOf a) (BlockOf b) h s t on other alike = absurd h
printed_alike context true (BlockOf a) (BlockOf b) h s t on other alike =
    frame_alike a.outcome b.outcome (on (read_outcome s a.outcome)) (other (read_outcome t b.outcome)) h
    (alike (read_outcome s a.outcome) (read_outcome t b.outcome))

pub called_alike : (context : Dir) (k : Kind) (o two : Outcome) → AlikeByChoices o two
    → (s t : StateSoFar) (on other : StateSoFar → Outcome) → OnAlike on other →
    AlikeByChoices (called_means context k o s on) (called_means context k two t other)
called_alike context kinds.Html o two h s t on other alike =
    frame_alike o two (on (read_outcome s o)) (other (read_outcome t two)) h
    (alike (read_outcome s o) (read_outcome t two))
called_alike context kinds.Attributes o two h s t on other alike =
    frame_alike o two (on (read_outcome s o)) (other (read_outcome t two)) h
    (alike (read_outcome s o) (read_outcome t two))
called_alike context kinds.Text o two h s t on other alike =
    gathered_alike o two (λ text. value_means context (StringValue text) s on)
    (λ text. value_means context (StringValue text) t other) h
    (λ l m. value_alike context (StringValue l) (StringValue m) s t on other alike)
