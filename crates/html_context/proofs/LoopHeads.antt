-- The heads of loops.
use Rattle.std.proofs.Common.{◌≡◌, ℕ, ◌≤◌, ◌<◌, List, [], ◌++◌, length, sym, ap, subst, ◌∙◌}
use Rattle.soy_base.specs.declared.place.Place.{Place}
use Rattle.html_state.specs.declared.row.State.{State}
use Rattle.soy_pieces.specs.Site.{Site}
use Rattle.soy_meaning.specs.Walks.PageMachine.{page_machine}
use Rattle.soy_meaning.specs.Paths.Plan.{Loop, Plan}
use Rattle.soy_meaning.specs.Walks.States.{joined_states}
use Rattle.html_context.specs.Covers.{Covers, IsHead, Within}
use Rattle.html_context.specs.RowPlans.{plan_at, plan_below}
use Rattle.html_context.specs.declared.heads.Head.{Head}
use Rattle.html_context.specs.declared.table.Row.{Row}
use Rattle.html_context.proofs.Covering.{behind_old, fewer, head_closed, loop_covers}
use Rattle.html_context.proofs.RowPlans.{below_at}
use Rattle.html_context.proofs.Turns.{join_unchanged}

-- a loop from states of a head of its body
pub head_covers : (rows : List Row) (limit body : ℕ) (at : Site) (states : List State) (old : List Place) (head : Head)
    → body < limit → IsHead rows head → head.body ≡ body → Within states head.states.items
    → Covers (Loop at (plan_below rows limit body)) states old head.states.items (old ++ head.places.items)
head_covers rows limit body at states old head below is same inside =
    let p : Plan = plan_below rows limit body in
    let all = head.states.items in
    let new = head.places.items in
    let e : plan_at rows head.body ≡ p = ap (plan_at rows) same ∙ sym (below_at rows limit body below) in
    let c : Covers p all [] all new = subst (λ (q : Plan). Covers q all [] all new) e is.closed in
    fewer (Loop at p) states all all old (old ++ new) inside
    (loop_covers at p all old (old ++ new) is.few (behind_old p all all old new c))

-- the head that no turn makes longer
pub head_is : (rows : List Row) (limit body : ℕ) (states after : List State) (head : Head) → body < limit
    → head.body ≡ body → head.states.items ≡ joined_states page_machine states after
    → Covers (plan_below rows limit body) states [] after head.places.items → length head.states.items ≡ length states
    → length head.states.items ≤ 16 → IsHead rows head
head_is rows limit body states after head below same are c long few =
    let new = head.places.items in
    let long' : length (joined_states page_machine states after) ≡ length states = ap length (sym are) ∙ long in
    let e : states ≡ head.states.items = sym (are ∙ join_unchanged page_machine states after long') in
    let p : plan_below rows limit body ≡ plan_at rows head.body =
    below_at rows limit body below ∙ ap (plan_at rows) (sym same) in
    record {
      few = few;
      closed = subst (λ (q : Plan). Covers q head.states.items [] head.states.items new) p
          (subst (λ (l : List State). Covers (plan_below rows limit body) l [] l new) e
          (head_closed (plan_below rows limit body) states after new long' c));
    }

-- the same where the body was followed from a copy of the states, and from no places
pub head_grown : (rows : List Row) (limit body : ℕ) (states before after : List State) (none : List Place) (head : Head)
    → body < limit → head.body ≡ body → head.states.items ≡ joined_states page_machine states after → before ≡ states
    → none ≡ [] → Covers (plan_below rows limit body) before none after head.places.items
    → length head.states.items ≡ length states → length head.states.items ≤ 16 → IsHead rows head
head_grown rows limit body states before after none head below same are from empty c long few =
    let p = plan_below rows limit body in
    let new = head.places.items in
    head_is rows limit body states after head below same are
    (subst (λ (l : List Place). Covers p states l after new) empty
    (subst (λ (l : List State). Covers p l none after new) from c)) long few
