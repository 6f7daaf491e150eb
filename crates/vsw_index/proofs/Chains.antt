-- Nodes one by one.
use Rattle.std.proofs.Common.{◌≡◌, ◌≢◌, ◌≤◌, ◌<◌, ◌-◌, ℕ, List, [], ◌∷◌, ◌++◌, length, get_or, map, take, sym, ap, subst, ◌∙◌, arith}
use Rattle.std.specs.List.{All, AllWithin}
use Rattle.std.proofs.lemmas.Bool.{cases_lt}
use Rattle.std.proofs.Common.{inl, inr}
use Rattle.std.proofs.lemmas.List.{get_or_append_left, get_or_push, get_or-map, get_or-take, length-map, length-take-le, length_push, take_all}
use Rattle.vsw_index.specs.declared.span.Span.{Span}
use Rattle.vsw_index.specs.declared.chain.Node.{Node}
use Rattle.vsw_index.specs.Chain.{IsNode, AreNodes, AreInOrder, IsAfter, IsChain}

-- what holds of the first nodes holds of them when one more comes
within_more : (P : Node → Type 0) (nodes : List Node) (n : Node) (low high : ℕ) → high ≤ length nodes → AllWithin P nodes low high → AllWithin P (nodes ++ n ∷ []) low high
within_more P nodes n low high le all k d from under =
    let inside : k < length nodes = omega arith in
    subst P (sym (get_or_append_left nodes (n ∷ []) d k inside)) (all k d from under)

is_node_more : (nodes : List Node) (n : Node) (k : ℕ) (m : Node) → k ≤ length nodes → IsNode nodes k m → IsNode (nodes ++ n ∷ []) k m
is_node_more nodes n k m le is = record {
  up_first = is.up_first;
  first_before = is.first_before;
  same = within_more (λ x. (x.span.low ≡ m.span.low) × (x.span.high ≡ m.span.high)) nodes n m.first k le is.same;
  alone = λ d some.
      let first : m.first ≤ k = is.first_before in
      let inside : m.first - 1 < length nodes = omega arith in
      let P : Node → Type 0 = λ x. x.span.low ≡ m.span.low → x.span.high ≢ m.span.high in
      subst P (sym (get_or_append_left nodes (n ∷ []) d (m.first - 1) inside)) (is.alone d some);
  passed = within_more (λ x. x.span.high < m.span.low) nodes n m.up m.first (let a : m.first ≤ k = is.first_before in omega arith) is.passed;
  reached = λ d some.
      let up : m.up ≤ m.first = is.up_first in
      let first : m.first ≤ k = is.first_before in
      let inside : m.up - 1 < length nodes = omega arith in
      let P : Node → Type 0 = λ x. m.span.low ≤ x.span.high in
      subst P (sym (get_or_append_left nodes (n ∷ []) d (m.up - 1) inside)) (is.reached d some);
}

pub AreNodes-push : (nodes : List Node) (n : Node) → AreNodes nodes → IsNode nodes (length nodes) n → AreNodes (nodes ++ n ∷ [])
AreNodes-push nodes n are is k d within =
    elim (cases_lt k (length nodes)) [
      | inl under ↦
          let P : Node → Type 0 = λ x. IsNode (nodes ++ n ∷ []) k x in
          subst P (sym (get_or_append_left nodes (n ∷ []) d k under)) (is_node_more nodes n k (get_or nodes k d) (omega arith) (are k d under))
      | inr over ↦
          let last : length nodes ≡ k = omega (arith, length_push nodes n) in
          let P : Node → Type 0 = λ x. IsNode (nodes ++ n ∷ []) k x in
          let Q : ℕ → Type 0 = λ x. IsNode nodes x n in
          subst P (sym (get_or_push nodes n d k last)) (is_node_more nodes n k n (omega arith) (subst Q last is))
    ]

-- the span of a node is the one at its place
span_at : (nodes : List Node) (spans : List Span) (i : ℕ) → map (λ (n : Node). n.span) nodes ≡ take i spans → i ≤ length spans → (k : ℕ) (d : Node) (e : Span) → k < length nodes → (k < i) × ((get_or nodes k d).span ≡ get_or spans k e)
span_at nodes spans i same le k d e within =
    let size : length nodes ≡ i = sym (length-map nodes (λ (n : Node). n.span)) ∙ ap length same ∙ length-take-le i spans le in
    let under : k < i = omega arith in
    (under, sym (get_or-map (λ (n : Node). n.span) nodes k d e within) ∙ ap (λ (l : List Span). get_or l k e) same ∙ get_or-take i spans k e under)

pub below_next : (nodes : List Node) (spans : List Span) (i : ℕ) (e : Span) → AreInOrder spans → map (λ (n : Node). n.span) nodes ≡ take i spans → i < length spans → All (λ (n : Node). n.span.low ≤ (get_or spans i e).low) nodes
below_next nodes spans i e ordered same within k d inside =
    let here = span_at nodes spans i same (omega arith) k d e inside in
    let P : Span → Type 0 = λ x. x.low ≤ (get_or spans i e).low in
    subst P (sym here.1) (ordered k i e (let u : k < i = here.0 in omega arith) within).0

pub chained : (nodes : List Node) (spans : List Span) → AreInOrder spans → map (λ (n : Node). n.span) nodes ≡ spans → AreNodes nodes → IsChain nodes
chained nodes spans ordered same are = record {
  linked = are;
  in_order = λ i j d le within.
      let whole : map (λ (n : Node). n.span) nodes ≡ take (length spans) spans = same ∙ sym (take_all (length spans) spans (omega arith)) in
      let at_j = span_at nodes spans (length spans) whole (omega arith) j d d.span within in
      let at_i = span_at nodes spans (length spans) whole (omega arith) i d d.span (omega arith) in
      let P : Span → Type 0 = λ x. IsAfter x (get_or nodes j d).span in
      let Q : Span → Type 0 = λ x. IsAfter (get_or spans i d.span) x in
      subst P (sym at_i.1) (subst Q (sym at_j.1) (ordered i j d.span le at_j.0));
}
