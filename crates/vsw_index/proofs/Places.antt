-- The first place from a bound on, and the walk to wider and wider spans.
use Rattle.std.proofs.Common.{◌≡◌, ◌≤◌, ◌<◌, ◌+◌, ◌-◌, ℕ, Bool, true, false, ◌&&◌, ltb, leb, List, Option, Some, None, length, get_or, take, drop, refl, sym, ap, subst, ◌∙◌, inl, inr, arith}
use Rattle.std.specs.List.{AllWithin}
use Rattle.std.specs.List.Sorted.{IsNonDecreasingBy}
use Rattle.std.proofs.lemmas.Bool.{cases_lt, ltb-true, ltb-false, le-leb, lt-leb, and_left, and_right, and_from}
use Rattle.std.proofs.lemmas.List.{get_or_default, length-take-le, length-drop}
use Rattle.vsw_index.specs.declared.chain.Node.{Node}
use Rattle.vsw_index.specs.Least.{lesser_of}
use Rattle.vsw_index.specs.Chain.{IsNode, IsChain, node_counts, first_place, least_in}
use Rattle.vsw_index.proofs.Least.{Best, BestWithin, found, part, part_at, stands, joined}

pub none_from : (nodes : List Node) (from : ℕ) → AllWithin (λ (n : Node). ltb n.span.place from ≡ true) nodes 0 (length nodes) → None ≡ first_place nodes from
none_from nodes from all =
    found (λ (n : Node). leb from n.span.place) (λ (n : Node). n.span.place) nodes None
    (λ k d low high. lt-leb from (get_or nodes k d).span.place (ltb-true (get_or nodes k d).span.place from (all k d low high)))

pub some_from : (nodes : List Node) (from at : ℕ) (e : Node) → at < length nodes → IsNonDecreasingBy (λ (n : Node). n.span.place) nodes → AllWithin (λ (n : Node). ltb n.span.place from ≡ true) nodes 0 at → AllWithin (λ (n : Node). ltb n.span.place from ≡ false) nodes at (length nodes) → Some (get_or nodes at e).span.place ≡ first_place nodes from
some_from nodes from at e within rises before behind =
    let here : (d : Node) → get_or nodes at d ≡ get_or nodes at e = λ d. get_or_default nodes at d e within in
    found (λ (n : Node). leb from n.span.place) (λ (n : Node). n.span.place) nodes (Some (get_or nodes at e).span.place)
    (record {
      at = at;
      from = omega arith;
      before = within;
      passes = λ d. (le-leb from (get_or nodes at d).span.place (ltb-false (get_or nodes at d).span.place from (behind at d (omega arith) within)), ap (λ (n : Node). n.span.place) (here d));
      none_before = λ k d low high passes_it. elim (cases_lt k at) [
        | inl u ↦
            let less : (get_or nodes k d).span.place < from = ltb-true (get_or nodes k d).span.place from (before k d low u) in
            let more = lt-leb from (get_or nodes k d).span.place less in
            absurd (let c : true ≡ false = sym passes_it ∙ more in cc)
        | inr v ↦
            let P : Node → Type 0 = λ n. n.span.place ≤ (get_or nodes k d).span.place in
            subst P (here d) (rises at k d v high)
      ];
    })

-- nodes before one that is at or before the last, of the same prefix as the last
same_ends : (nodes : List Node) (left : ℕ) (e : Node) → IsNode nodes (left - 1) (get_or nodes (left - 1) e) → 0 < left → left ≤ length nodes → (k : ℕ) (d : Node) → (get_or nodes (left - 1) e).first ≤ k → k < left → ((get_or nodes k d).span.low ≡ (get_or nodes (left - 1) e).span.low) × ((get_or nodes k d).span.high ≡ (get_or nodes (left - 1) e).span.high)
same_ends nodes left e is some within k d low high =
    elim (cases_lt k (left - 1)) [
      | inl u ↦ is.same k d low u
      | inr v ↦
          let at : left - 1 ≡ k = omega arith in
          let inside : left - 1 < length nodes = omega arith in
          let P : Node → Type 0 = λ n. (n.span.low ≡ (get_or nodes (left - 1) e).span.low) × (n.span.high ≡ (get_or nodes (left - 1) e).span.high) in
          let Q : ℕ → Type 0 = λ i. (Node × P (get_or nodes i d)) in
          (subst Q at (e, subst P (get_or_default nodes (left - 1) e d inside) (refl, refl))).1
    ]

pub group_rises : (nodes : List Node) (left : ℕ) (e : Node) → IsChain nodes → 0 < left → left ≤ length nodes → IsNonDecreasingBy (λ (n : Node). n.span.place) (take (left - (get_or nodes (left - 1) e).first) (drop (get_or nodes (left - 1) e).first nodes))
group_rises nodes left e chain some within i j d le under =
    let first : ℕ = (get_or nodes (left - 1) e).first in
    let is : IsNode nodes (left - 1) (get_or nodes (left - 1) e) = chain.linked (left - 1) e (omega arith) in
    let before : first ≤ left - 1 = is.first_before in
    let size : length (take (left - first) (drop first nodes)) ≡ left - first = length-take-le (left - first) (drop first nodes) (omega (arith, length-drop first nodes)) in
    let at_i = part_at nodes first (left - first) i d (omega arith) in
    let at_j = part_at nodes first (left - first) j d (omega arith) in
    let ends_i = same_ends nodes left e is some within (first + i) d (omega arith) (omega arith) in
    let ends_j = same_ends nodes left e is some within (first + j) d (omega arith) (omega arith) in
    let P : Node → Type 0 = λ n. n.span.place ≤ (get_or (take (left - first) (drop first nodes)) j d).span.place in
    let Q : Node → Type 0 = λ n. (get_or nodes (first + i) d).span.place ≤ n.span.place in
    subst P (sym at_i) (subst Q (sym at_j) ((chain.in_order (first + i) (first + j) d (omega arith) (omega arith)).1 (ends_i.0 ∙ sym ends_j.0) (ends_i.1 ∙ sym ends_j.1)))

-- a span that ends before the address, or begins behind it, doesn't count
ends_before : (address from : ℕ) (n : Node) → n.span.high < address → node_counts address from n ≡ false
ends_before address from n less = and_left (leb n.span.low address && leb address n.span.high) (leb from n.span.place) (and_right (leb n.span.low address) (leb address n.span.high) (lt-leb address n.span.high less))

pub begins_behind : (address from : ℕ) (n : Node) → address < n.span.low → node_counts address from n ≡ false
begins_behind address from n more = and_left (leb n.span.low address && leb address n.span.high) (leb from n.span.place) (and_left (leb n.span.low address) (leb address n.span.high) (lt-leb n.span.low address more))

-- one that holds the address counts by its place
holds_it : (address from : ℕ) (n : Node) → n.span.low ≤ address → address ≤ n.span.high → node_counts address from n ≡ leb from n.span.place
holds_it address from n low high =
    let b : Bool = leb from n.span.place in
    let test = and_from (leb n.span.low address) (leb address n.span.high) (le-leb n.span.low address low) (le-leb address n.span.high high) in
    ap (λ (x : Bool). x && leb from n.span.place) test

passed_none : (nodes : List Node) (address from left : ℕ) (e : Node) → IsNode nodes (left - 1) (get_or nodes (left - 1) e) → (get_or nodes (left - 1) e).span.low ≤ address → BestWithin (node_counts address from) (λ (n : Node). n.span.place) nodes (get_or nodes (left - 1) e).up (get_or nodes (left - 1) e).first None
passed_none nodes address from left e is low k d above below =
    let less : (get_or nodes k d).span.high < (get_or nodes (left - 1) e).span.low = is.passed k d above below in
    ends_before address from (get_or nodes k d) (omega arith)

pub up_before : (nodes : List Node) (left : ℕ) (e : Node) → IsChain nodes → 0 < left → left ≤ length nodes → (get_or nodes (left - 1) e).up < left
up_before nodes left e chain some within =
    let is : IsNode nodes (left - 1) (get_or nodes (left - 1) e) = chain.linked (left - 1) e (omega arith) in
    let before : (get_or nodes (left - 1) e).first ≤ left - 1 = is.first_before in
    let up : (get_or nodes (left - 1) e).up ≤ (get_or nodes (left - 1) e).first = is.up_first in
    omega arith

pub climbed_past : (nodes : List Node) (address from left : ℕ) (e : Node) (o : Option ℕ) → IsChain nodes → 0 < left → left ≤ length nodes → AllWithin (λ (n : Node). n.span.low ≤ address) nodes 0 left → (get_or nodes (left - 1) e).span.high < address → BestWithin (node_counts address from) (λ (n : Node). n.span.place) nodes left (length nodes) o → BestWithin (node_counts address from) (λ (n : Node). n.span.place) nodes (get_or nodes (left - 1) e).up (length nodes) o
climbed_past nodes address from left e o chain some within below over best =
    let is : IsNode nodes (left - 1) (get_or nodes (left - 1) e) = chain.linked (left - 1) e (omega arith) in
    let before : (get_or nodes (left - 1) e).first ≤ left - 1 = is.first_before in
    let up : (get_or nodes (left - 1) e).up ≤ (get_or nodes (left - 1) e).first = is.up_first in
    let group : BestWithin (node_counts address from) (λ (n : Node). n.span.place) nodes (get_or nodes (left - 1) e).first left None = λ k d low high.
    let ends = same_ends nodes left e is some within k d low high in
    let high_is : (get_or nodes k d).span.high ≡ (get_or nodes (left - 1) e).span.high = ends.1 in
    ends_before address from (get_or nodes k d) (omega arith)
    in
    let skipped = passed_none nodes address from left e is (below (left - 1) e (omega arith) (omega arith)) in
    joined (node_counts address from) (λ (n : Node). n.span.place) nodes (get_or nodes (left - 1) e).up (get_or nodes (left - 1) e).first (length nodes) None o up (omega arith) skipped
    (joined (node_counts address from) (λ (n : Node). n.span.place) nodes (get_or nodes (left - 1) e).first left (length nodes) None o (omega arith) within group best)

pub climbed_into : (nodes : List Node) (address from left : ℕ) (e : Node) (g o : Option ℕ) → IsChain nodes → 0 < left → left ≤ length nodes → AllWithin (λ (n : Node). n.span.low ≤ address) nodes 0 left → address ≤ (get_or nodes (left - 1) e).span.high → g ≡ first_place (take (left - (get_or nodes (left - 1) e).first) (drop (get_or nodes (left - 1) e).first nodes)) from → BestWithin (node_counts address from) (λ (n : Node). n.span.place) nodes left (length nodes) o → BestWithin (node_counts address from) (λ (n : Node). n.span.place) nodes (get_or nodes (left - 1) e).up (length nodes) (lesser_of g o)
climbed_into nodes address from left e g o chain some within below under first_is best =
    let first : ℕ = (get_or nodes (left - 1) e).first in
    let is : IsNode nodes (left - 1) (get_or nodes (left - 1) e) = chain.linked (left - 1) e (omega arith) in
    let before : (get_or nodes (left - 1) e).first ≤ left - 1 = is.first_before in
    let up : (get_or nodes (left - 1) e).up ≤ (get_or nodes (left - 1) e).first = is.up_first in
    let agree : AllWithin (λ (n : Node). node_counts address from n ≡ leb from n.span.place) nodes (get_or nodes (left - 1) e).first left = λ k d low high.
    let ends = same_ends nodes left e is some within k d low high in
    let high_is : (get_or nodes k d).span.high ≡ (get_or nodes (left - 1) e).span.high = ends.1 in
    holds_it address from (get_or nodes k d) (below k d (omega arith) high) (omega arith)
    in
    let P : Option ℕ → Type 0 = Best (λ (n : Node). leb from n.span.place) (λ (n : Node). n.span.place) (take (left - first) (drop first nodes)) in
    let least_is : P g = subst P (sym first_is) (stands (λ (n : Node). leb from n.span.place) (λ (n : Node). n.span.place) (take (left - first) (drop first nodes))) in
    let group = part (node_counts address from) (λ (n : Node). leb from n.span.place) (λ (n : Node). n.span.place) nodes first left (omega arith) within agree g least_is in
    let skipped = passed_none nodes address from left e is (below (left - 1) e (omega arith) (omega arith)) in
    joined (node_counts address from) (λ (n : Node). n.span.place) nodes (get_or nodes (left - 1) e).up (get_or nodes (left - 1) e).first (length nodes) None (lesser_of g o) up (omega arith) skipped
    (joined (node_counts address from) (λ (n : Node). n.span.place) nodes (get_or nodes (left - 1) e).first left (length nodes) g o (omega arith) within group best)

pub climbed_all : (nodes : List Node) (address from left : ℕ) (o : Option ℕ) → left ≤ 0 → BestWithin (node_counts address from) (λ (n : Node). n.span.place) nodes left (length nodes) o → o ≡ least_in nodes address from
climbed_all nodes address from left o none best =
    let at : left ≡ 0 = omega arith in
    let P : ℕ → Type 0 = λ i. BestWithin (node_counts address from) (λ (n : Node). n.span.place) nodes i (length nodes) o in
    found (node_counts address from) (λ (n : Node). n.span.place) nodes o (subst P at best)
