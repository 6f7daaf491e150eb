-- Spans in order, each with the way to the wider spans around it.
use Rattle.std.specs.Prelude.{◌≡◌, ◌≢◌, ℕ, ◌<◌, ◌≤◌, ◌+◌, ◌-◌, ◌*◌, ◌&&◌, List, Bool, nat_le, length, Option, slice_index_or}
use Rattle.std.specs.List.{AllWithin}
use Rattle.vsw_index.specs.declared.placed_prefix.PlacedPrefix.{PlacedPrefix}
use Rattle.vsw_index.specs.declared.span.Span.{Span}
use Rattle.vsw_index.specs.declared.chain.Node.{Node}
use Rattle.vsw_index.specs.Least.{least_by}
use Rattle.vsw_index.specs.PrefixLeast.{least_of}

-- the span holds the address and isn't before `from`
abbrev pub span_counts : ℕ → ℕ → Span → Bool
span_counts address from s = nat_le s.low address && nat_le address s.high && nat_le from s.place

-- the same of a node's span
abbrev pub node_counts : ℕ → ℕ → Node → Bool
node_counts address from n = span_counts address from n.span

-- the least place, from `from` on, of a node whose span holds the address
abbrev pub least_in : List Node → ℕ → ℕ → Option ℕ
least_in nodes address from = least_by (node_counts address from) (λ n. n.span.place) nodes

-- of nodes of one prefix: the least place from `from` on
abbrev pub first_place : List Node → ℕ → Option ℕ
first_place nodes from = least_by (λ n. nat_le from n.span.place) (λ n. n.span.place) nodes

-- of the nodes before place k: those from `first` on, and no others before them, are of the same prefix as
-- node n; those from `up` to `first` end before it begins, and the one before `up` reaches it
pub record IsNode (nodes : List Node) (k : ℕ) (n : Node) : Type 0 where
  pub up_first : n.up ≤ n.first
  pub first_before : n.first ≤ k
  pub same : AllWithin (λ m. (m.span.low ≡ n.span.low) × (m.span.high ≡ n.span.high)) nodes n.first k
  pub alone : (d : Node) → 0 < n.first → (slice_index_or nodes (n.first - 1) d).span.low ≡ n.span.low → (slice_index_or nodes (n.first - 1) d).span.high ≢ n.span.high
  pub passed : AllWithin (λ m. m.span.high < n.span.low) nodes n.up n.first
  pub reached : (d : Node) → 0 < n.up → n.span.low ≤ (slice_index_or nodes (n.up - 1) d).span.high

-- each node is linked so
abbrev pub AreNodes : List Node → Type 0
AreNodes nodes = (k : ℕ) (d : Node) → k < length nodes → IsNode nodes k (slice_index_or nodes k d)

-- a span is after those of a lesser low end, and after those of the same ends and a lesser place
abbrev pub IsAfter : Span → Span → Type 0
IsAfter s t = (s.low ≤ t.low) × (s.low ≡ t.low → s.high ≡ t.high → s.place ≤ t.place)

-- linked nodes in the order of their spans
pub record IsChain (nodes : List Node) : Type 0 where
  pub linked : AreNodes nodes
  pub in_order : (i j : ℕ) (d : Node) → i ≤ j → j < length nodes → IsAfter (slice_index_or nodes i d).span (slice_index_or nodes j d).span

-- spans stand by low end, then the wider first, then by place
abbrev pub key : Span → ℕ
key s = (s.low * 4294967296 + (4294967295 - s.high)) * 4294967296 + s.place

-- no span is after a later one
abbrev pub AreInOrder : List Span → Type 0
AreInOrder spans = (i j : ℕ) (d : Span) → i ≤ j → j < length spans → IsAfter (slice_index_or spans i d) (slice_index_or spans j d)

-- the nodes answer as the list of items does
abbrev pub Agrees : List PlacedPrefix → List Node → Type 0
Agrees items nodes = (address from : ℕ) → least_in nodes address from ≡ least_of items address from
