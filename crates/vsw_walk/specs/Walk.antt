-- What becomes of a packet that crosses the layers of a port, what it wants of their pairs, and what it looks for there.
use Rattle.std.specs.Prelude.{ℕ, suc, ◌-◌, ◌^◌, List, [], ◌∷◌, ◌++◌, reverse, min, Option, Some, None, option_map}
use Rattle.vsw_base.specs.declared.fate.Verdict.{Verdict}
use Rattle.vsw_base.specs.declared.fate.Verdict.TheVariants.{Pass}
use Rattle.vsw_base.specs.declared.flow.Crossing.{Crossing}
use Rattle.vsw_base.specs.declared.header.Header.{Header}
use Rattle.vsw_base.specs.declared.packet.Control.{Control}
use Rattle.vsw_base.specs.declared.packet.Dir.{Dir}
use Rattle.vsw_base.specs.declared.packet.Dir.TheVariants.{Out, In}
use Rattle.vsw_base.specs.Shape.{encaps}
use Rattle.vsw_rule.specs.Edit.{edited, kept_after}
use Rattle.vsw_header.specs.Key.{key_from}
use Rattle.vsw_policy.specs.declared.layer.LayerSpec.{LayerSpec}
use Rattle.vsw_policy.specs.Layer.{LayerSeen}
use Rattle.vsw_layerflow.specs.declared.pair.Pair.{Pair}
use Rattle.vsw_layerflow.specs.Life.{due}
use Rattle.vsw_layerflow.specs.Pairs.{number_of, pair_of}
use Rattle.vsw_rule.specs.declared.rule.Action.{Action}
use Rattle.vsw_walk.specs.declared.outcome.Visit.{Visit}
use Rattle.vsw_walk.specs.declared.outcome.Visit.TheVariants.{Stops, Goes}
use Rattle.vsw_walk.specs.declared.outcome.Want.{Want}
use Rattle.vsw_walk.specs.declared.outcome.Want.TheVariants as want
use Rattle.vsw_walk.specs.Visit.{visit_of}
use Rattle.vsw_walk.specs.declared.scratch.Looked.{Looked}
use Rattle.vsw_walk.specs.declared.scratch.Wanted.{Wanted}
use Rattle.vsw_walk.specs.declared.scratch.Wanted.TheVariants.{Make, Touch, Leave}

-- how a walk ends: its verdict, the headers with which the packet passes or meets the layer that drops it, how many of their
-- encapsulations were kept from the frame, all changes that were wanted on the way, all that was looked for, and the least moment at
-- which one of the pairs that were found is due
pub record Walk : Type 0 where
  pub verdict : Verdict
  pub stack : List Header
  pub kept : ℕ
  pub changes : List Wanted
  pub looked : List Looked
  pub due : Option ℕ

-- what a walk has told so far: the headers with which the packet goes on, the actions that made them of those with which it came, and
-- what it wanted and looked for
pub record Told : Type 0 where
  pub stack : List Header
  pub edits : List Action
  pub changes : List Wanted
  pub looked : List Looked
  pub due : Option ℕ

-- layers with their places, the first of which has this one
abbrev pub placed : ℕ → List LayerSeen → List (ℕ × LayerSeen)
placed place [] = []
placed place (l ∷ ls) = (place, l) ∷ placed (suc place) ls

-- outbound packets cross the layers in order, inbound ones in reverse
abbrev pub crossed : Dir → List (ℕ × LayerSeen) → List (ℕ × LayerSeen)
crossed Out ls = ls
crossed In ls = reverse ls

-- the pair of this number leaves its layer
abbrev pub leaving : ℕ → Option ℕ → List Wanted
leaving place None = []
leaving place (Some number) = Leave place number ∷ []

-- a pair is made in the layer, or touched
abbrev pub wanting : ℕ → Option Want → List Wanted
wanting place None = []
wanting place (Some (want.Make p)) = Make place p ∷ []
wanting place (Some (want.Touch number state last)) = Touch place number state last ∷ []

-- a walk that ends here
abbrev pub ended : Verdict → List Header → ℕ → Walk
ended verdict hs kept = record { verdict = verdict; stack = hs; kept = kept; changes = []; looked = []; due = None }

-- a walk before which these changes were wanted
abbrev pub telling : List Wanted → Walk → Walk
telling told w = record { verdict = w.verdict; stack = w.stack; kept = w.kept; changes = told ++ w.changes; looked = w.looked; due = w.due }

-- the lesser of two moments, where there are two
abbrev pub sooner : Option ℕ → Option ℕ → Option ℕ
sooner a None = a
sooner None (Some n) = Some n
sooner (Some m) (Some n) = Some (min m n)

-- a packet looks for its direction and key in the layer at a place; the number of the pair that holds them, if one does
abbrev pub look_of : ℕ → Dir → List Header → Option Pair → Looked
look_of place d hs o = record { layer = place; dir = d; key = key_from hs; found = option_map number_of o }

-- when that pair is due, in the state in which it was found
abbrev pub due_of : LayerSpec → Option Pair → Option ℕ
due_of s o = option_map (λ p. due p.last_use p.state s.idle s.linger) o

-- a walk that begins with this look, whose pair is due then
abbrev pub looking : Looked → Option ℕ → Walk → Walk
looking look moment w = record { verdict = w.verdict; stack = w.stack; kept = w.kept; changes = w.changes; looked = look ∷ w.looked; due = sooner moment w.due }

-- a walk that begins with the look in this layer
abbrev pub looking_in : ℕ → LayerSeen → Dir → List Header → Walk → Walk
looking_in place l d hs w = looking (look_of place d hs (pair_of d (key_from hs) l.pairs)) (due_of l.spec (pair_of d (key_from hs) l.pairs)) w

-- a layer that stops the packet ends the walk. One that doesn't tells what it wants, first the pair that leaves, and the packet goes on
-- to the next as its action leaves it
abbrev pub by_visit : ℕ → List Header → ℕ → Visit → (List Header → ℕ → Walk) → Walk
by_visit place hs kept (Stops verdict) next = ended verdict hs kept
by_visit place hs kept (Goes action leaves wants) next = telling (leaving place leaves ++ wanting place wants) (next (edited action hs) (kept_after action hs kept))

-- the walk over the layers that are left, in the order in which they are crossed. The packet looks for its pair in each layer that it
-- meets, the one that stops it too
abbrev pub along : Dir → Control → ℕ → List (ℕ × LayerSeen) → List Header → ℕ → Walk
along d c moment [] hs kept = ended Pass hs kept
along d c moment (l ∷ ls) hs kept = looking_in l.0 l.1 d hs (by_visit l.0 hs kept (visit_of l.1 d c moment hs) (λ ks left. along d c moment ls ks left))

-- the walk over the layers of a port, each of which is told by its place there. At first all encapsulations are kept
unfoldable pub walk_of : List LayerSeen → Crossing → Walk
walk_of ls x = along x.id.dir x.control x.moment (crossed x.id.dir (placed 0 ls)) x.id.stack (encaps x.id.stack)

-- a walk before which all this was told
abbrev pub after : Told → Walk → Walk
after told w = record { verdict = w.verdict; stack = w.stack; kept = w.kept; changes = told.changes ++ w.changes; looked = told.looked ++ w.looked; due = sooner told.due w.due }

-- the greatest moment
abbrev pub greatest : ℕ
greatest = 2 ^ 64 - 1

-- a packet that passes renews no last use up to the moment at which the first of its pairs is due. One that finds no pair never does,
-- and one that is dropped changes nothing
abbrev pub until_after : Verdict → Option ℕ → ℕ
until_after Pass (Some moment) = moment
until_after verdict moment = greatest

-- until when a walk holds for later packets without a control, where it wants no pair
abbrev pub until_of : Walk → ℕ
until_of w = until_after w.verdict w.due
