-- Why a packet is dropped after its walk, but for want of memory.
use Rattle.std.specs.Prelude.{ℕ, ◌==◌, List, [], ◌∷◌, length, nat_le, Option, Some, None, if◌then◌else◌}
use Rattle.std.specs.List.{filter_map, slice_get}
use Rattle.vsw_port.specs.declared.stop.Stop.{Stop}
use Rattle.vsw_port.specs.declared.stop.Stop.TheVariants.{Long, Full, Taken, Memory}
use Rattle.vsw_port.specs.Long.{is_long}
use Rattle.vsw_base.specs.declared.fate.Cause.{Cause}
use Rattle.vsw_base.specs.declared.fate.Cause.TheVariants as cause
use Rattle.vsw_base.specs.declared.fate.Verdict.{Verdict}
use Rattle.vsw_base.specs.declared.fate.Verdict.TheVariants.{Pass}
use Rattle.vsw_base.specs.declared.flow.Crossing.{Crossing}
use Rattle.vsw_walk.specs.declared.scratch.Wanted.{Wanted}
use Rattle.vsw_walk.specs.declared.scratch.Wanted.TheVariants.{Make, Touch, Leave}
use Rattle.vsw_walk.specs.Walk.{Walk}
use Rattle.vsw_policy.specs.Layer.{LayerSeen}
use Rattle.vsw_layerflow.specs.declared.pair.Pair.{Pair}
use Rattle.vsw_layerflow.specs.Pairs.{back, holder, without}

-- the pairs of a layer that stay, where the one of this number leaves
abbrev pub staying : Option ℕ → List Pair → List Pair
staying None ps = ps
staying (Some number) ps = without number ps

-- the pair that holds what replies look for is told
abbrev pub taken_by : LayerSeen → Option Pair → Option Stop
taken_by l None = None
taken_by l (Some q) = Some (Taken l.controller l.spec.layer q.number)

-- the pairs that stay are as many as the layer may have; else one of them holds what replies look for
abbrev pub refused : LayerSeen → List Pair → Pair → Option Stop
refused l stay p = if nat_le l.spec.pairs (length stay) then Some (Full l.controller l.spec.layer) else taken_by l (holder (back p) stay)

-- where there is such a layer
abbrev pub refused_at : Option LayerSeen → Option ℕ → Pair → Option Stop
refused_at None left p = None
refused_at (Some l) left p = refused l (staying left l.pairs) p

-- the number of the pair that leaves the layer at a place, if one does
abbrev pub left_in : ℕ → List Wanted → Option ℕ
left_in place [] = None
left_in place (Make at p ∷ ws) = left_in place ws
left_in place (Touch at number state last ∷ ws) = left_in place ws
left_in place (Leave at number ∷ ws) = if at == place then Some number else left_in place ws

-- the refusal of a pair by the layer in which it is to be made; which pair leaves which layer is given
abbrev pub refused_of : List LayerSeen → (ℕ → Option ℕ) → Wanted → Option Stop
refused_of ls left (Make place p) = refused_at (slice_get ls place) (left place) p
refused_of ls left (Touch place number state last) = None
refused_of ls left (Leave place number) = None

-- the refusals of all that a packet wants, in the order in which it crossed the layers
abbrev pub refusals : List LayerSeen → List Wanted → List Stop
refusals ls ws = filter_map (refused_of ls (λ place. left_in place ws)) ws

-- the first refusal
abbrev pub refusal : List LayerSeen → List Wanted → Option Stop
refusal ls ws = slice_get (refusals ls ws) 0

-- a walk that drops its packet ends by that
abbrev pub on_pass : Verdict → Option Stop → Option Stop
on_pass Pass stop = stop
on_pass verdict stop = None

-- a packet that its walk drops isn't stopped. Any other is, where it gets too long, and else by the first refusal of a pair that it wants
abbrev pub stop_of : List LayerSeen → Crossing → Walk → Option Stop
stop_of ls x w = on_pass w.verdict (if is_long x w.stack w.kept then Some Long else refusal ls w.changes)

-- the cause that the packet is told
abbrev pub cause_of : Stop → Cause
cause_of Long = cause.Long
cause_of (Full controller layer) = cause.Full controller layer
cause_of (Taken controller layer pair) = cause.Taken controller layer pair
cause_of Memory = cause.Memory
