-- A packet that meets a layer, and one that a layer made something of.
use Rattle.std.specs.Prelude.{ℕ, List, Bool, true, false, Option, Some, None}
use Rattle.vsw_base.specs.declared.fate.Verdict.{Verdict}
use Rattle.vsw_base.specs.declared.flow.Crossing.{Crossing}
use Rattle.vsw_base.specs.declared.header.Header.{Header}
use Rattle.vsw_policy.specs.Layer.{LayerSeen}
use Rattle.vsw_walk.specs.Visit.{visit_of}
use Rattle.vsw_walk.specs.Walk.{Told, Walk, after, along, by_visit, looking_in}

-- a packet meets a layer at its place, and this is the walk from there
abbrev pub met : Crossing → ℕ → LayerSeen → List Header → ℕ → (List Header → ℕ → Walk) → Walk
met x place l hs kept next = looking_in place l x.id.dir hs (by_visit place hs kept (visit_of l x.id.dir x.control x.moment hs) next)

-- the walk over the layers that are left, before which this was told and so many encapsulations were kept
abbrev pub from : Crossing → Told → ℕ → List (ℕ × LayerSeen) → Walk
from x told kept ls = after told (along x.id.dir x.control x.moment ls told.stack kept)

-- a walk that ended so
abbrev pub ended_with : Verdict → Told → ℕ → Walk
ended_with verdict told kept = record { verdict = verdict; stack = told.stack; kept = kept; changes = told.changes; looked = told.looked; due = told.due }

-- the verdict of a layer from which the packet doesn't go on
abbrev pub stopped : Bool → Verdict → Option Verdict
stopped true verdict = None
stopped false verdict = Some verdict

-- a walk that a layer ended, if it dropped the packet, and that else goes on
abbrev pub stepped : Option Verdict → Told → ℕ → (List Header → ℕ → Walk) → Walk
stepped (Some verdict) told kept next = ended_with verdict told kept
stepped None told kept next = after told (next told.stack kept)
