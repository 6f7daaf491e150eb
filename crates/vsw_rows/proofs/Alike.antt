-- Packets of one identity go one way.
use Rattle.std.proofs.Common.{◌≡◌, List, not, ◌==◌, length, Option, Result, Ok, Err, refl, ap, ◌∙◌}
use Rattle.vsw_port.specs.declared.stop.Stop.{Stop}
use Rattle.vsw_port.specs.Admit.{stop_of}
use Rattle.vsw_base.specs.declared.flow.Crossing.{Crossing}
use Rattle.vsw_base.specs.declared.fate.Cause.{Cause}
use Rattle.vsw_base.specs.declared.fate.Fate.TheVariants.{Pass}
use Rattle.vsw_port.specs.Cross.{Crossed, Passing, all_done, cross_of, fate_after, made_after}
use Rattle.vsw_port.specs.Fate.{fate_by}
use Rattle.vsw_walk.specs.Walk.{Walk, walk_of}
use Rattle.vsw_walk.proofs.Held.{unseen}
use Rattle.vsw_policy.specs.Layer.{LayerSeen}
use Rattle.vsw_words.proofs.Decoded.{apart}
use Rattle.vsw_rows.specs.WordsLaw.{WordsDecide}

-- a crossing by its walk and by what stops it
abbrev crossed_by : List LayerSeen → Walk → Option Stop → Crossed
crossed_by ls w s = record { fate = fate_after w.verdict s w.stack w.kept; layers = all_done (made_after w.verdict s w.changes) ls; changed = not (length (made_after w.verdict s w.changes) == 0) }

-- the caller and the number of a packet show nowhere
same_stop : (ls : List LayerSeen) (x y : Crossing) (w v : Walk) → x.id ≡ y.id → x.sizes ≡ y.sizes → w ≡ v → stop_of ls x w ≡ stop_of ls y v
same_stop ls x y w v e f g = rw (e, f, g) refl

made_from : (ls : List LayerSeen) (x y : Crossing) (w v : Walk) (s t : Option Stop) → w ≡ v → s ≡ t → made_after w.verdict s w.changes ≡ made_after v.verdict t v.changes
made_from ls x y w v s t e f = rw (e, f) refl

crossed_from : (ls : List LayerSeen) (w v : Walk) (s t : Option Stop) → w ≡ v → s ≡ t → crossed_by ls w s ≡ crossed_by ls v t
crossed_from ls w v s t e f = rw (e, f) refl

same_fate : (x y : Crossing) (r q : Result Passing Cause) → x.id ≡ y.id → x.sizes ≡ y.sizes → r ≡ q → fate_by x r ≡ fate_by y q
same_fate x y r q e f g = ap (fate_by x) g ∙ by q
  where
    by : (q : Result Passing Cause) → fate_by x q ≡ fate_by y q
    by (Ok way) = ap Pass (rw (e, f) refl)
    by (Err cause) = refl

pub alike : WordsDecide
alike ls x y a =
    let id = apart x.id y.id a.one a.other a.words in
    let way : walk_of ls x ≡ walk_of ls y = unseen ls x y id a.control a.moment in
    let stop : stop_of ls x (walk_of ls x) ≡ stop_of ls y (walk_of ls y) = same_stop ls x y (walk_of ls x) (walk_of ls y) id a.sizes way in
    let all : cross_of ls x ≡ cross_of ls y = crossed_from ls (walk_of ls x) (walk_of ls y) (stop_of ls x (walk_of ls x)) (stop_of ls y (walk_of ls y)) way stop in
    record { fate = same_fate x y (cross_of ls x).fate (cross_of ls y).fate id a.sizes (ap (λ (c : Crossed). c.fate) all); changes = made_from ls x y (walk_of ls x) (walk_of ls y) (stop_of ls x (walk_of ls x)) (stop_of ls y (walk_of ls y)) way stop; crossing = all }
