-- Rows that the port at a place gives.
use Rattle.std.proofs.Common.{◌≡◌, ◌<◌, ℕ, zero, suc, List, [], ◌∷◌, length, get_or, Result, Ok, Err, IfOk, ap, ◌∙◌, subst, arith}
use Rattle.vsw_base.specs.declared.fault.NoMemory.{NoMemory}
use Rattle.vsw_offload.specs.declared.port_rows.PortRows.{PortRows}
use Rattle.vsw_policy.specs.Sound.{Each}
use Rattle.vsw_port.specs.declared.event.Event.{Event}
use Rattle.vsw_promise.specs.Jobs.{Setting}
use Rattle.vsw_promise.specs.Ports.{PortSeen, ports_of}
use Rattle.vsw_rows.specs.GoodRows.{IsGoodRow}
use Rattle.vsw_switch.specs.Export.{AreRowsAt, Gives, GivesAt, HasRowsAt}
use Rattle.vsw_switch.specs.Switch.{AllStandAt, IsAt, PortNow, StandsAt, SwitchNow}

gives_at : (xs : List PortNow) (i : ℕ) (x : PortNow) (r : PortRows) → i < length xs → x ≡ get_or xs i x → Gives x r → GivesAt i xs r
gives_at [] i x r lt here g = absurd (omega (arith, lt))
gives_at (z ∷ zs) zero x r lt here g = subst (λ w. Gives w r) here g
gives_at (z ∷ zs) (suc i) x r lt here g = gives_at zs i x r (omega (arith, lt)) here g

-- the port at a place gave rows, if it did
pub gives_ok : (xs : List PortNow) (i : ℕ) (x : PortNow) (r : Result PortRows NoMemory) → i < length xs → x ≡ get_or xs i x → IfOk r (Gives x) → IfOk r (GivesAt i xs)
gives_ok xs i x (Ok r) lt here g = gives_at xs i x r lt here g
gives_ok xs i x (Err e) lt here g = tt

rows_of : (workers : ℕ) (p : PortSeen) (h : List Event) (n : PortNow) (r : PortRows) → StandsAt workers p h n → Gives n r → AreRowsAt p h r
rows_of workers p h n r s g = record {
  port = g.port ∙ s.number;
  mac = g.mac ∙ s.mac;
  entries = g.entries ∙ ap length s.journal;
  good = subst (λ o. Each (IsGoodRow o h) r.rows) s.opening (subst (λ j. Each (IsGoodRow n.opening j) r.rows) s.journal g.good);
}

rows_at : (workers i : ℕ) (ps : List PortSeen) (hs : List (List Event)) (ns : List PortNow) (r : PortRows) → AllStandAt workers ps hs ns → GivesAt i ns r → HasRowsAt i ps hs r
rows_at workers i [] [] [] r s g = absurd g
rows_at workers zero (p ∷ ps) (h ∷ hs) (n ∷ ns) r s g = rows_of workers p h n r s.0 g
rows_at workers (suc i) (p ∷ ps) (h ∷ hs) (n ∷ ns) r s g = rows_at workers i ps hs ns r s.1 g
rows_at workers i [] [] (n ∷ ns) r s g = absurd s
rows_at workers i [] (h ∷ hs) ns r s g = absurd s
rows_at workers i (p ∷ ps) [] ns r s g = absurd s
rows_at workers i (p ∷ ps) (h ∷ hs) [] r s g = absurd s

-- they are rows of a port of the policy, where the ports stand at histories
pub rows_ok : (now : SwitchNow) (i : ℕ) (r : Result PortRows NoMemory) → IfOk r (GivesAt i now.ports) → IfOk r (λ rows. (s : Setting) (hs : List (List Event)) → IsAt s hs now → HasRowsAt i (ports_of s.policy) hs rows)
rows_ok now i (Ok r) g = λ s hs at. rows_at s.workers i (ports_of s.policy) hs now.ports r at.ports g
rows_ok now i (Err e) g = tt
