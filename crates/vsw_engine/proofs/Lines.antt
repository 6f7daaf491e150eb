-- Lines one after the other.
use Rattle.std.proofs.Common.{◌≡◌, ◌<◌, ◌+◌, ℕ, zero, suc, List, [], ◌∷◌, ◌++◌, length, take, Some, Result, Ok, Err, refl, ap, sym, ◌∙◌, subst, arith, append-nil, append_assoc}
use Rattle.std.proofs.lemmas.List.{length-take-le}
use Rattle.std.specs.List.{slice_get}
use Rattle.vsw_base.specs.declared.flow.Place.{Place}
use Rattle.vsw_base.specs.Frame.{Parts}
use Rattle.vsw_offload.specs.Rows.{macs_of}
use Rattle.vsw_offload.specs.declared.port_rows.PortRows.{PortRows}
use Rattle.vsw_pcap.specs.declared.capture.Record.{Record}
use Rattle.vsw_promise.specs.Jobs.{aim_of}
use Rattle.vsw_report.specs.Print.{loose_text}
use Rattle.vsw_report.specs.declared.round.LooseCause.{LooseCause}
use Rattle.vsw_engine.specs.Private.Lines.{AddsLine}
use Rattle.vsw_run.specs.Engine.{AreEngineLines, IsEngineLine}

-- behind lines there are those of the records that follow
pub lines_join : (ports : List PortRows) (n : ℕ) (rs qs : List Record) (text more : List ℕ) → AreEngineLines ports n rs text → AreEngineLines ports (n + length rs) qs more → AreEngineLines ports n (rs ++ qs) (text ++ more)
lines_join ports n [] qs text more a b =
    let none : n + length {A = Record} [] ≡ n = omega arith in
    subst (λ t. AreEngineLines ports n qs (t ++ more)) (sym a) (subst (λ k. AreEngineLines ports k qs more) none b)
lines_join ports n (r ∷ rs) qs text more (line, rest, is, says, l) b =
    let next : n + suc (length rs) ≡ suc n + length rs = omega arith in
    (line, rest ++ more, ap (λ (t : List ℕ). t ++ more) is ∙ append_assoc line rest more, says, lines_join ports (suc n) rs qs rest more l (subst (λ k. AreEngineLines ports k qs more) next b))

-- the line that was added, by where the packet goes
added : (ports : List PortRows) (n moment : ℕ) (to : Result (Place × Parts) LooseCause) (old new : List ℕ) → AddsLine ports n moment to old new → (line : List ℕ) × (new ≡ old ++ line) × IsEngineLine ports n moment to line
added ports n moment (Ok a) old new h = h
added ports n moment (Err why) old new h = (loose_text (record { packet = n; cause = why }), h, refl)

-- the records up to one more
take_more : (place : ℕ) (rs : List Record) (r : Record) → slice_get rs place ≡ Some r → take (suc place) rs ≡ take place rs ++ r ∷ []
take_more place [] r e = absurd (cc e)
take_more zero (q ∷ rs) r e = let same : q ≡ r = cc e in ap (λ (x : Record). x ∷ []) same
take_more (suc k) (q ∷ rs) r e = ap (λ (xs : List Record). q ∷ xs) (take_more k rs r e)

-- one line more of a batch
pub lines_more : (ports : List PortRows) (first place : ℕ) (batch : List Record) (r : Record) (old new : List ℕ) → place < length batch → slice_get batch place ≡ Some r → AreEngineLines ports first (take place batch) old → AddsLine ports (first + place) r.moment (aim_of (macs_of ports) r) old new
    → AreEngineLines ports first (take (place + 1) batch) new
lines_more ports first place batch r old new below at lines adds =
    let (line, is, says) = added ports (first + place) r.moment (aim_of (macs_of ports) r) old new adds in
    let further : place + 1 ≡ suc place = omega arith in
    let more : take (place + 1) batch ≡ take place batch ++ r ∷ [] = ap (λ k. take k batch) further ∙ take_more place batch r at in
    let long : place ≡ length (take place batch) = sym (length-take-le place batch (omega (arith, below))) in
    let one : AreEngineLines ports (first + length (take place batch)) (r ∷ []) line = (line, [], sym (append-nil line), subst (λ k. IsEngineLine ports (first + k) r.moment (aim_of (macs_of ports) r) line) long says, refl) in
    subst (λ rs. AreEngineLines ports first rs new) (sym more) (subst (λ t. AreEngineLines ports first (take place batch ++ r ∷ []) t) (sym is) (lines_join ports first (take place batch) (r ∷ []) old line lines one))
