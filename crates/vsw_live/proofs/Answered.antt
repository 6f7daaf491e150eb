-- A packet that the layers answered.
use Rattle.std.proofs.Common.{◌≡◌, ℕ, List, Bool, true, Some, sym, subst}
use Rattle.vsw_base.specs.declared.fate.Fate.{Fate}
use Rattle.vsw_base.specs.declared.flow.Crossing.{Crossing}
use Rattle.vsw_base.specs.declared.header.Header.{Header}
use Rattle.vsw_port.specs.Calls.{Shows}
use Rattle.vsw_port.specs.History.{Opening}
use Rattle.vsw_policy.specs.Layer.{LayerSeen}
use Rattle.vsw_answer.specs.declared.told.Why.{Why}
use Rattle.vsw_live.specs.Calls.{Crosses, call_of}
use Rattle.vsw_live.specs.Private.Locked.{CrossesSo, IsFateAt, layers_met}
use Rattle.vsw_answer.specs.Seen.{AnswerSeen}
use Rattle.vsw_live.specs.Seen.{UnitSeen}
use Rattle.vsw_port.specs.declared.crossing.Outcome.{Outcome}
use Rattle.vsw_port.specs.Crossed.{EditsPass, IsOwn}
use Rattle.vsw_flows.specs.Flows.{Writing}
use Rattle.vsw_answer.specs.Transit.{bytes_in}

pub met_fate : (ls : List LayerSeen) (x y : Crossing) (fate : Fate) → x ≡ y → IsFateAt ls x fate → IsFateAt ls y fate
met_fate ls x y fate same at = subst (λ z. IsFateAt ls z fate) same at

pub met_edits : (ls : List LayerSeen) (x y : Crossing) (hs gs : List Header) (left : ℕ) (fate : Fate) → x ≡ y → gs ≡ hs → EditsPass ls x hs left fate → EditsPass ls y gs left fate
met_edits ls x y hs gs left fate same lent edits = subst (λ (z : Crossing). EditsPass ls z gs left fate) same (subst (λ (ks : List Header). EditsPass ls x ks left fate) (sym lent) edits)

pub met_own : (x y : Crossing) (hs gs : List Header) (left : ℕ) (own : Bool) → x ≡ y → gs ≡ hs → (own ≡ true → IsOwn x hs left) → own ≡ true → IsOwn y gs left
met_own x y hs gs left own same lent is e = subst (λ (z : Crossing). IsOwn z gs left) same (subst (λ (ks : List Header). IsOwn x ks left) (sym lent) (is e))

-- with the bytes that leave it is a call
pub answered : (o : Opening) (p q : Writing) (u : UnitSeen) (x : Crossing) (outcome : Outcome) (count : ℕ) (out : List ℕ) (a : AnswerSeen) (why : Why) → x ≡ u.crossing → a ≡ record { fate = outcome.fate; count = count; entry = outcome.entry; why = Some why; own = outcome.own }
    → CrossesSo o p q x outcome count → Shows (layers_met o q.view count) u.crossing u.parts outcome.fate (bytes_in outcome.own u.parts outcome.fate out) → Crosses o p q (call_of u a out)
answered o p q u x outcome count out a why same told so shows =
    let mine : CrossesSo o p q u.crossing outcome count = subst (λ (y : Crossing). CrossesSo o p q y outcome count) same so in
    subst (λ b. Crosses o p q (call_of u b out)) (sym told) (mine u.parts (bytes_in outcome.own u.parts outcome.fate out) shows)
