-- The packets of a round are dealt.
use Rattle.std.proofs.Common.{◌≡◌, ◌<◌, ◌+◌, ◌^◌, ℕ, suc, false, List, [], ◌∷◌, ◌++◌, length, map, refl, ap, ◌∙◌, subst, Global, Vec}
use Rattle.std.specs.Arc.{arc_value}
use Rattle.std.specs.declared.sync.Arc.{Arc}
use Rattle.vsw_actors.specs.Picks.{ArePicks, AtMost, dealt_to, picked}
use Rattle.vsw_actors.specs.declared.pick.Pick.{Pick}
use Rattle.vsw_harbour.specs.Harbour.{HarbourSeen, IsHarbour}
use Rattle.vsw_pcap.specs.declared.capture.Record.{Record}
use Rattle.vsw_port.specs.Order.{numbered}
use Rattle.vsw_promise.specs.Jobs.{loose_among, placed_packets}
use Rattle.vsw_report.specs.declared.round.Loose.{Loose}
use Rattle.vsw_crew.specs.Private.Round.{macs_in}
use Rattle.vsw_crew.specs.Shift.{IsPicked}

pub is_picked : (h : HarbourSeen) (numbers macs listed asks slice : List ℕ) (workers first : ℕ) (packets : List Record) (arc : Arc (List Record) Global) (picks : Vec (Vec Pick Global) Global) (loose : Vec Loose Global) (none : List Loose) → IsHarbour h numbers macs listed asks → slice ≡ macs → workers ≡ h.workers → packets ≡ arc_value arc
    → first + length (arc_value arc) < 2 ^ 32 → none ≡ [] → ((cs : List ℕ) → picked 0 first packets picks.items ≡ dealt_to workers cs (placed_packets workers false slice [] (numbered first packets))) → length picks.items ≡ workers → ArePicks (length slice) packets picks.items → AtMost (length packets) picks.items → loose.items ≡ none ++ loose_among slice (numbered first packets)
    → IsPicked h first (arc_value arc) (record { first = first; packets = arc; picks = picks; loose = loose })
is_picked h numbers macs listed asks slice workers first packets arc picks loose none i s w p total n dealt size fit few told =
    let here : slice ≡ macs_in h = s ∙ i.macs_are in
    let many : length slice ≡ length h.docks = ap length here ∙ map_many (λ d. d.mac) h.docks in
    record {
      first_is = refl;
      packets_are = refl;
      numbers = total;
      size = size ∙ w;
      dealt = λ cs. subst (λ (rs : List Record). picked 0 first rs picks.items ≡ dealt_to h.workers cs (placed_packets h.workers false (macs_in h) [] (numbered first rs))) p
          (subst (λ (k : ℕ). picked 0 first packets picks.items ≡ dealt_to k cs (placed_packets k false (macs_in h) [] (numbered first packets))) w (subst (λ (ms : List ℕ). picked 0 first packets picks.items ≡ dealt_to workers cs (placed_packets workers false ms [] (numbered first packets))) here (dealt cs)));
      fit = subst (λ (rs : List Record). ArePicks (length h.docks) rs picks.items) p (subst (λ (k : ℕ). ArePicks k packets picks.items) many fit);
      few = subst (λ (rs : List Record). AtMost (length rs) picks.items) p few;
      loose = told ∙ (ap (λ (w : List Loose). w ++ loose_among slice (numbered first packets)) n ∙ (ap (λ (ms : List ℕ). loose_among ms (numbered first packets)) here ∙ ap (λ (rs : List Record). loose_among (macs_in h) (numbered first rs)) p));
    }
  where
    map_many : {A B : Type 0} (f : A → B) (xs : List A) → length (map f xs) ≡ length xs
    map_many f [] = refl
    map_many f (x ∷ xs) = ap suc (map_many f xs)
