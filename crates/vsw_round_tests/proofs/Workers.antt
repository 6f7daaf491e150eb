-- A packet that a port without layers carries is a call, and three workers may begin.
use Rattle.std.proofs.Common.{◌≡◌, ◌<◌, ℕ, suc, List, [], ◌∷◌, length, Vec, false, not, ◌==◌, Option, Some, None, refl, arith}
use Rattle.vsw_actors.specs.declared.actor.Placed.{Placed}
use Rattle.vsw_actors.specs.declared.lane.Lane.{Lane}
use Rattle.vsw_actors.specs.Actors.{AreMine}
use Rattle.vsw_actors.specs.Lanes.{IsOwn, IsTaken}
use Rattle.vsw_actors.specs.Rows.{IsSetUp, MayBegin}
use Rattle.vsw_round_tests.specs.declared.carrying.Load.{Load}
use Rattle.vsw_round_tests.specs.declared.carrying.Packet.{Packet}
use Rattle.vsw_round_tests.specs.declared.refusing.Refusing.{Refusing}
use Rattle.vsw_port.specs.Admit.{stop_of}
use Rattle.vsw_port.specs.declared.stop.Stop.{Stop}
use Rattle.vsw_base.specs.declared.fate.Fate.{Fate}
use Rattle.vsw_base.specs.declared.fate.Fate.TheVariants.{Pass, Drop}
use Rattle.vsw_base.specs.declared.fate.Verdict.{Verdict}
use Rattle.vsw_base.specs.declared.fate.Verdict.TheVariants as verdict
use Rattle.vsw_port.specs.Cross.{cross_of, made_after}
use Rattle.vsw_port.specs.Calls.{Read, Shows}
use Rattle.vsw_port.proofs.Fronts.{prefix_self}
use Rattle.vsw_many.specs.Passes.{Crosses}
use Rattle.vsw_policy.specs.Sound.{Each}
use Rattle.vsw_promise.specs.Rounds.{opening_of}
use Rattle.vsw_walk.specs.Walk.{walk_of}
use Rattle.vsw_round_tests.specs.Carrying.{AreThreeRows, AreThreeShares, IsRow, IsShare, brought, bytes_of, carried, crossing, is_of, parts, pass, permits, takes, tells}
use Rattle.vsw_round_tests.specs.Refusing.{locals, port}

-- whoever wants no change makes none
none_made : (v : Verdict) (stop : Option Stop) → not (length (made_after v stop []) == 0) ≡ false
none_made verdict.Pass None = refl
none_made verdict.Pass (Some stop) = refl
none_made (verdict.Rule controller layer group rule) stop = refl
none_made (verdict.Default controller layer dir) stop = refl

unchanged : (p : Packet) → (cross_of [] (crossing p)).changed ≡ false
unfolding walk_of
unchanged p = none_made verdict.Pass (stop_of [] (crossing p) (walk_of [] (crossing p)))

shown : (p : Packet) (f : Fate) → Shows [] (crossing p) parts f (bytes_of p f)
shown p (Pass len) = refl
shown p (Drop cause) = refl

pub carries : (p : Refusing) (r s : Load) (j : Packet) → s.worker ≡ r.worker → Crosses (opening_of (port p)) (pass r) (pass s) (brought j) (carried j)
carries p r s j same = record { number = same; seen = prefix_self []; about = refl; call = Read (record { marked = refl; within = omega arith; reads = (refl, unchanged j) }); shows = shown j _; low = omega arith; receipts = refl }

-- ---- three workers

own : (k : ℕ) (j : Packet) (ps : List Refusing) → j.worker ≡ k → IsOwn port (brought j) k ps
own k j [] e = tt
own k j (p ∷ ps) e = (e, own k j ps e)

taken : (i at : ℕ) (j : Packet) (ps : List Refusing) → IsTaken takes i at j ps
taken i at j [] = tt
taken i at j (p ∷ ps) = ((λ e. tt), taken (suc i) at j ps)

mine : (k : ℕ) (ps : List Refusing) (js : List (Placed Packet)) → length ps ≡ 2 → Each (λ a. (a.job.worker ≡ k) × (a.place < 2)) js → AreMine port brought takes k ps js
mine k ps [] two e = tt
mine k ps (j ∷ js) two e = ((own k j.job ps e.0.0, taken 0 j.place j.job ps, omega (arith, two, e.0.1)), mine k ps js two e.1)

set_up : (k : ℕ) (ps : List Refusing) (ls : List (Lane Load)) (js : List (Placed Packet)) → length ps ≡ 2 → IsRow k ls → IsShare k js → IsSetUp port locals pass brought tells is_of permits takes k ps ls js
set_up k (p ∷ q ∷ []) (l ∷ m ∷ []) js two row share = record {
  alike = (refl, (refl, tt));
  same = refl;
  small = omega arith;
  few = omega (arith, share.0);
  begins = (row.1, record { number = row.0; front = refl; receipts = refl }, tt, (row.3, record { number = row.2; front = refl; receipts = refl }, tt, tt));
  fit = (record { station = tt; number = row.0; based = omega (arith, row.1); room = share.0 }, (record { station = tt; number = row.2; based = omega (arith, row.3); room = share.0 }, tt));
  mine = mine k (p ∷ q ∷ []) js two share.1;
}
set_up k [] ls js two row share = absurd (omega (arith, two))
set_up k (p ∷ []) ls js two row share = absurd (omega (arith, two))
set_up k (p ∷ q ∷ r ∷ ps) ls js two row share = absurd (omega (arith, two))
set_up k (p ∷ q ∷ []) [] js two row share = absurd row
set_up k (p ∷ q ∷ []) (l ∷ []) js two row share = absurd row
set_up k (p ∷ q ∷ []) (l ∷ m ∷ n ∷ ls) js two row share = absurd row

pub three_begin : {F G : Type 0} (ps : List Refusing) (rs : List (Vec (Lane Load) F)) (ss : List (Vec (Placed Packet) G)) → length ps ≡ 2 → AreThreeRows rs → AreThreeShares ss → MayBegin port locals pass brought tells is_of permits takes 0 ps rs ss
three_begin ps (a ∷ b ∷ c ∷ []) (x ∷ y ∷ z ∷ []) two rows shares = (set_up 0 ps a.items x.items two rows.0 shares.0, (set_up 1 ps b.items y.items two rows.1 shares.1, (set_up 2 ps c.items z.items two rows.2 shares.2, tt)))
three_begin ps [] ss two rows shares = absurd rows
three_begin ps (a ∷ []) ss two rows shares = absurd rows
three_begin ps (a ∷ b ∷ []) ss two rows shares = absurd rows
three_begin ps (a ∷ b ∷ c ∷ d ∷ rs) ss two rows shares = absurd rows
three_begin ps (a ∷ b ∷ c ∷ []) [] two rows shares = absurd shares
three_begin ps (a ∷ b ∷ c ∷ []) (x ∷ []) two rows shares = absurd shares
three_begin ps (a ∷ b ∷ c ∷ []) (x ∷ y ∷ []) two rows shares = absurd shares
three_begin ps (a ∷ b ∷ c ∷ []) (x ∷ y ∷ z ∷ w ∷ ss) two rows shares = absurd shares
