-- What a call hands on.
use Rattle.std.proofs.Common.{◌≡◌, ◌≢◌, ◌==◌, ℕ, Bool, true, false, if◌then◌else◌, List, [], ◌∷◌, map, Option, Some, None, Result, Ok, Err, refl, ap, sym, ◌∙◌, subst, eq-eqb}
use Rattle.std.specs.Prelude.{option_and_then, option_map, option_to_list}
use Rattle.vsw_base.specs.declared.fate.Fate.TheVariants.{Pass, Drop}
use Rattle.vsw_base.specs.declared.fault.BadFrame.{BadFrame}
use Rattle.vsw_base.specs.declared.flow.Place.{Place}
use Rattle.vsw_base.specs.declared.packet.Dir.{Dir}
use Rattle.vsw_base.specs.declared.packet.Dir.TheVariants.{Out, In}
use Rattle.vsw_base.specs.Frame.{Parts, frame_of}
use Rattle.vsw_header.specs.PortChoice.{in_of}
use Rattle.vsw_hairpin.specs.Handing.{handed_by}
use Rattle.vsw_policy.specs.Sound.{Each}
use Rattle.vsw_port.specs.Calls.{Asked, Carried, Deed, Job, job_doer, job_of}
use Rattle.vsw_promise.specs.Jobs.{Hop, Placed, handed_on, hop_of, if_other, second_job}
use Rattle.vsw_report.specs.declared.told.What.{What}
use Rattle.vsw_report.specs.declared.told.What.TheVariants as what
use Rattle.vsw_actors.specs.Lanes.{IsHop}

-- what was handed on is a frame for another port than the one it left
pub record IsFor (from : ℕ) (bytes : List ℕ) (h : Hop) : Type 0 where
  pub other : (h.port == from) ≡ false
  pub frame : frame_of bytes ≡ Ok h.parts

-- what holds of nothing, and of each frame for another port, holds of what is handed on
module _ (P : List Hop → Type 0) (macs : List ℕ) (from : ℕ) (bytes : List ℕ) (none : P []) (one : (h : Hop) → IsFor from bytes h → P (h ∷ [])) where
  hop_is : P (option_to_list (hop_of macs from bytes))
  hop_is = by (frame_of bytes) refl
    where
      test : (parts : Parts) (port : ℕ) (b : Bool) → frame_of bytes ≡ Ok parts → (port == from) ≡ b → P (option_to_list (option_map (λ port. record { port = port; parts = parts }) (if b then None else Some port)))
      test parts port true f e = none
      test parts port false f e = one (record { port = port; parts = parts }) (record { other = e; frame = f })

      at : (parts : Parts) (o : Option ℕ) → frame_of bytes ≡ Ok parts → P (option_to_list (option_map (λ port. record { port = port; parts = parts }) (option_and_then (if_other from) o)))
      at parts None f = none
      at parts (Some port) f = test parts port (port == from) f refl

      by : (o : Result Parts BadFrame) → frame_of bytes ≡ o → P (option_to_list (elim o [ Err fault ↦ None | Ok parts ↦ option_map (λ port. record { port = port; parts = parts }) (option_and_then (if_other from) (in_of macs parts.stack)) ]))
      by (Err fault) f = none
      by (Ok parts) f = at parts (in_of macs parts.stack) f

-- the bytes that are told
abbrev pub bytes_told : What → List ℕ
bytes_told (what.Reply reply) = []
bytes_told (what.Fate fate bytes) = bytes

pub handed_is : (P : List Hop → Type 0) (macs : List ℕ) (place : Place) (w : What) → P [] → ((h : Hop) → IsFor place.port (bytes_told w) h → P (h ∷ [])) → P (handed_on macs place w)
handed_is P macs place (what.Reply reply) none one = none
handed_is P macs place (what.Fate (Drop cause) bytes) none one = none
handed_is P macs place (what.Fate (Pass len) bytes) none one = by place.dir
  where
    by : (d : Dir) → P (elim d [ In ↦ [] | Out ↦ option_to_list (hop_of macs place.port bytes) ])
    by In = none
    by Out = hop_is P macs place.port bytes none one

not_same : (x y : ℕ) → (x == y) ≡ false → x ≢ y
not_same x y e f = let t : (x == y) ≡ true = eq-eqb x y f in absurd (cc (e, t))

-- each is the same caller's, at another place
pub hops_own : (macs : List ℕ) (place : ℕ) (d : Deed) (j : Job) → job_of d ≡ j → Each (IsHop place j) (handed_by macs place d)
hops_own macs place (Asked l reply) j e = tt
hops_own macs place (Carried x p fate bytes) j e =
    handed_is (λ hs. Each (IsHop place j) (map (second_job x.caller x.packet x.moment) hs)) macs (record { port = place; dir = x.id.dir }) (what.Fate fate bytes) tt
    (λ h is. (record { other = not_same h.port place is.other; doer = λ cs. ap (job_doer cs) e }, tt))
