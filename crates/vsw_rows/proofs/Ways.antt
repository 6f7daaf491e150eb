-- Changes that shake no look leave ways and rows.
use Rattle.std.proofs.Common.{◌≡◌, List, [], ◌∷◌, length, refl, sym, ap, subst, ◌∙◌}
use Rattle.vsw_port.proofs.Walks.{each_crossed, places}
use Rattle.vsw_base.specs.declared.flow.Crossing.{Crossing}
use Rattle.vsw_base.specs.declared.flow.Ufid.{Ufid}
use Rattle.vsw_base.specs.declared.packet.Control.TheVariants as control
use Rattle.vsw_base.specs.Shape.{encaps}
use Rattle.vsw_port.specs.Cross.{all_done, made_by}
use Rattle.vsw_walk.specs.Walk.{Walk, along, crossed, placed, until_after, until_of, walk_of}
use Rattle.vsw_walk.specs.declared.scratch.Looked.{Looked}
use Rattle.vsw_policy.specs.Layer.{LayerSeen}
use Rattle.vsw_rows.specs.Good.{Good, Row}
use Rattle.vsw_rows.specs.LeanLaw.{CrossingStays, LooksRight, MomentUnseen, RowsStay, WalkMakes, WayStays}
use Rattle.vsw_rows.specs.Shaken.{shake}
use Rattle.vsw_rows.specs.Way.{looks, plain, way_of}
use Rattle.vsw_rows.proofs.Along.{Alike, Stands, along_alike, crossed_fresh, looks_right}
use Rattle.vsw_rows.proofs.Stays.{Stays, all_stay, length_all}
use Rattle.vsw_policy.specs.Sound.{Each}
use Rattle.vsw_transpose.specs.Apply.{apply}
use Rattle.vsw_transpose.specs.Fits as fit

pub stand : (ls : List LayerSeen) (id : Ufid) → Each (Stands ls) (crossed id.dir (placed 0 ls))
stand ls id = each_crossed (Stands ls) id.dir (placed 0 ls) (places ls)

-- walks of a packet without a control, over layers that tell its looks the same
walks_alike : (ls now : List LayerSeen) (x : Crossing) → x.control ≡ control.None → length now ≡ length ls → Each (λ q. Stays q ls now) (looks ls x.id) → Alike (walk_of now x) (walk_of ls (plain x.id))
unfolding walk_of
walks_alike ls now x c e h =
    let es = crossed x.id.dir (placed 0 ls) in
    let fs = crossed x.id.dir (placed 0 now) in
    let a = along_alike ls now x.id.dir 0 x.moment es x.id.stack (encaps x.id.stack) (stand ls x.id) h in
    subst (λ k. Alike (along x.id.dir k x.moment fs x.id.stack (encaps x.id.stack)) (along x.id.dir control.None 0 es x.id.stack (encaps x.id.stack))) (sym c)
    (subst (λ ks. Alike (along x.id.dir control.None x.moment ks x.id.stack (encaps x.id.stack)) (along x.id.dir control.None 0 es x.id.stack (encaps x.id.stack))) (sym (crossed_fresh x.id.dir ls now e)) a)

stay_self : (ls : List LayerSeen) (qs : List Looked) → Each (λ q. Stays q ls ls) qs
stay_self ls [] = tt
stay_self ls (q ∷ qs) = (refl, stay_self ls qs)

-- walks that end alike have one until
until_alike : (v w : Walk) → Alike v w → until_of v ≡ until_of w
until_alike v w a = (λ i. until_after (a.verdict i) (a.due i))

pub moment_unseen : MomentUnseen
unfolding way_of
moment_unseen ls x c =
    let a = walks_alike ls ls x c refl (stay_self ls (looks ls x.id)) in
    (record { verdict = a.verdict; stack = a.stack; kept = a.kept; makes = a.makes; until = until_alike (walk_of ls x) (walk_of ls (plain x.id)) a }, a.looked)

pub right_looks : LooksRight
unfolding walk_of
right_looks ls id = looks_right ls id.dir 0 (crossed id.dir (placed 0 ls)) id.stack (encaps id.stack) (stand ls id)

pub way_stays : WayStays
unfolding way_of
way_stays ls ws id h =
    let now = all_done ws ls in
    let a = walks_alike ls now (plain id) refl (length_all ws ls) (all_stay ls ws (looks ls id) (right_looks ls id) h) in
    ((λ i. record { verdict = a.verdict i; stack = a.stack i; kept = a.kept i; makes = a.makes i; until = until_after (a.verdict i) (a.due i) }), a.looked)

good_as : (ls now : List LayerSeen) (r : Row) → way_of now r.id ≡ way_of ls r.id → Good ls r → Good now r
good_as ls now r e g = record {
  verdict = g.verdict ∙ ap (λ w. w.verdict) (sym e);
  bare = g.bare;
  makes = λ p. ap (λ w. w.makes) e ∙ g.makes p;
  fits = g.fits;
  stack = λ p. g.stack p ∙ ap (λ w. w.stack) (sym e);
  kept = λ p. g.kept p ∙ ap (λ w. w.kept) (sym e);
  until = g.until ∙ ap (λ w. w.until) (sym e);
}

pub rows_stay : RowsStay
rows_stay ls ws [] u g = tt
rows_stay ls ws (k ∷ ks) u g =
    let w = way_stays ls ws k.row.id (sym (ap (shake ls ws) g.0.leans) ∙ u.0) in
    (record { good = good_as ls (all_done ws ls) k.row w.0 g.0.good; leans = g.0.leans ∙ sym w.1 }, rows_stay ls ws ks u.1 g.1)

pub crossing_stays : CrossingStays
crossing_stays ls x ks u g = rows_stay ls (made_by ls x) ks u g

pub walk_makes : WalkMakes
walk_makes ls x r m =
    let w = moment_unseen ls x m.control in
    record {
      good = record {
        verdict = m.verdict ∙ w.0.verdict ∙ ap (λ i. (way_of ls i).verdict) (sym m.id);
        bare = m.bare;
        makes = λ p. ap (λ i. (way_of ls i).makes) m.id ∙ sym w.0.makes ∙ m.makes p;
        fits = λ p. ap (λ i. fit.fits r.acts i.stack) m.id ∙ m.fits p;
        stack = λ p. ap (λ i. apply r.acts i.stack) m.id ∙ m.stack p ∙ w.0.stack ∙ ap (λ i. (way_of ls i).stack) (sym m.id);
        kept = λ p. m.kept p ∙ w.0.kept ∙ ap (λ i. (way_of ls i).kept) (sym m.id);
        until = m.until ∙ w.0.until ∙ ap (λ i. (way_of ls i).until) (sym m.id);
      };
      leans = w.1 ∙ ap (looks ls) (sym m.id);
    }
