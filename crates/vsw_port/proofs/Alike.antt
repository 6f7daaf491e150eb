-- The sizes of a frame tell how long it gets.
use Rattle.std.proofs.Common.{◌≡◌, ◌≤◌, ◌-◌, ◌∙◌, ℕ, zero, suc, ◌+◌, ◌*◌, List, refl, sym, ap, subst, arith}
use Rattle.vsw_port.specs.AdmissionLaw.{IsLongAlike, IsSized}
use Rattle.vsw_port.specs.Long.{size_without}
use Rattle.vsw_base.specs.declared.header.Header.{Header}
use Rattle.vsw_base.specs.declared.flow.Crossing.{Crossing}
use Rattle.vsw_base.specs.Frame.{Level, Parts, size_at, sizes_of}
use Rattle.vsw_walk.specs.Walk.{Walk, walk_of}
use Rattle.vsw_base.specs.Shape.{encaps, inner}
use Rattle.vsw_base.proofs.Stacks.{in_front}
use Rattle.vsw_frame.specs.Bytes.{pushes, total_over}
use Rattle.vsw_frame.proofs.Carried.{Carries, frame_carries, frame_few}
use Rattle.vsw_frame.proofs.Sizes.{outgoing_length}
use Rattle.vsw_port.proofs.Follows.{Follows, walk_follows}

size_is : (ls : List Level) (n : ℕ) → n ≤ 2 → size_without (sizes_of ls) n ≡ size_at n ls
size_is ls zero h = refl
size_is ls (suc zero) h = refl
size_is ls (suc (suc zero)) h = refl
size_is ls (suc (suc (suc n))) h = absurd (omega (arith, h))

-- bytes of the frame without some of its encapsulations
pub size_told : (x : Crossing) (p : Parts) (kept : ℕ) → encaps p.stack ≤ 2 → x.id.stack ≡ p.stack → x.sizes ≡ sizes_of p.levels → size_without x.sizes (encaps x.id.stack - kept) ≡ size_at (encaps p.stack - kept) p.levels
size_told x p kept few e f = let drops : encaps p.stack - kept ≤ 2 = omega (arith, few) in rw (e, f) (size_is p.levels (encaps p.stack - kept) drops)

pub long_alike : IsLongAlike
long_alike p x edited kept t e f = ap (total_over (pushes edited kept)) (size_told x p kept (in_front p.stack t).0 e f)

pub sized : IsSized
sized ls x p frame h e f =
    let w : Walk = walk_of ls x in
    let first : Carries (encaps x.id.stack) (inner p.stack) x.id.stack = subst (λ (hs : List Header). Carries (encaps hs) (inner p.stack) hs) (sym e) (frame_carries frame p h) in
    let g : Follows (inner p.stack) (encaps x.id.stack) w.stack w.kept = walk_follows ls x (inner p.stack) first in
    let size = size_told x p w.kept (frame_few frame p h) e f in
    outgoing_length frame p w.stack g.number w.kept h g.carries (omega (arith, g.of_first, ap encaps e)) g.of_edited ∙ ap (λ (n : ℕ). n + 50 * pushes w.stack w.kept) (sym size)
