-- A packet that no layer edited leaves with its own headers.
use Rattle.std.proofs.Common.{◌≡◌, ◌-◌, ◌+◌, ◌*◌, ℕ, List, [], false, sym, ap, ◌∙◌, arith}
use Rattle.vsw_base.specs.declared.flow.Crossing.{Crossing}
use Rattle.vsw_base.specs.declared.header.Header.{Header}
use Rattle.vsw_base.specs.Shape.{encaps}
use Rattle.std.specs.Prelude.{nat_lt}
use Rattle.vsw_frame.specs.Bytes.{total_over}
use Rattle.vsw_port.specs.Crossed.{IsOwn}
use Rattle.vsw_port.specs.Long.{is_long, outgoing_size, size_without}
use Rattle.vsw_rule.specs.declared.rule.Action.{Action}
use Rattle.vsw_walk.specs.Made.{Leads, left_by, made_by}
use Rattle.vsw_walk.specs.Walk.{Told}

-- where no action was done
pub own_of : (x : Crossing) (told : Told) (kept : ℕ) → Leads x.id.stack told kept → told.edits ≡ [] → IsOwn x told.stack kept
own_of x told kept leads none = record {
  stack = leads.made ∙ ap (λ (done : List Action). made_by done x.id.stack) none;
  kept = leads.left ∙ ap (λ (done : List Action). left_by done x.id.stack (encaps x.id.stack)) none;
}

-- it isn't long, and has the size of its frame
own_total : (x : Crossing) (hs : List Header) (left : ℕ) → IsOwn x hs left → is_long x hs left ≡ false
own_total x hs left own =
    let pushes : encaps hs - left ≡ 0 = omega (arith, own.kept, ap encaps own.stack) in
    ap (λ (n : ℕ). nat_lt 65535 (total_over n (size_without x.sizes (encaps x.id.stack - left)))) pushes

pub own_short : (x : Crossing) (told : Told) (kept : ℕ) → Leads x.id.stack told kept → told.edits ≡ [] → is_long x told.stack kept ≡ false
own_short x told kept leads none = own_total x told.stack kept (own_of x told kept leads none)

own_bytes : (x : Crossing) (hs : List Header) (left : ℕ) → IsOwn x hs left → x.sizes.whole ≡ outgoing_size x hs left
own_bytes x hs left own =
    let drops : encaps x.id.stack - left ≡ 0 = omega (arith, own.kept) in
    let pushes : encaps hs - left ≡ 0 = omega (arith, own.kept, ap encaps own.stack) in
    sym (ap (λ (n : ℕ). size_without x.sizes n + 50 * (encaps hs - left)) drops ∙ (ap (λ (n : ℕ). x.sizes.whole + 50 * n) pushes ∙ omega arith))

pub own_size : (x : Crossing) (told : Told) (kept : ℕ) → Leads x.id.stack told kept → told.edits ≡ [] → x.sizes.whole ≡ outgoing_size x told.stack kept
own_size x told kept leads none = own_bytes x told.stack kept (own_of x told kept leads none)
