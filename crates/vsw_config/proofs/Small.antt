-- What is made of a VNI that is small enough.
use Rattle.std.proofs.Common.{◌≡◌, ℕ, ◌<◌, ◌^◌, Bool, true, false, Ok, refl, ap}
use Rattle.std.specs.Prelude.{nat_lt}
use Rattle.std.specs.Coded.{le_prop}
use Rattle.std.proofs.lemmas.Bool.{lt-ltb}
use Rattle.vsw_config.specs.Action.{if_small, small}

if_small_is : {A : Type 0} (vni : ℕ) (make : vni < 2 ^ 24 → A) (h : vni < 2 ^ 24) (b : Bool) (t : nat_lt vni (2 ^ 24) ≡ b) → if_small vni make b t ≡ Ok (make h)
if_small_is vni make h true t = ap (λ p. Ok (make p)) (le_prop _ h)
if_small_is vni make h false t = let yes : nat_lt vni (2 ^ 24) ≡ true = lt-ltb vni (2 ^ 24) h in cc

pub small_is : {A : Type 0} (vni : ℕ) (make : vni < 2 ^ 24 → A) (h : vni < 2 ^ 24) → small vni make ≡ Ok (make h)
unfolding small
small_is vni make h = if_small_is vni make h (nat_lt vni (2 ^ 24)) refl
