-- A value that is read in steps, taken apart.
use Rattle.std.proofs.Common.{◌≡◌, Bool, true, false, Result, Ok, Err, refl, if◌then◌else◌}
use Rattle.serde_json.specs.Data.{Data}
use Rattle.vsw_config.specs.declared.word.Word.{Word}
use Rattle.vsw_config.specs.declared.fault.Step.{Step}
use Rattle.vsw_config.specs.declared.fault.Step.TheVariants.{Member}
use Rattle.vsw_config.specs.declared.fault.Fault.{Fault}
use Rattle.vsw_config.specs.Fault.{◌>>=◌, under}
use Rattle.vsw_config.specs.Object.{found, read_in}
use Rattle.vsw_config.specs.Policy.{of_part}

pub taken : {A B E P : Type 0} (r : Result A E) (f : A → Result B E) (y : B) → (r >>= f) ≡ Ok y → ((x : A) → r ≡ Ok x → f x ≡ Ok y → P) → P
taken (Ok x) f y h k = k x refl h
taken (Err e) f y h k = cc

pub same_value : {A E : Type 0} (x y : A) → ◌≡◌ {A = Result A E} (Ok x) (Ok y) → x ≡ y
same_value x y h = cc

pub from_under : {A : Type 0} (s : Step) (r : Result A Fault) (x : A) → under s r ≡ Ok x → r ≡ Ok x
from_under s (Ok y) x h = cc
from_under s (Err e) x h = cc

pub from_part : {A : Type 0} (r : Result A Fault) (x : A) → of_part r ≡ Ok x → r ≡ Ok x
from_part (Ok y) x h = cc
from_part (Err e) x h = cc

-- a member, read
pub read : {A P : Type 0} (w : Word) (o : Data) (f : Data → Result A Fault) (y : A) → read_in w o f ≡ Ok y → ((e : Data) → f e ≡ Ok y → P) → P
unfolding read_in
read w o f y h k = taken (found w o) (λ e. under (Member w) (f e)) y h (λ e g h. k e (from_under (Member w) (f e) y h))

-- a value behind a test
pub passed : {A E : Type 0} (b : Bool) (x y : A) (e : E) → (if b then Ok x else Err e) ≡ Ok y → (b ≡ true) × (x ≡ y)
passed true x y e h = (refl, cc)
passed false x y e h = cc

pub unless : {A E : Type 0} (b : Bool) (x y : A) (e : E) → (if b then Err e else Ok x) ≡ Ok y → (b ≡ false) × (x ≡ y)
unless true x y e h = cc
unless false x y e h = (refl, cc)
