-- Reading in steps, up to the first fault.
use Rattle.std.specs.Prelude.{◌≡◌, List, [], ◌∷◌, ◌++◌, Result, Ok, Err, ⊤}
use Rattle.vsw_config.specs.declared.fault.Step.{Step}
use Rattle.vsw_config.specs.declared.fault.Kind.{Kind}
use Rattle.vsw_config.specs.declared.fault.Kind.TheVariants.{Shape}
use Rattle.vsw_config.specs.declared.fault.Fault.{Fault}
use Rattle.vsw_config.specs.declared.fault.Fault.TheVariants.{Bad, Memory}

-- the first step, and then the second, unless the first one fails
infixl 10 ◌>>=◌
abbrev pub ◌>>=◌ : {A B E : Type 0} → Result A E → (A → Result B E) → Result B E
Ok x >>= f = f x
Err e >>= f = Err e

-- something is wrong right here
abbrev pub bad : {A : Type 0} → Kind → Result A Fault
bad kind = Err (Bad kind [])

-- the value is of the wrong form
abbrev pub shape : {A : Type 0} → Result A Fault
shape = bad Shape

-- a fault, seen from a step further out
abbrev pub fault_under : Step → Fault → Fault
fault_under s (Bad kind path) = Bad kind (path ++ s ∷ [])
fault_under s Memory = Memory

-- an answer, seen from a step further out
abbrev pub under : {A : Type 0} → Step → Result A Fault → Result A Fault
under s (Ok x) = Ok x
under s (Err fault) = Err (fault_under s fault)

-- the answer is the value or the first fault, where memory sufficed
abbrev pub Says : {A : Type 0} → Result A Fault → Result A Fault → Type 0
Says (Ok x) value = value ≡ Ok x
Says (Err (Bad kind path)) value = value ≡ Err (Bad kind path)
Says (Err Memory) value = Unit {0}

-- the same of a fault alone
abbrev pub MaySay : Fault → Fault → Type 0
MaySay (Bad kind path) fault = fault ≡ Bad kind path
MaySay Memory fault = Unit {0}

-- an answer that lies in the tree, seen
abbrev pub seen : {A B : Type 0} → (A → B) → Result A Fault → Result B Fault
seen f (Ok x) = Ok (f x)
seen f (Err fault) = Err fault

-- the item was appended, or there was no memory
abbrev pub Grows : {A : Type 0} → Result ⊤ Fault → List A → List A → A → Type 0
Grows (Ok u) old new x = new ≡ old ++ x ∷ []
Grows (Err fault) old new x = fault ≡ Memory
