-- What is told of the ports up to a place.
use Rattle.std.specs.Prelude.{◌≡◌, ℕ, zero, suc, ◌-◌, ◌<◌, Bool, List, [], ◌∷◌, ◌++◌, IfOk, OnOk, Result, get_or, length}
use Rattle.std.specs.List.{flat_map, list_any}
use Rattle.vsw_port.specs.Order.{counted}
use Rattle.vsw_report.specs.Line.{TextLine}
use Rattle.vsw_report.specs.Order.{AllInCounts, in_order}
use Rattle.vsw_report.specs.Print.{port_line}

-- a port's part of the text, and whether want of memory is told in it
abbrev pub port_told : ℕ → ℕ → ℕ → List (List TextLine) → List ℕ
port_told number before after texts = port_line number before after ++ flat_map (λ l. l.text) (in_order texts before (after - before))

abbrev pub port_short : ℕ → ℕ → List (List TextLine) → Bool
port_short before after texts = list_any (λ l. l.short) (in_order texts before (after - before))

-- the same of the port at a place, where these are the texts by places
abbrev pub told_at : List ℕ → List ℕ → List ℕ → (ℕ → List (List TextLine)) → ℕ → List ℕ
told_at numbers befores afters texts place = port_told (get_or numbers place 0) (get_or befores place 0) (get_or afters place 0) (texts place)

abbrev pub short_at : List ℕ → List ℕ → (ℕ → List (List TextLine)) → ℕ → Bool
short_at befores afters texts place = port_short (get_or befores place 0) (get_or afters place 0) (texts place)

-- the counts of each caller's lines stand within those of the port, at each of so many ports
abbrev pub AreCountedAt : ℕ → List ℕ → List ℕ → (ℕ → List (List TextLine)) → Type 0
AreCountedAt ports befores afters texts = (place : ℕ) → place < ports → AllInCounts (get_or befores place 0) (texts place) (get_or afters place 0)

-- if the counts of these lines stand within the port's, its part stands behind the text that was
abbrev pub TellsPort : {T E : Type 0} → Result T E → (number before after : ℕ) → List (List TextLine) → (old new : List ℕ) → Type 0
TellsPort r number before after texts old new = AllInCounts before texts after → OnOk r (new ≡ old ++ port_told number before after texts)

-- and it is answered whether want of memory is told in it
abbrev pub TellsPortShort : {E : Type 0} → Result Bool E → (before after : ℕ) → List (List TextLine) → Type 0
TellsPortShort r before after texts = AllInCounts before texts after → IfOk r (λ short. short ≡ port_short before after texts)

-- the same of all ports
abbrev pub TellsPorts : {T E : Type 0} → Result T E → (numbers befores afters : List ℕ) → (ℕ → List (List TextLine)) → (old new : List ℕ) → Type 0
TellsPorts r numbers befores afters texts old new = AreCountedAt (length numbers) befores afters texts → OnOk r (new ≡ old ++ flat_map (told_at numbers befores afters texts) (counted 0 (length numbers)))

abbrev pub TellsPortsShort : {E : Type 0} → Result Bool E → (numbers befores afters : List ℕ) → (ℕ → List (List TextLine)) → Type 0
TellsPortsShort r numbers befores afters texts = AreCountedAt (length numbers) befores afters texts → IfOk r (λ short. short ≡ list_any (short_at befores afters texts) (counted 0 (length numbers)))

-- a row whose lines at the first ports are gone
abbrev pub gone_to : ℕ → List (List TextLine) → List (List TextLine)
gone_to zero row = row
gone_to (suc n) [] = []
gone_to (suc n) (lines ∷ row) = [] ∷ gone_to n row
