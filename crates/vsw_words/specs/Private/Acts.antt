-- What three words of an act do, by their kind, and what acts are counted to.
use Rattle.std.specs.Prelude.{ℕ, ◌+◌, ◌/◌, ◌==◌, ◌||◌, List, [], ◌∷◌, Bool, true, false, Some, None, nat_lt, if◌then◌else◌}
use Rattle.vsw_base.specs.declared.header.Header.{Header}
use Rattle.vsw_words.specs.Doing.{edits}
use Rattle.vsw_words.specs.declared.doing.Doing.{Doing}
use Rattle.vsw_transpose.specs.declared.act.Change.TheVariants as of
use Rattle.vsw_transpose.specs.declared.act.Act.{Act}
use Rattle.vsw_transpose.specs.declared.act.Act.TheVariants.{Push, Pop, Modify, Ignore}
use Rattle.vsw_transpose.specs.Apply.{changed}
use Rattle.vsw_words.specs.Reading.{ether_by, ether_change, ip6, ip_by, ip_change, ports_change, vxlan_by}

-- the header that words of a kind below 4 push
abbrev pub push_at : ℕ → ℕ → ℕ → ℕ → Header
push_at kind head first second = if kind == 1 then ether_by head first second else if kind == 2 then ip_by head first second else vxlan_by head

-- what words of a lone source or a lone destination of IPv6 make of a header
abbrev pub six_at : ℕ → ℕ → ℕ → Header → Header
six_at kind first second h =
    if kind == 9 then changed (of.Six (Some (ip6 first second)) None) h
    else if kind == 10 then changed (of.Six None (Some (ip6 first second))) h
    else h

-- what words of a kind above 4 make of a header
abbrev pub stay_at : ℕ → ℕ → ℕ → ℕ → Header → Header
stay_at kind head first second h =
    if kind == 5 then changed (ether_change head first second) h
    else if kind == 6 then changed (ip_change head first second) h
    else if kind == 7 then changed (ports_change head first second) h
    else six_at kind first second h

-- so many pops and pushes, and what is said of the acts behind them
abbrev pub counted : ℕ → ℕ → Bool → Doing
counted p q rest = record { pops = p / 3; pushes = q / 3; edits = nat_lt 0 (p + q) || rest }

-- acts counted on from so many pops and pushes, up to one at a header that stays
abbrev pub tallied : ℕ → ℕ → List Act → Doing
tallied p q [] = counted p q false
tallied p q (Push h ∷ xs) = tallied p (q + 1) xs
tallied p q (Pop ∷ xs) = tallied (p + 1) q xs
tallied p q (Modify c ∷ xs) = counted p q true
tallied p q (Ignore ∷ xs) = counted p q (edits xs)
