-- The briefs of shares.
use Rattle.boxcar.specs.Table.{Where}
use Rattle.std.specs.declared.snapshot.Snapshot.{Snapshot}

-- the share that a brief tells of
abbrev pub share_of : {S : Type 0} → Where (Snapshot S) → S
share_of p = p.value.value
