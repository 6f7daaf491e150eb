-- When a capture is told to be bad: a header by its 24 bytes or by the end before them, a cut by the end alone.
use Rattle.std.specs.Prelude.{◌≡◌, ◌≤◌, ◌⊎◌, ℕ, Bool, true}
use Rattle.vsw_pcap.specs.declared.fault.BadTrace.{BadTrace}
use Rattle.vsw_pcap.specs.declared.fault.BadTrace.TheVariants.{NotPcap, Version, LinkType, Cut, Huge}

-- so many bytes, after which the end was told or not, show this
abbrev pub Decides : BadTrace → Bool → ℕ → Type 0
Decides NotPcap finished size = (finished ≡ true) ⊎ (24 ≤ size)
Decides Version finished size = 24 ≤ size
Decides LinkType finished size = 24 ≤ size
Decides (Cut at) finished size = finished ≡ true
Decides (Huge at) finished size = Unit {0}
