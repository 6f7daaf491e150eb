-- Ends of one ring stay so.
use Rattle.std.proofs.Common.{◌≡◌, sym, ◌∙◌}
use Rattle.vsw_rings.specs.Rings.{IsRing, SameDrain, SameFeed}
use Rattle.vsw_rings.specs.declared.drain.Drain.{Drain}
use Rattle.vsw_rings.specs.declared.feed.Feed.{Feed}

module _ {T P : Type 0} where
  pub ring_stays : (f g : Feed T P) (d e : Drain T P) → IsRing f d → SameFeed f g → SameDrain d e → IsRing g e
  ring_stays f g d e ring feed drain = (drain.0.0 ∙ (ring.0 ∙ sym feed.0.0), drain.0.1 ∙ (ring.1 ∙ sym feed.0.1), drain.0.2 ∙ (ring.2 ∙ sym feed.0.2), drain.0.3 ∙ (ring.3 ∙ sym feed.0.3))
