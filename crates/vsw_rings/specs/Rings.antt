-- The two ends of a ring: one thread hands items over, and another takes them.
use Rattle.std.specs.Prelude.{◌≡◌, ℕ, Bool, true, false, List, [], ◌∷◌, ◌++◌}
use Rattle.rtrb.specs.Ring.{sent, received, known_free, IsPair, SameProducer, SameConsumer}
use Rattle.vsw_rings.specs.declared.drain.Drain.{Drain}
use Rattle.vsw_rings.specs.declared.feed.Feed.{Feed}
use Rattle.vsw_rings.specs.declared.taken.Taken.{Taken}
use Rattle.vsw_rings.specs.declared.taken.Taken.TheVariants.{Item, End}
use Rattle.vsw_rings.specs.Items.{has_end, items_in}

module _ {T P : Type 0} where
  -- the items that were handed over, and whether the end was
  abbrev pub fed : Feed T P → List T
  fed f = items_in (sent f.ring)

  abbrev pub has_ended : Feed T P → Bool
  has_ended f = has_end (sent f.ring)

  -- how much more may be handed over, as the feed knows
  abbrev pub room : Feed T P → ℕ
  room f = known_free f.ring

  -- the items that were taken, and whether the end was
  abbrev pub taken : Drain T P → List T
  taken d = items_in (received d.ring)

  abbrev pub is_at_end : Drain T P → Bool
  is_at_end d = has_end (received d.ring)

  -- the ends of one ring
  abbrev pub IsRing : Feed T P → Drain T P → Type 0
  IsRing f d = IsPair f.ring d.ring

  -- an end of the ring that it was
  abbrev pub SameFeed : Feed T P → Feed T P → Type 0
  SameFeed f g = SameProducer f.ring g.ring

  abbrev pub SameDrain : Drain T P → Drain T P → Type 0
  SameDrain d e = SameConsumer d.ring e.ring

  -- this is what comes next: an item that may follow by the rule, or the end
  abbrev pub Takes : (List T → T → Type 0) → Drain T P → Taken T → Drain T P → Type 0
  Takes fits before (Item x) after = (taken after ≡ taken before ++ x ∷ []) × (is_at_end after ≡ false) × fits (taken before) x
  Takes fits before End after = (taken after ≡ taken before) × (is_at_end after ≡ true)
