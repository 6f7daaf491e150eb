-- A share whose packets come by a ring is carried, packet by packet.
use Rattle.std.proofs.Common.{◌≡◌, ◌≤◌, ◌<◌, ℕ, ◌+◌, true, false, List, [], ◌∷◌, ◌++◌, length, map, Option, Some, None, IfSome, refl, ap, sym, ◌∙◌, subst, arith}
use Rattle.vsw_actors.proofs.Doing.{DoneAll}
use Rattle.vsw_actors.proofs.Doing as doing
use Rattle.vsw_actors.proofs.Sharing.{map_end}
use Rattle.vsw_actors.specs.Handed.{HasFrame, handed_job}
use Rattle.vsw_actors.specs.declared.handed.Handed.{Handed}
use Rattle.vsw_actors.specs.declared.work.Packet.{Packet}
use Rattle.vsw_hands.specs.Hands.{Works}
use Rattle.vsw_hands.specs.declared.worked.Worked.{Worked}
use Rattle.vsw_hands.specs.declared.worked.Worked.TheVariants.{Done, More}
use Rattle.vsw_harbour.specs.Actors.{AreAlike}
use Rattle.vsw_harbour.specs.DealWork.TheVariants as work
use Rattle.vsw_harbour.specs.Docks.{is_of, locals, pass_in, permits, port_in, takes, tells}
use Rattle.vsw_harbour.specs.Lane.{Lane}
use Rattle.vsw_harbour.specs.Lanes.{AreFit, IsOwn, IsTaken, fronts_of}
use Rattle.vsw_harbour.specs.Seen.{DockSeen, StationSeen}
use Rattle.vsw_harbour.specs.Work.{MayDo, job_in}
use Rattle.vsw_port.specs.Calls.{job_doer}
use Rattle.vsw_port.specs.declared.event.Event.{Event}
use Rattle.vsw_promise.specs.Jobs.{Placed}
use Rattle.vsw_rings.specs.Rings.{SameDrain, is_at_end, taken}
use Rattle.vsw_rings.specs.declared.drain.Drain.{Drain}
use Rattle.vsw_crew.proofs.Carrying.{own_at, taken_at}
use Rattle.vsw_crew.specs.Private.ByRing.{CarriesOne}
use Rattle.vsw_crew.specs.Shares.{RowCarried}
use Rattle.vsw_crew.specs.StreamShares.{DoesStreamShare, IsStreamShare, IsStreamed, StreamGoesOn, StreamSeen, jobs_by, stream_of}
use Rattle.vsw_crew.specs.declared.stream_share.Frames.{Frames}
use Rattle.vsw_crew.specs.declared.stream_share.StreamCarried.{StreamCarried}
use Rattle.vsw_crew.specs.declared.stream_share.Streamed.{Streamed}

-- ---- one packet

-- the job that a packet is as its worker brings it
abbrev pub IsBroughtBy : ℕ → Handed → Packet → Type 0
IsBroughtBy k p b = (b.place.port, job_in (work.Packet b)) ≡ handed_job k p

pub brought_own : (k : ℕ) (p : Handed) (b : Packet) (ds : List DockSeen) → IsBroughtBy k p b → IsOwn port_in (job_in (work.Packet b)) k ds
brought_own k p b ds e = own_at k (job_in (work.Packet b)) ds (λ cs. ap (λ (t : Placed). job_doer cs t.1) e)

pub brought_taken : (k : ℕ) (p : Handed) (b : Packet) (ds : List DockSeen) → b.place ≡ p.place → k < 16 → HasFrame p → ((cs : List ℕ) → k < 16 → HasFrame p → MayDo cs (work.Packet b)) → IsTaken takes 0 p.place.port (work.Packet b) ds
brought_taken k p b ds e few frame may = taken_at 0 p.place.port (work.Packet b) ds (ap (λ w. w.port) e) (λ cs. may cs few frame)

pub carries_one : (k : ℕ) (ds : List DockSeen) (p : Handed) (b : Packet) (old new : List (Lane StationSeen)) → IsBroughtBy k p b → b.place ≡ p.place → AreAlike locals ds → p.place.port < length ds
    → length new ≡ length old → fronts_of pass_in new ≡ fronts_of pass_in old → DoneAll port_in locals pass_in tells p.place.port (job_in (work.Packet b)) ds old new
    → ((n : ℕ) (more : ℕ) → AreFit pass_in is_of permits n (more + 1) ds old → AreFit pass_in is_of permits n more ds new) → CarriesOne k ds (handed_job k p) old new
carries_one k ds p b old new e place alike lt wide fronts does fit =
    let job : (p.place.port, job_in (work.Packet b)) ≡ handed_job k p = ap (λ (w : ℕ). (w, job_in (work.Packet b))) (sym (ap (λ w. w.port) place)) ∙ e in
    record {
      wide = wide;
      fronts = fronts;
      fit = fit k;
      carried = λ hs done c.
          let d = does c.tracks c.told in
          subst (λ j. RowCarried k ds hs new (done ++ j ∷ [])) job
          (record { tracks = d.0; told = d.1; work = doing.goes_on port_in locals k p.place.port (job_in (work.Packet b)) ds hs c.tracks d.0 done alike (brought_own k p b ds e) lt c.work d.2 });
    }

-- ---- a share goes on

-- a row with room for so many has room for fewer
pub fit_fewer : (k more less : ℕ) (ds : List DockSeen) (row : List (Lane StationSeen)) → less ≤ more → AreFit pass_in is_of permits k more ds row → AreFit pass_in is_of permits k less ds row
fit_fewer k more less [] [] le f = tt
fit_fewer k more less (d ∷ ds) (l ∷ row) le f = (record { station = f.0.station; number = f.0.number; based = f.0.based; room = omega (arith, le, f.0.room) }, fit_fewer k more less ds row le f.1)
fit_fewer k more less [] (l ∷ row) le f = absurd f
fit_fewer k more less (d ∷ ds) [] le f = absurd f

ring_on : (c d e : Drain Handed Frames) → SameDrain c d → SameDrain d e → SameDrain c e
ring_on c d e f g = ((g.0.0 ∙ f.0.0, g.0.1 ∙ f.0.1, g.0.2 ∙ f.0.2, g.0.3 ∙ f.0.3), g.1 ∙ f.1)

-- the same share with its row, its ring and its room as they have become
abbrev pub streamed_on : StreamSeen → List (Lane StationSeen) → Drain Handed Frames → ℕ → StreamSeen
streamed_on s row drain left = record { number = s.number; docks = s.docks; histories = s.histories; row = row; drain = drain; left = left }

-- a share was gone on with so far
pub record Streams (s : StreamSeen) (row : List (Lane StationSeen)) (drain : Drain Handed Frames) (left : ℕ) : Type 0 where
  pub ring : SameDrain s.drain drain
  pub fronts : fronts_of pass_in row ≡ s.histories
  pub share : IsStreamShare (streamed_on s row drain left)

pub streams_first : (k : ℕ) (ds : List DockSeen) (row : List (Lane StationSeen)) (drain : Drain Handed Frames) (left : ℕ) → IsStreamShare (stream_of k ds row drain left) → Streams (stream_of k ds row drain left) row drain left
streams_first k ds row drain left i = record { ring = ((refl, refl, refl, refl), refl); fronts = refl; share = i }

jobs_more : (k : ℕ) (d e : Drain Handed Frames) (p : Handed) → taken e ≡ taken d ++ p ∷ [] → jobs_by k e ≡ jobs_by k d ++ handed_job k p ∷ []
jobs_more k d e p is = ap (map (handed_job k)) is ∙ map_end (handed_job k) (taken d) p

pub streams_on : (s : StreamSeen) (row new : List (Lane StationSeen)) (d e : Drain Handed Frames) (left less : ℕ) (p : Handed) → less + 1 ≡ left → Streams s row d left → CarriesOne s.number s.docks (handed_job s.number p) row new → SameDrain d e
    → taken e ≡ taken d ++ p ∷ [] → is_at_end e ≡ false → Streams s new e less
streams_on s row new d e left less p one i c ring took not_at_end = record {
  ring = ring_on s.drain d e i.ring ring;
  fronts = c.fronts ∙ i.fronts;
  share = record {
    wide = i.share.wide ∙ sym c.wide;
    small = i.share.small;
    worker = i.share.worker;
    alike = i.share.alike;
    not_at_end = not_at_end;
    fit = c.fit less (subst (λ (n : ℕ). AreFit pass_in is_of permits s.number n s.docks row) (sym one) i.share.fit);
    carried = subst (λ (w : List Placed). RowCarried s.number s.docks s.histories new w) (sym (jobs_more s.number d e p took)) (c.carried s.histories (jobs_by s.number d) i.share.carried);
  };
}

pub goes_on : (s : StreamSeen) (row : List (Lane StationSeen)) (drain : Drain Handed Frames) (left : ℕ) → Streams s row drain left → StreamGoesOn s (stream_of s.number s.docks row drain left)
goes_on s row drain left i = record { number = refl; docks = refl; histories = i.fronts; ring = i.ring }

pub still_a_stream : (s : StreamSeen) (row : List (Lane StationSeen)) (drain : Drain Handed Frames) (left : ℕ) → Streams s row drain left → IsStreamShare (stream_of s.number s.docks row drain left)
still_a_stream s row drain left i = record {
  wide = i.share.wide;
  small = i.share.small;
  worker = i.share.worker;
  alike = i.share.alike;
  not_at_end = i.share.not_at_end;
  fit = i.share.fit;
  carried = subst (λ (hs : List (List Event)). RowCarried s.number s.docks hs row (jobs_by s.number drain)) (sym i.fronts) i.share.carried;
}

pub all_streamed : (s : StreamSeen) (row : List (Lane StationSeen)) (d e : Drain Handed Frames) (left : ℕ) → Streams s row d left → SameDrain d e → taken e ≡ taken d → is_at_end e ≡ true → IsStreamed s row e
all_streamed s row d e left i ring took end = record {
  ring = ring_on s.drain d e i.ring ring;
  end = end;
  fit = fit_fewer s.number left 0 s.docks row (omega arith) i.share.fit;
  carried = subst (λ (w : List Placed). RowCarried s.number s.docks s.histories row w) (ap (map (handed_job s.number)) (sym took)) i.share.carried;
}

-- ---- pieces in a row

done_on : (was s : StreamSeen) (o : Option Streamed) → StreamGoesOn was s → IfSome o (λ d. IsStreamed s d.row.items d.drain) → IfSome o (λ d. IsStreamed was d.row.items d.drain)
done_on was s None g d = tt
done_on was s (Some r) g d = record {
  ring = ring_on was.drain s.drain r.drain g.ring d.ring;
  end = d.end;
  fit = subst (λ (ds : List DockSeen). AreFit pass_in is_of permits was.number 0 ds r.row.items) g.docks (subst (λ (k : ℕ). AreFit pass_in is_of permits k 0 s.docks r.row.items) g.number d.fit);
  carried = subst (λ (hs : List (List Event)). RowCarried was.number was.docks hs r.row.items (jobs_by was.number r.drain)) g.histories
      (subst (λ (ds : List DockSeen). RowCarried was.number ds s.histories r.row.items (jobs_by was.number r.drain)) g.docks
      (subst (λ (k : ℕ). RowCarried k s.docks s.histories r.row.items (jobs_by k r.drain)) g.number d.carried));
}

pub works_on : (was s : StreamSeen) (r : Worked StreamSeen StreamCarried) → StreamGoesOn was s → Works StreamGoesOn DoesStreamShare s r → Works StreamGoesOn DoesStreamShare was r
works_on was s (More now) g w = record { number = w.number ∙ g.number; docks = w.docks ∙ g.docks; histories = w.histories ∙ g.histories; ring = ring_on was.drain s.drain now.drain g.ring w.ring }
works_on was s (Done told) g w = done_on was s told.done g w
