-- Packets are handed over to workers while further ones are read.
use Rattle.std.proofs.Common.{◌≡◌, ◌≤◌, ◌<◌, ℕ, zero, suc, ◌+◌, false, List, [], ◌∷◌, ◌++◌, length, map, take, refl, ap, ap₂, sym, ◌∙◌, subst, arith, Global, Vec, Option, Some, None, IfSome, get_or, slice_get, slice_set, flat_map, length-append}
use Rattle.vsw_actors.specs.Handed.{HandsOver, HasFrame, handed_job, with_more}
use Rattle.vsw_actors.specs.Picks.{ArePicks, IsPick, carried_by, dealt_to, picked, picked_job, picked_jobs}
use Rattle.vsw_actors.specs.declared.handed.Given.{Given}
use Rattle.vsw_actors.specs.declared.handed.Handed.{Handed}
use Rattle.vsw_actors.specs.declared.pick.Pick.{Pick}
use Rattle.vsw_actors.proofs.Steps.{packets_more}
use Rattle.vsw_commandfile.specs.declared.line.Line.{Line}
use Rattle.vsw_harbour.specs.Harbour.{HarbourSeen}
use Rattle.vsw_harbour.specs.Seen.{DockSeen}
use Rattle.vsw_pcap.specs.declared.capture.Record.{Record}
use Rattle.vsw_policy.specs.Sound.{Each}
use Rattle.vsw_port.specs.Order.{numbered}
use Rattle.vsw_port.specs.declared.event.Event.{Event}
use Rattle.vsw_promise.specs.Jobs.{Placed, Setting, aim_of, loose_after, loose_among, placed_packet, placed_packets}
use Rattle.vsw_report.specs.declared.round.Loose.{Loose}
use Rattle.vsw_rings.specs.Rings.{SameFeed, fed, has_ended, room}
use Rattle.vsw_rings.specs.declared.feed.Feed.{Feed}
use Rattle.vsw_rings.proofs.Staying.{ring_stays}
use Rattle.vsw_crew.specs.Crew.{CrewSeen}
use Rattle.vsw_crew.specs.Private.Flowing.{AreKept, IsPushed, MayPush}
use Rattle.vsw_crew.specs.Private.Round.{macs_in}
use Rattle.vsw_crew.specs.StreamShares.{StreamSeen}
use Rattle.vsw_crew.specs.Streams.{AreRings, IsFeeding, IsStreaming, jobs_fed}
use Rattle.vsw_crew.specs.declared.feeding.Feeding.{Feeding}
use Rattle.vsw_crew.specs.declared.stream_share.Frames.{Frames}

-- ---- one packet more in a batch

get_before : {A : Type 0} (xs : List A) (y : A) (i : ℕ) → i < length xs → slice_get (xs ++ y ∷ []) i ≡ slice_get xs i
get_before [] y i lt = absurd (omega (arith, lt))
get_before (x ∷ xs) y zero lt = refl
get_before (x ∷ xs) y (suc i) lt = get_before xs y i (omega (arith, lt))

pub get_last : {A : Type 0} (xs : List A) (y : A) → slice_get (xs ++ y ∷ []) (length xs) ≡ Some y
get_last [] y = refl
get_last (x ∷ xs) y = get_last xs y

take_before : {A : Type 0} (xs : List A) (y : A) → take (length xs) (xs ++ y ∷ []) ≡ xs
take_before [] y = refl
take_before (x ∷ xs) y = ap (λ w. x ∷ w) (take_before xs y)

take_all : {A : Type 0} (xs : List A) (y : A) → take (suc (length xs)) (xs ++ y ∷ []) ≡ xs ++ y ∷ []
take_all [] y = refl
take_all (x ∷ xs) y = ap (λ w. x ∷ w) (take_all xs y)

take_last : {A : Type 0} (xs : List A) (y : A) → take (length xs + 1) (xs ++ y ∷ []) ≡ xs ++ y ∷ []
take_last xs y = ap (λ (n : ℕ). take n (xs ++ y ∷ [])) (at (length xs)) ∙ take_all xs y
  where
    at : (n : ℕ) → n + 1 ≡ suc n
    at n = omega arith

one_more : {A : Type 0} (xs : List A) (y : A) → length (xs ++ y ∷ []) ≡ length xs + 1
one_more xs y = length-append xs (y ∷ [])

-- what is told of packets, of one more
more_told : {A : Type 0} (f : ℕ × Record → List A) (first : ℕ) (before : List Record) (last : Record) → flat_map f (numbered first (before ++ last ∷ [])) ≡ flat_map f (numbered first before) ++ f (first + length before, last)
more_told f first before last =
    ap (λ w. flat_map f (numbered first w)) (sym (take_last before last))
    ∙ (packets_more f first (length before) (before ++ last ∷ []) last (get_last before last)
    ∙ ap (λ w. flat_map f (numbered first w) ++ f (first + length before, last)) (take_before before last))

-- ---- picks stay what they were

pick_still : (k first ports : ℕ) (before : List Record) (last : Record) (p : Pick) → IsPick ports before p → picked_job k first (before ++ last ∷ []) p ≡ picked_job k first before p
pick_still k first ports before last p i = ap (λ r. (p.place.port, carried_by k (first + p.at) p.place r)) (get_before before last p.at i.within)

picks_still : (k first ports : ℕ) (before : List Record) (last : Record) (ps : List Pick) → Each (IsPick ports before) ps → picked_jobs k first (before ++ last ∷ []) ps ≡ picked_jobs k first before ps
picks_still k first ports before last [] i = refl
picks_still k first ports before last (p ∷ ps) i = ap₂ (λ x y. x ∷ y) (pick_still k first ports before last p i.0) (picks_still k first ports before last ps i.1)

pub all_still : {G : Type 0} (k first ports : ℕ) (before : List Record) (last : Record) (vs : List (Vec Pick G)) → ArePicks ports before vs → picked k first (before ++ last ∷ []) vs ≡ picked k first before vs
all_still k first ports before last [] i = refl
all_still k first ports before last (v ∷ vs) i = ap₂ (λ x y. x ∷ y) (picks_still k first ports before last v.items i.0) (all_still (suc k) first ports before last vs i.1)

still_a_pick : (ports : ℕ) (before : List Record) (last : Record) (p : Pick) → IsPick ports before p → IsPick ports (before ++ last ∷ []) p
still_a_pick ports before last p i = record {
  port = i.port;
  within = omega (arith, i.within, one_more before last);
  captured = i.captured;
  parts = i.parts;
  there = get_before before last p.at i.within ∙ i.there;
  frame = i.frame;
}

still_picks : (ports : ℕ) (before : List Record) (last : Record) (ps : List Pick) → Each (IsPick ports before) ps → Each (IsPick ports (before ++ last ∷ [])) ps
still_picks ports before last [] i = tt
still_picks ports before last (p ∷ ps) i = (still_a_pick ports before last p i.0, still_picks ports before last ps i.1)

pub still_fit : {G : Type 0} (ports : ℕ) (before : List Record) (last : Record) (vs : List (Vec Pick G)) → ArePicks ports before vs → ArePicks ports (before ++ last ∷ []) vs
still_fit ports before last [] i = tt
still_fit ports before last (v ∷ vs) i = (still_picks ports before last v.items i.0, still_fit ports before last vs i.1)

-- ---- a packet is put into a ring

same_feed : (f : Feed Handed Frames) → SameFeed f f
same_feed f = ((refl, refl, refl, refl), refl)

kept_all : (fs : List (Feed Handed Frames)) → MayPush fs → AreKept fs fs
kept_all [] m = tt
kept_all (f ∷ fs) m = ((same_feed f, m.0.0, omega arith), kept_all fs m.1)

pub pushed_at : (olds : List (Feed Handed Frames)) (i : ℕ) (x y : Feed Handed Frames) (worker : ℕ) (p : Handed) → i ≡ worker → i < length olds → x ≡ get_or olds i x → MayPush olds → fed y ≡ fed x ++ p ∷ [] → has_ended y ≡ false → room x ≡ room y + 1 → SameFeed x y
    → (map fed (slice_set olds i y) ≡ with_more worker p (map fed olds)) × AreKept olds (slice_set olds i y)
pushed_at olds i x y worker p same lt here m put left less ring = subst (λ (w : ℕ). (map fed (slice_set olds i y) ≡ with_more w p (map fed olds)) × AreKept olds (slice_set olds i y)) same (go olds i lt here m)
  where
    go : (olds : List (Feed Handed Frames)) (i : ℕ) → i < length olds → x ≡ get_or olds i x → MayPush olds → (map fed (slice_set olds i y) ≡ with_more i p (map fed olds)) × AreKept olds (slice_set olds i y)
    go [] i lt here m = absurd (omega (arith, lt))
    go (z ∷ zs) zero lt here m = (
      ap (λ w. w ∷ map fed zs) (put ∙ ap (λ (f : Feed Handed Frames). fed f ++ p ∷ []) here),
      (subst (λ (f : Feed Handed Frames). SameFeed f y × (has_ended y ≡ false) × (room f ≤ room y + 1)) here (ring, left, omega (arith, less)), kept_all zs m.1),
    )
    go (z ∷ zs) (suc i) lt here m =
        let rest = go zs i (omega (arith, lt)) here m.1 in
        (ap (λ w. fed z ∷ w) rest.0, ((same_feed z, m.0.0, omega arith), rest.1))

-- ---- what was handed over

fed_more : (k w : ℕ) (p : Handed) (all : List (List Handed)) → jobs_fed k (with_more w p all) ≡ with_more w (handed_job (k + w) p) (jobs_fed k all)
fed_more k w p [] = refl
fed_more k zero p (xs ∷ all) =
    let same : k + 0 ≡ k = omega arith in
    ap (λ w. w ∷ jobs_fed (suc k) all) (mapped xs ∙ ap (λ (i : ℕ). map (handed_job k) xs ++ handed_job i p ∷ []) (sym same))
  where
    mapped : (xs : List Handed) → map (handed_job k) (xs ++ p ∷ []) ≡ map (handed_job k) xs ++ handed_job k p ∷ []
    mapped [] = refl
    mapped (x ∷ xs) = ap (λ w. handed_job k x ∷ w) (mapped xs)
fed_more k (suc w) p (xs ∷ all) =
    let same : suc k + w ≡ k + suc w = omega arith in
    ap (λ t. map (handed_job k) xs ∷ t) (fed_more (suc k) w p all ∙ ap (λ (i : ℕ). with_more w (handed_job i p) (jobs_fed (suc k) all)) same)

handed_on : {G : Type 0} (workers first ports : ℕ) (before : List Record) (last : Record) (olds news : List (Feed Handed Frames)) (was now : List (Vec Pick G)) (o : Option Given) → ArePicks ports before was → IsPushed olds o news → HandsOver workers first (before ++ last ∷ []) was now o → jobs_fed 0 (map fed olds) ≡ picked 0 first before was
    → jobs_fed 0 (map fed news) ≡ picked 0 first (before ++ last ∷ []) now
handed_on workers first ports before last olds news was now None fit p h e =
    ap (λ (fs : List (Feed Handed Frames)). jobs_fed 0 (map fed fs)) p ∙ (e ∙ (sym (all_still 0 first ports before last was fit) ∙ ap (picked 0 first (before ++ last ∷ [])) (sym h)))
handed_on workers first ports before last olds news was now (Some g) fit p h e =
    let at : 0 + g.worker ≡ g.worker = omega arith in
    ap (jobs_fed 0) p.0
    ∙ (fed_more 0 g.worker g.packet (map fed olds)
    ∙ (ap (λ (i : ℕ). with_more g.worker (handed_job i g.packet) (jobs_fed 0 (map fed olds))) at
    ∙ (ap (with_more g.worker (handed_job g.worker g.packet)) (e ∙ sym (all_still 0 first ports before last was fit)) ∙ sym h.2)))

-- ---- rings stay open

pub may_push : (n : ℕ) (fs : List (Feed Handed Frames)) (out : List StreamSeen) → 0 < n → AreRings n fs out → MayPush fs
may_push n [] [] lt r = tt
may_push n (f ∷ fs) (s ∷ out) lt r = ((r.0.1, omega (arith, lt, r.0.2)), may_push n fs out lt r.1)
may_push n [] (s ∷ out) lt r = absurd r
may_push n (f ∷ fs) [] lt r = absurd r

pub rings_many : (n : ℕ) (fs : List (Feed Handed Frames)) (out : List StreamSeen) → AreRings n fs out → length fs ≡ length out
rings_many n [] [] r = refl
rings_many n (f ∷ fs) (s ∷ out) r = ap suc (rings_many n fs out r.1)
rings_many n [] (s ∷ out) r = absurd r
rings_many n (f ∷ fs) [] r = absurd r

rings_less : (n : ℕ) (fs : List (Feed Handed Frames)) (out : List StreamSeen) → AreRings (n + 1) fs out → AreRings n fs out
rings_less n [] [] r = tt
rings_less n (f ∷ fs) (s ∷ out) r = ((r.0.0, r.0.1, omega (arith, r.0.2)), rings_less n fs out r.1)
rings_less n [] (s ∷ out) r = absurd r
rings_less n (f ∷ fs) [] r = absurd r

rings_kept : (n : ℕ) (fs gs : List (Feed Handed Frames)) (out : List StreamSeen) → AreKept fs gs → AreRings (n + 1) fs out → AreRings n gs out
rings_kept n [] [] [] k r = tt
rings_kept n (f ∷ fs) (g ∷ gs) (s ∷ out) k r = ((ring_stays f g s.drain s.drain r.0.0 k.0.0 ((refl, refl, refl, refl), refl), k.0.1, omega (arith, r.0.2, k.0.2)), rings_kept n fs gs out k.1 r.1)
rings_kept n [] [] (s ∷ out) k r = absurd r
rings_kept n (f ∷ fs) (g ∷ gs) [] k r = absurd r
rings_kept n [] (g ∷ gs) out k r = absurd k
rings_kept n (f ∷ fs) [] out k r = absurd k

pub rings_on : (n : ℕ) (fs gs : List (Feed Handed Frames)) (o : Option Given) (out : List StreamSeen) → IsPushed fs o gs → AreRings (n + 1) fs out → AreRings n gs out
rings_on n fs gs None out p r = subst (λ (w : List (Feed Handed Frames)). AreRings n w out) (sym p) (rings_less n fs out r)
rings_on n fs gs (Some g) out p r = rings_kept n fs gs out p.1 r

-- ---- all of it

-- the feeding with one packet more
abbrev pub fed_with : Feeding → Vec Loose Global → Vec (Feed Handed Frames) Global → Vec (Vec Pick Global) Global → Feeding
fed_with f loose feeds picks = record { underway = record { first = f.underway.first; befores = f.underway.befores; firsts = f.underway.firsts; loose = loose; rows = f.underway.rows }; feeds = feeds; picks = picks; fed = f.fed + 1; most = f.most }

-- what the calls tell of one packet more
pub record IsFed (workers : ℕ) (macs : List ℕ) (packets : List Record) (old new : Feeding) (r : Record) (o : Option Given) : Type 0 where
  pub there : slice_get packets old.fed ≡ Some r
  pub dealt : (cs : List ℕ) (js : List Placed) → picked 0 old.underway.first packets old.picks.items ≡ dealt_to workers cs js → picked 0 old.underway.first packets new.picks.items ≡ dealt_to workers cs (js ++ placed_packet workers (old.underway.first + old.fed) r.moment [] (aim_of macs r))
  pub fit : ArePicks (length macs) packets old.picks.items → ArePicks (length macs) packets new.picks.items
  pub many : length new.picks.items ≡ length old.picks.items
  pub handed : HandsOver workers old.underway.first packets old.picks.items new.picks.items o
  pub pushed : IsPushed old.feeds.items o new.feeds.items
  pub loose : new.underway.loose.items ≡ old.underway.loose.items ++ loose_after (old.underway.first + old.fed) (aim_of macs r)

-- the last packet of the batch is what was read
read_last : (packets before : List Record) (last r : Record) (at : ℕ) → packets ≡ before ++ last ∷ [] → at ≡ length before → slice_get packets at ≡ Some r → r ≡ last
read_last packets before last r at e i there = cc (sym there ∙ (ap (λ (w : List Record). slice_get w at) e ∙ (ap (slice_get (before ++ last ∷ [])) i ∙ get_last before last)))

macs_many : (h : HarbourSeen) → length (macs_in h) ≡ length h.docks
macs_many h = mapped h.docks
  where
    mapped : (ds : List DockSeen) → length (map (λ d. d.mac) ds) ≡ length ds
    mapped [] = refl
    mapped (d ∷ ds) = ap suc (mapped ds)

streaming_still : (h : HarbourSeen) (s : Setting) (hs : List (List Event)) (first : ℕ) (f : Feeding) (loose : Vec Loose Global) (feeds : Vec (Feed Handed Frames) Global) (picks : Vec (Vec Pick Global) Global) (out : List StreamSeen) → IsStreaming h s hs first f.underway out → IsStreaming h s hs first (fed_with f loose feeds picks).underway out
streaming_still h s hs first f loose feeds picks out v = record { rows = v.rows; begun = v.begun; met = v.met; quiet = v.quiet; shares = v.shares; idle = v.idle; befores = v.befores }

fed_at : (c : CrewSeen) (lines : List Line) (first : ℕ) (before packets : List Record) (last : Record) (out : List StreamSeen) (old : Feeding) (loose : Vec Loose Global) (feeds : Vec (Feed Handed Frames) Global) (picks : Vec (Vec Pick Global) Global) (r : Record) (o : Option Given) → IsFeeding c lines first before old out → old.underway.first ≡ first → packets ≡ before ++ last ∷ []
    → length before < old.most → IsFed c.harbour.workers (macs_in c.harbour) packets old (fed_with old loose feeds picks) r o → IsFeeding c lines old.underway.first packets (fed_with old loose feeds picks) out
fed_at c lines first before packets last out old loose feeds picks r o x same e lt f =
    let h : HarbourSeen = c.harbour in
    let n : ℕ = old.underway.first in
    let y : IsFeeding c lines n before old out = subst (λ (i : ℕ). IsFeeding c lines i before old out) (sym same) x in
    let is : r ≡ last = read_last packets before last r old.fed e y.count f.there in
    let fit : ArePicks (length (macs_in h)) packets old.picks.items = subst (λ (w : List Record). ArePicks (length (macs_in h)) w old.picks.items) (sym e) (still_fit (length (macs_in h)) before last old.picks.items (subst (λ (i : ℕ). ArePicks i before old.picks.items) (sym (macs_many h)) y.fit)) in
    let still : picked 0 n packets old.picks.items ≡ picked 0 n before old.picks.items = ap (λ (w : List Record). picked 0 n w old.picks.items) e ∙ all_still 0 n (length h.docks) before last old.picks.items y.fit in
    let over : HandsOver h.workers n (before ++ last ∷ []) old.picks.items picks.items o = subst (λ (w : List Record). HandsOver h.workers n w old.picks.items picks.items o) e f.handed in
    let one : placed_packet h.workers (n + old.fed) r.moment [] (aim_of (macs_in h) r) ≡ placed_packet h.workers (n + length before) last.moment [] (aim_of (macs_in h) last) = ap₂ (λ (i : ℕ) (w : Record). placed_packet h.workers (n + i) w.moment [] (aim_of (macs_in h) w)) y.count is in
    let lost : loose_after (n + old.fed) (aim_of (macs_in h) r) ≡ loose_after (n + length before) (aim_of (macs_in h) last) = ap₂ (λ (i : ℕ) (w : Record). loose_after (n + i) (aim_of (macs_in h) w)) y.count is in
    let all_placed : placed_packets h.workers false (macs_in h) [] (numbered n packets) ≡ placed_packets h.workers false (macs_in h) [] (numbered n before) ++ placed_packet h.workers (n + length before) last.moment [] (aim_of (macs_in h) last) =
    ap (λ (w : List Record). placed_packets h.workers false (macs_in h) [] (numbered n w)) e ∙ more_told (λ p. placed_packet h.workers p.0 p.1.moment [] (aim_of (macs_in h) p.1)) n before last in
    let all_loose : loose_among (macs_in h) (numbered n packets) ≡ loose_among (macs_in h) (numbered n before) ++ loose_after (n + length before) (aim_of (macs_in h) last) =
    ap (λ (w : List Record). loose_among (macs_in h) (numbered n w)) e ∙ more_told (λ p. loose_after p.0 (aim_of (macs_in h) p.1)) n before last in
    record {
      run = y.run;
      may = y.may;
      quiet = y.quiet;
      journals = y.journals;
      first_is = refl;
      count = ap (λ (i : ℕ). i + 1) y.count ∙ (sym (one_more before last) ∙ ap length (sym e));
      within = omega (arith, y.count, lt);
      numbers = y.numbers;
      workers = y.workers;
      many = f.many ∙ y.many;
      size = y.size;
      rings = λ m all. rings_on m old.feeds.items feeds.items o out f.pushed (y.rings (m + 1) (omega (arith, all)));
      handed = handed_on h.workers n (length h.docks) before last old.feeds.items feeds.items old.picks.items picks.items o y.fit f.pushed over y.handed ∙ ap (λ (w : List Record). picked 0 n w picks.items) (sym e);
      dealt = λ cs. f.dealt cs (placed_packets h.workers false (macs_in h) [] (numbered n before)) (still ∙ y.dealt cs) ∙ ap (dealt_to h.workers cs) (ap (λ w. placed_packets h.workers false (macs_in h) [] (numbered n before) ++ w) one ∙ sym all_placed);
      fit = subst (λ (i : ℕ). ArePicks i packets picks.items) (macs_many h) (f.fit fit);
      loose = f.loose ∙ (ap (λ w. w ++ loose_after (n + old.fed) (aim_of (macs_in h) r)) y.loose ∙ (ap (λ w. loose_among (macs_in h) (numbered n before) ++ w) lost ∙ sym all_loose));
      under = λ s run lines_are. streaming_still h s c.histories n old loose feeds picks out (y.under s run lines_are);
    }

-- a packet more was handed over, by workers and addresses that are the harbour's
pub fed_on : (c : CrewSeen) (h : HarbourSeen) (workers : ℕ) (macs : List ℕ) (lines : List Line) (first : ℕ) (before packets : List Record) (last : Record) (out : List StreamSeen) (old : Feeding) (loose : Vec Loose Global) (feeds : Vec (Feed Handed Frames) Global) (picks : Vec (Vec Pick Global) Global) (r : Record) (o : Option Given) → c.harbour ≡ h → workers ≡ h.workers
    → macs ≡ macs_in h → IsFeeding c lines first before old out → packets ≡ before ++ last ∷ [] → length before < old.most → IsFed workers macs packets old (fed_with old loose feeds picks) r o → IsFeeding c lines first packets (fed_with old loose feeds picks) out
fed_on c h workers macs lines first before packets last out old loose feeds picks r o same w m x e lt f =
    let a : IsFed h.workers macs packets old (fed_with old loose feeds picks) r o = subst (λ (i : ℕ). IsFed i macs packets old (fed_with old loose feeds picks) r o) w f in
    let b : IsFed h.workers (macs_in h) packets old (fed_with old loose feeds picks) r o = subst (λ (ms : List ℕ). IsFed h.workers ms packets old (fed_with old loose feeds picks) r o) m a in
    let d : IsFed c.harbour.workers (macs_in c.harbour) packets old (fed_with old loose feeds picks) r o = subst (λ (k : HarbourSeen). IsFed k.workers (macs_in k) packets old (fed_with old loose feeds picks) r o) (sym same) b in
    subst (λ (i : ℕ). IsFeeding c lines i packets (fed_with old loose feeds picks) out) x.first_is (fed_at c lines first before packets last out old loose feeds picks r o x x.first_is e lt d)

-- who is handed a packet has a ring
pub given_so : {G : Type 0} (workers many first : ℕ) (packets : List Record) (olds news : List (Vec Pick G)) (o : Option Given) → workers ≡ many → HandsOver workers first packets olds news o → IfSome o (λ g. (g.worker < many) × HasFrame g.packet)
given_so workers many first packets olds news None e h = tt
given_so workers many first packets olds news (Some g) e h = (omega (arith, h.0, e), h.1)
